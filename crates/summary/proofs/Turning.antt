-- What a change of sense is told by.
use Rattle.std.proofs.Common.{◌≡◌, ◌≢◌, ℕ, ◌+◌, Bool, true, false, not, ◌&&◌, List, ◌∷◌, Option, Some, None, is_some, refl, sym, ap, ◌∙◌, subst}
use Rattle.std.specs.Prelude.{option_map}
use Rattle.std.proofs.lemmas.Bool.{cond_both}
use Rattle.acas_base.specs.Complements.{forbidden_sense}
use Rattle.acas_base.specs.Next.{cell_after, changes_sense, continuation_of, continuing_cell, ends, following_cell, reversal_of, traffic_cell}
use Rattle.acas_base.specs.Senses.{sense_of}
use Rattle.acas_base.specs.declared.advisory.Cell.{Cell}
use Rattle.acas_base.specs.declared.advisory.Cell.TheVariants.{Clear, Ra, Traffic}
use Rattle.acas_base.specs.declared.advisory.Cells.{Cells}
use Rattle.acas_base.specs.declared.advisory.Intent.{Intent}
use Rattle.acas_base.specs.declared.advisory.Rank.{Rank}
use Rattle.acas_base.specs.declared.advisory.Rank.TheVariants.{First, Free, Second}
use Rattle.acas_base.specs.declared.advisory.Sense.{Sense}
use Rattle.acas_base.specs.declared.advisory.Vrc.{Vrc}
use Rattle.acas_base.specs.declared.advisory.Vrc.TheVariants.{Nil, NotAbove, NotBelow}
use Rattle.acas_base.specs.declared.entry.Entry.{Entry}
use Rattle.acas_base.specs.declared.entry.Entry.TheVariants.{Commit}
use Rattle.acas_base.specs.declared.view.View.{View}
use Rattle.air_rules.proofs.Changes.{commit-cell, reverses-once, yields}
use Rattle.air_rules.proofs.Legal.{allowed, legal-begins}
use Rattle.air_rules.specs.Air.{Air, rank_of}
use Rattle.air_rules.specs.Journal.{Begins, cell_at, commits, last_cell}
use Rattle.air_rules.specs.Rules.{IsLegal}
use Rattle.air_rules.specs.Takes.{Taken, complement_from, vrc_in_force}
use Rattle.journal_reader.proofs.Keeping.{position-is, take-is}
use Rattle.journal_reader.specs.Links.{good_take}
use Rattle.journal_reader.specs.Reading.{taken_at, taken_of}
use Rattle.journal_reader.specs.declared.links.GoodTake.{GoodTake}
use Rattle.summary.specs.Laws.{HasTrueTurns, IsTurn}
use Rattle.summary.specs.Stretches.{told_by, told_of}

-- ---- a message in force is named

-- Both are of the same take, so either both are there or none is.
both-taken : (complement : Vrc) (take : Option GoodTake) → complement ≢ Nil → is_some take ≡ true → is_some (told_by complement (option_map taken_of take) (option_map (λ (t : GoodTake). t.at) take)) ≡ true
both-taken Nil take some there = absurd (some refl)
both-taken NotBelow None some there = absurd (cc)
both-taken NotBelow (Some take) some there = refl
both-taken NotAbove None some there = absurd (cc)
both-taken NotAbove (Some take) some there = refl

took : (take : Option GoodTake) (made : ℕ) → vrc_in_force (option_map taken_of take) made ≢ Nil → is_some take ≡ true
took None made some = absurd (some refl)
took (Some take) made some = refl

pub is-told : (air : Air) (K : List Entry) (own other : ℕ) → complement_from air K own other ≢ Nil → is_some (told_of air K own other) ≡ true
unfolding told_of
is-told air K own other some =
    let take = good_take air K own other in
    let complement = complement_from air K own other in
    let there : is_some take ≡ true = took take (commits K own) (λ e. some (ap (λ (t : Option Taken). vrc_in_force t (commits K own)) (sym (take-is air K own other)) ∙ e)) in
    subst (λ (t : Option Taken). is_some (told_by complement t (taken_at K own other)) ≡ true) (take-is air K own other)
    (subst (λ (p : Option ℕ). is_some (told_by complement (option_map taken_of take) p) ≡ true) (position-is air K own other) (both-taken complement take some there))

forbids-some : (complement : Vrc) (sense : Sense) → forbidden_sense complement ≡ Some sense → complement ≢ Nil
forbids-some Nil sense e = absurd (cc)
forbids-some NotBelow sense e = λ q. cc
forbids-some NotAbove sense e = λ q. cc

-- ---- an aircraft that gives way keeps the letter

abbrev Keeps : Intent → Cell → Type 0
Keeps old cell = (new : Intent) → cell ≡ Ra new → new.turned ≡ old.turned

keeps-quiet : (old : Intent) (view : View) → Keeps old (traffic_cell view)
keeps-quiet old view = cond_both view.traffic Traffic Clear (Keeps old) (λ _ new e. absurd (cc)) (λ _ new e. absurd (cc))

keeps-next : (old : Intent) (view : View) (complement : Vrc) → Keeps old (following_cell (Ra old) view complement Second)
keeps-next old view complement =
    cond_both view.tested (cell_after (Ra old) view complement Second) Clear (Keeps old)
    (λ _. cond_both (ends old view) (traffic_cell view) (continuing_cell old view complement Second) (Keeps old)
    (λ _. keeps-quiet old view)
    (λ _. cond_both (changes_sense old view complement Second) (reversal_of old view old.turned) (continuation_of old view) (Keeps old)
    (λ _ new e. cc) (λ _ new e. cc)))
    (λ _ new e. absurd (cc))

same-letter : (one two : Bool) → one ≡ two → (one && not two) ≡ false
same-letter true true e = refl
same-letter false two e = refl
same-letter true false e = absurd (cc)

-- ---- both

turns-by : (air : Air) (J K : List Entry) → IsLegal air J → (own other cycle : ℕ) (cells : Cells) (old new : Intent) → own ≢ other → Begins (Commit own cycle cells ∷ K) J →
    last_cell K own other ≡ Ra old → cell_at cells other ≡ Ra new → old.sense ≢ new.sense → (rank : Rank) → rank_of air own other ≡ rank → IsTurn air K own other old new rank
turns-by air J K l own other cycle cells old new apart b was is differ First e =
    let it = reverses-once air J l K own other cycle cells old new b (λ q. let z = sym e ∙ q in cc) was is differ in
    rw (it.noted, it.first) refl
turns-by air J K l own other cycle cells old new apart b was is differ Free e =
    let it = reverses-once air J l K own other cycle cells old new b (λ q. let z = sym e ∙ q in cc) was is differ in
    rw (it.noted, it.first) refl
turns-by air J K l own other cycle cells old new apart b was is differ Second e =
    let complement = complement_from air K own other in
    let forbidden = yields air J l K own other cycle cells old.sense new.sense b (record { apart = apart; rank = e }) (ap sense_of was) (ap sense_of is) differ in
    let letter = commit-cell air K own other cycle cells (allowed (legal-begins air b l)) (Keeps old) (λ n q. absurd (cc))
    (subst (λ (c : Cell). Keeps old (following_cell c (air.view own other (commits K own + 1)) complement (rank_of air own other))) (sym was)
    (subst (λ (k : Rank). Keeps old (following_cell (Ra old) (air.view own other (commits K own + 1)) complement k)) (sym e) (keeps-next old (air.view own other (commits K own + 1)) complement))) new is in
    (same-letter new.turned old.turned letter, is-told air K own other (forbids-some complement old.sense forbidden))

pub true-turns : (air : Air) (J : List Entry) → IsLegal air J → HasTrueTurns air J
true-turns air J l K own other cycle cells old new apart b was is differ = turns-by air J K l own other cycle cells old new apart b was is differ (rank_of air own other) refl
