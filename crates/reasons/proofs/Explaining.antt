-- The rule that applies, and what it gives.
use Rattle.std.proofs.Common.{◌≡◌, ◌≢◌, ◌+◌, ◌<◌, ◌∙◌, ℕ, List, Bool, true, false, length, inl, inr, refl, sym, ap, subst, arith, ne_eqb}
use Rattle.std.specs.Prelude.{◌==◌, ◌&&◌, ◌||◌, if◌then◌else◌, nat_le, nat_lt, not}
use Rattle.std.proofs.lemmas.Bool.Decides.{nat_tests}
use Rattle.std.proofs.lemmas.List.FromFn.{get_or-map-range_with_len}
use Rattle.acas_base.specs.Choice.{choice_after, has_to_reverse, strength_after, weakens as weakens_to_level}
use Rattle.acas_base.specs.Encounter.{IsEncounter, Parts}
use Rattle.acas_base.specs.Next.{cell_after, changes_sense, continuation_of, continuing_cell, ends, following_cell, is_turned_after, new_advisory, reversal_of, starting_cell, starting_sense, traffic_cell}
use Rattle.acas_base.specs.Strengths.{is_allowed, place_of}
use Rattle.acas_base.specs.declared.TheConstants.{CRAFTS}
use Rattle.acas_base.specs.declared.advisory.Cell.{Cell}
use Rattle.acas_base.specs.declared.advisory.Cell.TheVariants as cells
use Rattle.acas_base.specs.declared.advisory.Cells.{Cells}
use Rattle.acas_base.specs.declared.advisory.Intent.{Intent}
use Rattle.acas_base.specs.declared.advisory.Rank.{Rank}
use Rattle.acas_base.specs.declared.advisory.Rank.TheVariants.{First, Second, Free}
use Rattle.acas_base.specs.declared.advisory.Vrc.{Vrc}
use Rattle.acas_base.specs.declared.advisory.Vrc.TheVariants.{Nil, NotBelow, NotAbove}
use Rattle.acas_base.specs.declared.entry.Entry.{Entry}
use Rattle.acas_base.specs.declared.view.View.{View}
use Rattle.air_journal.proofs.Bounds.{few-crafts}
use Rattle.air_journal.specs.Airs.{air_of}
use Rattle.air_rules.proofs.Legal.{allowed, legal-begins}
use Rattle.air_rules.specs.Air.{rank_of}
use Rattle.air_rules.specs.Journal.{cell_at, commits, last_cell}
use Rattle.air_rules.specs.Rules.{IsLegal, MayCommit, cell_for}
use Rattle.air_rules.specs.Takes.{complement_from}
use Rattle.craft_view.specs.Sight.{sight_of}
use Rattle.craft_view.specs.Views.{view_of}
use Rattle.reasons.proofs.Looking.{rank-known}
use Rattle.reasons.specs.Explained.{AdvisesNothing, AreExplained, Explains, ExplainsOnce, GoesOn, untested, starts, starts_as_told, traffic, quiet, ends_below_level, ends_without_threat, obeys, reverses, strengthens, keeps, weakens, capped}
use Rattle.reasons.specs.Reasons.{reason_of}
use Rattle.reasons.specs.Rules.{rule_of, starting_rule, strength_rule, tested_rule, told_rule, turning_rule}
use Rattle.reasons.specs.Seen.{seen_of}
use Rattle.reasons.specs.Shown.{shown_of}
use Rattle.reasons.specs.declared.rules.Rule.{Rule}
use Rattle.reasons.specs.declared.rules.Rule.TheVariants.{Untested, StartsAsTold, Traffic, Quiet, EndsBelowLevel, EndsWithoutThreat, Reverses, Strengthens, Keeps, Weakens, Capped}
use Rattle.strength_pick.proofs.Finding.{next-found}

-- ---- truth values

pub both : (a b : Bool) → (a && b) ≡ true → (a ≡ true) × (b ≡ true)
both true b h = (refl, h)
both false b h = absurd cc

pub not-so : (a : Bool) → not a ≡ true → a ≡ false
not-so true h = absurd cc
not-so false h = refl

less : (a b : ℕ) → nat_lt a b ≡ true → a < b
less a b h = grind (arith, nat_tests)

same : (a b : ℕ) → (a == b) ≡ true → a ≡ b
same a b h = grind (arith, nat_tests)

more : (a b : ℕ) → nat_lt a b ≡ false → (a == b) ≡ false → b < a
more a b h g = grind (arith, nat_tests)

-- ---- there was no advisory

told : (view : View) (complement : Vrc) (rank : Rank) (before : Cell) → AdvisesNothing before → view.tested ≡ true → view.threat ≡ true → Explains view complement rank before (told_rule complement) (new_advisory view (starting_sense view complement))
told view Nil rank before none tested threat = starts none tested threat refl
told view NotBelow rank before none tested threat = starts_as_told none tested threat (λ e. cc)
told view NotAbove rank before none tested threat = starts_as_told none tested threat (λ e. cc)

unthreatened : (view : View) (complement : Vrc) (rank : Rank) (before : Cell) → AdvisesNothing before → view.tested ≡ true → view.threat ≡ false → Explains view complement rank before (if view.traffic then Traffic else Quiet) (traffic_cell view)
unthreatened view complement rank before none tested threat = go view.traffic refl
  where
    go : (b : Bool) → view.traffic ≡ b → Explains view complement rank before (if b then Traffic else Quiet) (if b then cells.Traffic else cells.Clear)
    go true e = traffic none tested threat e
    go false e = quiet none tested threat e

starting : (view : View) (complement : Vrc) (rank : Rank) (before : Cell) → AdvisesNothing before → view.tested ≡ true → Explains view complement rank before (starting_rule view complement) (starting_cell view complement)
starting view complement rank before none tested = go view.threat refl
  where
    go : (b : Bool) → view.threat ≡ b → Explains view complement rank before (if b then told_rule complement else if view.traffic then Traffic else Quiet) (if b then new_advisory view (starting_sense view complement) else traffic_cell view)
    go true e = told view complement rank before none tested e
    go false e = unthreatened view complement rank before none tested e

-- ---- there was one

-- Where the next strength is weaker and doesn't weaken to Level, the strength before isn't allowed any more: else the
-- choice would reach it.
not-allowed : (it : Intent) (view : View) → weakens_to_level it view ≡ false → place_of (strength_after it view) < place_of it.strength → is_allowed view it.sense it.strength (choice_after it view) ≡ false
not-allowed it view stays less = go (is_allowed view it.sense it.strength (choice_after it view)) refl
  where
    go : (b : Bool) → is_allowed view it.sense it.strength (choice_after it view) ≡ b → b ≡ false
    go false e = refl
    go true e = elim (next-found it view (ap not stays)) [
      | inl w ↦ (let reached = w.0.1 in absurd (omega arith))
      | inr n ↦ absurd (n.1.1 it.strength less e)
    ]

by-strength : (it : Intent) (view : View) (complement : Vrc) (rank : Rank) → GoesOn it view → changes_sense it view complement rank ≡ false → Explains view complement rank (cells.Ra it) (strength_rule it view) (continuation_of it view)
by-strength it view complement rank goes stays = stronger (nat_lt was is) refl
  where
    was : ℕ
    was = place_of it.strength

    is : ℕ
    is = place_of (strength_after it view)

    weaker : (b : Bool) → weakens_to_level it view ≡ b → is < was → Explains view complement rank (cells.Ra it) (if b then Weakens else Capped) (continuation_of it view)
    weaker true e h = weakens goes stays h e
    weaker false e h = capped goes stays h e (not-allowed it view e h)

    equal : (b : Bool) → (was == is) ≡ b → nat_lt was is ≡ false → Explains view complement rank (cells.Ra it) (if b then Keeps else if weakens_to_level it view then Weakens else Capped) (continuation_of it view)
    equal true e h = keeps goes stays (same was is e)
    equal false e h = weaker (weakens_to_level it view) refl (more was is h e)

    stronger : (b : Bool) → nat_lt was is ≡ b → Explains view complement rank (cells.Ra it) (if b then Strengthens else if was == is then Keeps else if weakens_to_level it view then Weakens else Capped) (continuation_of it view)
    stronger true e = strengthens goes stays (less was is e)
    stronger false e = equal (was == is) refl e

reversing : (it : Intent) (view : View) (complement : Vrc) (rank : Rank) → GoesOn it view → changes_sense it view complement rank ≡ true → Explains view complement rank (cells.Ra it) (turning_rule rank) (reversal_of it view (is_turned_after it rank))
reversing it view complement Second goes turns = obeys goes refl turns
reversing it view complement First goes turns = let h = both (has_to_reverse it view) (not it.turned) turns in reverses goes (λ e. cc) h.0 (not-so it.turned h.1)
reversing it view complement Free goes turns = let h = both (has_to_reverse it view) (not it.turned) turns in reverses goes (λ e. cc) h.0 (not-so it.turned h.1)

going-on : (it : Intent) (view : View) (complement : Vrc) (rank : Rank) → GoesOn it view
    → Explains view complement rank (cells.Ra it) (if changes_sense it view complement rank then turning_rule rank else strength_rule it view) (continuing_cell it view complement rank)
going-on it view complement rank goes = go (changes_sense it view complement rank) refl
  where
    go : (b : Bool) → changes_sense it view complement rank ≡ b
        → Explains view complement rank (cells.Ra it) (if b then turning_rule rank else strength_rule it view) (if b then reversal_of it view (is_turned_after it rank) else continuation_of it view)
    go true e = reversing it view complement rank goes e
    go false e = by-strength it view complement rank goes e

advised : (it : Intent) (view : View) (complement : Vrc) (rank : Rank) → view.tested ≡ true
    → Explains view complement rank (cells.Ra it) (tested_rule (cells.Ra it) view complement rank) (if ends it view then traffic_cell view else continuing_cell it view complement rank)
advised it view complement rank tested = by_level view.resolves refl
  where
    rest : Rule
    rest = if changes_sense it view complement rank then turning_rule rank else strength_rule it view

    by_threat : (b : Bool) → (not view.lasts && nat_le 5 it.age) ≡ b → view.resolves ≡ true
        → Explains view complement rank (cells.Ra it) (if b then EndsWithoutThreat else rest) (if b then traffic_cell view else continuing_cell it view complement rank)
    by_threat true e resolves = let h = both (not view.lasts) (nat_le 5 it.age) e in ends_without_threat tested resolves (not-so view.lasts h.0) h.1
    by_threat false e resolves = going-on it view complement rank (record { tested = tested; resolves = resolves; lasts = e })

    by_level : (b : Bool) → view.resolves ≡ b
        → Explains view complement rank (cells.Ra it) (if not b then EndsBelowLevel else if not b || (not view.lasts && nat_le 5 it.age) then EndsWithoutThreat else rest)
        (if not b || (not view.lasts && nat_le 5 it.age) then traffic_cell view else continuing_cell it view complement rank)
    by_level true e = by_threat (not view.lasts && nat_le 5 it.age) refl e
    by_level false e = ends_below_level tested e

-- ---- all together

by-cell : (before : Cell) (view : View) (complement : Vrc) (rank : Rank) → view.tested ≡ true → Explains view complement rank before (tested_rule before view complement rank) (cell_after before view complement rank)
by-cell cells.Clear view complement rank tested = starting view complement rank cells.Clear tt tested
by-cell cells.Traffic view complement rank tested = starting view complement rank cells.Traffic tt tested
by-cell (cells.Ra it) view complement rank tested = advised it view complement rank tested

pub explained : (before : Cell) (view : View) (complement : Vrc) (rank : Rank) → Explains view complement rank before (rule_of before view complement rank) (following_cell before view complement rank)
explained before view complement rank = go view.tested refl
  where
    go : (b : Bool) → view.tested ≡ b → Explains view complement rank before (if b then tested_rule before view complement rank else Untested) (if b then cell_after before view complement rank else cells.Clear)
    go true e = by-cell before view complement rank e
    go false e = untested e

-- ---- the cell of a commit

seen-view : (e : Parts) (own cycle other : ℕ) → (seen_of (sight_of e own cycle) other).view ≡ view_of e own other cycle
unfolding seen_of
seen-view e own cycle other = refl

seen-rank : (e : Parts) (own cycle other : ℕ) → own ≢ other → (seen_of (sight_of e own cycle) other).rank ≡ rank_of (air_of e) own other
unfolding seen_of
seen-rank e own cycle other apart = sym (rank-known e own other cycle apart)

pub cell-is : (e : Parts) (K : List Entry) (own cycle : ℕ) (made : Cells) (other : ℕ) → MayCommit (air_of e) K own cycle made → other < length e.crafts → other < CRAFTS → own ≢ other
    → cell_at made other ≡ following_cell (last_cell K own other) (seen_of (sight_of e own cycle) other).view (complement_from (air_of e) K own other) (seen_of (sight_of e own cycle) other).rank
cell-is e K own cycle made other may within few apart =
    let air = air_of e in
    let before = last_cell K own other in
    let complement = complement_from air K own other in
    let there : nat_lt other (length e.crafts) ≡ true = yes other (length e.crafts) within in
    let another : (own == other) ≡ false = ne_eqb own other apart in
    ap (λ (x : Cells). cell_at x other) may.cells_are
    ∙ get_or-map-range_with_len (λ k. cell_for air K own k) 0 CRAFTS other other cells.Clear few (omega arith)
    ∙ (λ i. if there i && not (another i) then following_cell before (view_of e own other (commits K own + 1)) complement (rank_of air own other) else cells.Clear)
    ∙ ap (λ (k : ℕ). following_cell before (view_of e own other k) complement (rank_of air own other)) (sym may.cycle_is)
    ∙ (λ i. following_cell before (sym (seen-view e own cycle other) i) complement (sym (seen-rank e own cycle other apart) i))
  where
    yes : (a b : ℕ) → a < b → nat_lt a b ≡ true
    yes a b h = grind (arith, nat_tests)

pub commit-explained : (e : Parts) (J : List Entry) → IsEncounter e → IsLegal (air_of e) J → AreExplained e J
unfolding reason_of shown_of seen_of
commit-explained e J valid legal = λ K own cycle made other begins within apart.
    let crafts = few-crafts e valid in
    let may : MayCommit (air_of e) K own cycle made = allowed (legal-begins (air_of e) begins legal) in
    let seen = seen_of (sight_of e own cycle) other in
    let complement = complement_from (air_of e) K own other in
    let before = last_cell K own other in
    subst (Explains (view_of e own other cycle) complement seen.rank before (rule_of before seen.view complement seen.rank)) (sym (cell-is e K own cycle made other may within (omega arith) (λ same. apart (sym same))))
    (explained before seen.view complement seen.rank)

-- ---- only one rule applies

-- There was no advisory.
from-nothing : (view : View) (complement : Vrc) (rank : Rank) (before : Cell) → AdvisesNothing before → view.tested ≡ true
    → (rule_of before view complement rank ≡ starting_rule view complement) × (following_cell before view complement rank ≡ starting_cell view complement)
from-nothing view complement rank cells.Clear none tested = rw tested (refl, refl)
from-nothing view complement rank cells.Traffic none tested = rw tested (refl, refl)
from-nothing view complement rank (cells.Ra it) none tested = absurd none

told-starts : (complement : Vrc) → complement ≢ Nil → told_rule complement ≡ StartsAsTold
told-starts Nil told = absurd (told refl)
told-starts NotBelow told = refl
told-starts NotAbove told = refl

-- There was one, and it goes on.
from-advisory : (view : View) (complement : Vrc) (rank : Rank) (it : Intent) → GoesOn it view
    → (rule_of (cells.Ra it) view complement rank ≡ (if changes_sense it view complement rank then turning_rule rank else strength_rule it view)) × (following_cell (cells.Ra it) view complement rank ≡ continuing_cell it view complement rank)
from-advisory view complement rank it goes =
    let tested = goes.tested in
    let resolves = goes.resolves in
    let lasts = goes.lasts in
    rw (tested, resolves, lasts) (refl, refl)

turned-round : (view : View) (complement : Vrc) (rank : Rank) (it : Intent) → rank ≢ Second → has_to_reverse it view ≡ true → it.turned ≡ false
    → (changes_sense it view complement rank ≡ true) × (turning_rule rank ≡ Reverses) × (is_turned_after it rank ≡ true)
turned-round view complement First it other calls turned = (rw (calls, turned) refl, refl, refl)
turned-round view complement Second it other calls turned = absurd (other refl)
turned-round view complement Free it other calls turned = (rw (calls, turned) refl, refl, refl)

-- The sense changes, or it stays.
turning : (view : View) (complement : Vrc) (rank : Rank) (it : Intent) → GoesOn it view → changes_sense it view complement rank ≡ true
    → (rule_of (cells.Ra it) view complement rank ≡ turning_rule rank) × (following_cell (cells.Ra it) view complement rank ≡ reversal_of it view (is_turned_after it rank))
turning view complement rank it goes turns =
    let from = from-advisory view complement rank it goes in
    (from.0 ∙ (rw turns refl), from.1 ∙ (rw turns refl))

staying : (view : View) (complement : Vrc) (rank : Rank) (it : Intent) → GoesOn it view → changes_sense it view complement rank ≡ false
    → (rule_of (cells.Ra it) view complement rank ≡ strength_rule it view) × (following_cell (cells.Ra it) view complement rank ≡ continuation_of it view)
staying view complement rank it goes stays =
    let from = from-advisory view complement rank it goes in
    (from.0 ∙ (rw stays refl), from.1 ∙ (rw stays refl))

-- The rule of two places in the order of strengths.
rule-by : ℕ → ℕ → Bool → Rule
rule-by was is w = if nat_lt was is then Strengthens else if was == is then Keeps else if w then Weakens else Capped

rule-rises : (was is : ℕ) (w : Bool) → was < is → rule-by was is w ≡ Strengthens
unfolding rule-by
rule-rises was is w h = let e : nat_lt was is ≡ true = grind (arith, nat_tests) in rw e refl

rule-stays : (was is : ℕ) (w : Bool) → was ≡ is → rule-by was is w ≡ Keeps
unfolding rule-by
rule-stays was is w h =
    let e : nat_lt was is ≡ false = grind (arith, nat_tests) in
    let f : (was == is) ≡ true = grind (arith, nat_tests) in
    rw (e, f) refl

rule-falls : (was is : ℕ) (w : Bool) → is < was → rule-by was is w ≡ (if w then Weakens else Capped)
unfolding rule-by
rule-falls was is w h =
    let e : nat_lt was is ≡ false = grind (arith, nat_tests) in
    let f : (was == is) ≡ false = grind (arith, nat_tests) in
    rw (e, f) refl

by-places : (it : Intent) (view : View) → strength_rule it view ≡ rule-by (place_of it.strength) (place_of (strength_after it view)) (weakens_to_level it view)
unfolding rule-by
by-places it view = refl

-- What applies is what the definitions give.
abbrev IsGiven : View → Vrc → Rank → Cell → Rule → Cell → Type 0
IsGiven view complement rank before rule cell = (rule ≡ rule_of before view complement rank) × (cell ≡ following_cell before view complement rank)

applies : (view : View) (complement : Vrc) (rank : Rank) (before : Cell) (rule : Rule) (cell : Cell) → Explains view complement rank before rule cell → IsGiven view complement rank before rule cell
applies view complement rank before rule cell (untested tested) = rw tested (refl, refl)
applies view complement rank before rule cell (starts none tested threat nil) =
    let from = from-nothing view complement rank before none tested in
    ((rw (threat, nil) refl) ∙ sym from.0, (rw (threat, nil) refl) ∙ sym from.1)
applies view complement rank before rule cell (starts_as_told none tested threat told) =
    let from = from-nothing view complement rank before none tested in
    ((rw threat (sym (told-starts complement told))) ∙ sym from.0, (rw threat refl) ∙ sym from.1)
applies view complement rank before rule cell (traffic none tested threat there) =
    let from = from-nothing view complement rank before none tested in
    ((rw (threat, there) refl) ∙ sym from.0, (rw (threat, there) refl) ∙ sym from.1)
applies view complement rank before rule cell (quiet none tested threat there) =
    let from = from-nothing view complement rank before none tested in
    ((rw (threat, there) refl) ∙ sym from.0, (rw (threat, there) refl) ∙ sym from.1)
applies view complement rank before rule cell (ends_below_level tested resolves) = rw (tested, resolves) (refl, refl)
applies view complement rank before rule cell (ends_without_threat tested resolves threat old) = rw (tested, resolves, threat, old) (refl, refl)
applies view complement rank before rule cell (obeys {it = it} goes second forbidden) =
    let turns : changes_sense it view complement rank ≡ true = rw second forbidden in
    let from = turning view complement rank it goes turns in
    ((rw second refl) ∙ sym from.0, (rw second refl) ∙ sym from.1)
applies view complement rank before rule cell (reverses {it = it} goes other calls turned) =
    let round = turned-round view complement rank it other calls turned in
    let from = turning view complement rank it goes round.0 in
    (sym round.1 ∙ sym from.0, ap (λ (b : Bool). reversal_of it view b) (sym round.2) ∙ sym from.1)
applies view complement rank before rule cell (strengthens {it = it} goes stays rises) =
    let from = staying view complement rank it goes stays in
    (sym (rule-rises _ _ (weakens_to_level it view) rises) ∙ sym (by-places it view) ∙ sym from.0, sym from.1)
applies view complement rank before rule cell (keeps {it = it} goes stays same) =
    let from = staying view complement rank it goes stays in
    (sym (rule-stays _ _ (weakens_to_level it view) same) ∙ sym (by-places it view) ∙ sym from.0, sym from.1)
applies view complement rank before rule cell (weakens {it = it} goes stays falls level) =
    let from = staying view complement rank it goes stays in
    ((rw level refl) ∙ sym (rule-falls _ _ (weakens_to_level it view) falls) ∙ sym (by-places it view) ∙ sym from.0, sym from.1)
applies view complement rank before rule cell (capped {it = it} goes stays falls level barred) =
    let from = staying view complement rank it goes stays in
    ((rw level refl) ∙ sym (rule-falls _ _ (weakens_to_level it view) falls) ∙ sym (by-places it view) ∙ sym from.0, sym from.1)

pub once : ExplainsOnce
once view complement rank before one two cell_one cell_two h g =
    let a = applies view complement rank before one cell_one h in
    let b = applies view complement rank before two cell_two g in
    (a.0 ∙ sym b.0, a.1 ∙ sym b.1)
