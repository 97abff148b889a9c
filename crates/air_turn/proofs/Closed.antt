-- What the last state says, when all seats are joined into one.
use Rattle.std.proofs.Common.{◌≡◌, ◌≢◌, ℕ, zero, suc, ◌≤◌, Bool, true, false, List, [], ◌∷◌, map, length, Option, Some, None, refl, sym, ap, ◌∙◌, subst, arith}
use Rattle.std.specs.Prelude.{slice_get}
use Rattle.std.specs.List.Sorted.{IsPermutation}
use Rattle.std.proofs.lemmas.List.Sorted.{length_permutation}
use mathlib.Core.Logic.{dite}
use mathlib.Core.Option.{some, some-injective}
use native.Mathlib.Decide.{ℕ_discrete}
use lib.ListN.{get_elem?}
use Rattle.acas_base.specs.Encounter.{IsEncounter, Parts}
use Rattle.acas_base.specs.declared.entry.Entry.{Entry}
use Rattle.air_journal.specs.States.{IsJournalOf, State}
use Rattle.atomic_table.specs.Table.{Final, Seen as TableSeen}
use Rattle.atomic_table.specs.Seated.{TableId}
use Rattle.air_turn.specs.declared.view.Claim.{Claim}
use Rattle.air_turn.specs.declared.view.Knowledge.{Knowledge}
use Rattle.air_turn.specs.declared.view.Stage.{Stage}
use Rattle.air_turn.specs.declared.view.Stage.TheVariants.{Idle, Waits, Holds}
use Rattle.air_turn.specs.Rule.{ClaimsFit, HoldsThroughout, IsHolding, SeenFits, StageFits, active_of, knowledge, made, seen, state_of, tops, weigh}
use Rattle.air_turn.specs.Seats.{Closes, FrontsFit, NoneBeyond, SeatState, SomeAt, calls_made, owns_of}
use Rattle.air_turn.specs.Told.{KnownAndHeld}
use Rattle.air_turn.specs.Totals.{total, one}
use Rattle.air_turn.specs.Turns.{Gathers, seat_of_claim}
use Rattle.air_turn.proofs.Actives.{some-active}
use Rattle.air_turn.proofs.Sums.{pair-le, total-map, total-ones, total-only}

no-claims : (cs : List Claim) → total (λ (c : Claim). 1) cs ≡ 0 → cs ≡ []
no-claims [] e = refl
no-claims (c ∷ cs) e = absurd (omega arith)

module _ (t : TableId) (e : Parts) where
  owns-known : (cs : List Claim) → owns_of (map (seat_of_claim t e) cs) ≡ map (λ (c : Claim). c.own) cs
  owns-known [] = refl
  owns-known (c ∷ cs) = ap (λ l. c.own ∷ l) (owns-known cs)

  module _ (journal : List Entry) (calls : ℕ) (reach : ℕ → ℕ) where
    each-fits : (cs : List Claim) → ClaimsFit journal calls reach cs → FrontsFit journal (map (seat_of_claim t e) cs)
    each-fits [] f = tt
    each-fits (c ∷ cs) f = ((f.0.0.0, sym f.0.1), each-fits cs f.1)

    each-below : (cs : List Claim) → ClaimsFit journal calls reach cs → NoneBeyond calls (map (seat_of_claim t e) cs)
    each-below [] f = tt
    each-below (c ∷ cs) f = (f.0.0.1, each-below cs f.1)

    some-at : (cs : List Claim) → 1 ≤ total (λ (c : Claim). one calls c.seen.count) cs → SomeAt calls (map (seat_of_claim t e) cs)
    some-at [] h = absurd (omega arith)
    some-at (c ∷ cs) h = dite (ℕ_discrete c.seen.count calls) (λ is. (0, seat_of_claim t e c, refl, is)) (λ ne. let r = some-at cs (let off : one calls c.seen.count ≡ 0 = omega arith in omega arith) in (suc r.0, r.1, r.2, r.3))

    fits-at : (cs : List Claim) (j : ℕ) (s : SeatState) → ClaimsFit journal calls reach cs → slice_get (map (seat_of_claim t e) cs) j ≡ Some s → SeenFits journal calls reach (seen s.front s.count)
    fits-at [] j s f at = absurd cc
    fits-at (c ∷ cs) zero s f at = let same : seat_of_claim t e c ≡ s = cc (at) in subst (λ (k : SeatState). SeenFits journal calls reach (seen k.front k.count)) same f.0.0
    fits-at (c ∷ cs) (suc j) s f at = fits-at cs j s f.1 at

holds-one : (journal : List Entry) (calls : ℕ) (reach : ℕ → ℕ) (serving : ℕ) (away : Bool) (holder seat claims : ℕ) (g : Stage) → StageFits journal calls reach serving away holder seat claims g → IsHolding g → claims ≡ 1
holds-one journal calls reach serving away holder seat claims Idle f h = absurd h
holds-one journal calls reach serving away holder seat claims (Waits k) f h = absurd h
holds-one journal calls reach serving away holder seat claims (Holds k g n) f h = f.0

-- There are as many seats as active aircraft.
as-many : (e : Parts) (ss : List SeatState) → IsPermutation (owns_of ss) (active_of e) → total (λ x. 1) (owns_of ss) ≡ total (λ x. 1) (active_of e)
as-many e ss same = total-ones (owns_of ss) ∙ (sym (length_permutation (owns_of ss) (active_of e) same) ∙ sym (total-ones (active_of e)))

pub closes : (e : Parts) (id : ℕ) (t : TableId) (m : KnownAndHeld) (ss : List SeatState) (ws : List ℕ) (xs : List (Option State)) → Final (TableSeen (HoldsThroughout e) id m.0) ws xs → m ≡ (knowledge m.0.encounter Idle m.0.claims [], []) → map (seat_of_claim t m.0.encounter) m.0.claims ≡ ss → IsPermutation (owns_of ss) (active_of e)
    → (journal : List Entry) × (get_elem? xs 0 ≡ some (Some (state_of e journal))) × IsJournalOf e journal × Closes ss journal
closes e id t m ss ws xs final shape all owns =
    let s = final.0 in
    let r = final.1.0 in
    let at = final.1.1 in
    let v = m.0 in
    let cs = v.claims in
    let fits = (r.each id v at).claims in
    let idle : v.stage ≡ Idle = ap (λ (x : KnownAndHeld). x.0.stage) shape in
    let crafts : map (λ (c : Claim). c.own) cs ≡ owns_of ss = sym (owns-known t v.encounter cs) ∙ ap owns_of all in
    let mine : weigh (λ _. 1) v ≡ total (λ x. 1) (active_of e) = sym (total-map (λ x. 1) (λ (c : Claim). c.own) cs) ∙ (ap (total (λ x. 1)) crafts ∙ as-many e ss owns) in
    let rest : (j : ℕ) (u : Knowledge) → j ≢ id → get_elem? s.views j ≡ some u → u.claims ≡ [] = λ j u ne there. no-claims u.claims (let a = pair-le (weigh (λ _. 1)) s.views j id u v ne there at in let b = r.owned (λ _. 1) in omega arith) in
    let calls : made v ≡ r.calls = sym (total-only made s.views id v at (λ j u ne there. ap (total (λ (c : Claim). c.made)) (rest j u ne there))) ∙ r.made_all in
    let top : total (tops r.calls) s.views ≡ tops r.calls v = total-only (tops r.calls) s.views id v at (λ j u ne there. ap (total (λ (c : Claim). one r.calls c.seen.count)) (rest j u ne there)) in
    let made_is : calls_made ss ≡ r.calls = ap calls_made (sym all) ∙ (total-map (λ (k : SeatState). k.made) (seat_of_claim t v.encounter) cs ∙ calls) in
    let home : r.away ≡ false = at-rest r.away refl (λ is. let u = r.in_hands is in dite (ℕ_discrete r.holder id)
    (λ eq. let same : u.0 ≡ v = some-injective u.0 v (sym u.1 ∙ (ap (get_elem? s.views) eq ∙ at)) in subst IsHolding idle (subst (λ (x : Knowledge). IsHolding x.stage) same u.2))
    (λ ne. let f = (r.each r.holder u.0 u.1).stage in let one_there = holds-one r.journal r.calls r.reach r.serving r.away r.holder r.holder (length u.0.claims) u.0.stage f u.2 in let none = ap length (rest r.holder u.0 ne u.1) in absurd (omega arith))) in
    let latest = r.latest in (
      r.journal,
      final.4 0 (Some (state_of e r.journal)) (r.in_table home),
      r.state,
      subst (λ l. Closes l r.journal) all record {
        fronts = each-fits t v.encounter r.journal r.calls r.reach cs fits;
        none_beyond = subst (λ n. NoneBeyond n (map (seat_of_claim t v.encounter) cs)) (sym (ap calls_made all ∙ made_is)) (each-below t v.encounter r.journal r.calls r.reach cs fits);
        greatest = subst (λ n. SomeAt n (map (seat_of_claim t v.encounter) cs)) (sym (ap calls_made all ∙ made_is)) (some-at t v.encounter r.journal r.calls r.reach cs (omega arith));
        order = λ j k a b one_at two_at le. let f = fits-at t v.encounter r.journal r.calls r.reach cs j a fits one_at in let g = fits-at t v.encounter r.journal r.calls r.reach cs k b fits two_at in
            let up = r.rises b.count a.count le in let x = f.2 in let y = g.2 in omega arith;
      },
    )
  where
    at-rest : (b : Bool) → b ≡ b → (b ≡ true → ⊥) → b ≡ false
    at-rest true _ h = absurd (h refl)
    at-rest false _ h = refl

-- the state that is taken out at the end
pub closed-as : (e : Parts) (id : ℕ) (t : TableId) (m : KnownAndHeld) (ss : List SeatState) (ws : List ℕ) (xs : List (Option State)) (x : Option State) → Final (TableSeen (HoldsThroughout e) id m.0) ws xs → Gathers t m ss → IsPermutation (owns_of ss) (active_of e) → get_elem? xs 0 ≡ some x
    → (journal : List Entry) × (x ≡ Some (state_of e journal)) × IsJournalOf e journal × Closes ss journal
closed-as e id t m ss ws xs x final g owns taken =
    let c = closes e id t m ss ws xs final g.idle g.all owns in
    (c.0, some-injective x (Some (state_of e c.0)) (sym taken ∙ c.1), c.2, c.3)

abbrev some_of : Option State → State → State
some_of None d = d
some_of (Some t) d = t

pub closed-state : (e : Parts) (t : State) (x : Option State) (ss : List SeatState) → (journal : List Entry) × (x ≡ Some (state_of e journal)) × IsJournalOf e journal × Closes ss journal → x ≡ Some t → (t.encounter ≡ e) × IsJournalOf e t.journal × Closes ss t.journal
closed-state e t x ss c is =
    let same : t ≡ state_of e c.0 = ap (λ y. some_of y t) (sym is ∙ c.1) in
    (ap (λ (z : State). z.encounter) same, subst (λ (z : State). IsJournalOf e z.journal) (sym same) c.2, subst (λ (z : State). Closes ss z.journal) (sym same) c.3)

pub closed-some : (e : Parts) (x : Option State) (ss : List SeatState) → (journal : List Entry) × (x ≡ Some (state_of e journal)) × IsJournalOf e journal × Closes ss journal → x ≡ None → ⊥
closed-some e x ss c none = cc (sym none ∙ c.1)

-- There is some seat.
pub some-seats : (e : Parts) (seats : List SeatState) → IsEncounter e → IsPermutation (owns_of seats) (active_of e) → (n : ℕ) → n ≡ length seats → 1 ≤ n
some-seats e seats valid owns n is =
    let count : total (λ x. 1) (owns_of seats) ≡ length seats = total-map (λ x. 1) (λ (seat : SeatState). seat.own) seats ∙ total-ones seats in
    let same = as-many e seats owns in
    let some = some-active e valid in
    omega arith
