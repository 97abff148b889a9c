-- Who has played makes each journal complete that has all its entries.
use Rattle.std.proofs.Common.{◌≡◌, ℕ, zero, suc, ◌+◌, ◌<◌, ◌≤◌, Bool, true, false, List, [], ◌∷◌, filter, length, Option, ap, ◌∙◌, sym, subst, arith, inl, inr, lt_of_not-le, true≢false}
use Rattle.std.specs.Prelude.{All, option_map}
use Rattle.std.specs.List.{range_with_len}
use Rattle.std.specs.Option.{option_map_or}
use Rattle.std.proofs.lemmas.Bool.{cases_Bool, cond-false, cond-true}
use Rattle.std.proofs.lemmas.List.Elements.{All-cons}
use Rattle.std.proofs.lemmas.List.Sorted.{All-permutation}
use Rattle.std.proofs.lemmas.Option.{slice_get_past}
use mathlib.Core.Logic.{dite}
use native.Mathlib.Decide.{dec_le}
use Rattle.acas_base.specs.Encounter.{Parts, is_active_kind}
use Rattle.acas_base.specs.declared.craft.CraftSpec.{CraftSpec}
use Rattle.acas_base.specs.declared.entry.Entry.{Entry}
use Rattle.air_journal.specs.Airs.{air_of}
use Rattle.air_rules.specs.Air.{is_active}
use Rattle.air_rules.specs.Own.{IsDoneSomewhere}
use Rattle.air_rules.specs.Rules.{IsDone}
use Rattle.air_rules.proofs.OwnEntries.{completes-by-own}
use Rattle.air_turn.specs.Rule.{active_of}
use Rattle.air_turn.specs.Seats.{FrontsFit, SeatState, owns_of}
use Rattle.craft_worker.specs.Workers.{CompletesJournal, HasPlayed}

-- Whether a number is in a list.
data In (n : ℕ) : List ℕ → Type 0 where
  here : {ns : List ℕ} → In n (n ∷ ns)
  there : {m : ℕ} {ns : List ℕ} → In n ns → In n (m ∷ ns)

in-range : (test : ℕ → Bool) (low count n : ℕ) → low ≤ n → n < low + count → test n ≡ true → In n (filter test (range_with_len low count))
in-range test low zero n from to active = absurd (omega arith)
in-range test low (suc count) n from to active =
    let rest : low + 1 ≤ n → In n (filter test (range_with_len (low + 1) count)) = λ more. in-range test (low + 1) count n more (omega arith) active in
    elim (cases_Bool (test low)) [
      | inl y ↦ subst (In n) (sym (cond-true (test low) _ _ y)) (dite (dec_le (low + 1) n) (λ more. there (rest more)) (λ beyond. first (same beyond)))
      | inr beyond ↦ subst (In n) (sym (cond-false (test low) _ _ beyond)) (rest (dite (dec_le (low + 1) n) (λ more. more) (λ far. absurd (true≢false (sym active ∙ (ap test (same far) ∙ beyond))))))
    ]
  where
    same : (low + 1 ≤ n → ⊥) → n ≡ low
    same beyond = let far = lt_of_not-le beyond in omega arith

    first : n ≡ low → In n (low ∷ filter test (range_with_len (low + 1) count))
    first is = subst (λ m. In n (m ∷ filter test (range_with_len (low + 1) count))) is here

in-active : (e : Parts) (own : ℕ) → own < length e.crafts → is_active (air_of e) own ≡ true → In own (active_of e)
unfolding active_of
in-active e own less active = in-range (is_active (air_of e)) 0 (length e.crafts) own (omega arith) (omega arith) active

-- The aircraft of each seat is done in what the seat has seen.
done-each : (e : Parts) (journal : List Entry) (seats : List SeatState) → All (λ (seat : SeatState). seat.encounter ≡ e) seats → All HasPlayed seats → FrontsFit journal seats → All (IsDoneSomewhere (air_of e) journal) (owns_of seats)
done-each e journal [] are played fit = λ k d l. absurd (omega arith)
done-each e journal (seat ∷ seats) are played fit =
    let done = (played 0 seat (omega arith)).done in
    let here : IsDoneSomewhere (air_of e) journal seat.own = record { front = seat.front; same = sym fit.0.1; done = subst (λ z. IsDone (air_of z) seat.front seat.own) (are 0 seat (omega arith)) done } in
    All-cons (IsDoneSomewhere (air_of e) journal) seat.own (owns_of seats) here (done-each e journal seats (λ k d l. are (suc k) d (omega arith)) (λ k d l. played (suc k) d (omega arith)) fit.1)

-- What holds of all holds of one.
of-one : (P : ℕ → Type 0) (n : ℕ) (ns : List ℕ) → All P ns → In n ns → P n
of-one P n _ all here = all 0 n (omega arith)
of-one P n _ all (there {ns = ns} in_rest) = of-one P n ns (λ k d l. all (suc k) d (omega arith)) in_rest

below-count : (e : Parts) (own : ℕ) → is_active (air_of e) own ≡ true → own < length e.crafts
below-count e own active = dite (dec_le (length e.crafts) own) (λ past. absurd (true≢false (sym active ∙ none past))) (λ beyond. lt_of_not-le beyond)
  where
    none : length e.crafts ≤ own → is_active (air_of e) own ≡ false
    none past = ap (λ (o : Option CraftSpec). option_map_or is_active_kind (option_map (λ (craft : CraftSpec). craft.kind) o) false) (slice_get_past e.crafts own past)

pub completes-journal : CompletesJournal
completes-journal air seats journal all played fit =
    let e = air.encounter in
    let P : ℕ → Type 0 = IsDoneSomewhere (air_of e) journal in
    let each : All P (active_of e) = All-permutation P (owns_of seats) (active_of e) all.owns (done-each e journal seats (λ k d l. (all.of k d l).encounter) played fit) in
    completes-by-own (air_of e) journal (λ own active. of-one P own (active_of e) each (in-active e own (below-count e own active) active))
