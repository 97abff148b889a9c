-- Each active aircraft gets a seat.
use Rattle.std.proofs.Common.{◌≡◌, ℕ, zero, suc, ◌≤◌, ◌+◌, ◌<◌, List, [], ◌∷◌, ◌++◌, length, drop, get_or, Option, refl, sym, ap, ◌∙◌, subst, arith, add-one, append_assoc, append-nil}
use Rattle.std.proofs.Math.Seq.{drop-cons}
use Rattle.std.proofs.lemmas.List.Sorted.{IsPermutation-refl}
use Rattle.std.specs.List.Sorted.{IsPermutation}
use Rattle.std.specs.Prelude.{All}
use Rattle.acas_base.specs.Encounter.{Parts}
use Rattle.acas_base.specs.declared.entry.Entry.{Entry}
use Rattle.air_journal.specs.States.{IsJournalOf, State}
use Rattle.atomic_table.specs.Seated.{TableId}
use Rattle.atomic_table.specs.declared.shared.Seat.{Seat}
use Rattle.craft_view.specs.Kept.{IsActive}
use Rattle.air_turn.specs.declared.view.Claim.{Claim}
use Rattle.air_turn.specs.declared.view.Knowledge.{Knowledge}
use Rattle.air_turn.specs.declared.view.Stage.TheVariants.{Idle}
use Rattle.air_turn.specs.Rule.{active_of, claim, fresh, knowledge}
use Rattle.air_turn.specs.Seats.{AreAllSeats, IsSeat, IsSeatOf, SeatState, SharedAir, first_seats, owns_of}
use Rattle.air_turn.specs.Told.{KnownAndHeld, first, first_alone, resting, without_first}
use Rattle.air_turn.specs.Turns.{Rests, seat_of, seat_of_claim}

-- A place with one claim is that of a seat.
pub rests-as : (p : Seat (Option State) Knowledge) (e : Parts) (c : Claim) → p.me ≡ resting e c → IsSeat (seat_of_claim p.table_id e c) → Rests c.own p
rests-as p e c is seat =
    let Q : KnownAndHeld → Type 0 = λ y. (y ≡ resting y.0.encounter (first y.0.claims)) × (c.own ≡ (first y.0.claims).own) × IsSeat (seat_of_claim p.table_id y.0.encounter (first y.0.claims)) in
    let all = subst Q (sym is) (refl, refl, seat) in
    record { idle = all.0; own_is = all.1; seat = all.2 }

pub seat-as : (p : Seat (Option State) Knowledge) (t : TableId) (e : Parts) (c : Claim) → p.me ≡ resting e c → p.table_id ≡ t → seat_of p ≡ seat_of_claim t e c
seat-as p t e c is same = λ i. seat_of_claim (same i) (is i).0.encounter (first (is i).0.claims)

module _ (t : TableId) (e : Parts) (journal : List Entry) where
  -- The claim of the aircraft that comes next.
  abbrev pub next_claim : List ℕ → ℕ → Claim
  next_claim owns i = claim (get_or owns i 0) 0 journal 0

  -- The place that has the claims of all aircraft from this one on.
  abbrev pub has_from : List ℕ → ℕ → KnownAndHeld
  has_from owns i = (knowledge e Idle (fresh journal (drop i owns)) [], [])

  pub next-fresh : (m : KnownAndHeld) (owns : List ℕ) (i : ℕ) → m ≡ has_from owns i → i < length owns → m ≡ (knowledge e Idle (next_claim owns i ∷ fresh journal (drop (i + 1) owns)) [], [])
  next-fresh m owns i is inside = is ∙ ap (λ ys. (knowledge e Idle (fresh journal ys) [], [])) (drop-cons owns i 0 inside ∙ ap (λ n. get_or owns i 0 ∷ drop n owns) (sym (add-one i)))

  pub left-fresh : (m m' : KnownAndHeld) (owns : List ℕ) (i : ℕ) → m ≡ (knowledge e Idle (next_claim owns i ∷ fresh journal (drop (i + 1) owns)) [], []) → m' ≡ (without_first m.0, m.1) → m' ≡ has_from owns (i + 1)
  left-fresh m m' owns i is to = to ∙ ap (λ (x : KnownAndHeld). (without_first x.0, x.1)) is

  pub right-fresh : (m m' : KnownAndHeld) (owns : List ℕ) (i : ℕ) → m ≡ (knowledge e Idle (next_claim owns i ∷ fresh journal (drop (i + 1) owns)) [], []) → m' ≡ (first_alone m.0, []) → m' ≡ resting e (next_claim owns i)
  right-fresh m m' owns i is to = to ∙ ap (λ (x : KnownAndHeld). (first_alone x.0, [])) is

  pub first-seat : (own : ℕ) → IsJournalOf e journal → IsActive e own → IsSeat (seat_of_claim t e (claim own 0 journal 0))
  first-seat own state active = record { valid = state.valid; inside = state.inside; active = active; legal = state.legal }

  pub seated-more : (seats after : List SeatState) (seat : SeatState) (owns : List ℕ) (i : ℕ) → i < length owns → seats ++ first_seats t e journal (drop i owns) ≡ first_seats t e journal owns
      → seat ≡ seat_of_claim t e (next_claim owns i) → after ≡ seats ++ seat ∷ [] → after ++ first_seats t e journal (drop (i + 1) owns) ≡ first_seats t e journal owns
  seated-more seats after seat owns i inside were is to =
      let rest = first_seats t e journal (drop (i + 1) owns) in
      let next : first_seats t e journal (drop i owns) ≡ seat_of_claim t e (next_claim owns i) ∷ rest = ap (first_seats t e journal) (drop-cons owns i 0 inside ∙ ap (λ n. get_or owns i 0 ∷ drop n owns) (sym (add-one i))) in
      ap (λ l. l ++ rest) to ∙ (append_assoc seats (seat ∷ []) rest ∙ (ap (λ s. seats ++ s ∷ rest) is ∙ (ap (λ l. seats ++ l) (sym next) ∙ were)))

  drop-all : (xs : List ℕ) (n : ℕ) → length xs ≤ n → drop n xs ≡ []
  drop-all [] zero h = refl
  drop-all [] (suc n) h = refl
  drop-all (x ∷ xs) zero h = absurd (omega arith)
  drop-all (x ∷ xs) (suc n) h = drop-all xs n (omega arith)

  pub seated-all : (seats : List SeatState) (owns : List ℕ) (i : ℕ) → length owns ≤ i → seats ++ first_seats t e journal (drop i owns) ≡ first_seats t e journal owns → seats ≡ first_seats t e journal owns
  seated-all seats owns i past were = sym (append-nil seats) ∙ (ap (λ ys. seats ++ first_seats t e journal ys) (sym (drop-all owns i past)) ∙ were)

-- The first seats are all of the shared journal.
pub first-all : (a : SharedAir) (journal : List Entry) (seats : List SeatState) → seats ≡ first_seats a.table a.encounter journal (active_of a.encounter) → AreAllSeats a seats
first-all a journal seats is = subst (AreAllSeats a) (sym is) (record { of = all_of (active_of a.encounter); owns = subst (λ (l : List ℕ). IsPermutation l (active_of a.encounter)) (sym (owns_are (active_of a.encounter))) (IsPermutation-refl (active_of a.encounter)) })
  where
    all_of : (owns : List ℕ) → All (IsSeatOf a) (first_seats a.table a.encounter journal owns)
    all_of [] k d l = absurd (omega arith)
    all_of (own ∷ owns) zero d l = record { table = refl; encounter = refl }
    all_of (own ∷ owns) (suc k) d l = all_of owns k d (omega arith)

    owns_are : (owns : List ℕ) → owns_of (first_seats a.table a.encounter journal owns) ≡ owns
    owns_are [] = refl
    owns_are (own ∷ owns) = ap (λ l. own ∷ l) (owns_are owns)
