-- Seats as they were opened, and as they come back.
use Rattle.std.proofs.Common.{◌≡◌, ℕ, suc, ◌<◌, ◌++◌, take, drop, List, [], ◌∷◌, length, get_or, refl, sym, ap, subst, ◌∙◌, arith}
use Rattle.std.specs.Prelude.{All}
use Rattle.std.specs.List.Sorted.{IsPermutation}
use Rattle.std.proofs.lemmas.List.Elements.{All-cons}
use Rattle.std.proofs.lemmas.List.Sorted.{IsPermutation-append_comm, IsPermutation-trans}
use Rattle.std.proofs.Math.Seq.{take-append_seam}
use Rattle.acas_base.specs.Encounter.{Parts}
use Rattle.air_turn.specs.Seats.{AreAllSeats, IsSameSeat, IsSeatOf, SeatState, SharedAir, active_of, owns_of}

-- Seats of a shared journal, of which none has seen an entry.
pub fresh-first : (a : SharedAir) (e : Parts) (seats : List SeatState) → All (IsSeatOf a) seats → All (λ (s : SeatState). s.front ≡ []) seats → a.encounter ≡ e → All (λ (s : SeatState). (IsSeatOf a s) × (s.encounter ≡ e) × (s.front ≡ [])) seats
fresh-first a e seats of fronts same k d l = (of k d l, (of k d l).encounter ∙ same, fronts k d l)

pub is-of : (a : SharedAir) (s t : SeatState) → IsSameSeat s t → IsSeatOf a s → IsSeatOf a t
is-of a s t same is = record { table = same.table ∙ is.table; encounter = same.encounter ∙ is.encounter }

stay : (a : SharedAir) (ws us : List SeatState) → length us ≡ length ws → ((k : ℕ) (d : SeatState) → k < length ws → IsSameSeat (get_or ws k d) (get_or us k d)) → All (IsSeatOf a) ws → All (IsSeatOf a) us × (owns_of us ≡ owns_of ws)
stay a [] [] len same h = (λ k d l. absurd (omega arith), refl)
stay a [] (u ∷ us) len same h = absurd (omega arith)
stay a (w ∷ ws) [] len same h = absurd (omega arith)
stay a (w ∷ ws) (u ∷ us) len same h =
    let here = same 0 w (omega arith) in
    let rest = stay a ws us (omega arith) (λ k d l. same (suc k) d (omega arith)) (λ k d l. h (suc k) d (omega arith)) in
    (All-cons (IsSeatOf a) u us (is-of a w u here (h 0 w (omega arith))) rest.0, λ i. here.own i ∷ rest.1 i)

all-stay : (a : SharedAir) (ws us : List SeatState) → length us ≡ length ws → ((k : ℕ) (d : SeatState) → k < length ws → IsSameSeat (get_or ws k d) (get_or us k d)) → AreAllSeats a ws → AreAllSeats a us
all-stay a ws us len same h =
    let r = stay a ws us len same h.of in
    record { of = r.0; owns = subst (λ (l : List ℕ). IsPermutation l (active_of a.encounter)) (sym r.1) h.owns }

-- The same seats, as a slice of the list leaves them there, are still all of the shared journal.
pub all-back : (a : SharedAir) (n : ℕ) (ws xs us : List SeatState) → xs ≡ ws → n ≡ length ws → length us ≡ length xs → ((k : ℕ) (d : SeatState) → k < length xs → IsSameSeat (get_or xs k d) (get_or us k d)) → AreAllSeats a ws
    → AreAllSeats a (take n (us ++ drop (length us) ws))
all-back a n ws xs us same count len each h =
    let long : length us ≡ length ws = len ∙ ap length same in
    let back : take n (us ++ drop (length us) ws) ≡ us = ap (λ m. take m (us ++ drop (length us) ws)) (count ∙ sym long) ∙ take-append_seam us (drop (length us) ws) in
    subst (AreAllSeats a) (sym back) (all-stay a ws us long (subst (λ (z : List SeatState). (k : ℕ) (d : SeatState) → k < length z → IsSameSeat (get_or z k d) (get_or us k d)) same each) h)

-- Two seats that come back in the other order are still all.
pub exchanged : (a : SharedAir) (seats : List SeatState) (low high low' high' : SeatState) → seats ≡ low ∷ high ∷ [] → IsSameSeat low low' → IsSameSeat high high' → AreAllSeats a seats → AreAllSeats a (high' ∷ low' ∷ [])
exchanged a seats low high low' high' is same_low same_high all =
    let h : AreAllSeats a (low ∷ high ∷ []) = subst (AreAllSeats a) is all in
    let low_of : IsSeatOf a low' = is-of a low low' same_low (h.of 0 low (omega arith)) in
    let high_of : IsSeatOf a high' = is-of a high high' same_high (h.of 1 low (omega arith)) in
    let same : owns_of (low ∷ high ∷ []) ≡ low'.own ∷ high'.own ∷ [] = λ i. sym same_low.own i ∷ sym same_high.own i ∷ [] in
    let owns : IsPermutation (low'.own ∷ high'.own ∷ []) (active_of a.encounter) = subst (λ (l : List ℕ). IsPermutation l (active_of a.encounter)) same h.owns in
    record {
      of = All-cons (IsSeatOf a) high' (low' ∷ []) high_of (All-cons (IsSeatOf a) low' [] low_of (λ k d l. absurd (omega arith)));
      owns = IsPermutation-trans _ _ _ (IsPermutation-append_comm (high'.own ∷ []) (low'.own ∷ [])) owns;
    }
