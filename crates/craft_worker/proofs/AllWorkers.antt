-- Workers get their seats, make rounds, and give the seats back.
use Rattle.std.proofs.Common.{◌≡◌, ℕ, zero, suc, ◌<◌, ◌++◌, take, drop, true, List, [], ◌∷◌, map, length, get_or, refl, ap, ◌∙◌, sym, subst, arith, append_assoc}
use Rattle.std.specs.Prelude.{All}
use Rattle.std.specs.List.Sorted.{IsPermutation}
use Rattle.std.proofs.lemmas.List.Elements.{All-cons}
use Rattle.std.proofs.Math.Seq.{take-append_seam}
use Rattle.acas_base.specs.Encounter.{Parts}
use Rattle.acas_base.specs.declared.entry.Entry.{Entry}
use Rattle.atomic_table.specs.Seated.{TableId}
use Rattle.air_turn.specs.Seats.{AreAllSeats, IsSeatOf, SeatState, SharedAir, active_of, first_seats, owns_of}
use Rattle.craft_worker.specs.Workers.{EachSame, EachWorked, HasPlayed, IsReady, seat_of}
use Rattle.craft_worker.specs.declared.worker.Worker.{Worker}
use Rattle.craft_worker.proofs.Working.{same-on}

-- After a round all are ready.
pub ready-each : (air : SharedAir) (e : Parts) (ws us : List Worker) → length us ≡ length ws → EachWorked air e ws us → All (IsReady air e) us
ready-each air e ws us len worked k d less = worked-ready (omega (arith, len))
  where
    worked-ready : k < length ws → IsReady air e (get_or us k d)
    worked-ready within = (worked k d within).ready

pub same-each : (air : SharedAir) (e : Parts) (first ws us : List Worker) → length ws ≡ length first → EachSame first ws → EachWorked air e ws us → EachSame first us
same-each air e first ws us len same worked k d less = same-on (same k d less) (worked k d (omega (arith, len))).same

pub played-each : (air : SharedAir) (e : Parts) (ws us : List Worker) → length us ≡ length ws → EachWorked air e ws us → All (λ (w : Worker). w.done ≡ true) us → All (λ (w : Worker). HasPlayed w.seat) us
played-each air e ws us len worked done k d less = (worked k d (omega (arith, len))).told (done k d less)

-- The seats stay in their order.
seats-stay : (a : SharedAir) (ws us : List Worker) → length us ≡ length ws → EachSame ws us → All (IsSeatOf a) (map seat_of ws) → All (IsSeatOf a) (map seat_of us) × (owns_of (map seat_of us) ≡ owns_of (map seat_of ws))
seats-stay a [] [] len same h = (λ k d l. absurd (omega arith), refl)
seats-stay a [] (u ∷ us) len same h = absurd (omega arith)
seats-stay a (w ∷ ws) [] len same h = absurd (omega arith)
seats-stay a (w ∷ ws) (u ∷ us) len same h =
    let here = same 0 w (omega arith) in
    let was : IsSeatOf a w.seat = h 0 w.seat (omega arith) in
    let is : IsSeatOf a u.seat = record { table = here.table ∙ was.table; encounter = here.encounter ∙ was.encounter } in
    let rest = seats-stay a ws us (omega arith) (λ k d l. same (suc k) d (omega arith)) (λ k d l. h (suc k) d (omega arith)) in
    (All-cons (IsSeatOf a) u.seat (map seat_of us) is rest.0, λ i. here.own i ∷ rest.1 i)

played-seats : (us : List Worker) → All (λ (w : Worker). HasPlayed w.seat) us → All HasPlayed (map seat_of us)
played-seats [] h k d l = absurd (omega arith)
played-seats (u ∷ us) h zero d l = h 0 u (omega arith)
played-seats (u ∷ us) h (suc k) d l = played-seats us (λ j w m. h (suc j) w (omega arith)) k d (omega arith)

whole : (xs ys : List Worker) → length xs ≡ length ys → take (length ys) (xs ++ drop (length xs) ys) ≡ xs
whole xs ys e = ap (λ n. take n (xs ++ drop (length xs) ys)) (sym e) ∙ take-append_seam xs (drop (length xs) ys)

-- What holds of the seats when they come back.
pub record CameBack (air : SharedAir) (before after : List SeatState) : Type 0 where
  pub all : AreAllSeats air after
  pub order : owns_of after ≡ owns_of before
  pub played : All HasPlayed after

-- The seats that come back are those that were given.
pub played-as : (a : SharedAir) (ss vs : List SeatState) (ws xs us : List Worker) (n : ℕ) → map seat_of ws ≡ ss → xs ≡ ws → AreAllSeats a ss → length us ≡ length xs → EachSame xs us → All (λ (w : Worker). HasPlayed w.seat) us
    → n ≡ length ws → vs ≡ map seat_of (take n (us ++ drop (length us) ws)) → CameBack a ss vs
played-as a ss vs ws xs us n is same h len stays played count to =
    let len' : length us ≡ length ws = len ∙ ap length same in
    let vs_is : vs ≡ map seat_of us = to ∙ ap (map seat_of) (ap (λ m. take m (us ++ drop (length us) ws)) count ∙ whole us ws len') in
    let r = seats-stay a ws us len' (subst (λ z. EachSame z us) same stays) (subst (All (IsSeatOf a)) (sym is) h.of) in
    let order : owns_of (map seat_of us) ≡ owns_of ss = r.1 ∙ ap owns_of is in
    subst (CameBack a ss) (sym vs_is) record {
      all = record { of = r.0; owns = subst (λ (l : List ℕ). IsPermutation l (active_of a.encounter)) (sym order) h.owns };
      order = order;
      played = played-seats us played;
    }

-- What holds of each seat of a list holds of this one.
pub holds-there : (P : SeatState → Type 0) (all before after : List SeatState) (s : SeatState) → All P all → all ≡ before ++ s ∷ after → P s
holds-there P all before after s holds is = go before (subst (All P) is holds)
  where
    go : (xs : List SeatState) → All P (xs ++ s ∷ after) → P s
    go [] h = h 0 s (omega arith)
    go (x ∷ xs) h = go xs (λ k d l. h (suc k) d (omega arith))

-- One worker more was added.
pub workers-more : (all : List SeatState) (ws us : List Worker) (w : Worker) (s : SeatState) (rest : List SeatState) → map seat_of ws ++ s ∷ rest ≡ all → w.seat ≡ s → us ≡ ws ++ w ∷ [] → map seat_of us ++ rest ≡ all
workers-more all ws us w s rest were is to =
    ap (λ l. map seat_of l ++ rest) to ∙ (ap (λ l. l ++ rest) (map-snoc ws) ∙ (append_assoc (map seat_of ws) (w.seat ∷ []) rest ∙ (ap (λ z. map seat_of ws ++ z ∷ rest) is ∙ were)))
  where
    map-snoc : (xs : List Worker) → map seat_of (xs ++ w ∷ []) ≡ map seat_of xs ++ w.seat ∷ []
    map-snoc [] = refl
    map-snoc (x ∷ xs) = ap (λ l. x.seat ∷ l) (map-snoc xs)

-- The first seats have all seen the journal with which the shared one was opened.
pub fronts-first : (t : TableId) (e : Parts) (journal : List Entry) (owns : List ℕ) (seats : List SeatState) → seats ≡ first_seats t e journal owns → journal ≡ [] → All (λ (s : SeatState). s.front ≡ []) seats
fronts-first t e journal owns seats is none = subst (All (λ (s : SeatState). s.front ≡ [])) (sym is) (go owns)
  where
    go : (ns : List ℕ) → All (λ (s : SeatState). s.front ≡ []) (first_seats t e journal ns)
    go [] k d l = absurd (omega arith)
    go (n ∷ ns) zero d l = none
    go (n ∷ ns) (suc k) d l = go ns k d (omega arith)
