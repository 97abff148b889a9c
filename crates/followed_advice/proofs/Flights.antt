-- A modelled flight follows from what is shown before.
use Rattle.std.proofs.Common.{◌≡◌, ℕ, zero, suc, ◌+◌, ◌-◌, ◌<◌, ◌≤◌, ℤ, pos, ◌+ℤ◌, ◌*ℤ◌, Bool, List, Option, Some, None, refl, sym, ap, ap₂, ◌∙◌, true, arith}
use Rattle.std.specs.Prelude.{find, nat_le, option_map, if◌then◌else◌}
use Rattle.std.specs.Int.{int_div_euclid}
use Rattle.std.specs.List.{range_with_len}
use Rattle.std.proofs.lemmas.Bool.{cond-true, cond_both}
use Rattle.std.proofs.lemmas.Bool.Decides.{nat_tests}
use Rattle.std.proofs.lemmas.Int.{ints}
use Rattle.acas_num.proofs.Quotients.{quotient}
use Rattle.acas_num.specs.Division.{IsQuotient}
use Rattle.acas_base.specs.Encounter.{Parts}
use Rattle.acas_base.specs.declared.entry.Entry.{Entry}
use Rattle.advisory_report.specs.Phrases.{has_advice}
use Rattle.advisory_report.specs.Composite.{shown}
use Rattle.air_journal.specs.Airs.{air_of}
use Rattle.air_journal.specs.Cells.{commit_cells}
use Rattle.air_rules.specs.Air.{is_ra}
use Rattle.flight.specs.Flight.{position}
use Rattle.followed_advice.specs.Following.{sixtieths}
use Rattle.response.proofs.Changes.{changed-before}
use Rattle.response.proofs.Flights.{height, height-is}
use Rattle.response.proofs.Numbers.{first-within}
use Rattle.response.specs.Flown.{Flight, altitude_units, after_cycle, changed, first_advised, flight_of, flown, flown_from, is_changed, motion_since}
use Rattle.response.specs.Flying.{motion_at}
use Rattle.response.specs.declared.motion.Motion.{Motion}

-- Two flights with one plan, of which the same is shown in the cycles up to one.
pub record AreAlike (a b : Flight) (last : ℕ) : Type 0 where
  pub altitude : (k : ℕ) → a.altitude k ≡ b.altitude k
  pub rate : (k : ℕ) → a.rate k ≡ b.rate k
  pub shown : (k : ℕ) → k ≤ last → a.shown k ≡ b.shown k

same-change : (a b : Flight) (last k : ℕ) → AreAlike a b last → k ≤ last → is_changed a k ≡ is_changed b k
same-change a b last k alike low = rw (alike.shown (k - 1) (omega arith), alike.shown k low) refl

same-changed : (a b : Flight) (last k : ℕ) → AreAlike a b last → k ≤ last → changed a k ≡ changed b k
same-changed a b last zero alike low = refl
same-changed a b last (suc n) alike low = rw (same-change a b last (suc n) alike low, same-changed a b last n alike (omega arith)) refl

same-after : (a b : Flight) (last k : ℕ) (motion : Motion) → AreAlike a b last → k ≤ last → after_cycle a k motion ≡ after_cycle b k motion
same-after a b last k motion alike low =
    let first = changed-before b k in
    rw (alike.shown k low, alike.rate k, same-changed a b last k alike low, alike.shown (changed b k - 1) (omega (arith, first))) refl

same-motion : (a b : Flight) (last first n : ℕ) → AreAlike a b last → first + n ≤ last + 1 → motion_since a first n ≡ motion_since b first n
same-motion a b last first zero alike low = rw (alike.altitude first, alike.rate first) refl
same-motion a b last first (suc n) alike low =
    ap (after_cycle a (first + n)) (same-motion a b last first n alike (omega arith)) ∙ same-after a b last (first + n) (motion_since b first n) alike (omega arith)

same-find : (p q : ℕ → Bool) (first n : ℕ) → ((k : ℕ) → first ≤ k → k < first + n → p k ≡ q k) → find p (range_with_len first n) ≡ find q (range_with_len first n)
same-find p q first zero same = refl
same-find p q first (suc n) same =
    rw (same first (omega arith) (omega arith), same-find p q (first + 1) n (λ k low high. same k (omega arith) (omega arith))) refl

same-first : (a b : Flight) (last : ℕ) → AreAlike a b last → first_advised a last ≡ first_advised b last
same-first a b last alike = same-find (λ k. has_advice (a.shown k)) (λ k. has_advice (b.shown k)) 1 last (λ k low high. ap has_advice (alike.shown k (omega arith)))

-- The altitude at the end of that cycle is the same.
pub same-altitude : (a b : Flight) (last cycles : ℕ) → AreAlike a b last → last < cycles → flown_from a (last + 1) (first_advised a cycles) ≡ flown_from b (last + 1) (first_advised b cycles)
same-altitude a b last cycles alike within =
    sym (height-is a (last + 1) cycles (motion_at a (last + 1) last) (omega arith) (omega arith) (ap (motion_at a (last + 1)) back))
    ∙ ap₂ height (alike.altitude (last + 1)) (same-at (first_advised b last) refl)
    ∙ height-is b (last + 1) cycles (motion_at b (last + 1) last) (omega arith) (omega arith) (ap (motion_at b (last + 1)) back)
  where
    back : last ≡ last + 1 - 1
    back = omega arith

    same-at : (found : Option ℕ) → first_advised b last ≡ found → motion_at a (last + 1) last ≡ motion_at b (last + 1) last
    same-at None is = rw (same-first a b last alike, is) refl
    same-at (Some first) is =
        let within = first-within (λ k. has_advice (b.shown k)) 1 last first is in
        let one : motion_at a (last + 1) last ≡ Some (motion_since a first (last + 1 - first)) = ap (option_map (λ f. motion_since a f (last + 1 - f))) (same-first a b last alike ∙ is) in
        let two : motion_at b (last + 1) last ≡ Some (motion_since b first (last + 1 - first)) = ap (option_map (λ f. motion_since b f (last + 1 - f))) is in
        one ∙ ap Some (same-motion a b last first (last + 1 - first) alike (omega (arith, within.1))) ∙ sym two

-- Where two journals have the same commits of an aircraft up to a cycle, its altitude is the same up to the next one.
pub same-flown : (read : Parts) (J L : List Entry) (own last cycle : ℕ) → ((k : ℕ) → k ≤ last → commit_cells J own k ≡ commit_cells L own k) → 1 ≤ cycle → cycle ≤ last + 1 → cycle ≤ read.cycles
    → flown read J own cycle ≡ flown read L own cycle
unfolding flown
same-flown read J L own last zero same some low high = absurd (omega arith)
same-flown read J L own last (suc n) same some low high =
    let up : n + 1 ≡ suc n = omega arith in
    let a = flight_of read J own in
    let b = flight_of read L own in
    let alike : AreAlike a b n = record { altitude = λ k. refl; rate = λ k. refl; shown = λ k le. ap shown (same k (omega arith)) } in
    let here : flown_from a (suc n) (first_advised a read.cycles) ≡ flown_from b (suc n) (first_advised b read.cycles) =
    rw (← up) (same-altitude a b n read.cycles alike (omega arith)) in
    ap (λ z. if is_ra (air_of read) own then z else a.altitude (suc n)) here

nearest-by : (z q r : ℤ) → IsQuotient (pos 2048 *ℤ z) (pos 60) q → IsQuotient ((pos 60 *ℤ q) +ℤ pos 1024) (pos 2048) r → r ≡ z
nearest-by z q r one two = omega (arith, ints, one.within, one.no_more, two.within, two.no_more)

-- An altitude that is planned is rounded to itself.
nearest-unit : (z : ℤ) → int_div_euclid ((pos 60 *ℤ int_div_euclid (pos 2048 *ℤ z) (pos 60)) +ℤ pos 1024) (pos 2048) ≡ z
nearest-unit z =
    nearest-by z _ _ (quotient (pos 2048 *ℤ z) (pos 60) (omega (arith, ints)))
    (quotient ((pos 60 *ℤ int_div_euclid (pos 2048 *ℤ z) (pos 60)) +ℤ pos 1024) (pos 2048) (omega (arith, ints)))

no-later : (a b : ℕ) → a ≤ b → nat_le a b ≡ true
no-later a b h = grind (arith, nat_tests)

-- In cycle 1 an aircraft is where it is planned to be.
first-planned : (flight : Flight) (cycles : ℕ) → 1 ≤ cycles → flown_from flight 1 (first_advised flight cycles) ≡ flight.altitude 1
first-planned flight cycles some = by (first_advised flight cycles) refl
  where
    by : (found : Option ℕ) → first_advised flight cycles ≡ found → flown_from flight 1 (first_advised flight cycles) ≡ flight.altitude 1
    by None is = rw is refl
    by (Some first) is =
        let within = first-within (λ k. has_advice (flight.shown k)) 1 cycles first is in
        ap (flown_from flight 1) is ∙ cond-true (nat_le 1 first) _ _ (no-later 1 first within.0)

pub planned-first : (read : Parts) (J : List Entry) (own : ℕ) → 1 ≤ read.cycles → sixtieths (flown read J own 1) ≡ (position read own 1).z
unfolding flown sixtieths
planned-first read J own some =
    let flight = flight_of read J own in
    let z = (position read own 1).z in
    let same : flown read J own 1 ≡ altitude_units z = cond_both (is_ra (air_of read) own) (flown_from flight 1 (first_advised flight read.cycles)) (flight.altitude 1) (λ a. a ≡ flight.altitude 1) (λ _. first-planned flight read.cycles some) (λ _. refl) in
    ap sixtieths same ∙ nearest-unit z
