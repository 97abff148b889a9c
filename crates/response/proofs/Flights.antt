-- How a flight goes on.
use Rattle.std.proofs.Common.{◌≡◌, ℕ, zero, suc, ◌+◌, ◌-◌, ◌<◌, ◌≤◌, ℤ, Bool, true, false, cond, Option, Some, None, refl, sym, ap, ◌∙◌, subst, unsigned_abs, ◌^◌, arith}
use Rattle.std.specs.Prelude.{IfSome, nat_le, option_map}
use Rattle.std.specs.Option.{option_or}
use Rattle.std.proofs.lemmas.Bool.{cond-false, cond-true}
use Rattle.std.proofs.lemmas.Bool.Decides.{nat_tests}
use Rattle.response.proofs.Numbers.{IsLater, first-kept, first-later, first-more, first-within, tested}
use Rattle.advisory_report.specs.Phrases.{has_advice}
use Rattle.response.specs.Flown.{Flight, after_cycle, changed, first_advised, flown_from, motion_since, moved_twice, response_to}
use Rattle.response.specs.Flying.{IsAdvised, IsMotion, begun, highest, motion_at, moved_on, responded}
use Rattle.response.specs.declared.advice.Advised.{Advised}
use Rattle.response.specs.declared.motion.Motion.{Motion}

abbrev advises : Flight → ℕ → Bool
advises flight cycle = has_advice (flight.shown cycle)

-- A cycle, by what is kept of the advice.
responded-is : (flight : Flight) (cycle : ℕ) (advised : Advised) (motion : Motion) → IsAdvised flight cycle advised → responded advised cycle (flight.rate cycle) motion ≡ after_cycle flight cycle motion
responded-is flight cycle advised motion is =
    ap (λ now. moved_twice now (flight.rate cycle) (response_to advised.before now) (cycle - advised.changed) motion) is.shown
    ∙ ap (λ before. moved_twice (flight.shown cycle) (flight.rate cycle) (response_to before (flight.shown cycle)) (cycle - advised.changed) motion) is.before
    ∙ ap (λ last. moved_twice (flight.shown cycle) (flight.rate cycle) (response_to (flight.shown (changed flight cycle - 1)) (flight.shown cycle)) (cycle - last) motion) is.changed_is

-- From the beginning of a cycle to that of the next one.
since-more : (flight : Flight) (first cycle : ℕ) → first ≤ cycle → after_cycle flight cycle (motion_since flight first (cycle - first)) ≡ motion_since flight first (cycle + 1 - first)
since-more flight first cycle before =
    let at : cycle ≡ first + (cycle - first) = omega arith in
    let next : suc (cycle - first) ≡ cycle + 1 - first = omega arith in
    ap (λ k. after_cycle flight k (motion_since flight first (cycle - first))) at ∙ ap (motion_since flight first) next

-- What is found among the cycles up to one, by what is found among those before it.
abbrev Found : Flight → ℕ → Option ℕ → Type 0
Found flight n found = first_advised flight n ≡ found

found-more : (flight : Flight) (n : ℕ) (found : Option ℕ) → Found flight n found → Found flight (suc n) (option_or found (tested (advises flight) (1 + n)))
found-more flight n found is = first-more (advises flight) 1 n ∙ ap (λ o. option_or o (tested (advises flight) (1 + n))) is

-- The motion at the end of a cycle, where the aircraft responded before, begins to do so, or flies as planned.
goes-on : (flight : Flight) (n first : ℕ) (advised : Advised) → IsAdvised flight (suc n) advised → Found flight n (Some first)
    → moved_on (motion_at flight (suc n) n) advised (suc n) (flight.altitude (suc n)) (flight.rate (suc n)) ≡ motion_at flight (suc n + 1) (suc n)
goes-on flight n first advised is found =
    let cycle = suc n in
    let within = first-within (advises flight) 1 n first found in
    let before : first ≤ cycle = omega (arith, within.1) in
    ap (λ o. moved_on (option_map (λ f. motion_since flight f (cycle - f)) o) advised cycle (flight.altitude cycle) (flight.rate cycle)) found
    ∙ ap Some (responded-is flight cycle advised (motion_since flight first (cycle - first)) is ∙ since-more flight first cycle before)
    ∙ ap (option_map (λ f. motion_since flight f (cycle + 1 - f))) (sym (found-more flight n (Some first) found))

begins : (flight : Flight) (n : ℕ) (advised : Advised) (b : Bool) → IsAdvised flight (suc n) advised → Found flight n None → advises flight (suc n) ≡ b
    → moved_on (motion_at flight (suc n) n) advised (suc n) (flight.altitude (suc n)) (flight.rate (suc n)) ≡ motion_at flight (suc n + 1) (suc n)
begins flight n advised true is found e =
    let cycle = suc n in
    let at : 1 + n ≡ cycle = omega arith in
    let none : 0 ≡ cycle - cycle = omega arith in
    let here = found-more flight n None found ∙ ap (tested (advises flight)) at ∙ ap (λ b. cond b (Some cycle) None) e in
    ap (λ o. moved_on (option_map (λ f. motion_since flight f (cycle - f)) o) advised cycle (flight.altitude cycle) (flight.rate cycle)) found
    ∙ ap (λ now. option_map (responded advised cycle (flight.rate cycle)) (begun None now (flight.altitude cycle) (flight.rate cycle))) is.shown
    ∙ ap (λ b. option_map (responded advised cycle (flight.rate cycle)) (cond b (Some (motion_since flight cycle 0)) None)) e
    ∙ ap Some (responded-is flight cycle advised (motion_since flight cycle 0) is ∙ ap (λ k. after_cycle flight cycle (motion_since flight cycle k)) none ∙ since-more flight cycle cycle (omega arith))
    ∙ ap (option_map (λ f. motion_since flight f (cycle + 1 - f))) (sym here)
begins flight n advised false is found e =
    let cycle = suc n in
    let at : 1 + n ≡ cycle = omega arith in
    let here = found-more flight n None found ∙ ap (tested (advises flight)) at ∙ ap (λ b. cond b (Some cycle) None) e in
    ap (λ o. moved_on (option_map (λ f. motion_since flight f (cycle - f)) o) advised cycle (flight.altitude cycle) (flight.rate cycle)) found
    ∙ ap (λ now. option_map (responded advised cycle (flight.rate cycle)) (begun None now (flight.altitude cycle) (flight.rate cycle))) is.shown
    ∙ ap (λ b. option_map (responded advised cycle (flight.rate cycle)) (cond b (Some (motion_since flight cycle 0)) None)) e
    ∙ ap (option_map (λ f. motion_since flight f (cycle + 1 - f))) (sym here)

next-of : (flight : Flight) (n : ℕ) (advised : Advised) (found : Option ℕ) → IsAdvised flight (suc n) advised → Found flight n found
    → moved_on (motion_at flight (suc n) n) advised (suc n) (flight.altitude (suc n)) (flight.rate (suc n)) ≡ motion_at flight (suc n + 1) (suc n)
next-of flight n advised (Some first) is found = goes-on flight n first advised is found
next-of flight n advised None is found = begins flight n advised (advises flight (suc n)) is found refl

-- The motion at the beginning of the next cycle.
pub motion-next : (flight : Flight) (cycle : ℕ) (advised : Advised) (motion : Option Motion) → 1 ≤ cycle → IsAdvised flight cycle advised → motion ≡ motion_at flight cycle (cycle - 1)
    → moved_on motion advised cycle (flight.altitude cycle) (flight.rate cycle) ≡ motion_at flight (cycle + 1) (cycle + 1 - 1)
motion-next flight zero advised motion some is at = absurd (omega arith)
motion-next flight (suc n) advised motion some is at =
    let back : suc n - 1 ≡ n = omega arith in
    let last : suc n ≡ suc n + 1 - 1 = omega arith in
    ap (λ m. moved_on m advised (suc n) (flight.altitude (suc n)) (flight.rate (suc n))) (at ∙ ap (motion_at flight (suc n)) back)
    ∙ next-of flight n advised (first_advised flight n) is refl
    ∙ ap (motion_at flight (suc n + 1)) last

-- ---- the altitude in a cycle, by the motion at its beginning

not-later : (a b : ℕ) → b < a → nat_le a b ≡ false
not-later a b h = grind (arith, nat_tests)

no-later : (a b : ℕ) → a ≤ b → nat_le a b ≡ true
no-later a b h = grind (arith, nat_tests)

-- How high an aircraft is that moves so, or flies as planned.
abbrev pub height : ℤ → Option Motion → ℤ
height planned None = planned
height planned (Some motion) = motion.altitude

from-found : (flight : Flight) (n m : ℕ) (found : Option ℕ) → Found flight n found
    → height (flight.altitude (n + 1)) (option_map (λ f. motion_since flight f (n + 1 - f)) found) ≡ flown_from flight (n + 1) (first_advised flight (n + m))
from-found flight n m (Some first) found =
    let within = first-within (advises flight) 1 n first found in
    let kept = first-kept (advises flight) 1 n m first found in
    sym (ap (flown_from flight (n + 1)) kept ∙ cond-false (nat_le (n + 1) first) _ _ (not-later (n + 1) first (omega (arith, within.1))))
from-found flight n m None found = planned (first_advised flight (n + m)) (first-later (advises flight) 1 n m found)
  where
    planned : (all : Option ℕ) → IsLater all (1 + n) → flight.altitude (n + 1) ≡ flown_from flight (n + 1) all
    planned None is = refl
    planned (Some first) is = (let late = is.later first refl in sym (cond-true (nat_le (n + 1) first) _ _ (no-later (n + 1) first (omega arith))))

pub height-is : (flight : Flight) (cycle cycles : ℕ) (motion : Option Motion) → 1 ≤ cycle → cycle ≤ cycles → motion ≡ motion_at flight cycle (cycle - 1)
    → height (flight.altitude cycle) motion ≡ flown_from flight cycle (first_advised flight cycles)
height-is flight cycle cycles motion some within at =
    let here : cycle - 1 + 1 ≡ cycle = omega arith in
    let all : cycle - 1 + (cycles - (cycle - 1)) ≡ cycles = omega arith in
    ap (height (flight.altitude cycle)) at
    ∙ ap (λ k. height (flight.altitude k) (option_map (λ f. motion_since flight f (k - f)) (first_advised flight (cycle - 1)))) (sym here)
    ∙ from-found flight (cycle - 1) (cycles - (cycle - 1)) (first_advised flight (cycle - 1)) refl
    ∙ ap (λ n. flown_from flight (cycle - 1 + 1) (first_advised flight n)) all
    ∙ ap (λ k. flown_from flight k (first_advised flight cycles)) here

-- An altitude in a run is a small number.
pub altitude-few : (cycle cycles : ℕ) (motion : Option Motion) (here : Motion) → cycle ≤ cycles → cycles ≤ 600 → IfSome motion (IsMotion (highest cycle)) → motion ≡ Some here → unsigned_abs here.altitude ≤ 2 ^ 30
altitude-few cycle cycles motion here within few bounds is = let b = subst (λ o. IfSome o (IsMotion (highest cycle))) is bounds in omega (arith, b.altitude)
