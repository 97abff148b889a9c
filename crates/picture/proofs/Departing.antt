-- Where the flight with the modelled response departs from the planned one.
use Rattle.std.proofs.Common.{◌≡◌, ℕ, zero, suc, ◌≤◌, Bool, true, false, not, ◌&&◌, List, Option, Some, None, refl, arith}
use Rattle.std.proofs.lemmas.Bool.{ltb-true}
use Rattle.std.specs.Ordering.{int_eq}
use Rattle.std.specs.Prelude.{IfSome, nat_lt}
use Rattle.acas_base.specs.Encounter.{Parts}
use Rattle.acas_base.specs.declared.entry.Entry.{Entry}
use Rattle.flight.specs.Flight.{position}
use Rattle.picture.specs.Modelled.{departed, earlier, is_apart}
use Rattle.response.specs.Flown.{altitude_units, flown}

-- It is after cycle 1, and in the run.
pub record IsDeparture (cycles first : ℕ) : Type 0 where
  pub least : 2 ≤ first
  pub most : first ≤ cycles

both-first : (a b : Bool) → a && b ≡ true → a ≡ true
both-first true b h = refl
both-first false b h = absurd (cc)

later-in : (first : Option ℕ) (apart : Bool) (n : ℕ) → (apart ≡ true → 2 ≤ suc n) → IfSome first (IsDeparture n) → IfSome (earlier first apart (suc n)) (IsDeparture (suc n))
later-in None true n here before = record { least = here refl; most = omega arith }
later-in None false n here before = tt
later-in (Some first) apart n here before = (let most = before.most in record { least = before.least; most = omega arith })

pub departed-in : (e : Parts) (J : List Entry) (own n : ℕ) → IfSome (departed e J own n) (IsDeparture n)
departed-in e J own zero = tt
departed-in e J own (suc n) = later-in (departed e J own n) (is_apart e J own (suc n)) n after (departed-in e J own n)
  where
    after : is_apart e J own (suc n) ≡ true → 2 ≤ suc n
    after h = (let above = ltb-true 1 (suc n) (both-first (nat_lt 1 (suc n)) (not (int_eq (flown e J own (suc n)) (altitude_units (position e own (suc n)).z))) h) in omega arith)

pub at-least : (cycles : ℕ) (first : Option ℕ) → IfSome first (IsDeparture cycles) → IfSome first (λ f. 2 ≤ f)
at-least cycles None is = tt
at-least cycles (Some first) is = is.least

pub at-most : (cycles run : ℕ) (first : Option ℕ) → cycles ≤ run → IfSome first (IsDeparture cycles) → IfSome first (λ f. f ≤ run)
at-most cycles run None few is = tt
at-most cycles run (Some first) few is = (let most = is.most in omega arith)
