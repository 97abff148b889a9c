-- The strongest strength that passes a test.
use Rattle.std.proofs.Common.{◌≡◌, refl, ℕ, ◌<◌, Bool, true, false, cond, Option, Some, None, arith}
use Rattle.std.specs.Prelude.{find}
use Rattle.acas_base.specs.Strengths.{place_of, strongest_first}
use Rattle.acas_base.specs.declared.advisory.Strength.{Strength}
use Rattle.acas_base.specs.declared.advisory.Strength.TheVariants.{Limit2000, Limit1000, Limit500, Level, Positive, Increase}

-- It passes, and no stronger one does.
pub record IsStrongest (test : Strength → Bool) (strength : Strength) : Type 0 where
  pub passes : test strength ≡ true
  pub above : (other : Strength) → place_of strength < place_of other → test other ≡ false

pub found-is : (test : Strength → Bool) (strength : Strength) → IsStrongest test strength → find test strongest_first ≡ Some strength
found-is test Increase s = rw (s.passes) refl
found-is test Positive s = rw (s.above Increase (omega arith), s.passes) refl
found-is test Level s = rw (s.above Increase (omega arith), s.above Positive (omega arith), s.passes) refl
found-is test Limit500 s = rw (s.above Increase (omega arith), s.above Positive (omega arith), s.above Level (omega arith), s.passes) refl
found-is test Limit1000 s = rw (s.above Increase (omega arith), s.above Positive (omega arith), s.above Level (omega arith), s.above Limit500 (omega arith), s.passes) refl
found-is test Limit2000 s = rw (s.above Increase (omega arith), s.above Positive (omega arith), s.above Level (omega arith), s.above Limit500 (omega arith), s.above Limit1000 (omega arith), s.passes) refl

-- What no strength above a place passes.
none-above : (test : Strength → Bool) (n : ℕ) → (n < 5 → test Increase ≡ false) → (n < 4 → test Positive ≡ false) → (n < 3 → test Level ≡ false) → (n < 2 → test Limit500 ≡ false) → (n < 1 → test Limit1000 ≡ false) →
    (other : Strength) → n < place_of other → test other ≡ false
none-above test n a b d e f Increase h = a h
none-above test n a b d e f Positive h = b h
none-above test n a b d e f Level h = d h
none-above test n a b d e f Limit500 h = e h
none-above test n a b d e f Limit1000 h = f h
none-above test n a b d e f Limit2000 h = absurd (omega arith)

-- What is found says of all strengths.
abbrev pub Told : (Strength → Bool) → Option Strength → Type 0
Told test None = (strength : Strength) → test strength ≡ false
Told test (Some strength) = IsStrongest test strength

-- Which of the six is found, by the six answers.
by-answers : (test : Strength → Bool) (a b d e f g : Bool) → test Increase ≡ a → test Positive ≡ b → test Level ≡ d → test Limit500 ≡ e → test Limit1000 ≡ f → test Limit2000 ≡ g →
    Told test (cond a (Some Increase) (cond b (Some Positive) (cond d (Some Level) (cond e (Some Limit500) (cond f (Some Limit1000) (cond g (Some Limit2000) None))))))
by-answers test true b d e f g ha hb hd he hf hg = record { passes = ha; above = none-above test 5 (λ h. absurd (omega arith)) (λ h. absurd (omega arith)) (λ h. absurd (omega arith)) (λ h. absurd (omega arith)) (λ h. absurd (omega arith)) }
by-answers test false true d e f g ha hb hd he hf hg = record { passes = hb; above = none-above test 4 (λ h. ha) (λ h. absurd (omega arith)) (λ h. absurd (omega arith)) (λ h. absurd (omega arith)) (λ h. absurd (omega arith)) }
by-answers test false false true e f g ha hb hd he hf hg = record { passes = hd; above = none-above test 3 (λ h. ha) (λ h. hb) (λ h. absurd (omega arith)) (λ h. absurd (omega arith)) (λ h. absurd (omega arith)) }
by-answers test false false false true f g ha hb hd he hf hg = record { passes = he; above = none-above test 2 (λ h. ha) (λ h. hb) (λ h. hd) (λ h. absurd (omega arith)) (λ h. absurd (omega arith)) }
by-answers test false false false false true g ha hb hd he hf hg = record { passes = hf; above = none-above test 1 (λ h. ha) (λ h. hb) (λ h. hd) (λ h. he) (λ h. absurd (omega arith)) }
by-answers test false false false false false true ha hb hd he hf hg = record { passes = hg; above = none-above test 0 (λ h. ha) (λ h. hb) (λ h. hd) (λ h. he) (λ h. hf) }
by-answers test false false false false false false ha hb hd he hf hg = nowhere
  where
    nowhere : (strength : Strength) → test strength ≡ false
    nowhere Increase = ha
    nowhere Positive = hb
    nowhere Level = hd
    nowhere Limit500 = he
    nowhere Limit1000 = hf
    nowhere Limit2000 = hg

pub found-tells : (test : Strength → Bool) → Told test (find test strongest_first)
found-tells test = by-answers test (test Increase) (test Positive) (test Level) (test Limit500) (test Limit1000) (test Limit2000) refl refl refl refl refl refl
