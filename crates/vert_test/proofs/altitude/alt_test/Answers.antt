use Rattle.std.proofs.Common.{◌≡◌, ◌↔◌, ℕ, ◌<◌, ◌≤◌, Bool, IsTrue, ℤ, unsigned_abs, FitsSigned, w64, to_z, of_z, ap, ◌∙◌, inl, inr, arith, rules}
use Rattle.std.proofs.lemmas.Int.{to_z-of_z}
use Rattle.acas_base.specs.declared.level.Row.{Row}
use Rattle.acas_num.specs.Seconds.{need}
use Rattle.vert_test.specs.AltTest.{IsAltHit, are_opposite}
use Rattle.vert_test.proofs.altitude.alt_test.Goals as goal

-- Beyond ZTHR and converging, the time alone decides.
beyond : (dz dzdot : ℤ) (row : Row) (b : Bool) → unsigned_abs row.zthr < unsigned_abs dz → IsTrue (are_opposite dz dzdot) →
    (IsTrue b ↔ (need (unsigned_abs dz) (unsigned_abs dzdot) ≤ unsigned_abs row.tau)) → IsTrue b ↔ IsAltHit dz dzdot row
beyond dz dzdot row b far opposite soon = (
  λ h. inr (record { converging = opposite; soon = soon.0 h }),
  λ g. elim g [ inl near ↦ absurd (omega arith) | inr k ↦ soon.1 k.soon ],
)

abs-is : (n : ℕ) (z : ℤ) → FitsSigned w64 z → n ≡ unsigned_abs (to_z w64 (of_z w64 z)) → n ≡ unsigned_abs z
abs-is n z fits e = e ∙ ap unsigned_abs (to_z-of_z w64 z fits)

pub returns-then-are_opposite : goal.returns-then-are_opposite
returns-then-are_opposite c =
    let height = abs-is _ c.args.dz c.ranges.dz c.unsigned_abs-height.ensures.value in
    let rate = abs-is _ c.args.dzdot c.ranges.dzdot c.unsigned_abs-then-are_opposite.ensures.value in
    let tau = abs-is _ c.args.row.now.tau (search rules) c.unsigned_abs-then-are_opposite-2.ensures.value in
    let zthr = abs-is _ c.args.row.now.zthr (search rules) c.unsigned_abs.ensures.value in
    let far : unsigned_abs c.args.row.now.zthr < unsigned_abs c.args.dz = omega arith in
    let opposite : IsTrue (are_opposite c.args.dz c.args.dzdot) = search rules in
    beyond c.args.dz c.args.dzdot c.args.row.now _ far opposite (rw (height, rate, tau) at c.is_soon.ensures)
