-- Names that stand apart.
use Rattle.std.proofs.Common.{◌≡◌, ℕ, zero, suc, ◌<◌, Bool, true, false, not, ◌||◌, refl, subst, sym, arith, inl, inr}
use Rattle.std.proofs.lemmas.Bool.{cases_eq}
use Rattle.acas_base.specs.Encounter.{Parts}
use Rattle.plan_panel.specs.Laws.{AreApart, AreNamesApart}
use Rattle.plan_panel.specs.Names.{lies_over, lies_over_either, lies_over_some}

both-false : (a b : Bool) → a || b ≡ false → (a ≡ false) × (b ≡ false)
both-false true b h = absurd (cc h)
both-false false b h = (refl, h)

not-true : (b : Bool) → not b ≡ true → b ≡ false
not-true true h = absurd (cc h)
not-true false h = refl

apart-each : (top : ℕ) (e : Parts) (own cycle n other : ℕ) → lies_over_some top e own cycle n ≡ false → other < n → AreApart top e own cycle other e.cycles × AreApart top e own cycle other 1
apart-each top e own cycle zero other none within = absurd (omega arith)
apart-each top e own cycle (suc n) other none within =
    let both = both-false (lies_over_some top e own cycle n) (lies_over_either top e own cycle n) none in
    elim (cases_eq other n) [
      | inl is ↦ subst (λ (k : ℕ). AreApart top e own cycle k e.cycles × AreApart top e own cycle k 1) (sym is) (both-false (lies_over top e own cycle n e.cycles) (lies_over top e own cycle n 1) both.1)
      | inr isnt ↦ apart-each top e own cycle n other both.0 (omega arith)
    ]

pub names-apart : (top : ℕ) (e : Parts) → AreNamesApart top e
names-apart top e own cycle other room lower = apart-each top e own cycle own other (not-true (lies_over_some top e own cycle own) room) lower
