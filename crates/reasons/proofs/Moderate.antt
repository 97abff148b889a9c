-- How large the numbers of a view are.
use Rattle.std.proofs.Common.{◌≤◌, ◌^◌, ℕ, zero, suc, ℤ, List, [], ◌∷◌, arith}
use Rattle.std.specs.Prelude.{All, pos, slice_index_or, unsigned_abs}
use Rattle.std.proofs.lemmas.List.Elements.{All-head, All-tail}
use Rattle.acas_base.specs.Choice.{separation_of}
use Rattle.acas_base.specs.Strengths.{place_of}
use Rattle.acas_base.specs.declared.advisory.Sense.{Sense}
use Rattle.acas_base.specs.declared.advisory.Sense.TheVariants.{Up, Down}
use Rattle.acas_base.specs.declared.advisory.Strength.{Strength}
use Rattle.acas_base.specs.declared.choice.Choice.{Choice}
use Rattle.acas_base.specs.declared.choice.Choice.TheVariants.{Fresh, Steady, Urgent}
use Rattle.acas_base.specs.declared.view.View.{View}
use Rattle.reasons.specs.Bounds.{IsModerate}

at : (xs : List ℤ) (k : ℕ) → All (λ n. unsigned_abs n ≤ 2 ^ 30) xs → unsigned_abs (slice_index_or xs k (pos 0)) ≤ 2 ^ 30
at [] k all = omega arith
at (x ∷ xs) zero all = All-head (λ n. unsigned_abs n ≤ 2 ^ 30) x xs all
at (x ∷ xs) (suc k) all = at xs k (All-tail (λ n. unsigned_abs n ≤ 2 ^ 30) x xs all)

-- Each separation of a view.
pub small-separation : (view : View) (sense : Sense) (strength : Strength) (choice : Choice) → IsModerate view → unsigned_abs (separation_of view sense strength choice) ≤ 2 ^ 30
small-separation view Up strength Fresh m = at view.first.up (place_of strength) m.first.up
small-separation view Up strength Steady m = at view.later.up (place_of strength) m.later.up
small-separation view Up strength Urgent m = at view.later.up (place_of strength) m.later.up
small-separation view Down strength Fresh m = at view.first.down (place_of strength) m.first.down
small-separation view Down strength Steady m = at view.later.down (place_of strength) m.later.down
small-separation view Down strength Urgent m = at view.later.down (place_of strength) m.later.down
