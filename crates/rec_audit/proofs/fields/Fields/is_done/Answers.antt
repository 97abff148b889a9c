use Rattle.std.proofs.Common.{◌≡◌, refl, Option, Some, None, Bor, Bool, true, false, not, List, ℕ, []}
use Rattle.std.specs.Prelude.{is_some}
use Rattle.rec_audit.specs.Fields.{fields_left}
use Rattle.rec_text.proofs.Splits.{some_field}
use Rattle.rec_audit.proofs.fields.Fields.is_done.Goals as goal

done : (rest : Option (Bor (List ℕ))) (r : Bool) → is_some rest ≡ not r → (r ≡ true → fields_left rest ≡ []) × (fields_left rest ≡ [] → r ≡ true)
done None true h = (λ e. refl, λ e. refl)
done None false h = absurd cc
done (Some rest) true h = absurd cc
done (Some rest) false h = (λ e. absurd cc, λ e. absurd (some_field rest.now e))

pub returns : goal.returns
returns c = rw (← c.self.view_is) (done c.self.inside.rest c.is_none.result c.is_none.ensures)
