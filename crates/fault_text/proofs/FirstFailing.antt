-- The first of some named fields that fails.
use Rattle.std.proofs.Common.{◌≡◌, List, [], ◌∷◌, None, refl}
use Rattle.enc_file.specs.declared.refusal.Code.{Code}
use Rattle.fault_text.specs.Names.{first_failing}
use Rattle.fault_text.specs.declared.names.FieldName.{FieldName}

-- Where no field is left, none fails.
pub no-fields : (why : Code) (names : List FieldName) → first_failing why names [] ≡ None
no-fields why [] = refl
no-fields why (n ∷ ns) = refl
