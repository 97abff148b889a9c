-- Lines, field by field.
use Rattle.std.proofs.Common.{◌≡◌, ℕ, zero, suc, List, [], ◌∷◌, ◌++◌, refl, sym, ap, ◌∙◌, append_assoc}
use Rattle.std.specs.Prelude.{codes, replicate}
use Rattle.std.specs.List.{join_with_byte}
use Rattle.std.proofs.lemmas.List.{append-nil}
use Rattle.acas_base.specs.declared.setting.Profile.{Profile}
use Rattle.reasons.specs.Columns.{continued_columns, decided_columns, further_columns, named_columns, own_columns, position_column, projected_columns, reason_line, reply_columns, rule_columns, tested_columns, texts, texts_if_any, told_columns}
use Rattle.reasons.specs.Fields.{nothing, with_field, with_fields}
use Rattle.reasons.specs.declared.reason.Reason.{Reason}

-- Fields with nothing in them are as many commas.
pub with-nothing : (count : ℕ) (line : List ℕ) → line ++ replicate count 44 ≡ with_fields line (nothing count)
with-nothing zero line = append-nil line
with-nothing (suc count) line = sym (append_assoc line (44 ∷ []) (replicate count 44)) ∙ with-nothing count (with_field line [])

-- Fields with a comma between each two.
join-with : (field : List ℕ) (fields : List (List ℕ)) → join_with_byte 44 (field ∷ fields) ≡ with_fields field fields
join-with field [] = refl
join-with field (next ∷ fields) = ap (λ t. field ++ 44 ∷ t) (join-with next fields) ∙ after field next fields
  where
    after : (line next : List ℕ) (fields : List (List ℕ)) → line ++ 44 ∷ with_fields next fields ≡ with_fields (with_field line next) fields
    after line next [] = refl
    after line next (more ∷ fields) = after line (with_field next more) fields ∙ ap (λ t. with_fields t fields) (sym (append_assoc line (44 ∷ next) (44 ∷ more)))

-- The groups of a line, one after the other, are the line.
pub line-is : (profile : Profile) (reason : Reason) →
    with_fields (with_fields (with_fields (with_fields (with_fields (with_fields (with_fields (with_fields (with_fields (position_column.text reason) (texts named_columns reason)) (texts_if_any reply_columns reason.seen.reply)) (texts own_columns reason)) (texts_if_any tested_columns reason.seen.tested)) (texts_if_any projected_columns reason.seen.projected)) (texts_if_any continued_columns reason.continued)) (texts_if_any told_columns reason.told)) (texts decided_columns reason)) (texts (rule_columns profile) reason) ++ codes "\n"
    ≡ reason_line profile reason
unfolding reason_line
line-is profile reason = ap (λ t. t ++ codes "\n") (sym (join-with (position_column.text reason) (texts (further_columns profile) reason)))
