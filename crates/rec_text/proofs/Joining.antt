-- A line of fields, each after a comma.
use Rattle.std.proofs.Common.{◌≡◌, ℕ, List, [], ◌∷◌, ◌++◌, map, take, refl, sym, ap, ◌∙◌, append_assoc}
use Rattle.std.specs.Prelude.{codes}
use Rattle.std.specs.Fmt.{decimal}
use Rattle.std.specs.List.{flat_map, join_with_byte}
use Rattle.std.proofs.lemmas.List.{append-nil}
use Rattle.acas_base.specs.declared.advisory.Cell.{Cell}
use Rattle.acas_base.specs.declared.advisory.Cells.{Cells}
use Rattle.acas_base.specs.declared.entry.Entry.TheVariants.{Commit}
use Rattle.advisory_report.specs.Cells.{cell_text}
use Rattle.rec_text.specs.Entries.{entry_line}

joined-flat : (field : List ℕ) (fields : List (List ℕ)) → join_with_byte 44 (field ∷ fields) ≡ field ++ flat_map (λ next. 44 ∷ next) fields
joined-flat field [] = sym (append-nil field)
joined-flat field (next ∷ fields) = ap (λ t. field ++ 44 ∷ t) (joined-flat next fields)

flat-cells : (cells : List Cell) → flat_map (λ next. 44 ∷ next) (map cell_text cells) ≡ flat_map (λ cell. 44 ∷ cell_text cell) cells
flat-cells [] = refl
flat-cells (cell ∷ cells) = ap (λ t. (44 ∷ cell_text cell) ++ t) (flat-cells cells)

regroup : (a own cycle cells end : List ℕ) → (((a ++ 44 ∷ own) ++ 44 ∷ cycle) ++ cells) ++ end ≡ (a ++ 44 ∷ (own ++ 44 ∷ (cycle ++ cells))) ++ end
regroup a own cycle cells end = simp append_assoc

spelled : (own cycle cells tail : List ℕ) → tail ≡ cycle ++ cells → (((codes "c" ++ 44 ∷ own) ++ 44 ∷ cycle) ++ cells) ++ codes "\n" ≡ (codes "c" ++ 44 ∷ (own ++ 44 ∷ tail)) ++ 10 ∷ []
spelled own cycle cells tail e = regroup (codes "c") own cycle cells (codes "\n") ∙ ap (λ t. (codes "c" ++ 44 ∷ (own ++ 44 ∷ t)) ++ 10 ∷ []) (sym e)

-- The line of a commit, part by part.
pub commit-spelled : (own cycle count : ℕ) (cells : Cells) →
    (((codes "c" ++ 44 ∷ decimal own) ++ 44 ∷ decimal cycle) ++ flat_map (λ cell. 44 ∷ cell_text cell) (take count cells.list)) ++ codes "\n" ≡ entry_line count (Commit own cycle cells)
commit-spelled own cycle count cells =
    let rest = joined-flat (decimal cycle) (map cell_text (take count cells.list)) ∙ ap (λ t. decimal cycle ++ t) (flat-cells (take count cells.list)) in
    spelled (decimal own) (decimal cycle) (flat_map (λ cell. 44 ∷ cell_text cell) (take count cells.list)) (join_with_byte 44 (decimal cycle ∷ map cell_text (take count cells.list))) rest
