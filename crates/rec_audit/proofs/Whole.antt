-- A line is an entry's where its fields are.
use Rattle.std.proofs.Common.{◌≡◌, ℕ, ◌≤◌, List, [], ◌∷◌, ◌++◌, Option, Some, None, sym, ap, ◌∙◌}
use Rattle.std.proofs.lemmas.List.{append_cancel_right}
use Rattle.std.specs.List.{join_with_byte}
use Rattle.std.proofs.lemmas.List.Splits.{join_with_byte-slice_split}
use Rattle.acas_base.specs.declared.TheConstants.{CRAFTS}
use Rattle.acas_base.specs.declared.entry.Entry.{Entry}
use Rattle.rec_text.specs.Entries.{entry_fields}
use Rattle.rec_text.specs.Fields.{fields_of}
use Rattle.rec_audit.specs.Reading.{ReadsFields, ReadsLine}
use Rattle.rec_text.proofs.OneEntry.{line-fields}

pub reads-line : (count : ℕ) (body line : List ℕ) (r : Option Entry) → count ≤ CRAFTS → line ≡ body ++ 10 ∷ [] → ReadsFields count (fields_of body) r → ReadsLine count line r
reads-line count body line None few e h = λ entry fits same.
    let inside = append_cancel_right (join_with_byte 44 (entry_fields count entry)) body (10 ∷ []) (same ∙ e) in
    h entry fits (sym (line-fields count entry few fits) ∙ ap fields_of inside)
reads-line count body line (Some entry) few e h =
    (h.0, e ∙ ap (λ t. t ++ 10 ∷ []) (sym (join_with_byte-slice_split 44 body) ∙ ap (λ fields. join_with_byte 44 fields) h.1))
