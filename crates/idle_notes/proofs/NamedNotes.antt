-- The notes of a line, by the kind that its first field names.
use Rattle.std.proofs.Common.{◌≡◌, ℕ, List, sym, ap}
use Rattle.std.specs.Prelude.{Option}
use Rattle.acas_base.specs.Encounter.{Parts}
use Rattle.acas_base.specs.declared.entry.Entry.{Entry}
use Rattle.enc_file.specs.Conditions.{RecordKind, kind_named}
use Rattle.enc_file.specs.Values.{field}
use Rattle.idle_notes.specs.Noted.{notes_by, notes_of}

pub named-notes : (e : Parts) (journal : Option (List Entry)) (kind : Option RecordKind) (fields : List (List ℕ))
    → kind ≡ kind_named 2 (field fields 0) → notes_by e journal kind fields ≡ notes_of e journal fields
unfolding notes_of
named-notes e journal kind fields is = ap (λ (k : Option RecordKind). notes_by e journal k fields) is
