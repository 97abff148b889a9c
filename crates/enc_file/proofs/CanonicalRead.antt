-- The canonical text of an encounter reads as its canonical records.
use Rattle.std.proofs.Common.{◌≡◌, refl, ap, ◌∙◌}
use Rattle.csv.specs.Reading.{records, strip_bom}
use Rattle.acas_base.specs.Encounter.{Parts}
use Rattle.enc_file.specs.Canonical.{IsLabelled, canonical_records, canonical_text}
use Rattle.enc_file.specs.Records.{records_of, unquoted}
use Rattle.enc_file.proofs.LinesRead.{records-of-lines}
use Rattle.enc_file.proofs.PlainRecords.{canonical-readable}

-- It begins with the word of its header, and so with no byte order mark.
no-mark : (e : Parts) → strip_bom (canonical_text e) ≡ canonical_text e
unfolding strip_bom
no-mark e = refl

pub records-of-canonical : (e : Parts) → IsLabelled e → records_of (canonical_text e) ≡ canonical_records e
records-of-canonical e labels = ap (records unquoted) (no-mark e) ∙ records-of-lines (canonical_records e) (canonical-readable e labels)
