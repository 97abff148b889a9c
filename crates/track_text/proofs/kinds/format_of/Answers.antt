use Rattle.std.proofs.Common.{◌≡◌, ◌∙◌, length, sym, ap, true, false}
use Rattle.std.specs.Prelude.{codes}
use Rattle.std.specs.Str.{bytes_eq}
use Rattle.enc_file.specs.Earlier.{version_of}
use Rattle.enc_file.specs.Records.{records_of}
use Rattle.enc_file.specs.Values.{field}
use Rattle.fault_text.proofs.Refusals.{stands-record}
use Rattle.track_text.specs.Earlier.{shared_of}
use Rattle.track_text.proofs.Versions.{headed-by, version-three, version-two}
use Rattle.track_text.proofs.kinds.format_of.Goals as goal

pub returns-then-eq : goal.returns-then-eq
returns-then-eq c = λ refusal r some.
    let header = headed-by (records_of c.args.text.now) (length r.earlier) r.earlier r.passed some in
    let stands = stands-record c.args.text.now 1 c.place_of.result.number c.place_of.result.line.now header.row c.place_of.ensures.place header.first in
    let two : bytes_eq c.field.result.now (codes "2") ≡ true = rw c.as_slice.ensures at (sym c.eq.ensures ∙ c.if-eq.true) in
    version-three header.row (version_of (shared_of r.earlier)) header.says (ap (λ f. bytes_eq (field f 1) (codes "2")) (sym stands.1) ∙ ap (λ w. bytes_eq w (codes "2")) (sym c.field.ensures) ∙ two)

pub returns : goal.returns
returns c = λ refusal r some.
    let header = headed-by (records_of c.args.text.now) (length r.earlier) r.earlier r.passed some in
    let stands = stands-record c.args.text.now 1 c.place_of.result.number c.place_of.result.line.now header.row c.place_of.ensures.place header.first in
    let two : bytes_eq c.field.result.now (codes "2") ≡ false = rw c.as_slice.ensures at (sym c.eq.ensures ∙ c.if-eq.false) in
    version-two header.row (version_of (shared_of r.earlier)) header.says (ap (λ f. bytes_eq (field f 1) (codes "2")) (sym stands.1) ∙ ap (λ w. bytes_eq w (codes "2")) (sym c.field.ensures) ∙ two)
