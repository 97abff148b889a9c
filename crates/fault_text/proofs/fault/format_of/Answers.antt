use Rattle.std.proofs.Common.{◌∙◌, ap}
use Rattle.std.specs.Prelude.{is_some}
use Rattle.enc_file.specs.Saying.{version_in}
use Rattle.fault_text.proofs.Refusals.{stands-record}
use Rattle.fault_text.proofs.fault.format_of.Goals as goal

pub version_of-requires : goal.version_of-requires
version_of-requires c =
    let at = stands-record c.args.text.now 1 c.place_of.result.number c.place_of.result.line.now c.requires.headed.fields c.place_of.ensures.place c.requires.headed.first in
    ap (λ f. is_some (version_in f)) at.1 ∙ c.requires.headed.header

pub returns : goal.returns
returns c =
    let at = stands-record c.args.text.now 1 c.place_of.result.number c.place_of.result.line.now c.requires.headed.fields c.place_of.ensures.place c.requires.headed.first in
    record { number = c.place_of.result.number; line = c.place_of.result.line.now; first = at.0; said = c.version_of.ensures }
