use Rattle.std.proofs.Common.{◌∙◌, ap}
use Rattle.acas_lines.specs.Lines.{joined}
use Rattle.rec_audit.proofs.Beginning.{part-bytes}
use Rattle.rec_audit.proofs.opening.part_in.Goals as goal

pub returns : goal.returns
returns c =
    let s = c.if-not-skip_part.ensures in
    record {
      part = s.part;
      rest = c.skip_part.new.lines.left;
      cut = rw (c.again-after.ensures) at s.cut;
      text_is = part-bytes c.again-after.result c.skip_part.new.lines c.rest-text.result.now c.rest.result.now s (rw (c.again-after.ensures) c.rest-text.ensures) c.rest.ensures;
    }
