use Rattle.std.proofs.Common.{◌∙◌}
use Rattle.rec_text.proofs.Whole.{canonical-whole}
use Rattle.enc_file.specs.Canonical.{canonical_lines}
use Rattle.comparison.proofs.encounters.first_difference.Goals as goal

pub returns : goal.returns
returns c = c.first_in.ensures (canonical_lines c.args.one.now) (canonical-whole c.args.one.now c.valid_law.ensures) (c.as_slice.ensures.value ∙ c.in_ok-text.ensures)
