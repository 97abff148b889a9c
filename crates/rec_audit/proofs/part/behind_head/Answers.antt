use Rattle.std.proofs.Common.{◌∙◌, ap, drop, sym}
use Rattle.acas_lines.specs.Split.{lines_of}
use Rattle.rec_audit.proofs.Spellings.{headed-some}
use Rattle.rec_audit.proofs.part.behind_head.Goals as goal

pub unreachable-requires : goal.unreachable-requires
unreachable-requires c = headed-some (lines_of c.args.bytes.now) c.requires.headed (sym c.of-lines.ensures.left ∙ c.in-None.ensures.0)

pub returns-clause-left : goal.returns-clause-left
returns-clause-left c = sym (ap (drop 1) (sym c.of-lines.ensures.left ∙ c.in-Some.ensures.lines_are))
