use Rattle.std.specs.Cmp.Lexicographic.{told_text}
use Rattle.comparison.proofs.splitting.is_close.Goals as goal

pub returns : goal.returns
returns c = rw (c.as_slice.ensures) at (told_text c.args.line.now c.as_slice.result.now c.eq.result c.eq.ensures)
