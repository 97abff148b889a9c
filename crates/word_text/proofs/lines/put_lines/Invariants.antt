use Rattle.std.proofs.Common.{take}
use Rattle.word_text.proofs.lines.put_lines.Given as goal

-- The lines so far were put.
abbrev pub invariant-loop-line : goal.invariant-loop-line
invariant-loop-line g l = g.S.LineSink.took l.fn.sink l.sink (take l.line-index l.lines)
