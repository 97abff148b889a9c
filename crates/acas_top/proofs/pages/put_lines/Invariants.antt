use Rattle.std.proofs.Common.{take}
use Rattle.acas_top.specs.Pages.{texts_of}
use Rattle.acas_top.proofs.pages.put_lines.Given as goal

-- The lines so far were put.
abbrev pub invariant-loop-line : goal.invariant-loop-line
invariant-loop-line g l = g.S.LineSink.took l.fn.sink l.sink (texts_of (take l.line-index l.lines))
