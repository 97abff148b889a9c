use Rattle.std.proofs.Common.{◌∙◌}
use Rattle.rec_audit.proofs.Cutting.{skips-end, skips-more}
use Rattle.rec_audit.proofs.Making.{same-slice, other-slice}
use Rattle.rec_audit.proofs.opening.skip_part.Goals as goal

pub returns-then-eq : goal.returns-then-eq
returns-then-eq c =
    skips-end c.args.lines.now c.loop-line.lines c.next.new.self c.in-Some.line.now c.loop-line.invariant c.in-Some.ensures (same-slice c.in-Some.line.now c.as_slice.result.now c.eq.result c.eq.ensures c.if-eq.true ∙ c.as_slice.ensures)

pub loop-line-preserved : goal.loop-line-preserved
loop-line-preserved c =
    skips-more c.args.lines.now c.loop-line.lines c.next.new.self c.in-Some.line.now c.loop-line.invariant c.in-Some.ensures (λ e. other-slice c.in-Some.line.now c.as_slice.result.now c.eq.result c.eq.ensures c.if-eq.false (rw (c.as_slice.ensures) e))
