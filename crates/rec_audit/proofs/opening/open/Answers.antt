use Rattle.std.proofs.Common.{arith}
use Rattle.rec_audit.proofs.Beginning.{count-wrong, later-small, opening-wrong}
use Rattle.rec_audit.specs.Opening.{no_head}
use Rattle.rec_text.specs.Recording.{head_line}
use Rattle.rec_audit.proofs.opening.open.Goals as goal

pub returns-then-not-take_line : goal.returns-then-not-take_line
returns-then-not-take_line c = no_head (rw (c.of-lines.ensures.left) at c.if-not-take_line.ensures.1)

pub take_encounter-requires-clause-small : goal.take_encounter-requires-clause-small
take_encounter-requires-clause-small c =
    omega (arith, c.requires, later-small c.args.bytes.now head_line c.of-lines.result c.take_line.new.self c.of-lines.ensures.left c.if-not-take_line.ensures)

pub returns-in-Err : goal.returns-in-Err
returns-in-Err c =
    opening-wrong c.args.bytes.now c.of-lines.result c.take_line.new.self c.in-Err.fault.line c.in-Err.fault.reason c.of-lines.ensures.left c.if-not-take_line.ensures (rw (c.in-Err.is) at c.in_ok-encounter.ensures)

pub returns-in-None : goal.returns-in-None
returns-in-None c =
    count-wrong c.args.bytes.now c.of-lines.result c.take_line.new.self c.take_encounter.new.lines c.in-Ok.encounter c.number-line.result c.of-lines.ensures.left c.of-lines.ensures.taken c.if-not-take_line.ensures (rw (c.in-Ok.is) at c.in_ok-encounter.ensures) c.in-None.ensures
    c.number-line.ensures
