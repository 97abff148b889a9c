use Rattle.rec_audit.proofs.Ending.{more-number, stopped-number}
use Rattle.rec_text.specs.Recording.{closing_lines}
use Rattle.rec_audit.proofs.endings.other_end.Goals as goal

pub returns-then-not-same : goal.returns-then-not-same
returns-then-not-same c = stopped-number c.args.lines.now c.take_text-same.new.lines c.number-number.result (closing_lines c.args.state.now.encounter c.args.state.now.journal) c.if-not-same.ensures c.number-number.ensures

pub returns-in-Some : goal.returns-in-Some
returns-in-Some c =
    more-number c.args.lines.now c.take_text-same.new.lines c.next.new.self c.number-number.result (closing_lines c.args.state.now.encounter c.args.state.now.journal) c.in-Some.field-0.now c.if-not-same.ensures c.in-Some.ensures
    c.number-number.ensures
