use Rattle.rec_audit.proofs.Recorded.{replayed-loaded, wrong-opening}
use Rattle.rec_audit.proofs.judging.load_as.Goals as goal

pub returns-in_ok-state-in-Ok : goal.returns-in_ok-state-in-Ok
returns-in_ok-state-in-Ok c =
    replayed-loaded c.args.extent c.args.bytes.now c.in-Ok.opened.encounter c.in-Ok.opened.count c.in-Ok.opened.lines c.load_entries.result (rw (c.in-Ok.is) at c.in_ok-opened.ensures) c.load_entries.ensures

pub returns-in-Err : goal.returns-in-Err
returns-in-Err c = wrong-opening c.args.extent c.args.bytes.now c.in-Err.fault.line c.in-Err.fault.reason (rw (c.in-Err.is) at c.in_ok-opened.ensures)
