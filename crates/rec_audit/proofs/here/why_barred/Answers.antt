use Rattle.std.proofs.Common.{sym}
use Rattle.acas_base.specs.declared.entry.Entry.TheVariants as entries
use Rattle.rec_audit.proofs.here.why_barred.Goals as goal

pub unreachable-requires : goal.unreachable-requires
unreachable-requires c = c.requires (entries.Commit c.in-Commit.own c.in-Commit.cycle _) (sym c.in-Commit.is) c.in-None.ensures

pub unreachable-requires-in-None-send_cause : goal.unreachable-requires-in-None-send_cause
unreachable-requires-in-None-send_cause c = let may = c.in-None-send_cause.ensures in c.requires (entries.Send c.in-Send.own c.in-Send.target may.0 may.1) (sym c.in-Send.is) may.2

pub unreachable-requires-in-None-take_cause : goal.unreachable-requires-in-None-take_cause
unreachable-requires-in-None-take_cause c = c.requires (entries.Take c.in-Take.own c.in-Take.send c.in-Take.copy _) (sym c.in-Take.is) c.in-None-take_cause.ensures
