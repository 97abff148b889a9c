use Rattle.std.proofs.Common.{subst}
use Rattle.flight.specs.Inside.{IsInside}
use Rattle.rec_audit.proofs.judging.load_entries.Goals as goal

pub new-surveillance-requires : goal.new-surveillance-requires
new-surveillance-requires c = subst IsInside c.requires.same c.legal_law.ensures.inside
