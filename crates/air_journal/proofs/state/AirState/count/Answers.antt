use Rattle.std.proofs.Common.{arith}
use Rattle.air_journal.proofs.Bounds.{fits, most-few}
use Rattle.air_journal.proofs.state.AirState.count.Goals as goal

pub overflow_cast-result : goal.overflow_cast-result
overflow_cast-result c =
    let h = c.self.invariant.whole in
    let a = fits c.self.inside.encounter c.self.inside.journal.entries h.is_journal.valid h.is_journal.legal in
    let b = most-few c.self.inside.encounter h.is_journal.valid in
    omega (arith, c.len.ensures)
