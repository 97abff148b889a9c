use Rattle.std.proofs.Common.{subst}
use Rattle.air_journal.specs.States.{State}
use Rattle.journal_tables.specs.Places.{cycle_lines}
use Rattle.journal_tables.proofs.places.PlacesText.put.Goals as goal

pub returns : goal.returns
returns g c =
    let first = rw c.place_names.ensures at c.line.ensures in
    let put = subst (λ (s : State). g.S.LineSink.took c.line.new.self c.put.new.sink (cycle_lines s.encounter s.journal)) c.new.ensures c.put.ensures in
    g.met.S.LineSink.then _ _ _ _ _ first put
