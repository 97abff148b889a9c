use Rattle.std.proofs.Common.{subst}
use Rattle.pair_watch.proofs.Putting.{changed-alone}
use Rattle.pair_watch.proofs.intervals.put_changed.Goals as goal

pub returns-else-low-own : goal.returns-else-low-own
returns-else-low-own g c =
    subst (g.S.LineSink.took c.args.sink.now c.put_pair.new.sink)
    (changed-alone c.args.state.now.encounter c.args.state.now.journal c.args.reader.now.read c.args.own c.args.low c.args.at c.requires.commit c.requires.last c.if-low-own.false c.requires.own) c.put_pair.ensures
