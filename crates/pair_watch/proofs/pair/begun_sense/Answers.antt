use Rattle.std.proofs.Common.{sym, ◌∙◌}
use Rattle.std.proofs.lemmas.Bool.{cond-false, cond-true}
use Rattle.pair_watch.proofs.Steps.{begins-by}
use Rattle.pair_watch.proofs.pair.begun_sense.Goals as goal

pub returns-then-run_begins : goal.returns-then-run_begins
returns-then-run_begins c =
    let equal = sym c.equal_sense.ensures ∙ c.in_ok-sense.was in
    sym (cond-true c.run_begins.result _ _ c.if-run_begins.true) ∙ begins-by c.args.reader.now.read c.args.pair.low c.args.pair.high c.args.at c.in_ok-sense.sense c.run_begins.result c.requires.apart c.requires.last equal c.run_begins.ensures

pub returns-else-run_begins : goal.returns-else-run_begins
returns-else-run_begins c =
    let equal = sym c.equal_sense.ensures ∙ c.in_ok-sense.was in
    sym (cond-false c.run_begins.result _ _ c.if-run_begins.false) ∙ begins-by c.args.reader.now.read c.args.pair.low c.args.pair.high c.args.at c.in_ok-sense.sense c.run_begins.result c.requires.apart c.requires.last equal c.run_begins.ensures
