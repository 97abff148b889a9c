use Rattle.std.proofs.Common.{◌≡◌, false, true, sym, ◌∙◌}
use Rattle.equal_rows.proofs.Lasting.{lasts-on, lasts-stop}
use Rattle.possibilities.specs.Listing.{keeps}
use Rattle.possibilities.proofs.marked.last_from.Goals as goal

pub returns-then-not-keeps-clause-value : goal.returns-then-not-keeps-clause-value
returns-then-not-keeps-clause-value g c =
    let f = keeps (g.M.Marked.mark c.args.marked.now) in
    let unmet : f c.loop-cycle.cycle ≡ false = sym c.keeps.ensures ∙ c.if-not-keeps.true in
    sym (c.loop-cycle.invariant ∙ lasts-stop f c.loop-cycle.cycle c.args.cycles c.loop-cycle-test.true unmet)

pub loop-cycle-preserved : goal.loop-cycle-preserved
loop-cycle-preserved g c =
    let f = keeps (g.M.Marked.mark c.args.marked.now) in
    let met : f c.loop-cycle.cycle ≡ true = sym c.keeps.ensures ∙ c.if-not-keeps.false in
    c.loop-cycle.invariant ∙ lasts-on f c.loop-cycle.cycle c.args.cycles c.loop-cycle-test.true met
