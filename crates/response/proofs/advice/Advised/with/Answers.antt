use Rattle.std.proofs.Common.{sym, ◌∙◌}
use Rattle.response.proofs.Changes.{advised-other, advised-same}
use Rattle.response.proofs.advice.Advised.with.Goals as goal

pub returns-then-advise_same : goal.returns-then-advise_same
returns-then-advise_same c flight n is next shows =
    advised-same flight n c.args.cycle c.args.self.now c.args.now (sym c.advise_same.ensures ∙ c.if-advise_same.true) is next shows

pub returns : goal.returns
returns c flight n is next shows =
    advised-other flight n c.args.cycle c.args.self.now c.args.now (sym c.advise_same.ensures ∙ c.if-advise_same.false) is next shows
