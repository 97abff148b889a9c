use Rattle.std.proofs.Common.{◌∙◌, sym, ap, drop}
use Rattle.fault_text.specs.Names.{first_failing}
use Rattle.fault_text.proofs.FirstFailing.{no-fields}
use Rattle.fault_text.proofs.search.leftmost.Goals as goal

pub returns-in_default : goal.returns-in_default
returns-in_default c =
    let names = drop c.loop-name.name-index c.args.names.now in
    sym (c.loop-name.invariant ∙ ap (first_failing c.args.code names) c.in_default.ensures.0 ∙ no-fields c.args.code names)
