use Rattle.std.proofs.Common.{◌∙◌, ap, drop}
use Rattle.std.proofs.lemmas.List.{drop-drop}
use Rattle.rec_audit.proofs.Telling.{next-drop}
use Rattle.rec_audit.proofs.spelled.skip.Goals as goal

pub loop-preserved : goal.loop-preserved
loop-preserved c =
    next-drop c.loop.lines c.next.new.self c.next.result c.next.ensures ∙ ap (drop 1) c.loop.invariant ∙ drop-drop 1 c.loop.counter c.args.lines.now.left
