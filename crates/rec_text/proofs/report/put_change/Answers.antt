use Rattle.std.proofs.Common.{ap, sym, ◌∙◌, subst}
use Rattle.std.specs.Prelude.{option_to_list}
use Rattle.rec_text.proofs.Reporting.{quiet-none}
use Rattle.rec_text.proofs.report.put_change.Goals as goal

pub returns-then-is_quiet : goal.returns-then-is_quiet
returns-then-is_quiet g c =
    let a = c.args in
    let none = quiet-none a.cycle a.address a.before.now a.after.now (sym c.is_quiet.ensures.value ∙ c.if-is_quiet.true) in
    subst (g.S.LineSink.took a.sink.now a.sink.now) (ap option_to_list (sym none)) (g.met.S.LineSink.nothing _)
