use Rattle.std.proofs.Common.{◌≡◌, ◌+◌, ◌++◌, ◌∷◌, [], subst, sym}
use Rattle.acas_top.proofs.ManyRuns.{more-faulty, more-played}
use Rattle.acas_top.specs.Many.{sums_of}
use Rattle.acas_top.specs.declared.many.PieceRun.{PieceRun}
use Rattle.acas_top.specs.declared.many_text.Sums.{Sums}
use Rattle.acas_top.proofs.many_text.sums_with.Goals as goal

pub returns-in-Played-clause-value : goal.returns-in-Played-clause-value
returns-in-Played-clause-value c list is =
    let now : Sums = record { refused = c.args.sums.refused; totals = c.with.result } in
    subst (λ (it : PieceRun). now ≡ sums_of (list ++ it ∷ [])) (sym c.in-Played.is) (more-played c.args.sums c.with.result c.in-Played.outcome c.with.ensures.value list is)

pub returns-in-Faulty-clause-value : goal.returns-in-Faulty-clause-value
returns-in-Faulty-clause-value c list is =
    let now : Sums = record { refused = c.args.sums.refused + 1; totals = c.args.sums.totals } in
    subst (λ (it : PieceRun). now ≡ sums_of (list ++ it ∷ [])) (sym c.in-Faulty.is) (more-faulty c.args.sums c.in-Faulty.field-0 c.in-Faulty.field-1 list is)
