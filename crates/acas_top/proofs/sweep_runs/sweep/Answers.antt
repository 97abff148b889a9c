use Rattle.std.proofs.Common.{◌≤◌, List, length, arith, subst, sym}
use Rattle.std.specs.List.{AllZip}
use Rattle.std.proofs.lemmas.List.FromFn.{length-map-range_with_len}
use Rattle.acas_top.proofs.FewEach.{total-fits}
use Rattle.acas_top.specs.Sweeping.{HasCounted, Sizes}
use Rattle.sweep.specs.Numbers.{number_at, numbers}
use Rattle.sweep.specs.Totals.{Fit, total}
use Rattle.sweep.specs.declared.counts.Counts.{Counts}
use Rattle.acas_top.proofs.sweep_runs.sweep.Goals as goal

pub total-total-requires : goal.total-total-requires
total-total-requires g c =
    let sizes : Sizes = record { profile = c.args.profile; crafts = c.args.crafts; cycles = c.args.cycles } in
    let row = numbers c.args.first c.from.result in
    let counted = subst (λ (s : Sizes). AllZip (HasCounted s) row c.in_ok-list.list.items) c.new-job.ensures c.in_ok-list.ensures in
    let short : length row ≤ 4096 = (let n = length-map-range_with_len (number_at c.args.first) 0 c.from.result in omega (arith, n, c.from.ensures, c.requires.count)) in
    subst (λ (l : List Counts). Fit (total l)) (sym c.deref.ensures.value) (total-fits sizes c.requires.some c.requires.few c.requires.cycles row c.in_ok-list.list.items short counted)
