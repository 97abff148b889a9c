use Rattle.acas_top.proofs.ManyRuns.{all-run, few-run}
use Rattle.acas_top.proofs.many.run_all.Goals as goal

pub returns : goal.returns
returns g c =
    let all = all-run c.args.runs.now c.count.result c.run.result c.count.ensures.few c.count.ensures.value c.run.ensures in
    record { runs = all; few = few-run c.args.runs.now c.count.result c.run.result c.count.ensures.few c.count.ensures.value all }
