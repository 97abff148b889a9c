use Rattle.acas_top.proofs.Variations.{all-played}
use Rattle.acas_top.proofs.varied.play_all.Goals as goal

pub returns : goal.returns
returns g c = all-played c.args.runs.now c.count.result c.run.result c.count.ensures.few c.count.ensures.value c.run.ensures
