use Rattle.acas_top.proofs.Endings.{text-put}
use Rattle.acas_top.specs.declared.status.Status.TheVariants.{Done}
use Rattle.acas_top.proofs.drawing.write_picture.Goals as goal

pub returns : goal.returns
returns g c = text-put Done c.status_after.result _ _ _ _ _ _ tt c.status_after.ensures c.write.ensures
