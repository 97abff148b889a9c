use Rattle.acas_top.proofs.Endings.{was-put}
use Rattle.acas_top.proofs.streams.put_answer.Goals as goal

pub returns : goal.returns
returns g c = was-put c.args.answer c.status.result c.status_after-status.result _ _ _ _ _ c.status.ensures c.status_after-status.ensures c.write_text.ensures
