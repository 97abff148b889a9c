use Rattle.acas_num.proofs.Needs.{need-is, need-le}
use Rattle.acas_num.proofs.division.seconds_law.Goals as goal

pub returns-clause-least : goal.returns-clause-least
returns-clause-least c = need-is

pub returns-clause-by_product : goal.returns-clause-by_product
returns-clause-by_product c = need-le
