use Rattle.deliveries.proofs.Befalling.{are-numbered}
use Rattle.deliveries.proofs.laws.numbers_law.Goals as goal

pub returns : goal.returns
returns c air journal legal = are-numbered air journal legal
