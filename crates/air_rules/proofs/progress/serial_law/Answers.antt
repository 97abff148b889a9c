use Rattle.air_rules.proofs.progress.serial_law.Goals as goal
use Rattle.air_rules.proofs.InOrder.{in-order-legal, serial-complete}
use Rattle.air_rules.proofs.OnlySerial.{only-serial}

pub returns : goal.returns
returns c = record {
  legal = λ air journal sound o. in-order-legal air journal sound o;
  complete = λ air journal sound s. serial-complete air journal sound s;
  only = λ air one two s t. only-serial air one two s t;
}
