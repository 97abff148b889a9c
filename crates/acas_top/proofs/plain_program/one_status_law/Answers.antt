use Rattle.acas_top.proofs.OneStatus.{one-status}
use Rattle.acas_top.proofs.plain_program.one_status_law.Goals as goal

pub returns : goal.returns
returns c = one-status (record {
  verdict = c.verdict_law.ensures.verdict;
  part = c.verdict_law.ensures.part;
  cut = c.split_law.ensures;
  pieces = c.cut_law.ensures;
  flown = c.once_law.ensures.once;
  flight = c.following_law.ensures.none;
  serial = c.serial_law.ensures.only;
})
