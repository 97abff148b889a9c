use Rattle.fault_text.proofs.Refusals.{counted-at}
use Rattle.fault_text.proofs.Leaves.{boxed}
use Rattle.fault_text.proofs.fault.explain.Goals as goal
use Rattle.fault_text.proofs.fault.explain.Goals.{in-Box+in_ok-why-in-Box, in_default}

pub place_of-place-requires-clause-counted : goal.place_of-place-requires-clause-counted
place_of-place-requires-clause-counted c = counted-at c.args.text.now c.args.refusal c.requires.refused

pub returns : goal.returns
returns c = record {
  line = c.place_of-place.result.line.now;
  place = c.place_of-place.ensures.place;
  tells = elim c.match-refusal.branch [
    | in-Box+in_ok-why-in-Box w ↦ rw w.why-is (boxed c.args.text.now c.args.refusal c.place_of-place.result.line.now w.in_ok-why-in-Box.why w.in-Box.is w.in_ok-why-in-Box.ensures)
    | in_default w ↦ rw w.why-is w.why_of-why.ensures
  ];
}
