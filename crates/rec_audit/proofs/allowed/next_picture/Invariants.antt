use Rattle.rec_audit.proofs.allowed.next_picture.Given as goal
use Rattle.craft_view.specs.Looking.{HasLooked}

abbrev pub invariant-loop-look : goal.invariant-loop-look
invariant-loop-look l = HasLooked l.encounter l.own l._look l.craft
