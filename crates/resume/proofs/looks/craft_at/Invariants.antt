use Rattle.resume.proofs.looks.craft_at.Given as goal
use Rattle.craft_view.specs.Looking.{HasLooked}

abbrev pub invariant-loop-look : goal.invariant-loop-look
invariant-loop-look l = HasLooked l.enc l.own l._look l.craft
