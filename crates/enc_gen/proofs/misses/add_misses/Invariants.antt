use Rattle.enc_gen.specs.Making.{Makes, each}
use Rattle.enc_gen.specs.Misses.{pair_miss}
use Rattle.enc_gen.proofs.misses.add_misses.Given as goal

abbrev pub invariant-loop-target : goal.invariant-loop-target
invariant-loop-target l = Makes (each (pair_miss l.cycles l.own) l.target) l.initial.draws l.initial.misses.items l.draws l.misses.items
