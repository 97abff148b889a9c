use Rattle.std.proofs.Common.{[]}
use Rattle.enc_gen.specs.Making.{Makes, each}
use Rattle.enc_gen.specs.Misses.{own_misses}
use Rattle.enc_gen.proofs.misses.draw_misses.Given as goal

abbrev pub invariant-loop-own : goal.invariant-loop-own
invariant-loop-own l = Makes (each (own_misses l.crafts l.cycles) l.own) l.initial.draws [] l.draws l.misses.items
