use Rattle.std.proofs.Common.{[]}
use Rattle.enc_gen.specs.Making.{Makes, each}
use Rattle.enc_gen.specs.Fates.{own_fates}
use Rattle.enc_gen.proofs.fates.draw_fates.Given as goal

abbrev pub invariant-loop-sender : goal.invariant-loop-sender
invariant-loop-sender l = Makes (each (own_fates l.crafts l.cycles) l.sender) l.initial.draws [] l.draws l.fates.items
