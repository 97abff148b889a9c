use Rattle.enc_gen.specs.Fates.{link_fates}
use Rattle.enc_gen.specs.Making.{Makes, each}
use Rattle.enc_gen.proofs.fates.add_fates.Given as goal

abbrev pub invariant-loop-receiver : goal.invariant-loop-receiver
invariant-loop-receiver l = Makes (each (link_fates l.crafts l.cycles l.sender) l.receiver) l.initial.draws l.initial.fates.items l.draws l.fates.items
