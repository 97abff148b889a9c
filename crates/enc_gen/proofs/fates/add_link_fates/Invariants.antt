use Rattle.enc_gen.specs.Fates.{fate}
use Rattle.enc_gen.specs.Making.{Makes, each}
use Rattle.enc_gen.proofs.fates.add_link_fates.Given as goal

abbrev pub invariant-loop-before : goal.invariant-loop-before
invariant-loop-before l = Makes (each (fate l.sender l.receiver) l.before) l.initial.draws l.initial.fates.items l.draws l.fates.items
