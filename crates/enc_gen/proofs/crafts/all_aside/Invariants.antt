use Rattle.std.proofs.Common.{[], take}
use Rattle.enc_gen.specs.Making.{Makes, each_of}
use Rattle.enc_gen.specs.Passing.{aside}
use Rattle.enc_gen.proofs.crafts.all_aside.Given as goal

abbrev pub invariant-loop-draft : goal.invariant-loop-draft
invariant-loop-draft l = Makes (each_of aside (take l.draft-index l.drafts)) l.initial.draws [] l.draws l.crafts.items
