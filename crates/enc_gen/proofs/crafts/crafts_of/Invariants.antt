use Rattle.std.proofs.Common.{◌≡◌, map, take}
use Rattle.enc_gen.specs.Crafts.{spec_of}
use Rattle.enc_gen.proofs.crafts.crafts_of.Given as goal

abbrev pub invariant-loop-draft : goal.invariant-loop-draft
invariant-loop-draft l = l.crafts.items ≡ map spec_of (take l.draft-index l.drafts)
