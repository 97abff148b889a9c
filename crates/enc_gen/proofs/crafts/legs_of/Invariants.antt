use Rattle.std.proofs.Common.{◌≡◌, take}
use Rattle.std.specs.List.{flat_map}
use Rattle.enc_gen.specs.Crafts.{legs_of}
use Rattle.enc_gen.proofs.crafts.legs_of.Given as goal

abbrev pub invariant-loop-draft : goal.invariant-loop-draft
invariant-loop-draft l = l.legs.items ≡ flat_map (legs_of l.cycles) (take l.draft-index l.drafts)
