use Rattle.std.proofs.Common.{◌≡◌, map, take}
use Rattle.std.specs.Prelude.{filter_map}
use Rattle.std.specs.String.{string_bytes}
use Rattle.address_words.specs.Addresses.{index_in}
use Rattle.address_words.proofs.naming.indices.Given as goal

-- The indices that the words so far name.
abbrev pub invariant-loop-word : goal.invariant-loop-word
invariant-loop-word l = l.list.items ≡ filter_map (index_in l.crafts l.among) (map string_bytes (take l.word-index l.words))
