-- Commits, sends and takes: the three kinds of entry.
use Rattle.std.proofs.Common.{◌≡◌, ◌+◌, Bool, true, false, List, [], ◌∷◌, length, refl, arith}
use Rattle.acas_base.specs.declared.entry.Entry.{Entry}
use Rattle.acas_base.specs.declared.entry.Entry.TheVariants.{Commit, Send, Take}
use Rattle.air_rules.specs.Journal.{count_of}

abbrev pub is_commit : Entry → Bool
is_commit (Commit own cycle cells) = true
is_commit (Send own target number word) = false
is_commit (Take own p c good) = false

abbrev pub is_send : Entry → Bool
is_send (Commit own cycle cells) = false
is_send (Send own target number word) = true
is_send (Take own p c good) = false

abbrev pub is_take : Entry → Bool
is_take (Commit own cycle cells) = false
is_take (Send own target number word) = false
is_take (Take own p c good) = true

-- Each entry is of one kind.
pub parts : (J : List Entry) → length J ≡ count_of is_commit J + (count_of is_send J + count_of is_take J)
parts [] = refl
parts (Commit own cycle cells ∷ K) = let ih : length K ≡ count_of is_commit K + (count_of is_send K + count_of is_take K) = parts K in omega arith
parts (Send own target number word ∷ K) = let ih : length K ≡ count_of is_commit K + (count_of is_send K + count_of is_take K) = parts K in omega arith
parts (Take own p c good ∷ K) = let ih : length K ≡ count_of is_commit K + (count_of is_send K + count_of is_take K) = parts K in omega arith
