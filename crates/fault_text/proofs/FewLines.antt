-- A text has no more lines than bytes.
use Rattle.std.proofs.Common.{ℕ, suc, ◌+◌, ◌≤◌, ◌==◌, Bool, true, false, List, [], ◌∷◌, length, if◌then◌else◌, arith}
use Rattle.std.specs.List.{onto_first}
use Rattle.fault_text.specs.Lines.{lines_after}

one-more : (c : ℕ) (lines : List (List ℕ)) → length (onto_first c lines) ≤ length lines + 1
one-more c [] = omega arith
one-more c (line ∷ lines) = omega arith

-- The lines of a text from one byte on, by what this byte is.
by-byte : (return feed returned : Bool) (c n : ℕ) (after rest : List (List ℕ)) → length after ≤ n → length rest ≤ n
    → length (if return then [] ∷ after else if feed then (if returned then rest else [] ∷ rest) else onto_first c rest) ≤ suc n
by-byte true feed returned c n after rest h g = omega arith
by-byte false true true c n after rest h g = omega arith
by-byte false true false c n after rest h g = omega arith
by-byte false false returned c n after rest h g = let more = one-more c rest in omega arith

pub few-lines : (returned : Bool) (text : List ℕ) → length (lines_after returned text) ≤ length text
few-lines returned [] = omega arith
few-lines returned (c ∷ cs) = by-byte (c == 13) (c == 10) returned c (length cs) (lines_after true cs) (lines_after false cs) (few-lines true cs) (few-lines false cs)
