-- What was put, number by number.
use Rattle.std.proofs.Common.{◌≡◌, ℕ, ◌+◌, ◌-◌, ◌*◌, ◌≤◌, List, [], ◌∷◌, length, length-append, ap, ◌∙◌, arith}
use Rattle.std.specs.List.{flat_map, range_with_len}
use Rattle.std.proofs.lemmas.Bool.{cond_both}
use Rattle.acas_base.specs.Encounter.{IsEncounter, Parts}
use Rattle.acas_base.specs.declared.entry.Entry.{Entry}
use Rattle.acas_lines.proofs.Ranges.{flat-more, length-flat}
use Rattle.air_journal.proofs.Bounds.{few-crafts}
use Rattle.response.specs.Response.{is_pair, lines_with, pair_line, pair_lines}

-- ---- how many lines there are

pub one-line : (e : Parts) (journal : List Entry) (a b : ℕ) → length (pair_lines e journal a b) ≤ 1
one-line e journal a b = cond_both (is_pair e journal a b) (pair_line e journal a b ∷ []) [] (λ lines. length lines ≤ 1) (λ _. omega arith) (λ _. omega arith)

-- Of the first pairs of an aircraft with those of higher index, and of the pairs of the first aircraft.
pub few-with : (e : Parts) (journal : List Entry) (a n : ℕ) → length (flat_map (pair_lines e journal a) (range_with_len (a + 1) n)) ≤ n
few-with e journal a n = let few = length-flat (pair_lines e journal a) 1 (a + 1) n (one-line e journal a) in omega (arith, few)

pub few-lines : (e : Parts) (journal : List Entry) (n : ℕ) → IsEncounter e → length (flat_map (lines_with e journal) (range_with_len 0 n)) ≤ n * 16
few-lines e journal n is =
    let crafts : length e.crafts ≤ 16 = few-crafts e is in
    length-flat (lines_with e journal) 16 0 n (λ a. let few = few-with e journal a (length e.crafts - (a + 1)) in omega (arith, few))

-- One number more.
pub one-more : {X : Type 0} (f : ℕ → List X) (first n : ℕ) → length (flat_map f (range_with_len first (n + 1))) ≡ length (flat_map f (range_with_len first n)) + length (f (first + n))
one-more f first n = ap length (flat-more f first n) ∙ length-append (flat_map f (range_with_len first n)) (f (first + n))
