-- The words of `fly` and of `picture`: a list of words, cut after the first one; addresses; and labels.
use Rattle.std.proofs.Common.{◌≡◌, ◌∙◌, ◌≤◌, ◌-◌, ◌==◌, ◌&&◌, Bool, true, false, ℕ, zero, suc, List, [], ◌∷◌, Option, Some, None, ap, ap₂, arith, codes, drop, get_or, length, map, refl, sym, take}
use Rattle.std.proofs.Math.Seq.{take-length}
use Rattle.std.proofs.lemmas.Bool.{false≢true}
use Rattle.std.proofs.lemmas.Bool.Decides.{nat_tests}
use Rattle.std.specs.List.{list_all}
use Rattle.std.specs.Prelude.{IfSome, MatchOption}
use Rattle.acas_top.specs.Words.{SayPicture}
use Rattle.labels.specs.Labels.{LabelWords, labels_in}
use Rattle.address_words.specs.Addresses.{are_addresses, is_address, is_glyph}

module _ {X Y : Type 0} (f : X → Y) where
  pub cut-first : (xs : List X) (x : X) → 1 ≤ length xs → x ≡ get_or xs 0 x → map f xs ≡ f x ∷ map f (take (length xs - 1) (drop 1 xs))
  cut-first [] x some is = absurd (omega arith)
  cut-first (y ∷ ys) x some is =
      let count : length (y ∷ ys) - 1 ≡ length ys = omega arith in
      let tail : take (length (y ∷ ys) - 1) (drop 1 (y ∷ ys)) ≡ ys = ap (λ k. take k ys) count ∙ take-length ys in
      ap₂ (λ a b. f a ∷ map f b) (sym is) (sym tail)

  pub some-mapped : (xs : List X) → 1 ≤ length xs → 1 ≤ length (map f xs)
  some-mapped [] some = some
  some-mapped (x ∷ xs) some = omega arith

first-holds : (one other : Bool) → (one && other) ≡ true → one ≡ true
first-holds true other both = refl
first-holds false other both = absurd (false≢true both)

second-holds : (one other : Bool) → (one && other) ≡ true → other ≡ true
second-holds true other both = both
second-holds false other both = absurd (false≢true both)

-- Each of them is an address.
pub all-addresses : (words : List (List ℕ)) → are_addresses words ≡ true → list_all is_address words ≡ true
all-addresses words are = first-holds _ _ (second-holds _ _ (second-holds _ _ are))

-- An address has six digits.
pub six-long : (word : List ℕ) → is_address word ≡ true → length word ≡ 6
six-long word is = let same = first-holds (length word == 6) (list_all is_glyph word) is in grind (arith, nat_tests)

-- What isn't zero is one at least.
pub some-left : (n : ℕ) → (n == 0) ≡ false → 1 ≤ n
some-left zero is = absurd (false≢true (sym is))
some-left (suc n) is = omega arith

-- The labels behind `picture` are those that the words say.
pub say-picture : (words rest : List (List ℕ)) (result : Option LabelWords) → words ≡ codes "picture" ∷ rest → 1 ≤ length rest
    → MatchOption result (labels_in rest ≡ None) (λ labels. labels_in rest ≡ Some labels) → IfSome result (SayPicture words)
say-picture words rest None is some said = tt
say-picture words rest (Some labels) is some said = record { rest = rest; is = is; some = some; said = said }
