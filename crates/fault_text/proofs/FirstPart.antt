-- The first line of a text with its end, and what stands behind it.
use Rattle.std.proofs.Common.{◌≡◌, ◌∙◌, ℕ, zero, suc, ◌-◌, ◌<◌, Bool, true, false, List, [], ◌∷◌, ◌++◌, length, take, drop, refl, sym, ap, ap₂, arith, append_assoc, eqb-true, inl, inr, subst}
use Rattle.std.specs.Prelude.{◌≢◌, ◌==◌, not}
use Rattle.std.specs.List.{onto_first}
use Rattle.std.proofs.lemmas.List.{append-nil, take-append-drop, take_rest}
use Rattle.fault_text.specs.Lines.{BeginsWithEnd, EndsLine, IsFirstLine, ends_before, lines_after}
use Rattle.fault_text.proofs.FirstLine.{NoEnd, first-all, first-inside, later, onto}

-- The end of a line, and what stands behind it.
two-end : (rest : List ℕ) → EndsLine rest (13 ∷ 10 ∷ [])
two-end [] = tt
two-end (next ∷ rest) = refl

feed-end : (rest : List ℕ) → EndsLine rest (10 ∷ [])
feed-end [] = tt
feed-end (next ∷ rest) = refl

return-end : (rest : List ℕ) → ((more : List ℕ) → rest ≡ 10 ∷ more → ⊥) → EndsLine rest (13 ∷ [])
return-end [] none = tt
return-end (next ∷ rest) none = by (next == 10) refl where
  by : (b : Bool) → (next == 10) ≡ b → not b ≡ true
  by true is = absurd (none rest (ap (λ n. n ∷ rest) (eqb-true next 10 is)))
  by false is = refl

abbrev pub both : List ℕ
both = 13 ∷ 10 ∷ []

-- A line is blank that has two bytes as its end.
pub both-first : (bytes rest : List ℕ) → bytes ≡ both ++ rest → IsFirstLine bytes [] rest
both-first bytes rest is = record { part = both; whole = is; ends = two-end rest; one = refl }

pub both-lines : (bytes rest : List ℕ) → bytes ≡ both ++ rest → lines_after false bytes ≡ [] ∷ lines_after false rest
both-lines bytes rest is = rw is refl

-- Or one byte.
record IsOneEnd (bytes rest : List ℕ) : Type 0 where
  first : IsFirstLine bytes [] rest
  lines : lines_after false bytes ≡ [] ∷ lines_after false rest

feed-first : (rest : List ℕ) → IsOneEnd (10 ∷ rest) rest
feed-first rest = record { first = record { part = 10 ∷ []; whole = refl; ends = feed-end rest; one = refl }; lines = refl }

return-lines : (rest : List ℕ) → ((more : List ℕ) → rest ≡ 10 ∷ more → ⊥) → lines_after true rest ≡ lines_after false rest
return-lines [] none = refl
return-lines (next ∷ rest) none = by (next == 10) refl where
  by : (b : Bool) → (next == 10) ≡ b → lines_after true (next ∷ rest) ≡ lines_after false (next ∷ rest)
  by true is = absurd (none rest (ap (λ n. n ∷ rest) (eqb-true next 10 is)))
  by false is = rw is refl

return-first : (rest : List ℕ) → ((more : List ℕ) → rest ≡ 10 ∷ more → ⊥) → IsOneEnd (13 ∷ rest) rest
return-first rest none = record { first = record { part = 13 ∷ []; whole = refl; ends = return-end rest none; one = refl }; lines = ap (λ t. [] ∷ t) (return-lines rest none) }

one-end : (bytes : List ℕ) → BeginsWithEnd bytes → ((more : List ℕ) → bytes ≢ both ++ more) → IsOneEnd bytes (drop 1 bytes)
one-end [] begins none = absurd (omega (arith, begins.some))
one-end (c ∷ cs) begins none = elim begins.first [
  | inl feed ↦ subst (λ (n : ℕ). IsOneEnd (n ∷ cs) cs) (sym feed) (feed-first cs)
  | inr return ↦ subst (λ (n : ℕ). IsOneEnd (n ∷ cs) cs) (sym return) (return-first cs (λ more is. none more (ap₂ (λ (n : ℕ) t. n ∷ t) return is)))
]

pub one-first : (bytes : List ℕ) → BeginsWithEnd bytes → ((more : List ℕ) → bytes ≢ both ++ more) → IsFirstLine bytes [] (take (length bytes - 1) (drop 1 bytes))
one-first bytes begins none = subst (λ t. IsFirstLine bytes [] t) (sym (take_rest bytes 1)) (one-end bytes begins none).first

pub one-lines : (bytes : List ℕ) → BeginsWithEnd bytes → ((more : List ℕ) → bytes ≢ both ++ more) → lines_after false bytes ≡ [] ∷ lines_after false (take (length bytes - 1) (drop 1 bytes))
one-lines bytes begins none = (one-end bytes begins none).lines ∙ ap (λ t. [] ∷ lines_after false t) (sym (take_rest bytes 1))

-- Bytes in front of the end of a line make no difference to where it ends.
pub longer-before : (next : ℕ) (front : List ℕ) (byte : ℕ) (more : List ℕ) → ends_before next (front ++ byte ∷ more) ≡ ends_before next (byte ∷ more)
longer-before next [] byte more = refl
longer-before next (c ∷ []) byte more = refl
longer-before next (c ∷ d ∷ front) byte more = longer-before next (d ∷ front) byte more

pub longer-end : (behind front part : List ℕ) → 0 < length part → EndsLine behind part → EndsLine behind (front ++ part)
longer-end [] front part some ends = tt
longer-end (next ∷ behind) front [] some ends = absurd (omega (arith, some))
longer-end (next ∷ behind) front (byte ∷ more) some ends = longer-before next front byte more ∙ ends

-- What has a line has a byte.
pub has-byte : (part line : List ℕ) (lines : List (List ℕ)) → lines_after false part ≡ line ∷ lines → 0 < length part
has-byte [] line lines is = absurd (omega (arith, ap length is))
has-byte (c ∷ cs) line lines is = omega arith

line-part : (bytes ending : List ℕ) (n : ℕ) → n < length bytes → NoEnd bytes n → lines_after false ending ≡ [] ∷ [] → lines_after false (take n bytes ++ ending) ≡ take n bytes ∷ []
line-part [] ending n h none one = absurd (omega (arith, h))
line-part (c ∷ cs) ending zero h none one = one
line-part (c ∷ cs) ending (suc n) h none one =
    onto c (take n cs ++ ending) (first-inside c cs n none) ∙ ap (onto_first c) (line-part cs ending n (omega (arith, h)) (later c cs n none) one)

-- Up to the place of its first end.
pub cut-at : (bytes rest : List ℕ) (n : ℕ) → n < length bytes → NoEnd bytes n → IsFirstLine (drop n bytes) [] rest → IsFirstLine bytes (take n bytes) rest
cut-at bytes rest n h none first = record {
  part = take n bytes ++ first.part;
  whole = sym (take-append-drop n bytes) ∙ ap (λ t. take n bytes ++ t) first.whole ∙ sym (append_assoc (take n bytes) first.part rest);
  ends = longer-end rest (take n bytes) first.part (has-byte first.part [] [] first.one) first.ends;
  one = line-part bytes first.part n h none first.one;
}

-- Where there is none.
pub cut-all : (bytes : List ℕ) → 0 < length bytes → NoEnd bytes (length bytes) → IsFirstLine bytes bytes []
cut-all bytes some none = record { part = bytes; whole = sym (append-nil bytes); ends = tt; one = first-all bytes some none }
