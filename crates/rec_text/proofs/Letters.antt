-- Letters at the end of a text.
use Rattle.std.proofs.Common.{◌≡◌, ◌≢◌, ℕ, ◌+◌, ◌<◌, ◌%◌, ◌^◌, ◌⊎◌, inl, inr, Bool, true, false, List, [], ◌∷◌, ◌++◌, refl, sym, ◌∙◌, arith}
use Rattle.std.specs.Prelude.{MatchBool}
use Rattle.std.specs.Fmt.{decimal}
use Rattle.std.specs.List.{AllByRecursion}
use Rattle.std.proofs.lemmas.Fmt.{decimal_by_steps}
use Rattle.std.proofs.lemmas.List.{append-nil, append_cancel_right}
use Rattle.acas_base.specs.declared.advisory.Intent.{Intent}
use Rattle.advisory_report.specs.Cells.{flag, age_text}

-- This byte stands nowhere in a text.
abbrev pub Lacks : ℕ → List ℕ → Type 0
Lacks letter text = AllByRecursion (λ c. c ≢ letter) text

-- This letter is not the last of a text.
abbrev pub EndsOtherwise : ℕ → List ℕ → Type 0
EndsOtherwise letter text = (front : List ℕ) → text ≢ front ++ letter ∷ []

pub lacks-append : (letter : ℕ) (xs ys : List ℕ) → Lacks letter xs → Lacks letter ys → Lacks letter (xs ++ ys)
lacks-append letter [] ys h k = k
lacks-append letter (x ∷ xs) ys h k = (h.0, lacks-append letter xs ys h.1 k)

pub lacks-flag : (letter other : ℕ) (b : Bool) → other ≢ letter → Lacks letter (flag b (other ∷ []))
lacks-flag letter other true ne = (ne, tt)
lacks-flag letter other false ne = tt

digit-other : (letter k : ℕ) → (57 < letter) ⊎ (letter < 48) → k < 10 → 48 + k ≢ letter
digit-other letter k (inl high) few = λ e. absurd (omega arith)
digit-other letter k (inr low) few = λ e. absurd (omega arith)

-- A number's text is digits.
pub lacks-decimal : (letter n : ℕ) → (57 < letter) ⊎ (letter < 48) → n < 2 ^ 64 → Lacks letter (decimal n)
lacks-decimal letter n out h = decimal_by_steps (λ n ds. Lacks letter ds) (λ k few. (digit-other letter k out few, tt))
    (λ k ds many before. lacks-append letter ds ((48 + k % 10) ∷ []) before (digit-other letter (k % 10) out (omega arith), tt)) n h

lacks-last : (letter : ℕ) (front : List ℕ) → Lacks letter (front ++ letter ∷ []) → ⊥
lacks-last letter [] h = h.0 refl
lacks-last letter (x ∷ front) h = lacks-last letter front h.1

pub lacks-ends : (letter : ℕ) (text : List ℕ) → Lacks letter text → EndsOtherwise letter text
lacks-ends letter text h = λ front e. lacks-last letter front (rw e at h)

-- What a test says of a letter at the end.
abbrev pub Without : ℕ → List ℕ → Bool → Type 0
Without letter text true = Unit {0}
Without letter text false = EndsOtherwise letter text

-- Where one text with a letter or without is another one, they are the same.
pub flag-same : (letter : ℕ) (xs ys : List ℕ) (b d : Bool) → xs ++ flag b (letter ∷ []) ≡ ys ++ flag d (letter ∷ []) → Without letter xs b → Without letter ys d → (xs ≡ ys) × (b ≡ d)
flag-same letter xs ys true true e h k = (append_cancel_right xs ys (letter ∷ []) e, refl)
flag-same letter xs ys true false e h k = absurd (k xs (sym (e ∙ append-nil ys)))
flag-same letter xs ys false true e h k = absurd (h ys (sym (append-nil xs) ∙ e))
flag-same letter xs ys false false e h k = (sym (append-nil xs) ∙ e ∙ append-nil ys, refl)

-- What the cutter of a letter says.
pub without-front : (letter : ℕ) (text xs : List ℕ) (b : Bool) → text ≡ xs ++ flag b (letter ∷ []) → MatchBool b (Unit {0}) ((front : List ℕ) → text ≢ front ++ letter ∷ []) → Without letter xs b
without-front letter text xs true e h = tt
without-front letter text xs false e h = λ front same. h front (e ∙ append-nil xs ∙ same)

-- The three parts of an age's text.
pub without-c : (it : Intent) → it.age < 2 ^ 64 → (b : Bool) → Without 99 (decimal it.age) b
without-c it h true = tt
without-c it h false = lacks-ends 99 (decimal it.age) (lacks-decimal 99 it.age (inl (omega arith)) h)

pub without-x : (it : Intent) → it.age < 2 ^ 64 → (b : Bool) → Without 120 (decimal it.age ++ flag it.corrective (99 ∷ [])) b
without-x it h true = tt
without-x it h false = lacks-ends 120 (decimal it.age ++ flag it.corrective (99 ∷ []))
    (lacks-append 120 (decimal it.age) (flag it.corrective (99 ∷ [])) (lacks-decimal 120 it.age (inl (omega arith)) h) (lacks-flag 120 99 it.corrective (λ e. absurd (omega arith))))

pub without-r : (it : Intent) → it.age < 2 ^ 64 → (b : Bool) → Without 114 ((decimal it.age ++ flag it.corrective (99 ∷ [])) ++ flag it.crossing (120 ∷ [])) b
without-r it h true = tt
without-r it h false = lacks-ends 114 ((decimal it.age ++ flag it.corrective (99 ∷ [])) ++ flag it.crossing (120 ∷ []))
    (lacks-append 114 (decimal it.age ++ flag it.corrective (99 ∷ [])) (flag it.crossing (120 ∷ []))
    (lacks-append 114 (decimal it.age) (flag it.corrective (99 ∷ [])) (lacks-decimal 114 it.age (inl (omega arith)) h) (lacks-flag 114 99 it.corrective (λ e. absurd (omega arith))))
    (lacks-flag 114 120 it.crossing (λ e. absurd (omega arith))))

-- A text in the form of an age's is that age's, part by part.
pub record SameAge (it : Intent) (digits : List ℕ) (c x r : Bool) : Type 0 where
  pub age : digits ≡ decimal it.age
  pub corrective : c ≡ it.corrective
  pub crossing : x ≡ it.crossing
  pub turned : r ≡ it.turned

pub age-parts : (it : Intent) (digits : List ℕ) (c x r : Bool) → it.age < 2 ^ 64 → ((digits ++ flag c (99 ∷ [])) ++ flag x (120 ∷ [])) ++ flag r (114 ∷ []) ≡ age_text it
    → Without 99 digits c → Without 120 (digits ++ flag c (99 ∷ [])) x → Without 114 ((digits ++ flag c (99 ∷ [])) ++ flag x (120 ∷ [])) r → SameAge it digits c x r
age-parts it digits c x r h e one two three =
    let first = flag-same 114 ((digits ++ flag c (99 ∷ [])) ++ flag x (120 ∷ [])) ((decimal it.age ++ flag it.corrective (99 ∷ [])) ++ flag it.crossing (120 ∷ [])) r it.turned e three (without-r it h it.turned) in
    let second = flag-same 120 (digits ++ flag c (99 ∷ [])) (decimal it.age ++ flag it.corrective (99 ∷ [])) x it.crossing first.0 two (without-x it h it.crossing) in
    let third = flag-same 99 digits (decimal it.age) c it.corrective second.0 one (without-c it h it.corrective) in
    record { age = third.0; corrective = third.1; crossing = second.1; turned = first.1 }
