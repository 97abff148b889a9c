-- Bounded searches: the first number with a property, and the first of those with the least value.
use Rattle.std.proofs.Common.{◌≡◌, ◌⊎◌, ℕ, zero, suc, ◌<◌, ◌≤◌, Bool, true, false, Option, Some, None, sym, refl, ◌∙◌, subst, arith, inl, inr, le_refl}
use Rattle.std.proofs.lemmas.Bool.{cases_Bool, cases_lt, cases_eq}

-- The first number with the property P; the numbers before it have Q.
pub record IsFirst (P Q : ℕ → Type 0) (k : ℕ) : Type 0 where
  pub holds : P k
  pub before : (m : ℕ) → m < k → Q m

-- All numbers below n have the property.
abbrev pub AllBelow : (ℕ → Type 0) → ℕ → Type 0
AllBelow Q n = (m : ℕ) → m < n → Q m

pub first-of-all : (P Q : ℕ → Type 0) → ((k : ℕ) → P k ⊎ Q k) → (n : ℕ) → ((k : ℕ) × IsFirst P Q k) ⊎ AllBelow Q n
first-of-all P Q d zero = inr (λ m h. absurd (omega arith))
first-of-all P Q d (suc n) = go (first-of-all P Q d n) (d n)
  where
    go : ((k : ℕ) × IsFirst P Q k) ⊎ AllBelow Q n → P n ⊎ Q n → ((k : ℕ) × IsFirst P Q k) ⊎ AllBelow Q (suc n)
    go (inl f) x = inl f
    go (inr q) (inl p) = inl (n, record { holds = p; before = q })
    go (inr q) (inr r) = inr (λ m h. elim (cases_eq m n) [ inl e ↦ subst Q (sym e) r | inr ne ↦ q m (omega arith) ])

-- Of the numbers below n that pass a test, the first of those with the least value.
pub record IsLeast (f : ℕ → ℕ) (test : ℕ → Bool) (n k : ℕ) : Type 0 where
  pub passes : test k ≡ true
  pub least : (m : ℕ) → m < n → test m ≡ true → f k ≤ f m
  pub first : (m : ℕ) → m < k → test m ≡ true → f k < f m

pub least-of : (f : ℕ → ℕ) (test : ℕ → Bool) (n : ℕ) → ((k : ℕ) × IsLeast f test n k) ⊎ AllBelow (λ m. test m ≡ false) n
least-of f test zero = inr (λ m h. absurd (omega arith))
least-of f test (suc n) = go (least-of f test n) (cases_Bool (test n))
  where
    go : ((k : ℕ) × IsLeast f test n k) ⊎ AllBelow (λ m. test m ≡ false) n → (test n ≡ true) ⊎ (test n ≡ false) → ((k : ℕ) × IsLeast f test (suc n) k) ⊎ AllBelow (λ m. test m ≡ false) (suc n)
    go (inl (k, l)) (inr fails) = inl (
      k,
      record {
        passes = l.passes;
        least = λ m h t. elim (cases_eq m n) [
          | inl e ↦ absurd (let z : false ≡ true = sym fails ∙ subst (λ (x : ℕ). test x ≡ true) e t in cc)
          | inr ne ↦ l.least m (omega arith) t
        ];
        first = l.first;
      },
    )
    go (inl (k, l)) (inl passes) = elim (cases_lt (f n) (f k)) [
      | inl lt ↦ inl (
        n,
        record {
          passes = passes;
          least = λ m h t. elim (cases_eq m n) [
            | inl e ↦ subst (λ (x : ℕ). f n ≤ f x) (sym e) (le_refl (f n))
            | inr ne ↦ let z : f k ≤ f m = l.least m (omega arith) t in omega arith
          ];
          first = λ m h t. let z : f k ≤ f m = l.least m h t in omega arith;
        },
      )
      | inr ge ↦ inl (
        k,
        record {
          passes = l.passes;
          least = λ m h t. elim (cases_eq m n) [
            | inl e ↦ subst (λ (x : ℕ). f k ≤ f x) (sym e) ge
            | inr ne ↦ l.least m (omega arith) t
          ];
          first = l.first;
        },
      )
    ]
    go (inr none) (inl passes) = inl (
      n,
      record {
        passes = passes;
        least = λ m h t. elim (cases_eq m n) [
          | inl e ↦ subst (λ (x : ℕ). f n ≤ f x) (sym e) (le_refl (f n))
          | inr ne ↦ absurd (let z : false ≡ true = sym (none m (omega arith)) ∙ t in cc)
        ];
        first = λ m h t. absurd (let z : false ≡ true = sym (none m h) ∙ t in cc);
      },
    )
    go (inr none) (inr fails) = inr (λ m h. elim (cases_eq m n) [ inl e ↦ subst (λ (x : ℕ). test x ≡ false) (sym e) fails | inr ne ↦ none m (omega arith) ])

pub some-or-none : {X : Type 0} (o : Option X) → ((x : X) × (o ≡ Some x)) ⊎ (o ≡ None)
some-or-none None = inr refl
some-or-none (Some x) = inl (x, refl)
