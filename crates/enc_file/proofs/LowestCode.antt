-- The lowest code at which a test holds.
use Rattle.std.proofs.Common.{◌≡◌, ℕ, ◌+◌, ◌<◌, ◌≤◌, Bool, true, false, Option, Some, None, refl, sym, ap, ◌∙◌, arith, inl, inr}
use Rattle.std.specs.Prelude.{◌==◌, if◌then◌else◌}
use Rattle.std.proofs.lemmas.Bool.{cases_lt, false≢true}
use Rattle.enc_file.specs.Codes.{code_number}
use Rattle.enc_file.specs.declared.refusal.Code.{Code}
use Rattle.enc_file.specs.declared.refusal.Code.TheVariants as code

abbrev pub or_else : Bool → Code → Option Code → Option Code
or_else b why rest = if b then Some why else rest

abbrev pub lowest_of : (Code → Bool) → Option Code
lowest_of f =
    or_else (f code.Header) code.Header (or_else (f code.Kind) code.Kind (or_else (f code.Fields) code.Fields (or_else (f code.Number) code.Number
    (or_else (f code.Address) code.Address (or_else (f code.Repeat) code.Repeat (or_else (f code.Unknown) code.Unknown (or_else (f code.Count) code.Count
    (or_else (f code.Box) code.Box (or_else (f code.Mask) code.Mask (or_else (f code.NoEnd) code.NoEnd (or_else (f code.After) code.After None)))))))))))

pub lowest-same : (f g : Code → Bool) → ((why : Code) → f why ≡ g why) → lowest_of f ≡ lowest_of g
lowest-same f g e =
    rw (e code.Header, e code.Kind, e code.Fields, e code.Number, e code.Address, e code.Repeat, e code.Unknown, e code.Count, e code.Box, e code.Mask, e code.NoEnd, e code.After) refl

-- A code is told by its number.
code_at : ℕ → Code
code_at n =
    if n == 1 then code.Header else if n == 2 then code.Kind else if n == 3 then code.Fields else if n == 4 then code.Number else
    if n == 5 then code.Address else if n == 6 then code.Repeat else if n == 7 then code.Unknown else if n == 8 then code.Count else
    if n == 9 then code.Box else if n == 10 then code.Mask else if n == 11 then code.NoEnd else code.After

at-number : (why : Code) → code_at (code_number why) ≡ why
unfolding code_at
at-number code.Header = refl
at-number code.Kind = refl
at-number code.Fields = refl
at-number code.Number = refl
at-number code.Address = refl
at-number code.Repeat = refl
at-number code.Unknown = refl
at-number code.Count = refl
at-number code.Box = refl
at-number code.Mask = refl
at-number code.NoEnd = refl
at-number code.After = refl

pub same-code : (a b : Code) → code_number a ≡ code_number b → a ≡ b
same-code a b e = sym (at-number a) ∙ ap code_at e ∙ at-number b

pub number-within : (why : Code) → (1 ≤ code_number why) × (code_number why ≤ 12)
number-within code.Header = (omega arith, omega arith)
number-within code.Kind = (omega arith, omega arith)
number-within code.Fields = (omega arith, omega arith)
number-within code.Number = (omega arith, omega arith)
number-within code.Address = (omega arith, omega arith)
number-within code.Repeat = (omega arith, omega arith)
number-within code.Unknown = (omega arith, omega arith)
number-within code.Count = (omega arith, omega arith)
number-within code.Box = (omega arith, omega arith)
number-within code.Mask = (omega arith, omega arith)
number-within code.NoEnd = (omega arith, omega arith)
number-within code.After = (omega arith, omega arith)

-- The test holds at no code below a number.
abbrev pub NoneBelow : (Code → Bool) → ℕ → Type 0
NoneBelow f n = (why : Code) → code_number why < n → f why ≡ false

abbrev pub IsLowestOf : (Code → Bool) → Option Code → Type 0
IsLowestOf f None = (why : Code) → f why ≡ false
IsLowestOf f (Some why) = (f why ≡ true) × NoneBelow f (code_number why)

none-more : (f : Code → Bool) (why : Code) → f why ≡ false → NoneBelow f (code_number why) → NoneBelow f (code_number why + 1)
none-more f why is below other h = elim (cases_lt (code_number other) (code_number why)) [
  | inl less ↦ below other less
  | inr more ↦ ap f (same-code other why (omega (arith, h, more))) ∙ is
]

step : (f : Code → Bool) (why : Code) (rest : Option Code) (b : Bool) → f why ≡ b → NoneBelow f (code_number why) → (NoneBelow f (code_number why + 1) → IsLowestOf f rest) → IsLowestOf f (or_else b why rest)
step f why rest true is below next = (is, below)
step f why rest false is below next = next (none-more f why is below)

pub lowest-is : (f : Code → Bool) → IsLowestOf f (lowest_of f)
lowest-is f =
    step f code.Header _ (f code.Header) refl (λ why h. absurd (omega (arith, h, (number-within why).0))) (λ h1.
    step f code.Kind _ (f code.Kind) refl h1 (λ h2.
    step f code.Fields _ (f code.Fields) refl h2 (λ h3.
    step f code.Number _ (f code.Number) refl h3 (λ h4.
    step f code.Address _ (f code.Address) refl h4 (λ h5.
    step f code.Repeat _ (f code.Repeat) refl h5 (λ h6.
    step f code.Unknown _ (f code.Unknown) refl h6 (λ h7.
    step f code.Count _ (f code.Count) refl h7 (λ h8.
    step f code.Box _ (f code.Box) refl h8 (λ h9.
    step f code.Mask _ (f code.Mask) refl h9 (λ h10.
    step f code.NoEnd _ (f code.NoEnd) refl h10 (λ h11.
    step f code.After None (f code.After) refl h11 (λ h12 why. h12 why (omega (arith, (number-within why).1))))))))))))))

lowest-only : (f : Code → Bool) (why : Code) (o : Option Code) → IsLowestOf f o → f why ≡ true → NoneBelow f (code_number why) → o ≡ Some why
lowest-only f why None none is below = absurd (false≢true (sym (none why) ∙ is))
lowest-only f why (Some other) h is below = elim (cases_lt (code_number other) (code_number why)) [
  | inl less ↦ absurd (false≢true (sym (below other less) ∙ h.0))
  | inr more ↦ elim (cases_lt (code_number why) (code_number other)) [
    | inl less ↦ absurd (false≢true (sym (h.1 why less) ∙ is))
    | inr same ↦ ap Some (same-code other why (omega (arith, more, same)))
  ]
]

pub is-lowest : (f : Code → Bool) (why : Code) → f why ≡ true → NoneBelow f (code_number why) → lowest_of f ≡ Some why
is-lowest f why is below = lowest-only f why (lowest_of f) (lowest-is f) is below

-- What the lowest code is, or that there is none.
pub lowest-some : (f : Code → Bool) (why : Code) → lowest_of f ≡ Some why → (f why ≡ true) × NoneBelow f (code_number why)
lowest-some f why e = rw e at (lowest-is f)

pub lowest-none : (f : Code → Bool) → lowest_of f ≡ None → (why : Code) → f why ≡ false
lowest-none f e = rw e at (lowest-is f)

none-only : (f : Code → Bool) (o : Option Code) → IsLowestOf f o → ((why : Code) → f why ≡ false) → o ≡ None
none-only f None h none = refl
none-only f (Some why) h none = absurd (false≢true (sym (none why) ∙ h.0))

pub is-none : (f : Code → Bool) → ((why : Code) → f why ≡ false) → lowest_of f ≡ None
is-none f none = none-only f (lowest_of f) (lowest-is f) none
