-- The first line of a text.
use Rattle.std.proofs.Common.{◌≡◌, ◌≢◌, ℕ, zero, suc, ◌+◌, ◌<◌, ◌≤◌, true, eqb, List, [], ◌∷◌, ◌++◌, length, get_or, take, drop, refl, sym, ap, ◌∙◌, arith, add-one, eqb-true, eq-eqb, subst, append_assoc, length-append, inl, inr}
use Rattle.std.specs.List.{AllByRecursion}
use Rattle.std.proofs.lemmas.List.{append-nil, take_all, drop_all}
use Rattle.acas_lines.specs.Split.{IsFirstLine, lines_of}
use Rattle.acas_lines.proofs.Splitting.{split-last, split-one}

-- No line feed stands before a place.
abbrev pub NoFeed : List ℕ → ℕ → Type 0
NoFeed bytes n = (k : ℕ) → 0 ≤ k → k < n → eqb (get_or bytes k 0) 10 ≡ true → ⊥

others : (bytes : List ℕ) (n : ℕ) → n ≤ length bytes → NoFeed bytes n → AllByRecursion (λ c. c ≢ 10) (take n bytes)
others bytes zero h none = tt
others [] (suc n) h none = tt
others (c ∷ cs) (suc n) h none = (λ e. none 0 (omega arith) (omega arith) (eq-eqb c 10 e), others cs n (omega arith) (λ k low below. none (suc k) (omega arith) (omega arith)))

split-at : (bytes : List ℕ) (n : ℕ) → n < length bytes → eqb (get_or bytes n 0) 10 ≡ true → bytes ≡ take n bytes ++ 10 ∷ drop (suc n) bytes
split-at [] n h here = absurd (omega arith)
split-at (c ∷ cs) zero h here = ap (λ d. d ∷ cs) (eqb-true c 10 here)
split-at (c ∷ cs) (suc n) h here = ap (λ t. c ∷ t) (split-at cs n (omega arith) here)

front-with : (bytes : List ℕ) (n : ℕ) → n < length bytes → eqb (get_or bytes n 0) 10 ≡ true → take (suc n) bytes ≡ take n bytes ++ 10 ∷ []
front-with [] n h here = absurd (omega arith)
front-with (c ∷ cs) zero h here = ap (λ d. d ∷ []) (eqb-true c 10 here)
front-with (c ∷ cs) (suc n) h here = ap (λ t. c ∷ t) (front-with cs n (omega arith) here)

-- By the place of its line feed.
by-feed : (body rest : List ℕ) → AllByRecursion (λ c. c ≢ 10) body → IsFirstLine (body ++ 10 ∷ rest) (body ++ 10 ∷ [])
by-feed body rest inside = record {
  some = omega (arith, length-append body (10 ∷ []));
  rest = rest;
  text_is = sym (append_assoc body (10 ∷ []) rest);
  lines_are = split-one body rest inside;
  whole = inl (record { body = body; inside = inside; whole = refl });
}

pub first-at : (bytes : List ℕ) (n : ℕ) → n < length bytes → NoFeed bytes n → eqb (get_or bytes n 0) 10 ≡ true → IsFirstLine bytes (take (n + 1) bytes)
first-at bytes n h none here =
    subst (λ (t : List ℕ). IsFirstLine t (take (n + 1) bytes)) (sym (split-at bytes n h here))
    (subst (IsFirstLine (take n bytes ++ 10 ∷ drop (suc n) bytes)) (sym (ap (λ k. take k bytes) (add-one n) ∙ front-with bytes n h here)) (by-feed (take n bytes) (drop (suc n) bytes) (others bytes n (omega arith) none)))

-- Where it has none.
take-whole : (bytes : List ℕ) → take (length bytes) bytes ≡ bytes
take-whole bytes = take_all (length bytes) bytes (omega arith)

first-whole : (bytes : List ℕ) → 0 < length bytes → NoFeed bytes (length bytes) → IsFirstLine bytes bytes
first-whole [] some none = absurd (omega arith)
first-whole (c ∷ cs) some none = record {
  some = some;
  rest = [];
  text_is = sym (append-nil (c ∷ cs));
  lines_are = split-last c cs (subst (λ t. AllByRecursion (λ d. d ≢ 10) t) (take-whole (c ∷ cs)) (others (c ∷ cs) (length (c ∷ cs)) (omega arith) none));
  whole = inr refl;
}

pub first-all : (bytes : List ℕ) → 0 < length bytes → NoFeed bytes (length bytes) → IsFirstLine bytes (take (length bytes) bytes)
first-all bytes some none = subst (IsFirstLine bytes) (sym (take-whole bytes)) (first-whole bytes some none)

-- The lines behind it.
pub rest-at : (bytes : List ℕ) (n : ℕ) → n < length bytes → NoFeed bytes n → eqb (get_or bytes n 0) 10 ≡ true → lines_of bytes ≡ take (n + 1) bytes ∷ lines_of (drop (n + 1) bytes)
rest-at bytes n h none here =
    rw add-one (ap lines_of (split-at bytes n h here) ∙ split-one (take n bytes) (drop (suc n) bytes) (others bytes n (omega arith) none) ∙ ap (λ t. t ∷ lines_of (drop (suc n) bytes)) (sym (front-with bytes n h here)))

pub rest-all : (bytes : List ℕ) → 0 < length bytes → NoFeed bytes (length bytes) → lines_of bytes ≡ take (length bytes) bytes ∷ lines_of (drop (length bytes) bytes)
rest-all [] some none = absurd (omega arith)
rest-all (c ∷ cs) some none =
    let whole = take-whole (c ∷ cs) in
    let one = split-last c cs (subst (λ t. AllByRecursion (λ d. d ≢ 10) t) whole (others (c ∷ cs) (length (c ∷ cs)) (omega arith) none)) in
    one ∙ ap (λ (x : List ℕ). x ∷ []) (sym whole) ∙ ap (λ (y : List ℕ). take (length (c ∷ cs)) (c ∷ cs) ∷ lines_of y) (sym (drop_all (length (c ∷ cs)) (c ∷ cs) (omega arith)))
