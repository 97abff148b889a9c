-- The lines of a text, from its front.
use Rattle.std.proofs.Common.{◌≡◌, ◌≢◌, ℕ, ◌+◌, Bool, true, false, eqb, cond, List, [], ◌∷◌, ◌++◌, length, refl, sym, ap, ◌∙◌, arith, ne_eqb, append_assoc}
use Rattle.std.specs.List.{AllByRecursion, count_by}
use Rattle.std.proofs.lemmas.List.Concat.{flat_map-append}
use Rattle.std.proofs.lemmas.List.Sums.{sum_by-append}
use Rattle.acas_lines.specs.Split.{IsLine, lines_of}
use Rattle.acas_lines.specs.Lines.{joined}
use Rattle.acas_lines.proofs.Splitting.{split-one}

-- ---- whole lines in front

pub each-append : {X : Type 0} (P : X → Type 0) (xs ys : List X) → AllByRecursion P xs → AllByRecursion P ys → AllByRecursion P (xs ++ ys)
each-append P [] ys h k = k
each-append P (x ∷ xs) ys h k = (h.0, each-append P xs ys h.1 k)

pub each-front : {X : Type 0} (P : X → Type 0) (xs ys : List X) → AllByRecursion P (xs ++ ys) → AllByRecursion P xs
each-front P [] ys h = tt
each-front P (x ∷ xs) ys h = (h.0, each-front P xs ys h.1)

pub joined-append : (xs ys : List (List ℕ)) → joined (xs ++ ys) ≡ joined xs ++ joined ys
joined-append xs ys = flat_map-append (λ (line : List ℕ). line) xs ys

pub lines-behind : (front : List (List ℕ)) (rest : List ℕ) → AllByRecursion IsLine front → lines_of (joined front ++ rest) ≡ front ++ lines_of rest
lines-behind [] rest each = refl
lines-behind (l ∷ ls) rest each =
    let one : IsLine l = each.0 in
    ap (λ (t : List ℕ). lines_of ((t ++ joined ls) ++ rest)) one.whole
    ∙ ap lines_of (append_assoc (one.body ++ 10 ∷ []) (joined ls) rest ∙ append_assoc one.body (10 ∷ []) (joined ls ++ rest))
    ∙ split-one one.body (joined ls ++ rest) one.inside
    ∙ ap (λ (t : List ℕ). t ∷ lines_of (joined ls ++ rest)) (sym one.whole)
    ∙ ap (λ (t : List (List ℕ)). l ∷ t) (lines-behind ls rest each.1)

-- ---- how many there are

-- Each whole line has one line feed.
abbrev pub is_feed : ℕ → Bool
is_feed byte = eqb byte 10

count-both : (xs ys : List ℕ) → count_by is_feed (xs ++ ys) ≡ count_by is_feed xs + count_by is_feed ys
count-both xs ys = sum_by-append (λ (byte : ℕ). cond (is_feed byte) 1 0) xs ys

skip-byte : (b : Bool) (n : ℕ) → b ≡ false → n ≡ 0 → (0 + cond b 1 0) + n ≡ 0
skip-byte true n p q = absurd cc
skip-byte false n p q = omega arith

count-none : (body : List ℕ) → AllByRecursion (λ c. c ≢ 10) body → count_by is_feed body ≡ 0
count-none [] h = refl
count-none (c ∷ cs) h = count-both (c ∷ []) cs ∙ skip-byte (eqb c 10) (count_by is_feed cs) (ne_eqb c 10 h.0) (count-none cs h.1)

count-one : (line : List ℕ) → IsLine line → count_by is_feed line ≡ 1
count-one line is =
    let both : count_by is_feed (is.body ++ 10 ∷ []) ≡ count_by is_feed is.body + 1 = count-both is.body (10 ∷ []) in
    let none : count_by is_feed is.body ≡ 0 = count-none is.body is.inside in
    ap (count_by is_feed) is.whole ∙ omega (arith, both, none)

pub count-lines : (lines : List (List ℕ)) → AllByRecursion IsLine lines → count_by is_feed (joined lines) ≡ length lines
count-lines [] each = refl
count-lines (l ∷ ls) each =
    let rest : count_by is_feed (joined ls) ≡ length ls = count-lines ls each.1 in
    let one : count_by is_feed l ≡ 1 = count-one l each.0 in
    count-both l (joined ls) ∙ omega (arith, rest, one)
