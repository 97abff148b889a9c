-- The line of a text at a place.
use Rattle.std.proofs.Common.{◌≡◌, ℕ, zero, suc, ◌+◌, List, [], ◌∷◌, ◌++◌, length, take, Option, Some, None, slice_get, refl, sym, ap, subst, arith, length-append}
use Rattle.verdict_text.specs.declared.wanted.TheConstants.{WANTED_BYTES}

-- So many lines are left out before a line is kept.
abbrev pub PicksFrom : ℕ → ℕ → Option (List ℕ) → List (List ℕ) → Option (List ℕ) → Type 0
PicksFrom left after found lines None = (found ≡ None) × (after + length lines ≡ left)
PicksFrom left after found lines (Some line) = found ≡ Some (take WANTED_BYTES line)

-- What taking lines does: how many are to be left out before and after, and which line was found before and after.
abbrev pub Picks : ℕ → ℕ → Option (List ℕ) → Option (List ℕ) → List (List ℕ) → Type 0
Picks left after (Some kept) found lines = found ≡ Some kept
Picks left after None found lines = PicksFrom left after found lines (slice_get lines left)

pub picks-nothing : (left : ℕ) (found : Option (List ℕ)) → Picks left left found found []
picks-nothing left None = (refl, omega arith)
picks-nothing left (Some kept) = refl

front-some : (xs ys : List (List ℕ)) (n : ℕ) (line : List ℕ) → slice_get xs n ≡ Some line → slice_get (xs ++ ys) n ≡ Some line
front-some [] ys n line is = absurd cc
front-some (x ∷ xs) ys zero line is = is
front-some (x ∷ xs) ys (suc n) line is = front-some xs ys n line is

behind : (xs ys : List (List ℕ)) (n m : ℕ) → m + length xs ≡ n → slice_get (xs ++ ys) n ≡ slice_get ys m
behind [] ys n m is = ap (slice_get ys) (omega (arith, is))
behind (x ∷ xs) ys zero m is = absurd (omega (arith, is))
behind (x ∷ xs) ys (suc n) m is = behind xs ys n m (omega (arith, is))

later-from : (l m n : ℕ) (r : Option (List ℕ)) (xs ys : List (List ℕ)) (o : Option (List ℕ)) → m + length xs ≡ l → PicksFrom m n r ys o → PicksFrom l n r (xs ++ ys) o
later-from l m n r xs ys None is h = (h.0, omega (arith, is, h.1, length-append xs ys))
later-from l m n r xs ys (Some line) is h = h

by-front : (l m n : ℕ) (q r : Option (List ℕ)) (xs ys : List (List ℕ)) (o : Option (List ℕ)) → slice_get xs l ≡ o → PicksFrom l m q xs o → Picks m n q r ys → PicksFrom l n r (xs ++ ys) (slice_get (xs ++ ys) l)
by-front l m n q r xs ys None is g h =
    let after : PicksFrom m n r ys (slice_get ys m) = subst (λ (x : Option (List ℕ)). Picks m n x r ys) g.0 h in
    subst (λ (o : Option (List ℕ)). PicksFrom l n r (xs ++ ys) o) (sym (behind xs ys l m g.1)) (later-from l m n r xs ys (slice_get ys m) g.1 after)
by-front l m n q r xs ys (Some line) is g h =
    let after : r ≡ Some (take WANTED_BYTES line) = subst (λ (x : Option (List ℕ)). Picks m n x r ys) g h in
    subst (λ (o : Option (List ℕ)). PicksFrom l n r (xs ++ ys) o) (sym (front-some xs ys l line is)) after

pub picks-then : (l m n : ℕ) (p q r : Option (List ℕ)) (xs ys : List (List ℕ)) → Picks l m p q xs → Picks m n q r ys → Picks l n p r (xs ++ ys)
picks-then l m n (Some kept) q r xs ys g h = subst (λ (x : Option (List ℕ)). Picks m n x r ys) g h
picks-then l m n None q r xs ys g h = by-front l m n q r xs ys (slice_get xs l) refl g h
