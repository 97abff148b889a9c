-- Whether a group has a late element, told by its last one.
use Rattle.std.proofs.Common.{◌≡◌, ℕ, suc, ◌-◌, ◌<◌, Bool, true, false, ◌&&◌, ◌||◌, not, List, [], ◌∷◌, length, get_or, refl, sym, ◌∙◌, ap, arith, cond}
use Rattle.std.specs.Prelude.{All, AllPairs, ◌==◌, slice_get}
use Rattle.std.specs.List.{filter, list_any}
use Rattle.std.specs.Option.{option_map_or}
use Rattle.std.proofs.Math.Bool.{or-false}
use Rattle.std.proofs.lemmas.Bool.{eqb-true, false≢true}
use Rattle.std.proofs.lemmas.List.Elements.{All-filter, filter_passes}
use Rattle.std.proofs.lemmas.List.Kept.{AllPairs-filter}
use Rattle.enc_file.specs.Earlier.{in_group}
use Rattle.enc_file.specs.Faults.{comes_late}
use Rattle.enc_file.specs.Groups.{is_late, last_of}

-- The last element.
last-more : {X : Type 0} (x y : X) (ys : List X) → last_of (x ∷ y ∷ ys) ≡ last_of (y ∷ ys)
last-more x y ys =
    let e : length (x ∷ y ∷ ys) - 1 ≡ suc (length (y ∷ ys) - 1) = omega arith in
    ap (slice_get (x ∷ y ∷ ys)) e

any-cond : {X : Type 0} (test : X → Bool) (b : Bool) (x : X) (xs : List X) → ((b && test x) || list_any test xs) ≡ list_any test (cond b (x ∷ xs) xs)
any-cond test true x xs = refl
any-cond test false x xs = refl

-- A test of what is kept.
any-kept : {X : Type 0} (kept test : X → Bool) (xs : List X) → list_any (λ x. kept x && test x) xs ≡ list_any test (filter kept xs)
any-kept kept test [] = refl
any-kept kept test (x ∷ xs) = ap (λ b. (kept x && test x) || b) (any-kept kept test xs) ∙ any-cond test (kept x) x (filter kept xs)

or-later : (a b c : Bool) → (a ≡ true → b ≡ true) → (a || (b || c)) ≡ (b || c)
or-later true b c later = grind (arith, later)
or-later false b c later = refl

-- Where what passes is followed by what passes, the last element tells whether any passes.
any-by-last : {X : Type 0} (test : X → Bool) (xs : List X) → AllPairs (λ a b. test a ≡ true → test b ≡ true) xs → list_any test xs ≡ option_map_or test (last_of xs) false
any-by-last test [] later = refl
any-by-last test (x ∷ []) later = or-false (test x)
any-by-last test (x ∷ y ∷ ys) later =
    or-later (test x) (test y) (list_any test ys) (later 0 1 x (omega arith) (omega arith))
    ∙ any-by-last test (y ∷ ys) (λ i j d order within. later (suc i) (suc j) d (omega arith) (omega arith))
    ∙ ap (λ o. option_map_or test o false) (sym (last-more x y ys))

later-passes : (a b : Bool) → (b ≡ true → a ≡ true) → not a ≡ true → not b ≡ true
later-passes a true h late = absurd (false≢true (sym (ap not (h refl)) ∙ late))
later-passes a false h late = refl

-- In a group that is in order the last record tells whether any comes too late.
pub late-by-last : {X : Type 0} (Fits : X → Type 0) (group : X → ℕ) (below : X → X → Bool) (xs : List X) (x : X)
    → ((a b c : X) → Fits b → below a b ≡ true → below b c ≡ true → below a c ≡ true) → All Fits xs → AllPairs (λ a b. group a ≡ group b → below a b ≡ true) xs
    → comes_late group below xs x ≡ is_late below (last_of (in_group group xs (group x))) x
late-by-last {X} Fits group below xs x trans fits pairs =
    let k = group x in
    let own = in_group group xs k in
    let kept = AllPairs-filter (λ a b. group a ≡ group b → below a b ≡ true) (λ y. group y == k) xs pairs in
    let fit : All Fits own = All-filter (λ y. group y == k) Fits xs fits in
    let of : (i : ℕ) (d : X) → i < length own → group (get_or own i d) ≡ k = λ i d h. eqb-true (group (get_or own i d)) k (filter_passes (λ y. group y == k) xs i d h) in
    any-kept (λ y. group y == k) (λ y. not (below y x)) xs
    ∙ any-by-last (λ y. not (below y x)) own
    (λ i j d order within. later-passes (below (get_or own i d) x) (below (get_or own j d) x)
    (trans (get_or own i d) (get_or own j d) x (fit j d within) (kept i j d order within (of i d (omega arith) ∙ sym (of j d within)))))
