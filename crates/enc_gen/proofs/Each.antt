-- What is true of each element that is made, and of each two.
use Rattle.std.proofs.Common.{◌≡◌, ℕ, zero, suc, ◌+◌, ◌<◌, Bool, true, false, List, [], ◌∷◌, ◌++◌, get_or, arith, refl}
use Rattle.std.specs.Prelude.{All, AllPairs, IsTrue}
use Rattle.std.specs.List.{flat_map}
use Rattle.std.proofs.lemmas.List.Elements.{All-append, All-cons, All-nil}
use Rattle.std.proofs.lemmas.List.Kept.{AllPairs-cons}
use Rattle.acas_base.specs.Order.{IsRising}
use Rattle.enc_gen.specs.Making.{Made, each, one, only}

-- A list of one.
pub all-one : {X : Type 0} (P : X → Type 0) (x : X) → P x → All P (x ∷ [])
all-one P x is = All-cons P x [] is (All-nil P)

pub pairs-none : {X : Type 0} (R : X → X → Type 0) → AllPairs R []
pairs-none R i j d order within = absurd (omega arith)

pub pairs-one : {X : Type 0} (R : X → X → Type 0) (x : X) → AllPairs R (x ∷ [])
pairs-one R x i j d order within = absurd (omega arith)

-- Two lists, where each element of the first and each of the second are such a pair.
pub pairs-append : {X : Type 0} (R : X → X → Type 0) (P Q : X → Type 0) (xs ys : List X) → ((x y : X) → P x → Q y → R x y)
    → All P xs → All Q ys → AllPairs R xs → AllPairs R ys → AllPairs R (xs ++ ys)
pairs-append R P Q [] ys both first second one two = two
pairs-append R P Q (x ∷ xs) ys both first second one two =
    AllPairs-cons R x (xs ++ ys)
    (All-append (R x) xs ys (λ k d h. one 0 (suc k) d (omega arith) (omega arith)) (λ k d h. both x (get_or ys k d) (first 0 x (omega arith)) (second k d h)))
    (pairs-append R P Q xs ys both (λ k d h. first (suc k) d (omega arith)) second (λ i j d order h. one (suc i) (suc j) d (omega arith) (omega arith)) two)

pub each-all : {X : Type 0} (P : X → Type 0) (make : ℕ → ℕ → Made X) (n s : ℕ) → ((i t : ℕ) → i < n → All P (make i t).items) → All P (each make n s).items
unfolding each
each-all P make zero s all = All-nil P
each-all P make (suc n) s all =
    All-append P (each make n s).items (make n (each make n s).state).items (each-all P make n s (λ i t h. all i t (omega arith))) (all n (each make n s).state (omega arith))

-- Of one of the numbers before another.
abbrev OfBefore : {X : Type 0} → (ℕ → X → Type 0) → ℕ → X → Type 0
OfBefore Of n x = (i : ℕ) × ((i < n) × Of i x)

-- Each two, where each is of its number, and two of one number or of two numbers are such a pair.
pub each-pairs : {X : Type 0} (R : X → X → Type 0) (Of : ℕ → X → Type 0) (make : ℕ → ℕ → Made X) (n s : ℕ)
    → ((i j : ℕ) (x y : X) → i < j → Of i x → Of j y → R x y)
    → ((i t : ℕ) → All (Of i) (make i t).items) → ((i t : ℕ) → AllPairs R (make i t).items) → AllPairs R (each make n s).items
unfolding each
each-pairs R Of make zero s rise of pairs = pairs-none R
each-pairs R Of make (suc n) s rise of pairs =
    pairs-append R (OfBefore Of n) (Of n) (each make n s).items (make n (each make n s).state).items
    (λ x y before now. rise before.0 n x y before.1.0 before.1.1 now)
    (each-all (OfBefore Of n) make n s (λ i t h k d g. (i, (h, of i t k d g))))
    (of n (each make n s).state)
    (each-pairs R Of make n s rise of pairs)
    (pairs n (each make n s).state)

pub only-all : {X : Type 0} (P : X → Type 0) (test : Bool) (make : ℕ → Made X) (s : ℕ) → (IsTrue test → All P (make s).items) → All P (only test make s).items
unfolding only
only-all P true make s all = all refl
only-all P false make s all = All-nil P

pub only-pairs : {X : Type 0} (R : X → X → Type 0) (test : Bool) (make : ℕ → Made X) (s : ℕ) → AllPairs R (make s).items → AllPairs R (only test make s).items
unfolding only
only-pairs R true make s pairs = pairs
only-pairs R false make s pairs = pairs-none R

-- The lists made of the elements of one.
pub all-flat : {X Y : Type 0} (P : X → Type 0) (Q : Y → Type 0) (f : X → List Y) (xs : List X) → ((x : X) → P x → All Q (f x)) → All P xs → All Q (flat_map f xs)
all-flat P Q f [] each all = All-nil Q
all-flat P Q f (x ∷ xs) each all = All-append Q (f x) (flat_map f xs) (each x (all 0 x (omega arith))) (all-flat P Q f xs each (λ k d h. all (suc k) d (omega arith)))

pub pairs-flat : {X Y : Type 0} (S : X → X → Type 0) (R : Y → Y → Type 0) (Of : X → Y → Type 0) (f : X → List Y) (xs : List X)
    → ((a b : X) (x y : Y) → S a b → Of a x → Of b y → R x y) → ((x : X) → All (Of x) (f x)) → ((x : X) → AllPairs R (f x)) → AllPairs S xs → AllPairs R (flat_map f xs)
pairs-flat S R Of f [] rise of pairs two = pairs-none R
pairs-flat {X} {Y} S R Of f (a ∷ xs) rise of pairs two =
    pairs-append R (Of a) (After a) (f a) (flat_map f xs)
    (λ x y now after. rise a after.0 x y after.1.0 now after.1.1)
    (of a)
    (all-flat (S a) (After a) f xs (λ b h k d g. (b, (h, of b k d g))) (λ k d h. two 0 (suc k) d (omega arith) (omega arith)))
    (pairs a)
    (pairs-flat S R Of f xs rise of pairs (λ i j d order h. two (suc i) (suc j) d (omega arith) (omega arith)))
  where
    After : X → Y → Type 0
    After a y = (b : X) × (S a b × Of b y)

-- Where each two are below one another, so are each two neighbours.
pub rising-pairs : {X : Type 0} (below : X → X → Bool) (xs : List X) → AllPairs (λ a b. below a b ≡ true) xs → IsRising below xs
rising-pairs below xs pairs k d h = pairs k (k + 1) d (omega arith) h
