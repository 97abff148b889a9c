-- What a sink holds after several pieces.
use Rattle.std.proofs.Common.{◌≡◌, ℕ, ◌+◌, ◌-◌, List, [], ◌++◌, length, take, drop, Option, Some, None, sym, ap, ◌∙◌, append_assoc, arith, length-append}
use Rattle.std.proofs.Math.Seq.{take-add, take-append-add}
use Rattle.std.proofs.lemmas.List.{append-nil, take_rest, take-append-le}
use Rattle.std.specs.Prelude.{Result, Ok, Err}
use Rattle.acas_io.specs.Stream.{Grew, GrewByPrefix, Puts}

-- Nothing was written.
pub Grew-nil : (a : Option (List ℕ)) → Grew a a []
Grew-nil None = tt
Grew-nil (Some xs) = sym (append-nil xs)

-- One piece and then another.
pub Grew-trans : (a b c : Option (List ℕ)) (bs cs : List ℕ) → Grew a b bs → Grew b c cs → Grew a c (bs ++ cs)
Grew-trans a b None bs cs g h = tt
Grew-trans a None (Some zs) bs cs g h = absurd h
Grew-trans None (Some ys) (Some zs) bs cs g h = absurd g
Grew-trans (Some xs) (Some ys) (Some zs) bs cs g h = h ∙ ap (λ t. t ++ cs) g ∙ append_assoc xs bs cs

-- A front of a piece and then a front of the rest, as `&piece[at..]` reads.
pub Grew-front : (a b c : Option (List ℕ)) (bs : List ℕ) (at n : ℕ) → Grew a b (take at bs) → Grew b c (take n (take (length bs - at) (drop at bs))) → Grew a c (take (at + n) bs)
Grew-front a b c bs at n g h =
    let front : Grew b c (take n (drop at bs)) = rw (take_rest bs at) at h in
    rw (take-add at n bs) (Grew-trans a b c (take at bs) (take n (drop at bs)) g front)

-- A front of a text is a front of a longer one.
pub Prefix-longer : (a b : Option (List ℕ)) (xs ys : List ℕ) → GrewByPrefix a b xs → GrewByPrefix a b (xs ++ ys)
Prefix-longer a b xs ys h = (h.0, omega (arith, h.1, length-append xs ys), rw (take-append-le h.0 xs ys h.1) h.2)

-- A text and then a front of the next.
pub Prefix-after : (a b c : Option (List ℕ)) (xs ys : List ℕ) → Grew a b xs → GrewByPrefix b c ys → GrewByPrefix a c (xs ++ ys)
Prefix-after a b c xs ys g h =
    (length xs + h.0, omega (arith, h.1, length-append xs ys), rw (take-append-add xs ys h.0) (Grew-trans a b c xs (take h.0 ys) g h.2))

-- One text and then another.
pub Puts-then : {T E : Type 0} (a b c : Option (List ℕ)) (k m n : ℕ) (xs ys : List ℕ) (r : Result T E) → Grew a b xs → m ≡ k → Puts b c m n ys r → Puts a c k n (xs ++ ys) r
Puts-then a b c k m n xs ys (Ok x) g e h = (Grew-trans a b c xs ys g h.0, h.1 ∙ e)
Puts-then a b c k m n xs ys (Err x) g e h = (Prefix-after a b c xs ys g h.0, rw (← e) h.1)
