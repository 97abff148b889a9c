-- What is made one after another.
use Rattle.std.proofs.Common.{◌≡◌, ℕ, ◌+◌, ◌<◌, length, get_or, take, subst, Bool, true, false, List, [], ◌∷◌, ◌++◌, append_assoc, add-one, refl, sym, ◌∙◌, ap}
use Rattle.std.proofs.Math.Seq.{take-suc}
use Rattle.std.proofs.lemmas.List.{append-nil}
use Rattle.enc_gen.specs.Making.{Made, Makes, each, each_of, only}

-- Nothing is made for the numbers below 0.
pub none-made : {X : Type 0} (make : ℕ → ℕ → Made X) (s : ℕ) (xs : List X) → Makes (each make 0) s xs s xs
unfolding each
none-made make s xs = record { items = sym (append-nil xs); state = refl }

pub next-made : {X : Type 0} (make : ℕ → ℕ → Made X) (n s t u : ℕ) (xs ys zs : List X) → Makes (each make n) s xs t ys → Makes (make n) t ys u zs → Makes (each make (n + 1)) s xs u zs
unfolding each
next-made make n s t u xs ys zs before this = rw add-one (record {
  items = this.items ∙ ap (λ l. l ++ (make n t).items) before.items ∙ append_assoc xs (each make n s).items (make n t).items ∙ ap (λ v. xs ++ ((each make n s).items ++ (make n v).items)) before.state;
  state = this.state ∙ ap (λ v. (make n v).state) before.state;
})

-- One item more.
pub one-made : {X : Type 0} (make : ℕ → Made X) (s t : ℕ) (x : X) (xs ys : List X) → x ∷ [] ≡ (make s).items → t ≡ (make s).state → ys ≡ xs ++ x ∷ [] → Makes make s xs t ys
one-made make s t x xs ys is state more = record { items = more ∙ ap (λ l. xs ++ l) is; state = state }

-- The step of a loop that pushes one item.
pub push-made : {X : Type 0} (make : ℕ → ℕ → Made X) (n s t u : ℕ) (x : X) (xs ys zs : List X) → Makes (each make n) s xs t ys
    → x ∷ [] ≡ (make n t).items → u ≡ (make n t).state → zs ≡ ys ++ x ∷ [] → Makes (each make (n + 1)) s xs u zs
push-made make n s t u x xs ys zs before is state more = next-made make n s t u xs ys zs before (one-made (make n) t u x ys zs is state more)

pub where-made : {X : Type 0} (test : Bool) (make : ℕ → Made X) (s t : ℕ) (xs ys : List X) → test ≡ true → Makes make s xs t ys → Makes (only test make) s xs t ys
unfolding only
where-made true make s t xs ys on made = record { items = made.items; state = made.state }
where-made false make s t xs ys on made = absurd (cc on)

pub skip-made : {X : Type 0} (test : Bool) (make : ℕ → Made X) (s : ℕ) (xs : List X) → test ≡ false → Makes (only test make) s xs s xs
unfolding only
skip-made true make s xs off = absurd (cc off)
skip-made false make s xs off = record { items = sym (append-nil xs); state = refl }

-- Nothing is made for an empty list.
pub none-of : {X Y : Type 0} (make : X → ℕ → Made Y) (s : ℕ) → Makes (each_of make []) s [] s []
unfolding each_of
none-of make s = record { items = refl; state = refl }

-- What is made for the last element of a list comes last.
last-of : {X Y : Type 0} (make : X → ℕ → Made Y) (xs : List X) (x : X) (s : ℕ)
    → ((each_of make (xs ++ x ∷ []) s).items ≡ (each_of make xs s).items ++ (make x (each_of make xs s).state).items)
    × ((each_of make (xs ++ x ∷ []) s).state ≡ (make x (each_of make xs s).state).state)
unfolding each_of
last-of make [] x s = (append-nil (make x s).items, refl)
last-of make (y ∷ xs) x s =
    let t = (make y s).state in
    let rest = last-of make xs x t in
    (ap (λ l. (make y s).items ++ l) rest.0 ∙ sym (append_assoc (make y s).items (each_of make xs t).items (make x (each_of make xs t).state).items), rest.1)

-- The step of a loop over a list that pushes one item.
pub push-of : {X Y : Type 0} (make : X → ℕ → Made Y) (all : List X) (n : ℕ) (d : X) (s t u : ℕ) (y : Y) (ys zs : List Y) → n < length all → Makes (each_of make (take n all)) s [] t ys
    → y ∷ [] ≡ (make (get_or all n d) t).items → u ≡ (make (get_or all n d) t).state → zs ≡ ys ++ y ∷ [] → Makes (each_of make (take (n + 1) all)) s [] u zs
push-of {X} {Y} make all n d s t u y ys zs within before is state more =
    let x = get_or all n d in
    let steps = last-of make (take n all) x s in
    let longer : take n all ++ x ∷ [] ≡ take (n + 1) all = sym (ap (λ k. take k all) (add-one n) ∙ take-suc all n d within) in
    subst (λ (xs : List X). Makes (each_of make xs) s [] u zs) longer (record {
      items = more ∙ ap (λ l. l ++ y ∷ []) before.items ∙ ap (λ l. (each_of make (take n all) s).items ++ l) (is ∙ ap (λ v. (make x v).items) before.state) ∙ sym steps.0;
      state = state ∙ ap (λ v. (make x v).state) before.state ∙ sym steps.1;
    })
