-- Lists that are made by draws.
use Rattle.std.specs.Prelude.{◌≡◌, ℕ, zero, suc, Bool, if◌then◌else◌, List, [], ◌∷◌, ◌++◌}

-- What draws made: some items, and the state after them.
pub record Made (X : Type 0) : Type 0 where
  pub items : List X
  pub state : ℕ

-- Nothing is made, and nothing drawn.
abbrev pub nothing : {X : Type 0} → ℕ → Made X
nothing s = record { items = []; state = s }

abbrev pub one : {X : Type 0} → X → ℕ → Made X
one x s = record { items = x ∷ []; state = s }

-- One thing is made after another.
abbrev pub and_then : {X : Type 0} → Made X → (ℕ → Made X) → Made X
and_then before make = record {
  items = before.items ++ (make before.state).items;
  state = (make before.state).state;
}

-- What is made for each number below n, in their order.
unfoldable pub each : {X : Type 0} → (ℕ → ℕ → Made X) → ℕ → ℕ → Made X
each make zero s = nothing s
each make (suc n) s = and_then (each make n s) (make n)

-- What is made for each element of a list, in their order.
unfoldable pub each_of : {X Y : Type 0} → (X → ℕ → Made Y) → List X → ℕ → Made Y
each_of make [] s = nothing s
each_of make (x ∷ xs) s = and_then (make x s) (each_of make xs)

-- What is made only where a test holds.
unfoldable pub only : {X : Type 0} → Bool → (ℕ → Made X) → ℕ → Made X
only test make s = if test then make s else nothing s

-- The list and the state before something was made, and after it.
pub record Makes {X : Type 0} (make : ℕ → Made X) (before : ℕ) (old : List X) (after : ℕ) (new : List X) : Type 0 where
  pub items : new ≡ old ++ (make before).items
  pub state : after ≡ (make before).state
