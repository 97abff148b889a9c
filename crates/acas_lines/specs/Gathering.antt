-- Texts that are gathered in a buffer before they are put into a sink.
use Rattle.std.specs.Prelude.{◌≡◌, ℕ, List, ◌++◌, Option, Result, MatchResult, IsErr}
use Rattle.acas_io.specs.Faults.{Rose}
use Rattle.acas_io.specs.Stream.{Grew, GrewByPrefix}

-- A piece was added to what waits. Either a front of both went into the sink, the rest waits, and no fault was counted.
-- Or the sink took a front of both, and the count of faults rose.
abbrev pub Adds : {T E : Type 0} → Option (List ℕ) → Option (List ℕ) → ℕ → ℕ → List ℕ → List ℕ → List ℕ → Result T E → Type 0
Adds old new before now waited waits piece result =
    MatchResult result
    (λ _. ((sent : List ℕ) × Grew old new sent × (sent ++ waits ≡ waited ++ piece)) × (now ≡ before))
    (λ _. GrewByPrefix old new (waited ++ piece) × Rose before now)

-- The same, where an earlier call may have failed. Then the sink stays as it was.
abbrev pub Gathers : {T E : Type 0} → Option (List ℕ) → Option (List ℕ) → ℕ → ℕ → List ℕ → List ℕ → Result T E → Result T E → List ℕ → Type 0
Gathers old new before now waited waits so_far result piece =
    MatchResult so_far
    (λ _. Adds old new before now waited waits piece result)
    (λ _. IsErr result × (new ≡ old) × (now ≡ before))
