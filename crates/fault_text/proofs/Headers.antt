-- What a header says.
use Rattle.std.proofs.Common.{◌≡◌, ℕ, Bool, true, false, cond, List, Option, Some, None, refl}
use Rattle.std.specs.Prelude.{IsSome}
use Rattle.std.proofs.lemmas.Bool.{false≢true}
use Rattle.enc_file.specs.Saying.{version_in}
use Rattle.enc_file.specs.Values.{count_in, field}

chosen : (b : Bool) (o : Option ℕ) → IsSome (cond b o None) → cond b o None ≡ o
chosen true o h = refl
chosen false o h = absurd (false≢true h)

pub version-said : (fields : List (List ℕ)) → IsSome (version_in fields) → version_in fields ≡ count_in 1 3 (field fields 1)
unfolding version_in
version-said fields h = chosen _ (count_in 1 3 (field fields 1)) h

none-some : (o p : Option ℕ) → IsSome o → o ≡ p → p ≡ None → ⊥
none-some (Some x) p h e n = absurd (cc (e, n))
none-some None p h e n = absurd (false≢true h)

pub header-some : (fields : List (List ℕ)) → IsSome (version_in fields) → count_in 1 3 (field fields 1) ≡ None → ⊥
header-some fields h e = none-some (version_in fields) (count_in 1 3 (field fields 1)) h (version-said fields h) e
