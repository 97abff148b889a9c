-- One line is compared.
use Rattle.std.proofs.Common.{◌≡◌, ◌≢◌, ℕ, Bool, true, false, not, List, [], ◌∷◌, refl}
use Rattle.std.specs.Prelude.{MatchBool}
use Rattle.rec_audit.specs.Cursors.{Compares, Cursor, StoppedIn, Took}
use Rattle.rec_audit.specs.Compared.{took-nothing}

-- The next line isn't this one.
stopped-here : (a b : Cursor) (line : List ℕ) → b ≡ a → ((rest : List (List ℕ)) → a.left ≢ line ∷ rest) → StoppedIn a b (line ∷ [])
stopped-here a b line e ne = rw e (record { front = []; took = took-nothing a; next = line; later = []; lines_are = refl; differs = ne })

-- It is taken or not, where nothing differed before.
pub compared-one : (a b : Cursor) (line : List ℕ) (differed r : Bool) → differed ≡ false → MatchBool r (Took a b (line ∷ [])) ((b ≡ a) × ((rest : List (List ℕ)) → a.left ≢ line ∷ rest)) → Compares a b differed (not r) (line ∷ [])
compared-one a b line true r e h = absurd cc
compared-one a b line false true e h = h
compared-one a b line false false e h = stopped-here a b line h.0 h.1
