-- The first line of a text, where the text begins with a whole line or has no byte.
use Rattle.std.proofs.Common.{◌≡◌, ◌≢◌, ℕ, Bool, true, false, List, [], ◌∷◌, ◌++◌, length, refl, sym, ap, ◌∙◌, arith, eqb-true, append_assoc, Option, Some, None, Bor}
use Rattle.std.specs.Prelude.{◌==◌, MatchOption}
use Rattle.acas_lines.specs.Split.{IsLine, lines_of}
use Rattle.acas_lines.specs.Lines.{joined}
use Rattle.acas_lines.proofs.Splitting.{joined-split, some-line, split-one}

-- By a whole line that the text begins with.
pub first-whole : (bytes line : List ℕ) (r : Option (Bor (List ℕ))) → IsLine line → MatchOption r ((rest : List ℕ) → bytes ≢ line ++ rest) (λ x. bytes ≡ line ++ x.now) →
    MatchOption r ((rest : List (List ℕ)) → lines_of bytes ≢ line ∷ rest) (λ x. lines_of bytes ≡ line ∷ lines_of x.now)
first-whole bytes line None is h = λ rest e. h (joined rest) (sym (joined-split bytes) ∙ ap joined e)
first-whole bytes line (Some x) is h =
    ap lines_of (h ∙ ap (λ l. l ++ x.now) is.whole ∙ append_assoc is.body (10 ∷ []) x.now) ∙ split-one is.body x.now is.inside ∙ ap (λ (l : List ℕ). l ∷ lines_of x.now) (sym is.whole)

some-byte : (c : ℕ) (cs : List ℕ) → c ∷ cs ≢ []
some-byte c cs = λ e. absurd cc

pub empty-lines : (bytes : List ℕ) (r : Bool) → r ≡ (length bytes == 0) → (r ≡ true → lines_of bytes ≡ []) × (lines_of bytes ≡ [] → r ≡ true)
empty-lines [] r h = (λ t. refl, λ e. h)
empty-lines (c ∷ cs) true h = absurd (omega (arith, eqb-true (length (c ∷ cs)) 0 (sym h)))
empty-lines (c ∷ cs) false h = (λ t. absurd cc, λ e. absurd (some-byte c cs (some-line (c ∷ cs) e)))
