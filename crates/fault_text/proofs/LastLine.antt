-- The last line of some that holds a record and passes a test.
use Rattle.std.proofs.Common.{◌≡◌, ◌∙◌, ℕ, ◌+◌, Bool, true, false, List, [], ◌∷◌, ◌++◌, length, Option, Some, None, refl, ap, append_assoc}
use Rattle.std.specs.List.{list_any}
use Rattle.std.proofs.lemmas.List.Elements.{filter-append}
use Rattle.std.proofs.lemmas.List.Folds.{list_any-append}
use Rattle.fault_text.specs.Before.{IsLastIn}
use Rattle.fault_text.specs.Lines.{is_written, written}
use Rattle.fault_text.specs.declared.lines.Place.{Place}

any-lines : (holds : List ℕ → Bool) (before after : List (List ℕ)) → list_any holds (written before) ≡ false → list_any holds (written after) ≡ false → list_any holds (written (before ++ after)) ≡ false
any-lines holds before after a b =
    ap (list_any holds) (filter-append is_written before after) ∙ list_any-append holds (written before) (written after) ∙ rw (a, b) refl

pub kept-last : (holds : List ℕ → Bool) (before : List (List ℕ)) (line : List ℕ) (found : Option Place) → IsLastIn holds before found → list_any holds (written (line ∷ [])) ≡ false → IsLastIn holds (before ++ line ∷ []) found
kept-last holds before line None last other = any-lines holds before (line ∷ []) last other
kept-last holds before line (Some place) last other = record {
  before = last.before;
  after = last.after ++ line ∷ [];
  whole = ap (λ t. t ++ line ∷ []) last.whole ∙ append_assoc last.before (place.line.now ∷ last.after) (line ∷ []);
  number = last.number;
  full = last.full;
  passes = last.passes;
  last = any-lines holds last.after (line ∷ []) last.last other;
}

pub new-last : (holds : List ℕ → Bool) (before : List (List ℕ)) (place : Place) → is_written place.line.now ≡ true → holds place.line.now ≡ true → place.number ≡ length before + 1 → IsLastIn holds (before ++ place.line.now ∷ []) (Some place)
new-last holds before place full passes number = record { before = before; after = []; whole = refl; number = number; full = full; passes = passes; last = refl }

pub other-line : (holds : List ℕ → Bool) (line : List ℕ) → is_written line ≡ true → holds line ≡ false → list_any holds (written (line ∷ [])) ≡ false
other-line holds line full fails = rw (full, fails) refl

pub blank-line : (holds : List ℕ → Bool) (line : List ℕ) → is_written line ≡ false → list_any holds (written (line ∷ [])) ≡ false
blank-line holds line blank = rw blank refl
