-- What some words say.
use Rattle.std.proofs.Common.{◌≡◌, ℕ, ◌<◌, ◌≤◌, true, false, List, Option, Some, None, drop, length, take, sym, ap, ap₂, ◌∙◌, arith, inl, inr}
use Rattle.std.proofs.lemmas.Bool.{cases_Bool, cond-false, cond-true, le-leb, leb-true}
use Rattle.std.specs.Prelude.{nat_le}
use Rattle.labels.specs.Labels.{after_start, are_checked, checked, labels_in, name_count, parted, start_in}

pub too-many : (words : List (List ℕ)) → 256 < length words → labels_in words ≡ None
unfolding labels_in
too-many words many = elim (cases_Bool (nat_le (length words) 256)) [
  | inl met ↦ (let within = leb-true (length words) 256 met in absurd (omega (arith, within)))
  | inr unmet ↦ cond-false (nat_le (length words) 256) (parted (start_in words) (after_start words)) None unmet
]

pub by-parts : (words names marks : List (List ℕ)) (start : Option ℕ) → length words ≤ 256 → start ≡ start_in words
    → names ≡ take (name_count (after_start words)) (after_start words) → marks ≡ drop (name_count (after_start words)) (after_start words) → labels_in words ≡ checked start names marks
unfolding labels_in
by-parts words names marks start few s n m =
    cond-true (nat_le (length words) 256) (parted (start_in words) (after_start words)) None (le-leb (length words) 256 few)
    ∙ ap₂ (λ (x y : List (List ℕ)). checked (start_in words) x y) (sym n) (sym m) ∙ ap (λ (o : Option ℕ). checked o names marks) (sym s)

pub accepted : (start : Option ℕ) (names marks : List (List ℕ)) → are_checked start names marks ≡ true → checked start names marks ≡ Some (record { start = start; names = names; marks = marks })
accepted start names marks met = cond-true (are_checked start names marks) (Some (record { start = start; names = names; marks = marks })) None met

pub refused : (start : Option ℕ) (names marks : List (List ℕ)) → are_checked start names marks ≡ false → checked start names marks ≡ None
refused start names marks unmet = cond-false (are_checked start names marks) (Some (record { start = start; names = names; marks = marks })) None unmet
