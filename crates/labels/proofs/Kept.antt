-- What is known of names and marks.
use Rattle.std.proofs.Common.{◌≡◌, ℕ, zero, suc, ◌+◌, ◌<◌, ◌≤◌, Bool, true, false, ◌&&◌, List, [], ◌∷◌, Option, Some, length, get_or, take, refl, sym, ap, ap₂, ◌∙◌, subst, arith, add-one, inl, inr}
use Rattle.std.proofs.lemmas.Bool.{cases_Bool, cond-false, cond-true, leb-true}
use Rattle.std.specs.List.{list_all}
use Rattle.std.specs.Prelude.{nat_le, is_some}
use Rattle.std.specs.Option.{ForSome}
use Rattle.std.specs.Str.{bytes_eq}
use Rattle.enc_file.specs.Values.{address_in}
use Rattle.labels.specs.Labels.{AreLabels, are_apart, are_checked, are_marks, are_names, name_count, or_else, value_with}
use Rattle.labels.specs.Parts.{has_equals, is_mark_key, is_mark_word, is_name, is_name_letter, is_name_word, is_sized, is_text, is_text_letter, key_of, value_of}

left-of : (a b : Bool) → a && b ≡ true → a ≡ true
left-of true b h = refl
left-of false b h = absurd (cc)

right-of : (a b : Bool) → a && b ≡ true → b ≡ true
right-of true b h = h
right-of false b h = absurd (cc)

both : (a b : Bool) → a ≡ true → b ≡ true → a && b ≡ true
both a b one two = ap₂ (λ (x y : Bool). x && y) one two

-- The words that are counted as names are names.
pub front-named : (words : List (List ℕ)) → are_names (take (name_count words) words) ≡ true
front-named [] = refl
front-named (word ∷ words) = elim (cases_Bool (is_name_word word)) [
  | inl met ↦
      (let count = cond-true (is_name_word word) (name_count words + 1) 0 met ∙ add-one (name_count words) in
      subst (λ (n : ℕ). are_names (take n (word ∷ words)) ≡ true) (sym count) (both (is_name_word word) (are_names (take (name_count words) words)) met (front-named words)))
  | inr unmet ↦ subst (λ (n : ℕ). are_names (take n (word ∷ words)) ≡ true) (sym (cond-false (is_name_word word) (name_count words + 1) 0 unmet)) refl
]

name-short : (word : List ℕ) → is_name_word word ≡ true → length (value_of word) ≤ 8
unfolding is_name_word is_name
name-short word h =
    let value = value_of word in
    let form = right-of (is_some (address_in (key_of word))) (is_name value) (right-of (has_equals word) (is_some (address_in (key_of word)) && is_name value) h) in
    let sized = left-of (is_sized 8 value) (list_all is_name_letter value) form in
    leb-true (length value) 8 (right-of (nat_le 1 (length value)) (nat_le (length value) 8) sized)

-- The value of a word that is found is a name.
pub named-short : (words : List (List ℕ)) (key value : List ℕ) → are_names words ≡ true → value_with words key ≡ Some value → length value ≤ 8
named-short [] key value names found = absurd (cc)
named-short (word ∷ words) key value names found = elim (cases_Bool (bytes_eq (key_of word) key)) [
  | inl met ↦
      (let same = ap (λ (o : Option (List ℕ)). or_else o []) (sym (cond-true (bytes_eq (key_of word) key) (Some (value_of word)) (value_with words key) met) ∙ found) in
      subst (λ (v : List ℕ). length v ≤ 8) same (name-short word (left-of (is_name_word word) (are_names words) names)))
  | inr unmet ↦
      named-short words key value (right-of (is_name_word word) (are_names words) names)
      (sym (cond-false (bytes_eq (key_of word) key) (Some (value_of word)) (value_with words key) unmet) ∙ found)
]

text-short : (start : Option ℕ) (word : List ℕ) → is_mark_word start word ≡ true → length (value_of word) ≤ 60
unfolding is_mark_word is_text
text-short start word h =
    let value = value_of word in
    let form = right-of (is_mark_key start (key_of word)) (is_text value) (right-of (has_equals word) (is_mark_key start (key_of word) && is_text value) h) in
    let sized = left-of (is_sized 60 value) (list_all is_text_letter value) form in
    leb-true (length value) 60 (right-of (nat_le 1 (length value)) (nat_le (length value) 60) sized)

-- The text of a mark is short.
pub marked-short : (start : Option ℕ) (words : List (List ℕ)) (place : ℕ) → are_marks start words ≡ true → place < length words → length (value_of (get_or words place [])) ≤ 60
marked-short start [] place marks within = absurd (omega arith)
marked-short start (word ∷ words) zero marks within = text-short start word (left-of (is_mark_word start word) (are_marks start words) marks)
marked-short start (word ∷ words) (suc place) marks within = marked-short start words place (right-of (is_mark_word start word) (are_marks start words) marks) (omega arith)

pub sound : (start : Option ℕ) (names marks : List (List ℕ)) → ForSome start (λ second. second < 86400) → are_names names ≡ true → are_checked start names marks ≡ true →
    AreLabels (record { start = start; names = names; marks = marks })
sound start names marks day named h =
    let rest = right-of (are_apart names) (are_marks start marks && nat_le (length marks) 26) h in
    record {
      day = day;
      named = named;
      marked = left-of (are_marks start marks) (nat_le (length marks) 26) rest;
      few = leb-true (length marks) 26 (right-of (are_marks start marks) (nat_le (length marks) 26) rest);
    }
