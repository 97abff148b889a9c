-- Lines of which one is handed on.
use Rattle.std.proofs.Common.{◌≡◌, ℕ, List, [], ◌∷◌, ◌++◌, Option, Some, None, refl, sym, ap, ◌∙◌, subst}
use Rattle.std.proofs.lemmas.List.Concat.{flat_map-append}
use Rattle.comparison.specs.Sides.{side_text, told}
use Rattle.comparison.specs.Texts.{left_after, left-append, picked, picked-append}
use Rattle.comparison.specs.declared.sides.Side.{Side}

-- What was handed on of these lines, and how many stand before the one that is still looked for.
pub record Picks (took : List (List ℕ) → Type 0) (side kept : Side) (before now : Option ℕ) (lines : List (List ℕ)) : Type 0 where
  pub side_is : kept ≡ side
  pub now_is : now ≡ left_after before lines
  pub handed : took (told side (picked before lines))

none-picked : (before : Option ℕ) → picked before [] ≡ []
none-picked None = refl
none-picked (Some before) = refl

pub picks-nothing : (took : List (List ℕ) → Type 0) (side : Side) (before : Option ℕ) → took [] → Picks took side side before before []
picks-nothing took side before nothing = record { side_is = refl; now_is = refl; handed = subst took (sym (ap (told side) (none-picked before))) nothing }

pub told-append : (side : Side) (xs ys : List (List ℕ)) → told side (xs ++ ys) ≡ told side xs ++ told side ys
told-append side xs ys = flat_map-append (λ (line : List ℕ). side_text side ∷ line ∷ []) xs ys

pub picks-then : (first second both : List (List ℕ) → Type 0) → ((xs ys : List (List ℕ)) → first xs → second ys → both (xs ++ ys)) → (a b c : Side) (p q r : Option ℕ) (xs ys : List (List ℕ)) →
    Picks first a b p q xs → Picks second b c q r ys → Picks both a c p r (xs ++ ys)
picks-then first second both join a b c p q r xs ys g h = record {
  side_is = h.side_is ∙ g.side_is;
  now_is = h.now_is ∙ ap (λ (k : Option ℕ). left_after k ys) g.now_is ∙ left-append p xs ys;
  handed =
      (let later : second (told a (picked (left_after p xs) ys)) = subst (λ (k : Option ℕ). second (told a (picked k ys))) g.now_is (subst (λ (s : Side). second (told s (picked q ys))) g.side_is h.handed) in
      subst both (sym (told-append a (picked p xs) (picked (left_after p xs) ys)) ∙ ap (told a) (picked-append p xs ys)) (join (told a (picked p xs)) (told a (picked (left_after p xs) ys)) g.handed later));
}
