-- What a job gives of each place of a list is given of each of its items, in order.
use Rattle.std.proofs.Common.{◌≡◌, ◌∙◌, ℕ, zero, suc, ◌+◌, ◌≤◌, List, [], ◌∷◌, Option, Some, ap, arith, drop, get_or, length, map, refl, subst}
use Rattle.std.proofs.Math.Seq.{get_or-drop}
use Rattle.std.proofs.lemmas.Option.{slice_get_read}
use Rattle.std.specs.List.{AllZip, range_with_len}
use Rattle.std.specs.Prelude.{IfSome, slice_get}
use Rattle.sweep.specs.Numbers.{number_at, numbers}

behind : {X : Type 0} (k : ℕ) (all : List X) (x : X) (rest : List X) → x ∷ rest ≡ drop k all → rest ≡ drop (suc k) all
behind zero all x rest is = ap (drop 1) is
behind (suc k) [] x rest is = absurd (omega (arith, ap length is))
behind (suc k) (y ∷ ys) x rest is = behind k ys x rest is

module _ {X G : Type 0} (P : X → G → Type 0) (all : List X) where
  abbrev GivenAt : ℕ → G → Type 0
  GivenAt place given = IfSome (slice_get all place) (λ x. P x given)

  from-place : (rest : List X) (k : ℕ) (list : List G) → k + length rest ≤ 4096 → rest ≡ drop k all → length all ≡ k + length rest → AllZip GivenAt (map (number_at 0) (range_with_len k (length rest))) list → AllZip P rest list
  from-place [] k [] few is size h = tt
  from-place [] k (g ∷ list) few is size h = absurd h
  from-place (x ∷ rest) k [] few is size h = absurd h
  from-place (x ∷ rest) k (g ∷ list) few is size h =
      let here : k + 0 ≡ k = omega arith in
      let next : suc k ≡ k + 1 = omega arith in
      let number : number_at 0 k ≡ k = omega (arith, few) in
      let item : x ≡ get_or all k x = ap (λ l. get_or l 0 x) is ∙ get_or-drop k all 0 x ∙ ap (λ n. get_or all n x) here in
      let there : slice_get all k ≡ Some x = slice_get_read all (length all) k x refl (omega (arith, size)) item in
      let given : P x g = subst (λ (o : Option X). IfSome o (λ y. P y g)) there (subst (λ n. GivenAt n g) number h.0) in
      let tail : rest ≡ drop (k + 1) all = behind k all x rest is ∙ ap (λ n. drop n all) next in
      (given, from-place rest (k + 1) list (omega (arith, few)) tail (omega (arith, size)) h.1)

  pub by-item : (list : List G) → length all ≤ 4096 → AllZip GivenAt (numbers 0 (length all)) list → AllZip P all list
  by-item list few h = from-place all 0 list (omega (arith, few)) refl (omega arith) h
