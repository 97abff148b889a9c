-- Places in a table of pairs.
use Rattle.std.proofs.Common.{◌≡◌, ℕ, ◌+◌, ◌*◌, ◌<◌, ◌&&◌, cond, eqb, List, length, get_or, set, sym, ◌∙◌, subst, arith, inl, inr, eq-eqb, ne_eqb, get_or-set_same, get_or-set_other}
use Rattle.std.proofs.lemmas.Bool.{cond-false, cond-true, and_from, and_left, and_right, cases_eq}
use Rattle.acas_base.specs.declared.TheConstants.{CRAFTS}

pub set-pair : {X : Type 0} (xs : List X) (own other a b : ℕ) (x d : X) → length xs ≡ 256 → own < CRAFTS → other < CRAFTS → a < CRAFTS → b < CRAFTS →
    get_or (set xs (own * CRAFTS + other) x) (a * CRAFTS + b) d ≡ cond (eqb own a && eqb other b) x (get_or xs (a * CRAFTS + b) d)
set-pair xs own other a b x d n hi hj ha hb = elim (cases_eq own a) [
  | inl p ↦ elim (cases_eq other b) [
    | inl q ↦ subst (λ k. get_or (set xs (own * CRAFTS + other) x) k d ≡ cond (eqb own a && eqb other b) x (get_or xs (a * CRAFTS + b) d)) (let e : own * CRAFTS + other ≡ a * CRAFTS + b = omega arith in e)
        (get_or-set_same xs (own * CRAFTS + other) x d (omega arith) ∙ sym (cond-true (eqb own a && eqb other b) _ _ (and_from _ _ (eq-eqb _ _ p) (eq-eqb _ _ q))))
    | inr ne ↦ get_or-set_other xs (own * CRAFTS + other) (a * CRAFTS + b) x d (omega arith) ∙ sym (cond-false (eqb own a && eqb other b) _ _ (and_right _ _ (ne_eqb _ _ ne)))
  ]
  | inr ne ↦ get_or-set_other xs (own * CRAFTS + other) (a * CRAFTS + b) x d (omega arith) ∙ sym (cond-false (eqb own a && eqb other b) _ _ (and_left _ _ (ne_eqb _ _ ne)))
]
