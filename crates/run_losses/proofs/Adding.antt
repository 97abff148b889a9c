-- The losses of more messages, and of more links.
use Rattle.std.proofs.Common.{◌≡◌, ℕ, zero, suc, ◌+◌, eqb, List, [], ◌∷◌, ◌++◌, refl, sym, ap, ◌∙◌, arith, lt-ltb, ne_eqb}
use Rattle.std.specs.Prelude.{filter, flat_map, length, map, nat_lt, not, take}
use Rattle.std.specs.List.{range_with_len}
use Rattle.std.proofs.lemmas.List.{flat_map_more, map-append}
use Rattle.std.proofs.lemmas.List.Elements.{filter-append}
use Rattle.acas_base.specs.Encounter.{Parts}
use Rattle.acas_base.specs.declared.link.CopyPlan.{CopyPlan}
use Rattle.run_losses.specs.Losses.{has_copy, one_loss, singles_among}
use Rattle.variants.specs.declared.change.Change.{Change}

-- A message has a copy where its fate has one.
pub has-one : (n : ℕ) (a b d : CopyPlan) → nat_lt 0 n ≡ not (eqb (length (take n (a ∷ b ∷ d ∷ []))) 0)
has-one zero a b d = refl
has-one (suc n) a b d = lt-ltb 0 (suc n) (omega arith) ∙ ap not (sym (ne_eqb (length (take (suc n) (a ∷ b ∷ d ∷ []))) 0 (λ e. omega arith)))

range-more : (a n k : ℕ) → k ≡ a + n → range_with_len a (n + 1) ≡ range_with_len a n ++ k ∷ []
range-more a zero k is = ap (λ m. m ∷ []) (omega arith)
range-more a (suc n) k is =
    let next : suc n + 1 ≡ suc (n + 1) = omega arith in
    ap (range_with_len a) next ∙ ap (λ l. a ∷ l) (range-more (a + 1) n k (omega arith))

-- One message more.
pub single-more : (e : Parts) (sender receiver n k : ℕ) → k ≡ 1 + n
    → singles_among e sender receiver (range_with_len 1 (n + 1)) ≡ singles_among e sender receiver (range_with_len 1 n) ++ singles_among e sender receiver (k ∷ [])
single-more e sender receiver n k is =
    ap (singles_among e sender receiver) (range-more 1 n k is)
    ∙ ap (map (one_loss sender receiver)) (filter-append (has_copy e sender receiver) (range_with_len 1 n) (k ∷ []))
    ∙ map-append (one_loss sender receiver) (filter (has_copy e sender receiver) (range_with_len 1 n)) (filter (has_copy e sender receiver) (k ∷ []))

-- One aircraft more.
pub craft-more : (losses : ℕ → List Change) (before : List Change) (n : ℕ) → (before ++ flat_map losses (range_with_len 0 n)) ++ losses n ≡ before ++ flat_map losses (range_with_len 0 (n + 1))
craft-more losses before n = flat_map_more losses before (range_with_len 0 n) n ∙ ap (λ l. before ++ flat_map losses l) (sym (range-more 0 n n (omega arith)))
