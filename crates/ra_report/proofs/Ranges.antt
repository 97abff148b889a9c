-- Numbers in a row that pass a test.
use Rattle.std.proofs.Common.{◌≡◌, ℕ, zero, suc, ◌+◌, Bool, true, false, cond, List, [], ◌∷◌, ◌++◌, filter, refl, sym, ap, ◌∙◌, subst, arith, add-one}
use Rattle.std.specs.List.{range_with_len}
use Rattle.std.proofs.lemmas.List.{append-nil}
use Rattle.acas_base.specs.Messages.{has_advisory}
use Rattle.acas_base.specs.declared.advisory.Cells.{Cells}
use Rattle.air_rules.specs.Journal.{cell_at}
use Rattle.ra_report.specs.Blocks.{threats}
use Rattle.ra_report.specs.Stories.{IsAmong, as_threats, with_threat}
use Rattle.ra_report.specs.declared.story.Threats.{Threats}
use Rattle.ra_report.specs.declared.story.Threats.TheVariants as kinds

-- The next number.
filter-more : (test : ℕ → Bool) (first n : ℕ) → filter test (range_with_len first (n + 1)) ≡ filter test (range_with_len first n) ++ cond (test (first + n)) ((first + n) ∷ []) []
filter-more test first n = ap (λ (k : ℕ). filter test (range_with_len first k)) (add-one n) ∙ by_suc first n
  where
    by_suc : (first n : ℕ) → filter test (range_with_len first (suc n)) ≡ filter test (range_with_len first n) ++ cond (test (first + n)) ((first + n) ∷ []) []
    by_suc first zero = ap (λ (k : ℕ). cond (test k) (k ∷ []) []) (let e : first ≡ first + zero = omega arith in e)
    by_suc first (suc n) =
        let next : (first + 1) + n ≡ first + suc n = omega arith in
        let ih = by_suc (first + 1) n ∙ ap (λ (k : ℕ). filter test (range_with_len (first + 1) n) ++ cond (test k) (k ∷ []) []) next in
        elim (test first) as (λ t. cond t (first ∷ filter test (range_with_len (first + 1) (suc n))) (filter test (range_with_len (first + 1) (suc n)))
        ≡ cond t (first ∷ filter test (range_with_len (first + 1) n)) (filter test (range_with_len (first + 1) n)) ++ cond (test (first + suc n)) ((first + suc n) ∷ []) []) [
          | true ↦ ap (λ (xs : List ℕ). first ∷ xs) ih
          | false ↦ ih
        ]

with-last : (xs : List ℕ) (n : ℕ) → as_threats (xs ++ n ∷ []) ≡ with_threat (as_threats xs) n
with-last [] n = refl
with-last (x ∷ []) n = refl
with-last (x ∷ y ∷ rest) n = refl

-- One aircraft more.
pub threats-more : (cells : Cells) (n : ℕ) → as_threats (threats (n + 1) cells) ≡ cond (has_advisory (cell_at cells n)) (with_threat (as_threats (threats n cells)) n) (as_threats (threats n cells))
threats-more cells n =
    ap as_threats (filter-more (λ other. has_advisory (cell_at cells other)) 0 n)
    ∙ ap (λ (k : ℕ). as_threats (threats n cells ++ cond (has_advisory (cell_at cells k)) (k ∷ []) [])) (let e : 0 + n ≡ n = omega arith in e)
    ∙ (elim (has_advisory (cell_at cells n)) as (λ t. as_threats (threats n cells ++ cond t (n ∷ []) []) ≡ cond t (with_threat (as_threats (threats n cells)) n) (as_threats (threats n cells))) [
      | true ↦ with-last (threats n cells) n
      | false ↦ ap as_threats (append-nil (threats n cells))
    ])

among-more : (n : ℕ) (t : Threats) (b : Bool) → IsAmong n t → IsAmong (n + 1) (cond b (with_threat t n) t)
among-more n kinds.Nobody true is = omega arith
among-more n kinds.Nobody false is = tt
among-more n (kinds.One one) true is = tt
among-more n (kinds.One one) false is = omega (arith, is)
among-more n kinds.Many true is = tt
among-more n kinds.Many false is = tt

pub threats-among : (cells : Cells) (n : ℕ) → IsAmong n (as_threats (threats n cells))
threats-among cells zero = tt
threats-among cells (suc n) =
    subst (λ (k : ℕ). IsAmong k (as_threats (threats k cells))) (add-one n)
    (subst (IsAmong (n + 1)) (sym (threats-more cells n)) (among-more n (as_threats (threats n cells)) (has_advisory (cell_at cells n)) (threats-among cells n)))
