-- Serial journals that are the same up to the end of a round have the same commits up to it.
use Rattle.std.proofs.Common.{◌≡◌, ℕ, ◌≤◌, ◌&&◌, eqb, List, [], ◌∷◌, Option, Some, None, refl, sym, ap, ◌∙◌, subst, inl, inr, eqb-true, eq-eqb}
use Rattle.std.proofs.lemmas.Bool.{and_parts, cases_Bool, cond-false, cond-true}
use Rattle.acas_base.specs.declared.advisory.Cells.{Cells}
use Rattle.acas_base.specs.declared.entry.Entry.{Entry}
use Rattle.acas_base.specs.declared.entry.Entry.TheVariants.{Commit, Send, Take}
use Rattle.air_journal.specs.Cells.{commit_cells}
use Rattle.air_rules.proofs.Positions.{chosen}
use Rattle.air_rules.specs.Journal.{Begins, more, whole}
use Rattle.air_rules.specs.Rounds.{AreTheSameTo}

-- A journal that has a commit begins with one that ends with it.
begins-commit : (J : List Entry) (own k : ℕ) (cells : Cells) → commit_cells J own k ≡ Some cells → (earlier : List Entry) × Begins (Commit own k cells ∷ earlier) J
begins-commit [] own k cells e = absurd (cc)
begins-commit (Commit o c xs ∷ K) own k cells e = elim (chosen (eqb o own && eqb c k) (Some xs) (commit_cells K own k) (Some cells) e) [
  | inl a ↦
      let p = and_parts (eqb o own) (eqb c k) a.0 in
      let z : xs ≡ cells = (let f = a.1 in cc) in
      (K, subst (λ (x : ℕ). Begins (Commit x k cells ∷ K) (Commit o c xs ∷ K)) (eqb-true o own p.0) (subst (λ (x : ℕ). Begins (Commit o x cells ∷ K) (Commit o c xs ∷ K)) (eqb-true c k p.1) (subst (λ (x : Cells). Begins (Commit o c x ∷ K) (Commit o c xs ∷ K)) z whole)))
  | inr a ↦ let r = begins-commit K own k cells a.1 in (r.0, more r.1)
]
begins-commit (Send o t n w ∷ K) own k cells e = let r = begins-commit K own k cells e in (r.0, more r.1)
begins-commit (Take o s c g ∷ K) own k cells e = let r = begins-commit K own k cells e in (r.0, more r.1)

-- A journal has a commit of each cycle of which it begins with one.
abbrev HasCommit : List Entry → ℕ → ℕ → Type 0
HasCommit J own k = (cells : Cells) × (commit_cells J own k ≡ Some cells)

on-top : (J : List Entry) (own k : ℕ) (cells : Cells) → HasCommit (Commit own k cells ∷ J) own k
on-top J own k cells = (cells, cond-true (eqb own own && eqb k k) (Some cells) (commit_cells J own k) (ap (λ b. b && eqb k k) (eq-eqb own own refl) ∙ eq-eqb k k refl))

still-there : (x : Entry) (J : List Entry) (own k : ℕ) → HasCommit J own k → HasCommit (x ∷ J) own k
still-there (Commit o c xs) J own k has = elim (cases_Bool (eqb o own && eqb c k)) [
  | inl y ↦ (xs, cond-true (eqb o own && eqb c k) (Some xs) (commit_cells J own k) y)
  | inr n ↦ (has.0, cond-false (eqb o own && eqb c k) (Some xs) (commit_cells J own k) n ∙ has.1)
]
still-there (Send o t n w) J own k has = has
still-there (Take o s c g) J own k has = has

found : (K J : List Entry) (own k : ℕ) (cells : Cells) → Begins (Commit own k cells ∷ K) J → HasCommit J own k
found K J own k cells whole = on-top K own k cells
found K J own k cells (more {entry = x} {journal = L} b) = still-there x L own k (found K L own k cells b)

-- A commit of one stands in the other.
carried-over : (J L : List Entry) (last own k : ℕ) (cells : Cells) → AreTheSameTo J L last → k ≤ last → commit_cells J own k ≡ Some cells → commit_cells L own k ≡ Some cells
carried-over J L last own k cells same low e =
    let here = begins-commit J own k cells e in
    let there = same.commits_are own k cells here.0 low here.1 in
    let has = found here.0 L own k cells there in
    let at = begins-commit L own k has.0 has.1 in
    has.1 ∙ ap Some (sym (same.cells_are own k here.0 at.0 cells has.0 low here.1 at.1))

pub same-cells : (J L : List Entry) (last own k : ℕ) → AreTheSameTo J L last → AreTheSameTo L J last → k ≤ last → commit_cells J own k ≡ commit_cells L own k
same-cells J L last own k one two low = by (commit_cells J own k) (commit_cells L own k) refl refl
  where
    by : (a b : Option Cells) → commit_cells J own k ≡ a → commit_cells L own k ≡ b → commit_cells J own k ≡ commit_cells L own k
    by (Some cells) b e f = e ∙ sym (carried-over J L last own k cells one low e)
    by None (Some cells) e f = carried-over L J last own k cells two low f ∙ sym f
    by None None e f = e ∙ sym f
