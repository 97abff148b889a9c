-- Equal worlds give equal cells.
use Rattle.std.proofs.Common.{◌≡◌, ℕ, ◌≤◌, ◌&&◌, eqb, List, [], ◌∷◌, Some, sym, ap, ◌∙◌, subst, arith, inl, inr, eqb-true}
use Rattle.std.proofs.lemmas.Bool.{and_parts}
use Rattle.acas_base.specs.declared.advisory.Cells.{Cells}
use Rattle.acas_base.specs.declared.entry.Entry.{Entry}
use Rattle.acas_base.specs.declared.entry.Entry.TheVariants.{Commit, Send, Take}
use Rattle.air_journal.proofs.Adding.{some-cells}
use Rattle.air_journal.specs.Cells.{commit_cells}
use Rattle.air_rules.proofs.Positions.{chosen}
use Rattle.air_rules.specs.Air.{Air}
use Rattle.air_rules.specs.Journal.{Begins, commits, more, whole}
use Rattle.air_rules.specs.Rules.{IsLegal}
use Rattle.air_rules.specs.Worlds.{AreTwoWorlds, IsToldTheSame, SeesTheSame}

-- A journal that has a commit begins with one that ends with it.
begins-commit : (J : List Entry) (own k : ℕ) (cells : Cells) → commit_cells J own k ≡ Some cells → (earlier : List Entry) × Begins (Commit own k cells ∷ earlier) J
begins-commit [] own k cells e = absurd (cc)
begins-commit (Commit o c xs ∷ K) own k cells e = elim (chosen (eqb o own && eqb c k) (Some xs) (commit_cells K own k) (Some cells) e) [
  | inl a ↦
      let p = and_parts (eqb o own) (eqb c k) a.0 in
      let z : xs ≡ cells = (let f = a.1 in cc) in
      (K, subst (λ (x : ℕ). Begins (Commit x k cells ∷ K) (Commit o c xs ∷ K)) (eqb-true o own p.0) (subst (λ (x : ℕ). Begins (Commit o x cells ∷ K) (Commit o c xs ∷ K)) (eqb-true c k p.1) (subst (λ (x : Cells). Begins (Commit o c x ∷ K) (Commit o c xs ∷ K)) z whole)))
  | inr a ↦ let r = begins-commit K own k cells a.1 in (r.0, more r.1)
]
begins-commit (Send o t n w ∷ K) own k cells e = let r = begins-commit K own k cells e in (r.0, more r.1)
begins-commit (Take o s c g ∷ K) own k cells e = let r = begins-commit K own k cells e in (r.0, more r.1)

pub same-cells : (one two : Air) (J L : List Entry) → IsLegal one J → IsLegal two L → AreTwoWorlds one two J L → (own last : ℕ) → last ≤ commits J own → last ≤ commits L own →
    SeesTheSame one two own last → IsToldTheSame one two J L own last → (k : ℕ) → 1 ≤ k → k ≤ last → commit_cells J own k ≡ commit_cells L own k
same-cells one two J L lj ll worlds own last mj ml sees told k h g =
    let a = some-cells one J lj own k h (omega arith) in
    let b = some-cells two L ll own k h (omega arith) in
    let p = begins-commit J own k a.0 a.1 in
    let q = begins-commit L own k b.0 b.1 in
    a.1 ∙ ap Some (worlds own last sees told k p.0 q.0 a.0 b.0 g p.1 q.1) ∙ sym b.1
