-- Airs that are alike but for the copies of messages have journals of one shape.
use Rattle.std.proofs.Common.{◌≡◌, ℕ, zero, suc, ◌+◌, List, ◌∷◌, sym, ap, ◌∙◌, arith, inl, inr}
use Rattle.std.proofs.lemmas.Bool.{and_parts, cases_Bool}
use Rattle.acas_base.specs.declared.advisory.Cells.{Cells}
use Rattle.acas_base.specs.declared.entry.Entry.{Entry}
use Rattle.acas_base.specs.declared.entry.Entry.TheVariants.{Commit}
use Rattle.air_rules.proofs.Asked.{none-asked}
use Rattle.air_rules.proofs.Legal.{allowed, earlier, legal-begins}
use Rattle.air_rules.proofs.Pace.{active-ra}
use Rattle.air_rules.proofs.SameSeen.{same-messages, same-untold}
use Rattle.air_rules.proofs.ShapeSends.{none-sent, sends-asked}
use Rattle.air_rules.proofs.Shapes.{commit-shape, shaped}
use Rattle.air_rules.specs.Air.{Air, IsSound, is_ra}
use Rattle.air_rules.specs.Alike.{AreAlikeButCopies}
use Rattle.air_rules.specs.Journal.{Begins, cell_at, commits, sends}
use Rattle.air_rules.specs.Rules.{IsComplete, IsLegal}
use Rattle.air_rules.specs.Shape.{HaveOneShape, IsShapedByViews, coordinate, messages_to, shape_of, untold_cell}

-- ---- one journal

commit-seen : (air : Air) (J : List Entry) → IsLegal air J → (K : List Entry) (i j cycle : ℕ) (cells : Cells) →
    Begins (Commit i cycle cells ∷ K) J → shape_of (cell_at cells j) ≡ shape_of (untold_cell air i j cycle)
commit-seen air J l K i j cycle cells b =
    let at = legal-begins air b l in
    let next : cycle ≡ commits K i + 1 = (allowed at).cycle_is in
    let is : suc (commits K i) ≡ cycle = omega arith in
    commit-shape air K i j cycle cells (allowed at) (shaped air K (earlier at) i j) ∙ ap (λ n. shape_of (untold_cell air i j n)) is

pub shaped-by-views : (air : Air) (J : List Entry) → IsSound air → IsLegal air J → IsShapedByViews air J
shaped-by-views air J sound l = record {
  cells_are = λ K i j cycle cells b. commit-seen air J l K i j cycle cells b;
  sends_are = λ K i j b owes. sends-asked air sound K (legal-begins air b l) i j owes;
}

-- ---- two journals

-- Before a commit of a cycle as many messages were sent as are asked for up to the cycle before.
sent-before-commit : (air : Air) (J : List Entry) → IsSound air → IsLegal air J → (K : List Entry) (i j n : ℕ) (cells : Cells) →
    Begins (Commit i (suc n) cells ∷ K) J → sends K i j ≡ messages_to air i j n
sent-before-commit air J sound l K i j n cells b =
    let at = legal-begins air b l in
    let made : commits K i ≡ n = let f = (allowed at).cycle_is in omega arith in
    sends-asked air sound K (earlier at) i j (allowed at).owes_nothing ∙ ap (messages_to air i j) made

-- In a complete journal as many messages were sent as are asked for in all cycles.
sent-in-all : (air : Air) (J : List Entry) → IsSound air → IsLegal air J → IsComplete air J → (i j : ℕ) → sends J i j ≡ messages_to air i j air.cycles
sent-in-all air J sound l done i j = elim (cases_Bool (coordinate air i j)) [
  | inl c ↦
      let d = done i (active-ra air i (and_parts (is_ra air i) _ c).0) in
      sends-asked air sound J l i j d.owes_nothing ∙ ap (messages_to air i j) d.all_cycles
  | inr c ↦ none-sent air J l i j c ∙ sym (none-asked air i j air.cycles c)
]

pub one-shape : (one two : Air) (J L : List Entry) → IsSound one → IsSound two → AreAlikeButCopies one two → IsLegal one J → IsLegal two L → HaveOneShape one two J L
one-shape one two J L s t h l m = record {
  cells_are = λ i j cycle K M a b x y. commit-seen one J l K i j cycle a x ∙ ap shape_of (same-untold one two h i j cycle) ∙ sym (commit-seen two L m M i j cycle b y);
  sends_are = λ i j cycle K M a b x y. at_cycle i j cycle K M a b x y;
  in_all = λ d e i j. sent-in-all one J s l d i j ∙ same-messages one two h i j one.cycles ∙ ap (messages_to two i j) h.aircraft.cycles ∙ sym (sent-in-all two L t m e i j);
}
  where
    at_cycle : (i j cycle : ℕ) (K M : List Entry) (a b : Cells) → Begins (Commit i cycle a ∷ K) J → Begins (Commit i cycle b ∷ M) L → sends K i j ≡ sends M i j
    at_cycle i j zero K M a b x y = absurd (let f = (allowed (legal-begins one x l)).cycle_is in omega arith)
    at_cycle i j (suc n) K M a b x y = sent-before-commit one J s l K i j n a x ∙ same-messages one two h i j n ∙ sym (sent-before-commit two L t m M i j n b y)
