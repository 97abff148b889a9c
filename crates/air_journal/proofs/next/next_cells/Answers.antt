use Rattle.std.proofs.Common.{◌≡◌, ℕ, ◌+◌, List, get_or, set, sym, refl, ap, ◌∙◌, inl, inr, arith, below_more, get_or-set_same, get_or-set_other, length-set}
use Rattle.std.proofs.lemmas.Bool.{cases_lt}
use Rattle.std.proofs.lemmas.List.{get_or-replicate}
use Rattle.acas_base.specs.declared.TheConstants.{CRAFTS}
use Rattle.acas_base.specs.declared.advisory.Cell.{Cell}
use Rattle.acas_base.specs.declared.advisory.Cell.TheVariants.{Clear}
use Rattle.air_journal.proofs.Past.{next-past}
use Rattle.air_journal.proofs.next.next_cells.Goals as goal
use Rattle.air_journal.specs.Airs.{air_of}
use Rattle.air_journal.specs.Found.{next_in}

pub next_for-requires-clause-view : goal.next_for-requires-clause-view
next_for-requires-clause-view c =
    rw c.from.ensures (c.requires.picture c.loop-target.target _ (omega arith))

pub loop-target-preserved : goal.loop-target-preserved
loop-target-preserved c =
    let t = c.loop-target.target in
    let xs = c.loop-target.list in
    let v = c.next_for.result in
    let s : set xs c.from-in-loop-target.result v ≡ set xs t v = ap (λ (n : ℕ). set xs n v) c.from-in-loop-target.ensures in
    let all = below_more (λ k. get_or (set xs t v) k Clear ≡ next_in (air_of c.args.encounter.now) c.args.tables.now c.args.own k) t
    (λ k h. get_or-set_other xs t k v Clear (omega arith) ∙ c.loop-target.invariant.done k h)
    (get_or-set_same xs t v Clear (omega (arith, c.loop-target.invariant.size)) ∙ c.next_for.ensures) in
    record {
      size = length-set xs c.from-in-loop-target.result v ∙ c.loop-target.invariant.size;
      done = λ k h. ap (λ (l : List Cell). get_or l k Clear) s ∙ all k h;
      rest = λ k h few. ap (λ (l : List Cell). get_or l k Clear) s ∙ get_or-set_other xs t k v Clear (omega arith) ∙ c.loop-target.invariant.rest k (omega arith) few;
    }

pub loop-target-init : goal.loop-target-init
loop-target-init c = record {
  size = refl;
  done = λ k h. absurd (omega arith);
  rest = λ k h few. get_or-replicate CRAFTS k Clear Clear few;
}

pub returns : goal.returns
returns c = record {
  size = c.loop-target.invariant.size;
  each = λ k few. elim (cases_lt k c.loop-target.target) [
    | inl h ↦ c.loop-target.invariant.done k h
    | inr h ↦ c.loop-target.invariant.rest k h few ∙ sym (next-past (air_of c.args.encounter.now) c.args.tables.now c.args.own k (omega arith))
  ];
}
