use Rattle.std.proofs.Common.{◌≡◌, ℕ, ◌<◌, List, Option, None, get_or, set, length, length-set, get_or-set_same, get_or-set_other, below_more, sym, ap, ◌∙◌, subst, arith, inl, inr}
use Rattle.std.proofs.lemmas.Bool.{cases_lt}
use Rattle.std.proofs.lemmas.List.{get_or-replicate}
use Rattle.air_journal.proofs.Bounds.{active-is, below, few-crafts}
use Rattle.air_rules.specs.Journal.{commits}
use Rattle.craft_view.specs.Kept.{Kept}
use Rattle.craft_view.proofs.Looking.{ready-none}
use Rattle.resume.proofs.looks.put_crafts.Goals as goal
use Rattle.craft_view.specs.Looking.{IsReady}

pub loop-own-init : goal.loop-own-init
loop-own-init c = record {
  size = ap length c.requires.none;
  done = λ k h. absurd (omega arith);
  rest = λ k h within. ap (λ (l : List (Option Kept)). get_or l k None) c.requires.none ∙ get_or-replicate 16 k None None within;
}

pub loop-own-preserved : goal.loop-own-preserved
loop-own-preserved c =
    let i = c.loop-own.invariant in
    let xs = c.loop-own.surveillance.crafts in
    let v = c.craft_at.result in
    let n = c.loop-own.own in
    let few = few-crafts c.args.enc.now c.crafts.ensures.valid in
    let size : length c.crafts.result.now ≡ length c.args.enc.now.crafts = ap length c.crafts.ensures.value in
    let here : n < length xs = omega (arith, i.size) in
    let s : set xs c.from.result v ≡ set xs n v = ap (λ (k : ℕ). set xs k v) c.from.ensures in
    let all = below_more (λ k. IsReady c.args.enc.now k (commits c.args.state.now.journal k) (get_or (set xs n v) k None)) n
    (λ k h. subst (IsReady c.args.enc.now k (commits c.args.state.now.journal k)) (sym (get_or-set_other xs n k v None (omega arith))) (i.done k h))
    (subst (IsReady c.args.enc.now n (commits c.args.state.now.journal n)) (sym (get_or-set_same xs n v None here)) c.craft_at.ensures) in
    record {
      size = length-set xs c.from.result v ∙ i.size;
      done = λ k h. subst (λ (l : List (Option Kept)). IsReady c.args.enc.now k (commits c.args.state.now.journal k) (get_or l k None)) (sym s) (all k h);
      rest = λ k h w. ap (λ (l : List (Option Kept)). get_or l k None) s ∙ get_or-set_other xs n k v None (omega arith) ∙ i.rest k (omega arith) w;
    }

pub returns : goal.returns
returns c =
    let i = c.loop-own.invariant in
    let e = c.args.enc.now in
    let size : length c.crafts.result.now ≡ length e.crafts = ap length c.crafts.ensures.value in
    λ own h.
    elim (cases_lt own c.loop-own.own) [
      | inl lt ↦ i.done own lt
      | inr ge ↦ subst (IsReady e own (commits c.args.state.now.journal own)) (sym (i.rest own ge h))
          (ready-none e own (commits c.args.state.now.journal own) (λ a. let b = below e c.crafts.ensures.valid own (active-is e own a) in omega arith))
    ]
