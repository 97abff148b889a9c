use Rattle.std.proofs.Common.{◌≡◌, ◌∙◌, ◌+◌, sym, ap, length, subst, inl, inr, arith}
use Rattle.std.proofs.lemmas.Bool.{cases_lt}
use Rattle.flight.specs.Bounds.{IsReachable}
use Rattle.flight.proofs.Placing.{position-past}
use Rattle.flight.proofs.places.step_places.Goals as goal

pub returns : goal.returns
returns c =
    let before = c.args.cycle in
    let were = c.requires.places in
    let e = c.args.encounter.now in
    let i = c.loop-craft.invariant in
    let count : length c.crafts-craft-end.result.now ≡ length e.crafts = ap length c.crafts-craft-end.ensures.value in
    let end = c.loop-craft-test.false in
    record {
      at = λ craft d within. elim (cases_lt craft c.loop-craft.craft) [
        | inl there ↦ i.done craft d there
        | inr past ↦
            i.rest craft d past
            ∙ were.at craft d within
            ∙ sym (position-past e craft before (omega (arith, end, count, past)))
            ∙ position-past e craft (before + 1) (omega (arith, end, count, past))
      ];
      reachable = λ craft within. elim (cases_lt craft c.loop-craft.craft) [
        | inl there ↦ i.reachable craft there
        | inr past ↦
            subst IsReachable
            (sym (position-past e craft before (omega (arith, end, count, past)))
            ∙ position-past e craft (before + 1) (omega (arith, end, count, past))) (were.reachable craft within)
      ];
    }
