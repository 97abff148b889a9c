use Rattle.std.proofs.Common.{◌≡◌, ◌≢◌, ℕ, ◌<◌, ◌∙◌, length, get_or, sym, ap, arith, inl, inr, below_more, get_or-set_other, get_or-set_same, length-set, rules}
use Rattle.std.specs.Option.{option_copied}
use Rattle.std.proofs.lemmas.Bool.{cases_lt}
use Rattle.std.proofs.lemmas.List.{same_lists}
use Rattle.std.proofs.lemmas.List.FromFn.{get_or-map-range_with_len, length-map-range_with_len}
use Rattle.acas_base.specs.declared.TheConstants.{CRAFTS}
use Rattle.craft_view.specs.Views.{asks_for, shown, view_of}
use Rattle.craft_view.proofs.Past.{few-crafts, past-shown}
use Rattle.craft_view.proofs.craft.Craft.put_views.Goals as goal

pub loop-target-init : goal.loop-target-init
loop-target-init c = record {
  few = few-crafts c.args.encounter.now c.valid_law.ensures;
  size = search rules;
  done = λ k d h. absurd (omega arith);
  rest = c.requires.rest;
}

pub loop-target-preserved : goal.loop-target-preserved
loop-target-preserved c =
    let t = c.loop-target.target in
    let i = c.loop-target.invariant in
    let views = c.loop-target.views in
    let view = c.put_view.new.view in
    let here : t < length c.args.encounter.now.crafts = search rules in
    let within : t < length views = omega (arith, i.size, i.few, here) in
    record {
      few = i.few;
      size = length-set views t view ∙ i.size;
      done = λ k d. below_more _ _
          (λ j h. let ne : j ≢ t = omega arith in get_or-set_other views t j view d ne ∙ i.done j d h)
          (get_or-set_same views t view d within ∙ c.put_view.ensures) k;
      rest = λ k d past h. let ne : k ≢ t = omega (arith, here) in get_or-set_other views t k view d ne ∙ i.rest k d past h;
    }

pub returns : goal.returns
returns c =
    let e = c.args.encounter.now in
    let kept = c.args.self.now in
    let i = c.loop-target.invariant in
    let count : length c.crafts-target-end.result.now ≡ length e.crafts = ap length c.crafts-target-end.ensures.value in
    let f = λ (target : ℕ). shown (asks_for (option_copied c.args.before) target) (view_of e kept.own target kept.cycle) in
    same_lists _ _ (i.size ∙ sym (length-map-range_with_len f 0 CRAFTS))
    (λ k d within.
    let below : k < CRAFTS = omega (arith, i.size, within) in
    let is : get_or c.loop-target.views k d ≡ f k = elim (cases_lt k (length e.crafts)) [
      | inl there ↦ i.done k d (omega (arith, count, there))
      | inr past ↦ i.rest k d past below ∙ sym (past-shown (asks_for (option_copied c.args.before) k) e kept.own kept.cycle k past)
    ] in
    is ∙ sym (get_or-map-range_with_len f 0 CRAFTS k k d below (omega arith)))
