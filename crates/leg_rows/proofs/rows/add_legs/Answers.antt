use Rattle.std.proofs.Common.{◌≡◌, ◌+◌, ◌-◌, ◌++◌, ◌∙◌, ap, append_assoc, arith, length, sym}
use Rattle.leg_rows.proofs.Needed.{legs-more}
use Rattle.leg_rows.specs.Rows.{legs_by, legs_through, rates_from}
use Rattle.leg_rows.proofs.rows.add_legs.Goals as goal

pub loop-second-preserved : goal.loop-second-preserved
loop-second-preserved c =
    let rates = rates_from c.args.places.now in
    let here : 1 + c.loop-second.second ≡ c.loop-second.second + 1 = omega arith in
    let more = legs-more c.args.craft rates 1 c.loop-second.second in
    c.in_ok-add_leg.ensures
    ∙ ap (λ l. l ++ legs_by c.args.craft rates (c.loop-second.second + 1) 1) c.loop-second.invariant
    ∙ append_assoc c.args.legs.now.items (legs_by c.args.craft rates 1 c.loop-second.second) (legs_by c.args.craft rates (c.loop-second.second + 1) 1)
    ∙ ap (λ l. c.args.legs.now.items ++ l) (ap (λ k. legs_by c.args.craft rates 1 c.loop-second.second ++ legs_by c.args.craft rates k 1) (sym here) ∙ sym more)

pub returns : goal.returns
unfolding legs_through
returns c =
    let end : c.loop-second.second ≡ length c.args.places.now - 1 = omega arith in
    c.loop-second.invariant ∙ ap (λ n. c.args.legs.now.items ++ legs_by c.args.craft (rates_from c.args.places.now) 1 n) end
