use Rattle.std.proofs.Common.{◌≡◌, ℕ, ◌+◌, ◌-◌, [], ◌∷◌, ◌++◌, sym, ap, ◌∙◌, subst, arith}
use Rattle.std.specs.Prelude.{map}
use Rattle.std.specs.List.{range_with_len}
use Rattle.picture.proofs.Mapping.{map-more}
use Rattle.picture.specs.Modelled.{modelled_point, modelled_points}
use Rattle.response.specs.Modelled.{FlightTold}
use Rattle.picture.proofs.modelled.put_points.Goals as goal

pub loop-step-preserved : goal.loop-step-preserved
loop-step-preserved g c =
    let e = c.args.state.now.encounter in
    let J = c.args.state.now.journal in
    let own = c.args.own in
    let passed = c.args.passed in
    let step = c.loop-step.step in
    let before = c.loop-step.invariant in
    let f = modelled_point c.args.axis e J own in
    let at : ℕ → FlightTold = λ n. record { encounter = e; journal = J; craft = own; told = n } in
    let more : FlightTold → FlightTold = λ t. record { encounter = t.encounter; journal = t.journal; craft = t.craft; told = t.told + 1 } in
    let told : (passed + step) + 1 ≡ passed + (step + 1) = omega arith in
    let here : (passed + 1) + step ≡ (passed + step) + 1 = omega arith in
    let point = rw c.modelled_point.ensures at c.point.ensures in
    record {
      flight = c.in-Some.ensures.told ∙ ap more before.flight ∙ ap at told;
      drawn = subst (g.D.Drawing.passed c.args.drawing.now c.point.new.self)
          (ap (λ (k : ℕ). map f (range_with_len (passed + 1) step) ++ f k ∷ []) (sym here) ∙ sym (map-more f (passed + 1) step))
          (g.met.D.Drawing.more_points _ _ _ _ _ before.drawn point);
    }

pub returns : goal.returns
unfolding modelled_points
returns g c =
    let e = c.args.state.now.encounter in
    let f = modelled_point c.args.axis e c.args.state.now.journal c.args.own in
    let passed = c.args.passed in
    let run = c.requires.time in
    let all : c.loop-step.step ≡ e.cycles - passed = (let done = c.loop-step-test.false in let most = c.loop-step.auto.step-end in omega arith) in
    subst (λ (n : ℕ). g.D.Drawing.passed c.args.drawing.now c.loop-step.drawing (map f (range_with_len (passed + 1) n))) all c.loop-step.invariant.drawn
