use Rattle.std.proofs.Common.{◌≡◌, ℕ, suc, ◌+◌, ◌≤◌, Bool, Option, add-one, sym, ap, ◌∙◌, subst, arith}
use Rattle.std.specs.Prelude.{IfSome}
use Rattle.acas_base.specs.Encounter.{Parts}
use Rattle.picture.proofs.Departing.{at-least, at-most, departed-in}
use Rattle.picture.specs.Modelled.{departed, earlier, is_apart}
use Rattle.response.specs.Modelled.{FlightTold}
use Rattle.picture.proofs.modelled.departed.Goals as goal

pub loop-done-preserved : goal.loop-done-preserved
loop-done-preserved c =
    let e = c.args.state.now.encounter in
    let J = c.args.state.now.journal in
    let own = c.args.own in
    let done = c.loop-done.done in
    let before = c.loop-done.invariant in
    let more : FlightTold → FlightTold = λ f. record { encounter = f.encounter; journal = f.journal; craft = f.craft; told = f.told + 1 } in
    let next : done + 1 ≡ suc done = add-one done in
    let apart = ap (λ (b : Bool). earlier c.loop-done.first b (done + 1)) c.is_apart.ensures in
    let so_far = ap (λ (f : Option ℕ). earlier f (is_apart e J own (done + 1)) (done + 1)) before.first in
    let here = ap (λ (k : ℕ). earlier (departed e J own done) (is_apart e J own k) k) next in
    record {
      flight = c.in-Some.ensures.told ∙ ap more before.flight;
      first = c.earlier-first.ensures ∙ apart ∙ so_far ∙ here ∙ sym (ap (departed e J own) next);
    }

pub returns-clause-least : goal.returns-clause-least
returns-clause-least c =
    let is = departed-in c.args.state.now.encounter c.args.state.now.journal c.args.own c.loop-done.done in
    subst (λ (o : Option ℕ). IfSome o (λ f. 2 ≤ f)) (sym c.loop-done.invariant.first) (at-least c.loop-done.done (departed c.args.state.now.encounter c.args.state.now.journal c.args.own c.loop-done.done) is)

pub returns-clause-most : goal.returns-clause-most
returns-clause-most c =
    let e = c.args.state.now.encounter in
    let J = c.args.state.now.journal in
    let run = c.cycles-done-end.ensures.value ∙ ap (λ (p : Parts). p.cycles) c.enc.ensures in
    let within : c.loop-done.done ≤ e.cycles = (let most = c.loop-done.auto.done-end in omega (arith, run, most)) in
    let is = departed-in e J c.args.own c.loop-done.done in
    subst (λ (o : Option ℕ). IfSome o (λ f. f ≤ e.cycles)) (sym c.loop-done.invariant.first) (at-most c.loop-done.done e.cycles (departed e J c.args.own c.loop-done.done) within is)
