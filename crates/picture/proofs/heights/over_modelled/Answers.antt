use Rattle.std.proofs.Common.{rules, ◌≡◌, suc, ◌+◌, w64, ap, ◌∙◌, add-one, sym}
use Rattle.std.proofs.lemmas.Int.{to_z-of_z}
use Rattle.picture.specs.Heights.{modelled_in, over_flight, sixtieths, with_height}
use Rattle.picture.specs.declared.span.Span.{Span}
use Rattle.response.specs.Flown.{flown}
use Rattle.response.specs.Modelled.{FlightTold}
use Rattle.picture.proofs.heights.over_modelled.Goals as goal

pub loop-done-preserved : goal.loop-done-preserved
loop-done-preserved c =
    let e = c.args.state.now.encounter in
    let J = c.args.state.now.journal in
    let own = c.args.own in
    let done = c.loop-done.done in
    let before = c.loop-done.invariant in
    let more : FlightTold → FlightTold = λ f. record { encounter = f.encounter; journal = f.journal; craft = f.craft; told = f.told + 1 } in
    let next : done + 1 ≡ suc done = add-one done in
    let value = c.in-Some.ensures.altitude.value ∙ ap (λ (f : FlightTold). flown f.encounter f.journal f.craft (f.told + 1)) before.flight in
    let here = value ∙ ap (flown e J own) next in
    let units = to_z-of_z w64 c.in-Some.altitude (search rules) in
    let height = to_z-of_z w64 c.sixtieths.result (search rules) ∙ c.sixtieths.ensures.value ∙ ap sixtieths units ∙ ap sixtieths here in
    let span = c.with_height-span.ensures.value ∙ ap (with_height c.loop-done.span) height ∙ ap (λ (s : Span). with_height s (modelled_in e J own (suc done))) before.span ∙ ap (over_flight (modelled_in e J own) c.args.before) (sym next) in
    record {
      flight = c.in-Some.ensures.told ∙ ap more before.flight;
      span = span;
      low = c.with_height-span.ensures.low;
      high = c.with_height-span.ensures.high;
    }
