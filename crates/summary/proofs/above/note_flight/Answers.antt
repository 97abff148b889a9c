use Rattle.std.proofs.Common.{rules, ◌≡◌, ◌+◌, ◌<◌, ◌≤◌, ◌-ℤ◌, w32, w64, to_z, of_z, ap, ap₂, ◌∙◌, arith}
use Rattle.std.proofs.lemmas.Int.{to_z-of_z}
use Rattle.acas_base.specs.Encounter.{Parts}
use Rattle.acas_base.specs.declared.TheConstants.{CRAFTS}
use Rattle.air_journal.proofs.Bounds.{few-crafts}
use Rattle.flight.specs.Flight.{position}
use Rattle.response.specs.Flown.{altitude_units, flown}
use Rattle.response.specs.Modelled.{FlightTold}
use Rattle.summary.specs.Lines.{above_plan}
use Rattle.summary.proofs.Noting.{noted-more}
use Rattle.summary.proofs.above.note_flight.Goals as goal

pub loop-done-preserved : goal.loop-done-preserved
loop-done-preserved c =
    let e = c.args.state.now.encounter in
    let J = c.args.state.now.journal in
    let craft = c.args.craft in
    let done = c.loop-done.done in
    let before = c.loop-done.invariant in
    let more : FlightTold → FlightTold = λ f. record { encounter = f.encounter; journal = f.journal; craft = f.craft; told = f.told + 1 } in
    let run = c.cycles-done-end.ensures.value ∙ ap (λ (p : Parts). p.cycles) c.enc.ensures in
    let short : e.cycles ≤ 600 = c.legal_law.ensures.valid.run.length.1 in
    let next : done + 1 ≤ 600 = omega (arith, run, short, c.loop-done-test.true) in
    let own : craft < CRAFTS = (let few = few-crafts e c.legal_law.ensures.valid in let a = c.requires.craft in omega arith) in
    let value = c.in-Some.ensures.altitude.value ∙ ap (λ (f : FlightTold). flown f.encounter f.journal f.craft (f.told + 1)) before.flight in
    let here = c.planned_units.ensures.value ∙ ap (λ (p : Parts). altitude_units (position p craft (done + 1)).z) c.enc-in-loop-done.ensures in
    let above : c.difference.result ≡ above_plan e J craft (done + 1) =
    c.difference.ensures ∙ ap₂ ◌-ℤ◌ (to_z-of_z w64 c.in-Some.altitude (search rules)) (to_z-of_z w64 c.planned_units.result (search rules)) ∙ ap₂ ◌-ℤ◌ value here in
    record {
      flight = c.in-Some.ensures.told ∙ ap more before.flight;
      noted = noted-more e J craft done c.place_of.result c.loop-done.list (to_z w32 (of_z w32 c.difference.result)) before.noted own next short c.place_of.ensures (to_z-of_z w32 c.difference.result (search rules) ∙ above);
    }
