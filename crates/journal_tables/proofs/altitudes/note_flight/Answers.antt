use Rattle.std.proofs.Common.{rules, ◌≡◌, ◌+◌, ◌<◌, ◌≤◌, ◌||◌, Bool, Some, None, w32, w64, sym, ap, ◌∙◌, arith}
use Rattle.std.proofs.lemmas.Bool.{cond-false, cond-true}
use Rattle.std.proofs.lemmas.Int.{to_z-of_z}
use Rattle.std.specs.List.{list_any, range_with_len}
use Rattle.acas_base.specs.Encounter.{Parts}
use Rattle.acas_base.specs.declared.TheConstants.{CRAFTS}
use Rattle.air_journal.proofs.Bounds.{few-crafts}
use Rattle.journal_tables.specs.Fields.{modelled_tenths}
use Rattle.journal_tables.specs.Places.{advises, modelled_altitude}
use Rattle.journal_tables.proofs.Noting.{advised-more, noted-more, told-is}
use Rattle.response.specs.Flown.{flown}
use Rattle.response.specs.Modelled.{FlightTold}
use Rattle.journal_tables.proofs.altitudes.note_flight.Goals as goal
use Rattle.journal_tables.proofs.altitudes.note_flight.Goals.{else-advised, else-advised-2, then-advised, then-advised-2}

pub loop-done-preserved : goal.loop-done-preserved
loop-done-preserved c =
    let e = c.args.state.now.encounter in
    let J = c.args.state.now.journal in
    let craft = c.args.craft in
    let done = c.loop-done.done in
    let before = c.loop-done.invariant in
    let altitude = c.in-Some.altitude in
    let more : FlightTold → FlightTold = λ f. record { encounter = f.encounter; journal = f.journal; craft = f.craft; told = f.told + 1 } in
    let run = c.cycles-done-end.ensures.value ∙ ap (λ (p : Parts). p.cycles) c.enc.ensures in
    let short : e.cycles ≤ 600 = c.legal_law.ensures.valid.run.length.1 in
    let next : done + 1 ≤ 600 = omega (arith, run, short, c.loop-done-test.true) in
    let own : craft < CRAFTS = (let few = few-crafts e c.legal_law.ensures.valid in let a = c.requires.craft in omega arith) in
    let value = c.in-Some.ensures.altitude.value ∙ ap (λ (f : FlightTold). flown f.encounter f.journal f.craft (f.told + 1)) before.flight in
    let told : c.if-advised.told ≡ modelled_altitude e J craft (done + 1) =
    elim c.if-advised.branch [
      | then-advised w ↦ w.told-is ∙ ap Some (to_z-of_z w32 w.modelled_tenths.result (search rules) ∙ w.modelled_tenths.ensures ∙ ap modelled_tenths (to_z-of_z w64 altitude (search rules))) ∙ sym (cond-true c.loop-done.advised (Some (modelled_tenths altitude)) None w.if-advised.true) ∙ told-is e J craft done c.loop-done.advised altitude before.advised value
      | else-advised w ↦ w.told-is ∙ sym (cond-false c.loop-done.advised (Some (modelled_tenths altitude)) None w.if-advised.false) ∙ told-is e J craft done c.loop-done.advised altitude before.advised value
    ] in
    let or_here : Bool → Bool = λ b. b || advises J craft (done + 1) in
    let advised : c.if-advised-2.advised ≡ list_any (advises J craft) (range_with_len 1 (done + 1)) =
    elim c.if-advised-2.branch [
      | then-advised-2 w ↦ w.advised-is ∙ w.if-advised-2.true ∙ sym (advised-more J craft done ∙ ap or_here (sym before.advised ∙ w.if-advised-2.true))
      | else-advised-2 w ↦ w.advised-is ∙ w.advises-advised.ensures ∙ sym (advised-more J craft done ∙ ap or_here (sym before.advised ∙ w.if-advised-2.false))
    ] in
    record {
      flight = c.in-Some.ensures.told ∙ ap more before.flight;
      advised = advised;
      noted = noted-more e J craft done c.place_of.result c.loop-done.list c.if-advised.told before.noted own next short c.place_of.ensures told;
    }
