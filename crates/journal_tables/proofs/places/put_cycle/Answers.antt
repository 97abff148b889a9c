use Rattle.std.proofs.Common.{◌≡◌, ℕ, ◌+◌, ◌++◌, ◌∷◌, [], List, sym, ap, ◌∙◌, subst, arith}
use Rattle.std.specs.List.{flat_map, range_with_len}
use Rattle.acas_base.specs.Encounter.{Parts}
use Rattle.acas_base.specs.declared.craft.CraftSpec.{CraftSpec}
use Rattle.acas_base.specs.declared.entry.Entry.{Entry}
use Rattle.acas_lines.proofs.Ranges.{flat-more}
use Rattle.acas_lines.specs.Lines.{line_of}
use Rattle.air_journal.proofs.Addresses.{address-is}
use Rattle.air_journal.specs.Cells.{commit_cells}
use Rattle.air_journal.specs.States.{State}
use Rattle.flight.specs.Flight.{position}
use Rattle.journal_tables.specs.Places.{lines_of, place_fields, word_by}
use Rattle.journal_tables.proofs.places.put_cycle.Goals as goal

pub loop-at-preserved : goal.loop-at-preserved
loop-at-preserved g c =
    let e = c.args.altitudes.now.encounter in
    let J = c.args.altitudes.now.journal in
    let cycle = c.args.cycle in
    let at = c.loop-at.at in
    let f = lines_of e J cycle in
    let row = flat_map f (range_with_len 0 at) in
    let here : 0 + at ≡ at = omega arith in
    let encounter = ap (λ (s : State). s.encounter) c.state-state.ensures in
    let journal = ap (λ (s : State). s.journal) c.state-state.ensures in
    let crafts = c.crafts-crafts.ensures.value ∙ ap (λ (p : Parts). p.crafts) (c.enc.ensures ∙ encounter) in
    let address = ap (λ (craft : CraftSpec). craft.address) (sym c.index-crafts-at.is) ∙ address-is e c.crafts-crafts.result.now at c.index-crafts-at.result crafts c.loop-at-test.true c.index-crafts-at.is in
    let place = c.position-place.ensures.value ∙ ap (λ (p : Parts). position p at cycle) (c.enc-in-loop-at.ensures ∙ encounter) in
    let modelled = c.altitude-modelled.ensures in
    let word = c.word_by-word.ensures.text ∙ ap word_by (c.cells.ensures ∙ ap (λ (K : List Entry). commit_cells K at cycle) journal) in
    let line = c.place_line.ensures ∙ (λ t. line_of (place_fields cycle (address t) (place t) (modelled t) (word t))) in
    subst (g.S.LineSink.took c.args.sink.now c.line.new.self) (ap (λ (l : List ℕ). row ++ l ∷ []) line ∙ ap (λ (k : ℕ). row ++ f k) (sym here) ∙ sym (flat-more f 0 at))
    (g.met.S.LineSink.then _ _ _ _ _ c.loop-at.invariant c.line.ensures)
