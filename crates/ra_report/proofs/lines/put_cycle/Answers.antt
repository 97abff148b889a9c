use Rattle.std.proofs.Common.{◌≡◌, ℕ, ◌+◌, ◌∷◌, ◌++◌, [], List, Option, option_map, sym, ap, ◌∙◌, subst, arith}
use Rattle.std.specs.List.{flat_map, range_with_len}
use Rattle.std.specs.Prelude.{option_to_list}
use Rattle.std.proofs.lemmas.List.{append-nil}
use Rattle.acas_base.specs.Encounter.{Parts}
use Rattle.acas_base.specs.declared.craft.CraftSpec.{CraftSpec}
use Rattle.air_journal.specs.Airs.{address_of}
use Rattle.air_journal.specs.States.{State}
use Rattle.ra_report.specs.Blocks.{block_line, lines_of}
use Rattle.ra_block.specs.declared.block.RaBlock.{RaBlock}
use Rattle.acas_lines.proofs.Ranges.{flat-more}
use Rattle.air_journal.proofs.Addresses.{address-is}
use Rattle.ra_report.proofs.lines.put_cycle.Goals as goal
use Rattle.ra_report.proofs.lines.put_cycle.Goals.{in-Some, in_default}

pub loop-own-preserved : goal.loop-own-preserved
loop-own-preserved g c =
    let e = c.args.table.now.encounter in
    let J = c.args.table.now.journal in
    let cycle = c.args.cycle in
    let own = c.loop-own.own in
    let f = lines_of e J cycle in
    let row = flat_map f (range_with_len 0 own) in
    let crafts = c.crafts-crafts.ensures.value ∙ ap (λ (p : Parts). p.crafts) (c.enc.ensures ∙ ap (λ (s : State). s.encounter) c.state-2.ensures) in
    let here : own ≡ 0 + own = omega arith in
    let told = λ (o : Option RaBlock). option_to_list (option_map (block_line cycle (address_of e own)) o) in
    elim c.match-block.branch [
      | in-Some w ↦
          (let address = ap (λ (craft : CraftSpec). craft.address) (sym w.index-crafts-own.is) ∙ address-is e c.crafts-crafts.result.now own w.index-crafts-own.result crafts c.loop-own-test.true w.index-crafts-own.is in
          let line = w.block_line.ensures ∙ ap (λ (a : ℕ). block_line cycle a w.in-Some.block) address in
          let lines = ap (λ (l : List ℕ). l ∷ []) line ∙ ap told (sym w.in-Some.is ∙ c.block.ensures) ∙ ap f here in
          let put = g.met.S.LineSink.then _ _ _ _ _ c.loop-own.invariant w.line.ensures in
          rw w.sink-is (subst (g.S.LineSink.took c.args.sink.now w.line.new.self) (ap (λ xs. row ++ xs) lines ∙ sym (flat-more f 0 own)) put))
      | in_default w ↦
          (let none = ap told (sym w.in_default.is ∙ c.block.ensures) ∙ ap f here in
          rw w.sink-is (subst (g.S.LineSink.took c.args.sink.now c.loop-own.sink) (sym (append-nil row) ∙ ap (λ xs. row ++ xs) none ∙ sym (flat-more f 0 own)) c.loop-own.invariant))
    ]
