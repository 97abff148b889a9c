use Rattle.std.proofs.Common.{◌≤◌, ap, arith, ◌∙◌}
use Rattle.acas_base.specs.Encounter.{Parts}
use Rattle.possibilities.proofs.RunAdded.{committed-within, put-said}
use Rattle.possibilities.proofs.tables.Tables.add_words.Goals as goal

pub returns : goal.returns
returns c =
    let run = c.args.run.now in
    let end = c.cycles-made-end.ensures.value ∙ ap (λ (p : Parts). p.cycles) c.enc.ensures in
    let all : run.encounter.cycles ≤ c.loop-made.made = omega (arith, end, c.loop-made-test.false) in
    put-said run.journal c.args.own c.loop-made.made c.args.self.now c.put_row.new.self c.loop-made.row
    (λ cycle word said. let within = committed-within run.encounter run.journal c.legal_law.ensures.legal c.args.own cycle said.cells said.are in let last = within.1 in (within.0, omega (arith, last, all)))
    c.loop-made.invariant c.put_row.ensures
