use Rattle.std.proofs.Common.{◌≡◌, arith, subst}
use Rattle.acas_base.specs.declared.TheConstants.{CRAFTS}
use Rattle.possibilities.proofs.RunAdded.{all-below, committed-by, said_below}
use Rattle.possibilities.specs.Shown.{AddsWords}
use Rattle.possibilities.proofs.tables.Tables.add_all_words.Goals as goal

pub returns : goal.returns
returns c =
    let run = c.args.run.now in
    let all : c.loop-own.own ≡ CRAFTS = omega (arith, c.loop-own.auto.own-end, c.loop-own-test.false) in
    all-below run.journal c.args.self.now c.loop-own.self (λ own cycle word said. committed-by run.encounter c.legal_law.ensures.valid run.journal c.legal_law.ensures.legal own cycle said.cells said.are)
    (subst (λ n. AddsWords (said_below run.journal n) c.args.self.now c.loop-own.self) all c.loop-own.invariant)
