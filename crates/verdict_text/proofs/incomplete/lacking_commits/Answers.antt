use Rattle.std.proofs.Common.{◌≡◌, ◌∙◌, ap, arith, length}
use Rattle.acas_base.specs.Encounter.{Parts}
use Rattle.air_journal.proofs.Activity.{told-active}
use Rattle.air_journal.proofs.Bounds.{below}
use Rattle.air_journal.specs.Airs.{air_of}
use Rattle.air_rules.proofs.Waiting.{commits-within}
use Rattle.verdict_text.proofs.incomplete.lacking_commits.Goals as goal

pub returns : goal.returns
returns c = λ own active.
    let e = c.args.state.now.encounter in
    let most = commits-within (air_of e) c.args.state.now.journal c.legal_law.ensures.legal own in
    let low = below e c.legal_law.ensures.valid own active in
    let all : length c.crafts.result.now ≡ length e.crafts = ap length (c.crafts.ensures.value ∙ ap (λ (x : Parts). x.crafts) c.enc.ensures) in
    let left = c.loop-own.invariant own (omega (arith, low, all, c.loop-own-test.false)) active in
    omega (arith, most, left)

pub returns-then-commits-cycles : goal.returns-then-commits-cycles
returns-then-commits-cycles c =
    let e = c.args.state.now.encounter in
    record {
      active = told-active e c.loop-own.own c.is_active.result (rw c.enc-in-loop-own.ensures at c.is_active.ensures) ∙ c.if-is_active.true;
      count_is = c.commits-commits.ensures;
      cycles_are = c.cycles-cycles.ensures.value ∙ ap (λ (x : Parts). x.cycles) c.enc-2.ensures;
      fewer = c.if-commits-cycles.true;
      first = λ before low active.
          let most = commits-within (air_of e) c.args.state.now.journal c.legal_law.ensures.legal before in
          let left = c.loop-own.invariant before low active in
          omega (arith, most, left);
    }
