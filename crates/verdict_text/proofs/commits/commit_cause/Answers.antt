use Rattle.std.proofs.Common.{◌≡◌, ◌∙◌, ap, arith}
use Rattle.acas_base.specs.Encounter.{Parts}
use Rattle.air_journal.proofs.Activity.{told-active}
use Rattle.air_journal.specs.Airs.{air_of}
use Rattle.air_rules.proofs.Waiting.{commits-within}
use Rattle.verdict_text.proofs.commits.commit_cause.Goals as goal

pub returns-then-made-cycles : goal.returns-then-made-cycles
returns-then-made-cycles c =
    let e = c.args.state.now.encounter in
    let most = commits-within (air_of e) c.args.state.now.journal c.legal_law.ensures.legal c.args.own in
    let all : c.cycles-cycles.result ≡ e.cycles = c.cycles-cycles.ensures.value ∙ ap (λ (x : Parts). x.cycles) c.enc-2.ensures in
    record {
      active = told-active e c.args.own c.is_active.result (rw c.enc.ensures at c.is_active.ensures) ∙ c.if-not-is_active.false;
      all = omega (arith, most, all, c.commits-made.ensures, c.if-made-cycles.true);
      cycles_are = all;
    }
