use Rattle.std.proofs.Common.{◌+◌, sym, ap, ◌∙◌, subst, arith}
use Rattle.acas_base.specs.Encounter.{Parts}
use Rattle.air_journal.specs.Airs.{air_of}
use Rattle.air_journal.specs.declared.answers.Commit.{Commit}
use Rattle.air_rules.specs.Journal.{commits}
use Rattle.air_rules.proofs.OwnEntries.{depends-on-own}
use Rattle.air_turn.specs.Seats.{CommitsIn}
use Rattle.air_turn.specs.Turns.{commit_growth}
use Rattle.craft_worker.proofs.Counting.{commits-then, no-growth}
use Rattle.keeping_tests.proofs.air_turn_tests.commit.Goals as goal

-- A commit that was made is of a cycle of the run.
pub overflow_add-made : goal.overflow_add-made
overflow_add-made g c =
    let s = c.args.seat.now in
    let Q : Commit → Type 0 = λ answer. CommitsIn s answer c.commit-answer.new.seat in
    let done = subst Q c.in-Done.is c.commit-answer.ensures in
    let same = (depends-on-own (air_of s.encounter) s.front done.journal s.own done.sees.own).commits_are in
    let next = done.does.allowed.cycle_is in
    let run = done.does.allowed.in_run in
    let made = c.requires.made in
    let cycles = ap (λ (e : Parts). e.cycles) c.requires.encounter in
    let value = c.cycles.ensures.value in
    let small = c.cycles.type_inv in
    omega (arith, same, next, run, made, cycles, value, small)

pub returns-in-Done-clause-made : goal.returns-in-Done-clause-made
returns-in-Done-clause-made g c =
    let s = c.args.seat.now in
    let grown = ap (λ answer. commits s.front s.own + commit_growth answer) c.in-Done.is in
    ap (λ n. n + 1) c.requires.made ∙ sym (commits-then _ _ c.commit-answer.result c.commit-answer.ensures ∙ grown)

pub returns-in_default : goal.returns-in_default
returns-in_default g c =
    let none = no-growth c.commit-answer.result c.in_default.not-Done in
    let count = commits-then _ _ c.commit-answer.result c.commit-answer.ensures in
    let made = c.requires.made in
    record {
      same = c.commit-answer.ensures.same;
      made = omega (arith, none, count, made);
    }
