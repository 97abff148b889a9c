use Rattle.std.proofs.Common.{sym, ap, ◌∙◌}
use Rattle.air_journal.specs.Airs.{air_of}
use Rattle.air_rules.specs.Journal.{commits}
use Rattle.air_rules.proofs.OwnEntries.{depends-on-own}
use Rattle.craft_worker.proofs.Counting.{sends-then, takes-then}
use Rattle.keeping_tests.proofs.air_turn_tests.is_so.Goals as goal

pub returns-in-SendsNothing-clause-made : goal.returns-in-SendsNothing-clause-made
returns-in-SendsNothing-clause-made g c = c.requires.made ∙ sym (sends-then _ _ _ c.send.ensures)

pub returns-in-TakesNothing-clause-made : goal.returns-in-TakesNothing-clause-made
returns-in-TakesNothing-clause-made g c = c.requires.made ∙ sym (takes-then _ _ _ c.take.ensures)

pub returns-in-Learns-clause-made : goal.returns-in-Learns-clause-made
returns-in-Learns-clause-made g c =
    let s = c.args.seat.now in
    let t = c.learn.new.seat in
    let learns = c.learn.ensures.learns in
    let same = (depends-on-own (air_of s.encounter) s.front t.front s.own (sym learns.own)).commits_are in
    c.requires.made ∙ sym (ap (commits t.front) learns.same.own ∙ sym same)
