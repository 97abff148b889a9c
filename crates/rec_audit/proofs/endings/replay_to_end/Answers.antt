use Rattle.std.proofs.Common.{sym, refl, subst, arith}
use Rattle.acas_base.specs.Encounter.{Parts}
use Rattle.air_journal.specs.Airs.{air_of}
use Rattle.air_rules.specs.Rules.{IsComplete}
use Rattle.rec_audit.proofs.Ending.{not-complete, other-end, too-few, too-many, wrong-in}
use Rattle.rec_audit.specs.Engine.{DiffersFrom}
use Rattle.rec_text.specs.Recording.{closing_lines}
use Rattle.rec_audit.proofs.endings.replay_to_end.Goals as goal

pub returns-in-Err-clause-read : goal.returns-in-Err-clause-read
returns-in-Err-clause-read c = wrong-in c.args.extent c.args.state.now.encounter c.args.count c.args.lines.now c.in-Err.fault c.requires.first c.in-Err.ensures.replayed

pub returns-then-count-clause-read : goal.returns-then-count-clause-read
returns-then-count-clause-read c =
    rw (c.in-Whole.is) (too-few c.args.state.now.encounter c.args.count c.number-line.result c.args.lines.now c.replay.new.lines c.replay.new.state.journal c.requires.first c.in_default.ensures.replayed (omega (arith, c.count.ensures.value)) c.number-line.ensures)

pub returns-then-not-complete-clause-read : goal.returns-then-not-complete-clause-read
returns-then-not-complete-clause-read c =
    rw (c.in-Whole.is) (not-complete c.args.state.now.encounter c.args.count c.number-line.result c.args.lines.now c.replay.new.lines c.replay.new.state.journal c.requires.first c.in_default.ensures.replayed (omega (arith, c.count.ensures.value)) c.number-line.ensures
    (λ whole. let yes = c.complete.ensures.1 (subst (λ (e : Parts). IsComplete (air_of e) c.replay.new.state.journal) (sym c.in_default.ensures.encounter) whole) in let t = c.if-not-complete.true in absurd cc))

pub returns-in-Some-clause-read : goal.returns-in-Some-clause-read
returns-in-Some-clause-read c =
    rw (c.in-Beginning.is) (too-many c.args.state.now.encounter c.args.count c.number-line.result c.args.lines.now c.replay.new.lines c.next.new.self c.replay.new.state.journal c.in-Some.field-0.now c.requires.first c.in_default.ensures.replayed c.in-Some.ensures
    c.number-line.ensures)

pub returns-in-Some-other_end-clause-read : goal.returns-in-Some-other_end-clause-read
returns-in-Some-other_end-clause-read c =
    let J = c.replay.new.state.journal in
    let same = c.in_default.ensures.encounter in
    rw (c.in-Whole.is) (other-end c.args.state.now.encounter c.args.count c.in-Some-other_end.line c.args.lines.now c.replay.new.lines J c.requires.first c.in_default.ensures.replayed (omega (arith, c.count.ensures.value))
    (subst (λ (e : Parts). IsComplete (air_of e) J) same (c.if-not-complete.ensures.0 refl)) (subst (λ (e : Parts). DiffersFrom c.replay.new.lines c.in-Some-other_end.line (closing_lines e J)) same c.in-Some-other_end.ensures))
