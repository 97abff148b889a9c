use Rattle.std.proofs.Common.{◌≡◌, ◌<◌, ◌≤◌, length, ap, ◌∙◌, subst, arith}
use Rattle.advisory_report.specs.Composite.{shown}
use Rattle.outcomes.specs.Crews.{AreKeptBelow, kept_at}
use Rattle.outcomes.proofs.Keeping.{cycle-kept, kept-more}
use Rattle.outcomes.proofs.crews.keep_cycle.Goals as goal

pub loop-own-preserved : goal.loop-own-preserved
loop-own-preserved c =
    let e = c.args.state.now.encounter in
    let within : c.loop-own.own < length e.crafts = omega (arith, c.crafts-own-end.ensures.value, c.loop-own-test.true) in
    let few : length e.crafts ≤ 16 = omega (arith, c.crafts-own-end.ensures.value, c.crafts-own-end.ensures.few) in
    let run : c.args.cycle ≤ 600 = omega (arith, c.cycles-cycles.ensures.value, c.cycles-cycles.ensures.few, c.requires.in_run) in
    kept-more c.args.state.now.journal (length e.crafts) c.loop-own.own c.args.cycle c.kept_at.result c.loop-own.list c.shown.result within few run c.kept_at.ensures (c.shown.ensures ∙ ap shown c.cells.ensures) c.loop-own.invariant

pub returns : goal.returns
returns c =
    let e = c.args.state.now.encounter in
    let few : length e.crafts ≤ 16 = omega (arith, c.crafts-own-end.ensures.value, c.crafts-own-end.ensures.few) in
    let all : c.loop-own.own ≡ length e.crafts = omega (arith, c.crafts-own-end.ensures.value, c.loop-own.auto.own-end, c.loop-own-test.false) in
    cycle-kept c.args.state.now.journal (length e.crafts) c.args.cycle c.loop-own.list few
    (subst (λ n. AreKeptBelow c.args.state.now.journal (length e.crafts) (kept_at n c.args.cycle) c.loop-own.list) all c.loop-own.invariant)
