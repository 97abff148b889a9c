use Rattle.std.proofs.Common.{◌≡◌, ◌+◌, ◌<◌, true, false, ap, sym, ◌∙◌, arith}
use Rattle.response.proofs.Numbers.{any-range, none-more}
use Rattle.acas_base.specs.Encounter.{Parts}
use Rattle.air_journal.specs.Cells.{commit_cells}
use Rattle.response.specs.Response.{advises_against}
use Rattle.response.proofs.pairs.ever_advises_against.Goals as goal

pub returns-then-advises_against : goal.returns-then-advises_against
returns-then-advises_against c =
    let e = c.args.state.now.encounter in
    let k = c.loop-earlier.earlier + 1 in
    let cycles = c.cycles-earlier-end.ensures.value ∙ ap (λ (e : Parts). e.cycles) c.enc.ensures in
    let within : k < 1 + e.cycles = omega (arith, cycles, c.loop-earlier-test.true) in
    let here : advises_against (commit_cells c.args.state.now.journal c.args.own k) c.args.other ≡ true = ap (λ cells. advises_against cells c.args.other) (sym c.cells.ensures) ∙ sym c.advises_against.ensures ∙ c.if-advises_against.true in
    sym (any-range (λ cycle. advises_against (commit_cells c.args.state.now.journal c.args.own cycle) c.args.other) 1 e.cycles k (omega arith) within here)

pub loop-earlier-preserved : goal.loop-earlier-preserved
loop-earlier-preserved c =
    let k = c.loop-earlier.earlier + 1 in
    let next : k ≡ 1 + c.loop-earlier.earlier = omega arith in
    let here : advises_against (commit_cells c.args.state.now.journal c.args.own k) c.args.other ≡ false = ap (λ cells. advises_against cells c.args.other) (sym c.cells.ensures) ∙ sym c.advises_against.ensures ∙ c.if-advises_against.false in
    none-more (λ cycle. advises_against (commit_cells c.args.state.now.journal c.args.own cycle) c.args.other) 1 c.loop-earlier.earlier c.loop-earlier.invariant (ap (λ n. advises_against (commit_cells c.args.state.now.journal c.args.own n) c.args.other) (sym next) ∙ here)
