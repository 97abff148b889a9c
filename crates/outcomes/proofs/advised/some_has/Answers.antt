use Rattle.std.proofs.Common.{◌≡◌, ℕ, Bool, ◌+◌, ◌<◌, length, sym, ap, ◌∙◌, arith}
use Rattle.air_journal.specs.Cells.{commit_cells}
use Rattle.response.proofs.Numbers.{any-range, none-more}
use Rattle.outcomes.specs.Advised.{has_some, some_has}
use Rattle.outcomes.proofs.advised.some_has.Goals as goal

pub returns-then-has_some : goal.returns-then-has_some
returns-then-has_some c =
    let p : ℕ → Bool = λ own. has_some (commit_cells c.args.state.now.journal own c.args.cycle) in
    let own = c.loop-own.own in
    let within : own < 0 + length c.args.state.now.encounter.crafts = omega (arith, c.crafts-own-end.ensures.value, c.loop-own-test.true) in
    sym (any-range p 0 (length c.args.state.now.encounter.crafts) own (omega arith) within (ap has_some (sym c.cells.ensures) ∙ sym c.has_some.ensures ∙ c.if-has_some.true))

pub loop-own-preserved : goal.loop-own-preserved
loop-own-preserved c =
    let p : ℕ → Bool = λ own. has_some (commit_cells c.args.state.now.journal own c.args.cycle) in
    let own = c.loop-own.own in
    let here : 0 + own ≡ own = omega arith in
    none-more p 0 own c.loop-own.invariant (ap p here ∙ ap has_some (sym c.cells.ensures) ∙ sym c.has_some.ensures ∙ c.if-has_some.false)

pub returns : goal.returns
returns c =
    let all : c.loop-own.own ≡ length c.args.state.now.encounter.crafts = omega (arith, c.crafts-own-end.ensures.value, c.loop-own-test.false) in
    sym (ap (λ n. some_has c.args.state.now.journal n c.args.cycle) (sym all) ∙ c.loop-own.invariant)
