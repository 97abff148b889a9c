use Rattle.std.proofs.Common.{◌≡◌, ◌+◌, ◌-◌, refl, arith}
use Rattle.response.specs.Response.{pair_lines}
use Rattle.response.proofs.Putting.{few-with, one-line, one-more}
use Rattle.response.proofs.pairs.count_with.Goals as goal

pub overflow_add-found : goal.overflow_add-found
overflow_add-found c =
    let e = c.args.state.now.encounter in
    let J = c.args.state.now.journal in
    let few = few-with e J c.args.a (c.loop-b.b - (c.args.a + 1)) in
    let most = one-line e J c.args.a c.loop-b.b in
    let so_far = c.loop-b.invariant in
    let one = c.count_of-found.ensures in
    omega arith

pub loop-b-preserved : goal.loop-b-preserved
loop-b-preserved c =
    let f = pair_lines c.args.state.now.encounter c.args.state.now.journal c.args.a in
    let from = c.args.a + 1 in
    let b = c.loop-b.b in
    let next : from + (b - from) ≡ b = (let low = c.loop-b.auto.b in omega arith) in
    let more : b - from + 1 ≡ b + 1 - from = (let low = c.loop-b.auto.b in omega arith) in
    let so_far = c.loop-b.invariant in
    let one = c.count_of-found.ensures in
    rw (← more, one-more f from (b - from), next) (rw (← one, ← so_far) refl)
