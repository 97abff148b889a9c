use Rattle.std.proofs.Common.{◌≡◌, ◌+◌, ◌-◌, length, refl, ap, ◌∙◌, arith}
use Rattle.std.specs.List.{flat_map, range_with_len}
use Rattle.acas_base.specs.Encounter.{Parts}
use Rattle.air_journal.proofs.Bounds.{few-crafts}
use Rattle.response.specs.Response.{all_lines, lines_with}
use Rattle.response.proofs.Putting.{few-lines, few-with, one-more}
use Rattle.response.proofs.pairs.count_pairs.Goals as goal

pub overflow_add-found : goal.overflow_add-found
overflow_add-found c =
    let e = c.args.state.now.encounter in
    let J = c.args.state.now.journal in
    let valid = c.legal_law.ensures.valid in
    let few = few-lines e J c.loop-a.a valid in
    let crafts = few-crafts e valid in
    let most = few-with e J c.loop-a.a (length e.crafts - (c.loop-a.a + 1)) in
    let so_far = c.loop-a.invariant in
    let one = c.count_with-found.ensures in
    omega arith

pub loop-a-preserved : goal.loop-a-preserved
loop-a-preserved c =
    let f = lines_with c.args.state.now.encounter c.args.state.now.journal in
    let so_far = c.loop-a.invariant in
    let one = c.count_with-found.ensures in
    let next : 0 + c.loop-a.a ≡ c.loop-a.a = omega arith in
    rw (one-more f 0 c.loop-a.a, next, ← one, ← so_far) refl

pub returns : goal.returns
unfolding all_lines
returns c =
    let f = lines_with c.args.state.now.encounter c.args.state.now.journal in
    let all : c.loop-a.a ≡ length c.args.state.now.encounter.crafts = (let end = ap length c.crafts.ensures.value ∙ ap (λ (e : Parts). length e.crafts) c.enc.ensures in omega arith) in
    c.loop-a.invariant ∙ ap (λ n. length (flat_map f (range_with_len 0 n))) all
