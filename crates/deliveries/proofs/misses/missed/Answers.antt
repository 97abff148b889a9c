use Rattle.std.proofs.Common.{◌≡◌, ℕ, ◌+◌, Bool, List, [], ◌∷◌, ◌++◌, length, length-append, map, refl, sym, ap, ap₂, ◌∙◌, arith}
use Rattle.std.specs.List.{range_with_len}
use Rattle.std.proofs.lemmas.List.FromFn.{map-range_with_len_more}
use Rattle.deliveries.specs.Misses.{misses_reply}
use Rattle.deliveries.proofs.misses.missed.Goals as goal

pub push-requires : goal.push-requires
push-requires c =
    let size = c.loop-before.invariant.size in
    let n = c.cycles-before-end.ensures.value in
    let t = c.loop-before-test.true in
    let most = c.valid_law.ensures.run.length.1 in
    omega arith

pub loop-before-preserved : goal.loop-before-preserved
loop-before-preserved c =
    let f = misses_reply c.args.encounter.now c.args.own c.args.target in
    let before = c.loop-before.before in
    let next : before + 1 ≡ 1 + before = omega arith in
    record {
      size = (let new = ap length c.push.ensures in let both = length-append c.loop-before.cycles (c.misses_reply.result ∷ []) in let size = c.loop-before.invariant.size in omega arith);
      told = c.push.ensures ∙ ap₂ (λ (xs : List Bool) (x : Bool). xs ++ x ∷ []) c.loop-before.invariant.told (c.misses_reply.ensures ∙ ap f next) ∙ sym (map-range_with_len_more f 1 before (1 + before) refl);
    }

pub returns : goal.returns
returns c =
    let e = c.args.encounter.now in
    let all : c.loop-before.before ≡ e.cycles = (let n = c.cycles-before-end.ensures.value in let t = c.loop-before-test.false in let high = c.loop-before.auto.before-end in omega arith) in
    c.loop-before.invariant.told ∙ ap (λ (n : ℕ). map (misses_reply e c.args.own c.args.target) (range_with_len 1 n)) all
