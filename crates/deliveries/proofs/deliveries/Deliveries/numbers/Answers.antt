use Rattle.std.proofs.Common.{◌≡◌, ℕ, ◌+◌, Bool, List, [], ◌∷◌, ◌++◌, length, length-append, map, refl, sym, ap, ap₂, ◌∙◌, arith}
use Rattle.std.specs.List.{range_with_len}
use Rattle.std.proofs.lemmas.List.FromFn.{map-range_with_len_more}
use Rattle.air_rules.specs.Journal.{sends}
use Rattle.deliveries.specs.Mishaps.{befalls}
use Rattle.deliveries.proofs.deliveries.Deliveries.numbers.Goals as goal

pub push-requires : goal.push-requires
push-requires c =
    let size = c.loop-before.invariant.size in
    let few = c.sent-before-end.ensures.few in
    let t = c.loop-before-test.true in
    omega arith

pub befalls-requires-clause-last : goal.befalls-requires-clause-last
befalls-requires-clause-last c =
    let n = c.sent-before-end.ensures.value in
    let t = c.loop-before-test.true in
    omega arith

pub loop-before-preserved : goal.loop-before-preserved
loop-before-preserved c =
    let f = befalls c.args.self.now.encounter c.args.self.now.journal c.args.mishap c.args.sender c.args.receiver in
    let before = c.loop-before.before in
    let next : before + 1 ≡ 1 + before = omega arith in
    record {
      size = (let new = ap length c.push.ensures in let both = length-append c.loop-before.numbers (c.befalls.result ∷ []) in let size = c.loop-before.invariant.size in omega arith);
      told = c.push.ensures ∙ ap₂ (λ (xs : List Bool) (x : Bool). xs ++ x ∷ []) c.loop-before.invariant.told (c.befalls.ensures ∙ ap f next) ∙ sym (map-range_with_len_more f 1 before (1 + before) refl);
    }

pub returns : goal.returns
returns c =
    let s = c.args.self.now in
    let all : c.loop-before.before ≡ sends s.journal c.args.sender c.args.receiver = (let n = c.sent-before-end.ensures.value in let t = c.loop-before-test.false in let high = c.loop-before.auto.before-end in omega arith) in
    c.loop-before.invariant.told ∙ ap (λ (n : ℕ). map (befalls s.encounter s.journal c.args.mishap c.args.sender c.args.receiver) (range_with_len 1 n)) all
