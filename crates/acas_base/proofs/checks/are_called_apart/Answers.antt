use Rattle.std.proofs.Common.{◌≡◌, ℕ, arith, ap, get_or, List, sym, ◌∙◌}
use Rattle.std.specs.Prelude.{All, ◌≢◌}
use Rattle.acas_base.specs.Encounter.{AreCalledApart}
use Rattle.acas_base.specs.declared.label.Call.{Call}
use Rattle.acas_base.proofs.Apart.{apart-more, apart-new}
use Rattle.acas_base.proofs.checks.are_called_apart.Goals as goal

-- None of these calls has the call sign of another one.
new : (xs : List Call) (call : Call) (sign : List ℕ) → sign ≡ call.sign → All (λ (x : Call). x.sign ≢ sign) xs → All (λ x. AreCalledApart x call) xs
new xs call sign is each k d h same = each k d h (same ∙ sym is)

old : (xs : List Call) (call : Call) (sign : List ℕ) → sign ≡ call.sign → All (λ x. AreCalledApart x call) xs → All (λ (x : Call). x.sign ≢ sign) xs
old xs call sign is each k d h same = each k d h (same ∙ is)

pub loop-i-preserved : goal.loop-i-preserved
loop-i-preserved c =
    let calls = c.args.calls.now in
    let i = c.loop-i.i in
    let x = get_or calls i c.index-calls-i.result in
    apart-more AreCalledApart calls i x (omega arith) (ap (get_or calls i) c.index-calls-i.is) c.loop-i.invariant
    (new _ x _ c.bytes.ensures.value (c.is_new_sign.ensures.0 c.if-not-is_new_sign.false))

pub returns-then-not-is_new_sign : goal.returns-then-not-is_new_sign
returns-then-not-is_new_sign c =
    let calls = c.args.calls.now in
    let i = c.loop-i.i in
    let x = get_or calls i c.index-calls-i.result in
    let apart-here = apart-new AreCalledApart calls i x (omega arith) (ap (get_or calls i) c.index-calls-i.is) in
    (λ e. cc e, λ apart. absurd (cc (c.is_new_sign.ensures.1 (old _ x _ c.bytes.ensures.value (apart-here apart)), c.if-not-is_new_sign.true)))
