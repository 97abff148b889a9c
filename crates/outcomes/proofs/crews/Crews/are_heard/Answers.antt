use Rattle.std.proofs.Common.{◌≡◌, ◌<◌, length, refl, sym, ◌∙◌, subst, arith}
use Rattle.std.proofs.lemmas.Bool.{false≢true}
use Rattle.outcomes.specs.Crews.{AreHeard}
use Rattle.outcomes.proofs.Hearing.{heard-more}
use Rattle.outcomes.proofs.crews.Crews.are_heard.Goals as goal

pub loop-own-init : goal.loop-own-init
loop-own-init c = λ own h. absurd (omega arith)

pub loop-own-preserved : goal.loop-own-preserved
loop-own-preserved c = heard-more c.args.self.now c.args.state.now.journal c.loop-own.own c.args.cycle c.is_heard.result c.is_heard.ensures c.if-not-is_heard.false c.loop-own.invariant

pub returns-then-not-is_heard : goal.returns-then-not-is_heard
returns-then-not-is_heard c =
    let within : c.loop-own.own < length c.args.state.now.encounter.crafts = omega (arith, c.crafts-own-end.ensures.value, c.loop-own-test.true) in
    (λ t. absurd (false≢true t), λ all. absurd (false≢true (sym c.if-not-is_heard.true ∙ c.is_heard.ensures.1 (all c.loop-own.own within))))

pub returns : goal.returns
returns c =
    let all : c.loop-own.own ≡ length c.args.state.now.encounter.crafts = omega (arith, c.crafts-own-end.ensures.value, c.loop-own.auto.own-end, c.loop-own-test.false) in
    (λ _. subst (λ n. AreHeard c.args.self.now c.args.state.now.journal n c.args.cycle) all c.loop-own.invariant, λ _. refl)
