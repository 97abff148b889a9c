use Rattle.std.proofs.Common.{◌≡◌, ◌+◌, ◌≤◌, length, refl, sym, ◌∙◌, subst, arith}
use Rattle.std.proofs.lemmas.Bool.{false≢true}
use Rattle.outcomes.specs.Crews.{AreAllHeard}
use Rattle.outcomes.proofs.Hearing.{all-more}
use Rattle.outcomes.proofs.crews.Crews.are_all_heard.Goals as goal

pub loop-earlier-init : goal.loop-earlier-init
loop-earlier-init c = λ cycle some run. absurd (omega arith)

pub loop-earlier-preserved : goal.loop-earlier-preserved
loop-earlier-preserved c =
    all-more c.args.self.now c.args.state.now.journal (length c.args.state.now.encounter.crafts) c.loop-earlier.earlier c.are_heard.result c.are_heard.ensures c.if-not-are_heard.false c.loop-earlier.invariant

pub returns-then-not-are_heard : goal.returns-then-not-are_heard
returns-then-not-are_heard c =
    let cycle = c.loop-earlier.earlier + 1 in
    let some : 1 ≤ cycle = omega arith in
    let run : cycle ≤ c.args.state.now.encounter.cycles = omega (arith, c.cycles-earlier-end.ensures.value, c.loop-earlier-test.true) in
    (λ t. absurd (false≢true t), λ all. absurd (false≢true (sym c.if-not-are_heard.true ∙ c.are_heard.ensures.1 (all cycle some run))))

pub returns : goal.returns
returns c =
    let all : c.loop-earlier.earlier ≡ c.args.state.now.encounter.cycles = omega (arith, c.cycles-earlier-end.ensures.value, c.loop-earlier.auto.earlier-end, c.loop-earlier-test.false) in
    (λ _. subst (λ n. AreAllHeard c.args.self.now c.args.state.now.journal (length c.args.state.now.encounter.crafts) n) all c.loop-earlier.invariant, λ _. refl)
