use Rattle.std.proofs.Common.{◌≡◌, ◌∙◌, sym, subst, arith, true, false, ℕ}
use Rattle.enc_gen.proofs.Steps.{next-made, none-made, skip-made, where-made}
use Rattle.enc_gen.specs.Fates.{is_link, fate}
use Rattle.enc_gen.specs.Making.{Makes, each}
use Rattle.enc_gen.proofs.fates.add_link_fates.Goals as goal

pub returns-then-not-is_link : goal.returns-then-not-is_link
returns-then-not-is_link c =
    let off : is_link c.args.crafts.now c.args.sender c.args.receiver ≡ false = sym c.is_link.ensures ∙ c.if-not-is_link.true in
    skip-made (is_link c.args.crafts.now c.args.sender c.args.receiver) _ c.args.draws.now c.args.fates.now.items off

pub loop-before-init : goal.loop-before-init
loop-before-init c = none-made (fate c.args.sender c.args.receiver) c.args.draws.now c.args.fates.now.items

pub loop-before-preserved : goal.loop-before-preserved
loop-before-preserved c =
    next-made (fate c.args.sender c.args.receiver) c.loop-before.before c.args.draws.now c.loop-before.draws c.add_fate.new.draws
    c.args.fates.now.items c.loop-before.fates.items c.add_fate.new.fates.items c.loop-before.invariant c.in_ok-add_fate.ensures

pub returns : goal.returns
returns c =
    let on : is_link c.args.crafts.now c.args.sender c.args.receiver ≡ true = sym c.is_link.ensures ∙ c.if-not-is_link.false in
    let all : c.loop-before.before ≡ c.args.cycles = omega arith in
    where-made (is_link c.args.crafts.now c.args.sender c.args.receiver) _ c.args.draws.now c.loop-before.draws c.args.fates.now.items c.loop-before.fates.items on
    (subst (λ (n : ℕ). Makes (each (fate c.args.sender c.args.receiver) n) c.args.draws.now c.args.fates.now.items c.loop-before.draws c.loop-before.fates.items) all c.loop-before.invariant)
