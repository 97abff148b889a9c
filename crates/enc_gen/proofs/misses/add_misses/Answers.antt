use Rattle.std.proofs.Common.{◌≡◌, ◌∙◌, sym, subst, arith, length, true, false, ℕ}
use Rattle.enc_gen.proofs.Steps.{next-made, none-made, skip-made, where-made}
use Rattle.enc_gen.specs.Making.{Makes, each}
use Rattle.acas_base.specs.Encounter.{is_active_at}
use Rattle.enc_gen.specs.Misses.{pair_miss}
use Rattle.enc_gen.proofs.misses.add_misses.Goals as goal

pub returns-then-not-is_active_at : goal.returns-then-not-is_active_at
returns-then-not-is_active_at c =
    let off : is_active_at c.args.crafts.now c.args.own ≡ false = sym c.is_active_at.ensures ∙ c.if-not-is_active_at.true in
    skip-made (is_active_at c.args.crafts.now c.args.own) _ c.args.draws.now c.args.misses.now.items off

pub loop-target-init : goal.loop-target-init
loop-target-init c = none-made (pair_miss c.args.cycles c.args.own) c.args.draws.now c.args.misses.now.items

pub loop-target-preserved : goal.loop-target-preserved
loop-target-preserved c =
    next-made (pair_miss c.args.cycles c.args.own) c.loop-target.target c.args.draws.now c.loop-target.draws c.add_miss.new.draws
    c.args.misses.now.items c.loop-target.misses.items c.add_miss.new.misses.items c.loop-target.invariant c.in_ok-add_miss.ensures

pub returns : goal.returns
returns c =
    let on : is_active_at c.args.crafts.now c.args.own ≡ true = sym c.is_active_at.ensures ∙ c.if-not-is_active_at.false in
    let all : c.loop-target.target ≡ length c.args.crafts.now = omega arith in
    where-made (is_active_at c.args.crafts.now c.args.own) _ c.args.draws.now c.loop-target.draws c.args.misses.now.items c.loop-target.misses.items on
    (subst (λ (n : ℕ). Makes (each (pair_miss c.args.cycles c.args.own) n) c.args.draws.now c.args.misses.now.items c.loop-target.draws c.loop-target.misses.items) all c.loop-target.invariant)
