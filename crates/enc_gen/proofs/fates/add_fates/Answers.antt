use Rattle.std.proofs.Common.{◌≡◌, ◌∙◌, sym, subst, arith, length, true, false, ℕ}
use Rattle.enc_gen.proofs.Steps.{next-made, none-made, skip-made, where-made}
use Rattle.enc_gen.specs.Fates.{is_ra_at, link_fates}
use Rattle.enc_gen.specs.Making.{Makes, each}
use Rattle.enc_gen.proofs.fates.add_fates.Goals as goal

pub returns-then-not-is_ra_at : goal.returns-then-not-is_ra_at
returns-then-not-is_ra_at c =
    let off : is_ra_at c.args.crafts.now c.args.sender ≡ false = sym c.is_ra_at.ensures ∙ c.if-not-is_ra_at.true in
    skip-made (is_ra_at c.args.crafts.now c.args.sender) _ c.args.draws.now c.args.fates.now.items off

pub loop-receiver-init : goal.loop-receiver-init
loop-receiver-init c = none-made (link_fates c.args.crafts.now c.args.cycles c.args.sender) c.args.draws.now c.args.fates.now.items

pub loop-receiver-preserved : goal.loop-receiver-preserved
loop-receiver-preserved c =
    next-made (link_fates c.args.crafts.now c.args.cycles c.args.sender) c.loop-receiver.receiver c.args.draws.now c.loop-receiver.draws c.add_link_fates.new.draws
    c.args.fates.now.items c.loop-receiver.fates.items c.add_link_fates.new.fates.items c.loop-receiver.invariant c.in_ok-add_link_fates.ensures

pub returns : goal.returns
returns c =
    let on : is_ra_at c.args.crafts.now c.args.sender ≡ true = sym c.is_ra_at.ensures ∙ c.if-not-is_ra_at.false in
    let all : c.loop-receiver.receiver ≡ length c.args.crafts.now = omega arith in
    where-made (is_ra_at c.args.crafts.now c.args.sender) _ c.args.draws.now c.loop-receiver.draws c.args.fates.now.items c.loop-receiver.fates.items on
    (subst (λ (n : ℕ). Makes (each (link_fates c.args.crafts.now c.args.cycles c.args.sender) n) c.args.draws.now c.args.fates.now.items c.loop-receiver.draws c.loop-receiver.fates.items) all c.loop-receiver.invariant)
