use Rattle.std.proofs.Common.{◌≡◌, sym, subst, arith, length, ℕ, [], List}
use Rattle.acas_base.specs.declared.link.Fate.{Fate}
use Rattle.enc_gen.proofs.Steps.{next-made, none-made}
use Rattle.enc_gen.specs.Making.{Makes, each}
use Rattle.enc_gen.specs.Fates.{own_fates}
use Rattle.enc_gen.proofs.fates.draw_fates.Goals as goal

pub loop-sender-init : goal.loop-sender-init
loop-sender-init c =
    let make = own_fates c.args.crafts.now c.args.cycles in
    subst (λ (xs : List Fate). Makes (each make 0) c.args.draws.now [] c.args.draws.now xs) (sym c.new-fates.ensures.items) (none-made make c.args.draws.now [])

pub loop-sender-preserved : goal.loop-sender-preserved
loop-sender-preserved c =
    next-made (own_fates c.args.crafts.now c.args.cycles) c.loop-sender.sender c.args.draws.now c.loop-sender.draws c.add_fates.new.draws
    [] c.loop-sender.fates.items c.add_fates.new.fates.items c.loop-sender.invariant c.in_ok-add_fates.ensures

pub returns : goal.returns
returns c =
    let all : c.loop-sender.sender ≡ length c.args.crafts.now = omega arith in
    subst (λ (n : ℕ). Makes (each (own_fates c.args.crafts.now c.args.cycles) n) c.args.draws.now [] c.loop-sender.draws c.loop-sender.fates.items) all c.loop-sender.invariant
