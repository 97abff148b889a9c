use Rattle.std.proofs.Common.{◌≡◌, sym, subst, arith, length, ℕ, [], List}
use Rattle.acas_base.specs.declared.craft.Miss.{Miss}
use Rattle.enc_gen.proofs.Steps.{next-made, none-made}
use Rattle.enc_gen.specs.Making.{Makes, each}
use Rattle.enc_gen.specs.Misses.{own_misses}
use Rattle.enc_gen.proofs.misses.draw_misses.Goals as goal

pub loop-own-init : goal.loop-own-init
loop-own-init c =
    let make = own_misses c.args.crafts.now c.args.cycles in
    subst (λ (xs : List Miss). Makes (each make 0) c.args.draws.now [] c.args.draws.now xs) (sym c.new-misses.ensures.items) (none-made make c.args.draws.now [])

pub loop-own-preserved : goal.loop-own-preserved
loop-own-preserved c =
    next-made (own_misses c.args.crafts.now c.args.cycles) c.loop-own.own c.args.draws.now c.loop-own.draws c.add_misses.new.draws
    [] c.loop-own.misses.items c.add_misses.new.misses.items c.loop-own.invariant c.in_ok-add_misses.ensures

pub returns : goal.returns
returns c =
    let all : c.loop-own.own ≡ length c.args.crafts.now = omega arith in
    subst (λ (n : ℕ). Makes (each (own_misses c.args.crafts.now c.args.cycles) n) c.args.draws.now [] c.loop-own.draws c.loop-own.misses.items) all c.loop-own.invariant
