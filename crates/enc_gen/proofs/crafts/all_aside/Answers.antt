use Rattle.std.proofs.Common.{[], List, arith, sym, subst}
use Rattle.acas_base.specs.declared.craft.CraftSpec.{CraftSpec}
use Rattle.enc_gen.proofs.Passing.{any-draft}
use Rattle.enc_gen.proofs.Steps.{none-of, push-of}
use Rattle.enc_gen.specs.Making.{Makes, each_of}
use Rattle.enc_gen.specs.Passing.{aside}
use Rattle.enc_gen.proofs.crafts.all_aside.Goals as goal

pub loop-draft-init : goal.loop-draft-init
loop-draft-init c =
    subst (λ (xs : List CraftSpec). Makes (each_of aside []) c.args.draws.now [] c.args.draws.now xs) (sym c.in_ok-crafts.ensures.items) (none-of aside c.args.draws.now)

pub loop-draft-preserved : goal.loop-draft-preserved
loop-draft-preserved c =
    push-of aside c.args.drafts.now c.loop-draft.draft-index any-draft c.args.draws.now c.loop-draft.draws c.aside.new.draws c.aside.result c.loop-draft.crafts.items c.push.new.self.items
    (omega arith) c.loop-draft.invariant c.aside.ensures.value c.aside.ensures.state c.in_ok-push.ensures.items
