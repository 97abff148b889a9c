use Rattle.std.proofs.Common.{[], ◌∷◌, arith, subst, sym, ap, List, length}
use Rattle.std.specs.Prelude.{All}
use Rattle.std.proofs.lemmas.List.Elements.{All-append, All-cons, All-nil}
use Rattle.enc_gen.specs.Crafts.{IsDraft, draft}
use Rattle.enc_gen.specs.Making.{Makes, each}
use Rattle.enc_gen.specs.declared.crafts.Draft.{Draft}
use Rattle.enc_gen.proofs.Steps.{none-made, push-made}
use Rattle.enc_gen.proofs.crafts.draw_drafts.Goals as goal

pub loop-craft-init : goal.loop-craft-init
loop-craft-init c = record {
  made = subst (λ (xs : List Draft). Makes (each draft 0) c.args.draws.now [] c.args.draws.now xs) (sym c.in_ok-drafts.ensures.items) (none-made draft c.args.draws.now []);
  near = subst (λ (xs : List Draft). All IsDraft xs) (sym c.in_ok-drafts.ensures.items) (All-nil IsDraft);
  long = ap length c.in_ok-drafts.ensures.items;
}

pub loop-craft-preserved : goal.loop-craft-preserved
loop-craft-preserved c =
    let d = c.draw_draft.result in
    let drafts = c.loop-craft.drafts.items in
    record {
      made = push-made draft c.loop-craft.craft c.args.draws.now c.loop-craft.draws c.draw_draft.new.draws d [] drafts c.push.new.self.items c.loop-craft.invariant.made c.draw_draft.ensures.value c.draw_draft.ensures.state c.in_ok-push.ensures.items;
      near = subst (λ (xs : List Draft). All IsDraft xs) (sym c.in_ok-push.ensures.items) (All-append IsDraft drafts (d ∷ []) c.loop-craft.invariant.near (All-cons IsDraft d [] c.draw_draft.ensures.near (All-nil IsDraft)));
      long = omega (arith, c.loop-craft.invariant.long, c.in_ok-push.ensures.len);
    }
