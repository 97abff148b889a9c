use Rattle.std.proofs.Common.{◌≡◌, length, []}
use Rattle.std.specs.Prelude.{All}
use Rattle.enc_gen.specs.Crafts.{IsDraft, draft}
use Rattle.enc_gen.specs.Making.{Makes, each}
use Rattle.enc_gen.proofs.crafts.draw_drafts.Given as goal

abbrev pub invariant-loop-craft : goal.invariant-loop-craft
invariant-loop-craft l = record {
  made : Makes (each draft l.craft) l.initial.draws [] l.draws l.drafts.items;
  near : All IsDraft l.drafts.items;
  long : length l.drafts.items ≡ l.craft;
}
