use Rattle.std.proofs.Common.{arith, length-drop}
use Rattle.std.proofs.lemmas.List.{length-take}
use Rattle.acas_io.proofs.Pieces.{Grew-front}
use Rattle.acas_io.proofs.whole.write_all.Goals as goal

pub loop-at-preserved : goal.loop-at-preserved
loop-at-preserved g c = record {
  within = grind (arith, length-take, length-drop, c.in_ok-at.ensures.bytes.0);
  front = Grew-front _ _ _ c.args.piece.now c.loop-at.at c.in_ok-at.field-0 c.loop-at.invariant.front c.in_ok-at.ensures.bytes.2;
  count = cc (c.in_ok-at.ensures.count, c.loop-at.invariant.count);
}
