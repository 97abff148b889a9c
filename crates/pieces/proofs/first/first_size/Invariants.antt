use Rattle.std.proofs.Common.{length}
use Rattle.pieces.proofs.FirstPiece.{IsRead}
use Rattle.pieces.proofs.first.first_size.Given as goal

-- The lines that were cut off have no end.
abbrev pub invariant-loop-rest : goal.invariant-loop-rest
invariant-loop-rest l = IsRead l.fn.bytes l.rest l.some

abbrev pub decreases-loop-rest : goal.decreases-loop-rest
decreases-loop-rest l = length l.rest
