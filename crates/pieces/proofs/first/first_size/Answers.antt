use Rattle.std.proofs.Common.{◌∙◌, ◌-◌, arith, length, sym}
use Rattle.pieces.proofs.FirstPiece.{behind-short, ended-size, read-other}
use Rattle.pieces.proofs.first.first_size.Goals as goal

pub returns-then-is_end : goal.returns-then-is_end
returns-then-is_end c =
    let bytes = c.args.bytes.now in
    let rest = c.loop-rest.rest.now in
    let line = c.cut.result.0.now in
    let behind = c.cut.result.1.now in
    let short = behind-short bytes rest line behind c.loop-rest.some c.loop-rest.invariant c.cut.ensures.cut in
    ended-size bytes rest line behind c.loop-rest.some (length bytes - length behind) c.loop-rest.invariant c.cut.ensures.cut (sym c.is_end.ensures ∙ c.if-is_end.true) (omega (arith, short))

pub loop-rest-preserved : goal.loop-rest-preserved
loop-rest-preserved c =
    read-other c.args.bytes.now c.loop-rest.rest.now c.cut.result.0.now c.cut.result.1.now c.loop-rest.some c.some_with-some.result c.loop-rest.invariant c.cut.ensures.cut (sym c.is_end.ensures ∙ c.if-is_end.false) c.some_with-some.ensures
