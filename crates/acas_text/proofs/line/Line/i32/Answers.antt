use Rattle.std.proofs.Common.{arith, ap, length, length-append, ◌∷◌, []}
use Rattle.std.proofs.lemmas.Fmt.{length-decimal-le}
use Rattle.acas_text.proofs.line.Line.i32.Goals as goal
use Rattle.acas_text.proofs.line.Line.i32.Goals.{then-value-lt0, else-value-lt0}

pub number-requires-clause-room : goal.number-requires-clause-room
number-requires-clause-room c =
    let size = length-decimal-le 10 c.from.result (omega arith) (omega (arith, c.from.ensures)) (omega (arith, c.from.ensures)) in
    elim c.if-value-lt0.branch [
      | then-value-lt0 w ↦ omega (arith, size, c.requires, ap length w.self-is, ap length w.push.ensures, length-append c.args.self.now (45 ∷ []))
      | else-value-lt0 w ↦ omega (arith, size, c.requires, ap length w.self-is)
    ]

pub returns-clause-short : goal.returns-clause-short
returns-clause-short c =
    let size = length-decimal-le 10 c.from.result (omega arith) (omega (arith, c.from.ensures)) (omega (arith, c.from.ensures)) in
    elim c.if-value-lt0.branch [
      | then-value-lt0 w ↦ omega (arith, size, c.number.ensures.longer, ap length w.self-is, ap length w.push.ensures, length-append c.args.self.now (45 ∷ []))
      | else-value-lt0 w ↦ omega (arith, size, c.number.ensures.longer, ap length w.self-is)
    ]
