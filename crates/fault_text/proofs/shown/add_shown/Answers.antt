use Rattle.std.proofs.Common.{◌∙◌, ◌∷◌, ◌++◌, [], ap, arith}
use Rattle.fault_text.proofs.Quoted.{all-shown}
use Rattle.fault_text.proofs.shown.add_shown.Goals as goal

pub returns-else-most-bytes-clause-added : goal.returns-else-most-bytes-clause-added
returns-else-most-bytes-clause-added c =
    c.text-2.ensures.added ∙ ap (λ t. t ++ 34 ∷ []) c.loop-byte.invariant.added
    ∙ rw c.text.ensures.added (all-shown c.args.line.now c.args.bytes.now c.min-most.result c.loop-byte.byte-index (omega (arith, c.if-most-bytes.false)) c.if-most-bytes.false c.loop-byte-test.false)
