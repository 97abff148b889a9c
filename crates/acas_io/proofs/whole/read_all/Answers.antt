use Rattle.std.proofs.Common.{◌++◌, take, arith, length-append}
use Rattle.std.proofs.lemmas.List.{length-take-le}
use Rattle.std.proofs.KnownBytes.{Consumes-trans}
use Rattle.acas_io.proofs.whole.read_all.Goals as goal

pub returns-then-count-limit-clause-long : goal.returns-then-count-limit-clause-long
returns-then-count-limit-clause-long g c = λ _.
    let given = c.loop-count.bytes.items ++ take c.in-Ok.count c.read.new.buf in
    (given, Consumes-trans _ _ _ _ _ c.loop-count.invariant.taken c.in-Ok.ensures.bytes.0, grind (arith, length-append, length-take-le))

pub returns-in_err-extend_from_slice-clause-memory : goal.returns-in_err-extend_from_slice-clause-memory
returns-in_err-extend_from_slice-clause-memory g c = λ _.
    let given = c.loop-count.bytes.items ++ take c.in-Ok.count c.read.new.buf in
    (given, Consumes-trans _ _ _ _ _ c.loop-count.invariant.taken c.in-Ok.ensures.bytes.0, grind (arith, length-append, length-take-le))
