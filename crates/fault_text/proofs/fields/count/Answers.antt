use Rattle.std.proofs.Common.{ap, arith, length, eqb}
use Rattle.std.proofs.lemmas.List.Splits.{length-slice_split}
use Rattle.memchr.proofs.lemmas.CallerLemmas.{length-places}
use Rattle.fault_text.proofs.fields.count.Goals as goal

pub returns : goal.returns
returns c =
    let places = length-places (λ d. eqb d 44) c.args.line.now in
    let parts = length-slice_split (λ d. eqb d 44) c.args.line.now in
    omega (arith, c.count.ensures, ap length c.memchr_iter.ensures.value, places, parts)
