use Rattle.std.proofs.Common.{ap, arith, length, map}
use Rattle.std.specs.String.{string_bytes}
use Rattle.acas_top.proofs.FlightWords.{all-addresses, six-long}
use Rattle.acas_top.proofs.flying.answer_for.Goals as goal

pub unknown_line-requires : goal.unknown_line-requires
unknown_line-requires c =
    let all = all-addresses (map string_bytes c.args.names.now) c.requires.addresses in
    let six = six-long (string_bytes c.in-Some.name.now) (c.in-Some.ensures.address all) in
    let same = ap length c.as_str.ensures.value in
    omega (arith, six, same)
