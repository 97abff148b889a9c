use Rattle.std.proofs.Common.{arith, ◌≡◌, ◌∙◌, ◌∷◌, ap, codes, map, rules, sym, drop, length, take, ◌-◌}
use Rattle.std.specs.String.{string_bytes}
use Rattle.acas_top.proofs.FlightWords.{cut-first}
use Rattle.acas_top.proofs.words.parse_flight.Goals as goal

pub returns-then-are_addresses-clause-some : goal.returns-then-are_addresses-clause-some
returns-then-are_addresses-clause-some c =
    let said : c.as_str.result.now ≡ codes "fly" = search rules in
    let word : string_bytes c.word-item.result ≡ codes "fly" = sym c.as_str.ensures.value ∙ said in
    record {
      is = cut-first string_bytes c.args.words.now c.word-item.result (omega arith) c.word-item.is ∙ ap (λ w. w ∷ map string_bytes (take (length c.args.words.now - 1) (drop 1 c.args.words.now))) word;
      addresses = sym c.are_addresses.ensures ∙ c.if-are_addresses.true;
    }
