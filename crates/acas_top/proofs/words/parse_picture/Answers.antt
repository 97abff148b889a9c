use Rattle.std.proofs.Common.{arith, ◌≡◌, ◌∙◌, ◌∷◌, ◌≤◌, ap, codes, map, rules, sym, drop, length, take, ◌-◌}
use Rattle.std.specs.String.{string_bytes}
use Rattle.acas_top.proofs.FlightWords.{cut-first, say-picture, some-left, some-mapped}
use Rattle.acas_top.proofs.words.parse_picture.Goals as goal

pub returns-then-not-is_empty-clause-some : goal.returns-then-not-is_empty-clause-some
returns-then-not-is_empty-clause-some c =
    let words = c.args.words.now in
    let list = take (length words - 1) (drop 1 words) in
    let said : c.as_str.result.now ≡ codes "picture" = search rules in
    let word : string_bytes c.word-item.result ≡ codes "picture" = sym c.as_str.ensures.value ∙ said in
    let some : 1 ≤ length list = some-left (length list) (sym c.is_empty.ensures ∙ c.if-not-is_empty.true) in
    say-picture (map string_bytes words) (map string_bytes list) c.parse.result
    (cut-first string_bytes words c.word-item.result (omega arith) c.word-item.is ∙ ap (λ w. w ∷ map string_bytes list) word)
    (some-mapped string_bytes list some)
    c.parse.ensures
