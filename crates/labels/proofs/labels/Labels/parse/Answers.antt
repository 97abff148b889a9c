use Rattle.std.proofs.Common.{map, sym, ap, ◌∙◌, arith}
use Rattle.std.proofs.lemmas.List.{length-map}
use Rattle.std.specs.String.{string_bytes}
use Rattle.labels.specs.Labels.{after_start, are_names}
use Rattle.labels.proofs.Kept.{front-named, sound}
use Rattle.labels.proofs.Parsing.{accepted, by-parts, refused, too-many}
use Rattle.labels.proofs.labels.Labels.parse.Goals as goal

pub returns-then-words-gt-MOST_WORDS : goal.returns-then-words-gt-MOST_WORDS
returns-then-words-gt-MOST_WORDS c =
    let words = map string_bytes c.args.words.now in
    let size = length-map c.args.words.now string_bytes in
    let many = c.if-words-gt-MOST_WORDS.true in
    too-many words (omega arith)

pub invariant_of-result : goal.invariant_of-result
invariant_of-result c =
    let parts = c.split_words-parts in
    let names = ap are_names parts.ensures.names ∙ front-named (after_start (map string_bytes c.args.words.now)) in
    sound parts.result.start (map string_bytes parts.result.names.now) (map string_bytes parts.result.marks.now) parts.ensures.day names (sym c.are_checked.ensures ∙ c.if-are_checked.true)

pub returns-then-are_checked : goal.returns-then-are_checked
returns-then-are_checked c =
    let words = map string_bytes c.args.words.now in
    let parts = c.split_words-parts in
    let names = map string_bytes parts.result.names.now in
    let marks = map string_bytes parts.result.marks.now in
    let size = length-map c.args.words.now string_bytes in
    let few = c.if-words-gt-MOST_WORDS.false in
    by-parts words names marks parts.result.start (omega arith) parts.ensures.start parts.ensures.names parts.ensures.marks
    ∙ accepted parts.result.start names marks (sym c.are_checked.ensures ∙ c.if-are_checked.true)

pub returns : goal.returns
returns c =
    let words = map string_bytes c.args.words.now in
    let parts = c.split_words-parts in
    let names = map string_bytes parts.result.names.now in
    let marks = map string_bytes parts.result.marks.now in
    let size = length-map c.args.words.now string_bytes in
    let few = c.if-words-gt-MOST_WORDS.false in
    by-parts words names marks parts.result.start (omega arith) parts.ensures.start parts.ensures.names parts.ensures.marks
    ∙ refused parts.result.start names marks (sym c.are_checked.ensures ∙ c.if-are_checked.false)
