use Rattle.std.proofs.Common.{◌≤◌, ℕ, List, length, map, sym, subst, ap, ◌∙◌, arith}
use Rattle.std.proofs.lemmas.List.{length-map}
use Rattle.std.specs.String.{string_bytes}
use Rattle.labels.specs.Parts.{value_of}
use Rattle.labels.proofs.Kept.{marked-short}
use Rattle.labels.proofs.labels.text_at.Goals as goal

pub line_of-requires : goal.line_of-requires
line_of-requires c =
    let words = map string_bytes c.args.words.now in
    let size = length-map c.args.words.now string_bytes in
    let place = c.requires.place in
    let value = c.value_of.ensures ∙ ap value_of c.word_at.ensures in
    subst (λ (v : List ℕ). length v ≤ 60) (sym value) (marked-short c.args.start words c.args.place c.requires.marks (omega (arith, size, place)))

pub returns-clause-short : goal.returns-clause-short
returns-clause-short c =
    let words = map string_bytes c.args.words.now in
    let size = length-map c.args.words.now string_bytes in
    let place = c.requires.place in
    let value = c.line_of.ensures ∙ c.value_of.ensures ∙ ap value_of c.word_at.ensures in
    subst (λ (v : List ℕ). length v ≤ 60) (sym value) (marked-short c.args.start words c.args.place c.requires.marks (omega (arith, size, place)))
