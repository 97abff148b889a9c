use Rattle.std.proofs.Common.{rules, ◌≡◌, ◌∙◌, ◌++◌, ap, sym}
use Rattle.fault_text.specs.Sentences.{range_text, unit_text, wanted}
use Rattle.fault_text.specs.Hints.{number_hint}
use Rattle.fault_text.proofs.Pieces.{four}
use Rattle.fault_text.proofs.sentence.add_wanted.Goals as goal

pub returns-in-Whole-clause-added : goal.returns-in-Whole-clause-added
returns-in-Whole-clause-added c =
    let added : c.add_range.new.line ≡ c.text.new.self ++ range_text c.in-Whole.low c.in-Whole.high = search rules in
    four c.args.line.now c.text.new.self c.add_range.new.line c.text-in-Whole.new.self c.text-in-Whole-2.new.self _ (range_text c.in-Whole.low c.in-Whole.high) (unit_text c.args.name) (number_hint c.args.found.now) c.text.ensures.added added
    (c.text-in-Whole.ensures.added ∙ ap (λ t. c.add_range.new.line ++ t) c.unit_text.ensures.text) (c.text-in-Whole-2.ensures.added ∙ ap (λ t. c.text-in-Whole.new.self ++ t) c.number_hint.ensures.text)
    ∙ ap (λ k. c.args.line.now ++ wanted c.args.name k c.args.found.now) (sym c.in-Whole.is)

pub returns-in-Kind-clause-added : goal.returns-in-Kind-clause-added
returns-in-Kind-clause-added c = c.text-in-Kind.ensures.added ∙ ap (λ k. c.args.line.now ++ wanted c.args.name k c.args.found.now) (sym c.in-Kind.is)
