use Rattle.std.proofs.Common.{rules, ◌≡◌, ◌∙◌, ◌++◌, ap}
use Rattle.std.specs.Prelude.{codes}
use Rattle.std.specs.Fmt.{decimal}
use Rattle.fault_text.specs.LeavingText.{axis_text, box_text, value_text}
use Rattle.fault_text.proofs.Pieces.{four}
use Rattle.fault_text.proofs.leaving_text.add_leaving.Goals as goal

pub returns-clause-added : goal.returns-clause-added
returns-clause-added c =
    let added : c.add_value.new.line ≡ c.text-4.new.self ++ value_text c.args.axis c.args.value = search rules in
    let front = four c.args.line.now c.text.new.self c.u16.new.self c.text-2.new.self c.text-3.new.self (codes " leaves the box in cycle ") (decimal c.args.cycle) (codes ": ") (axis_text c.args.axis)
    c.text.ensures.added c.u16.ensures.added c.text-2.ensures.added (c.text-3.ensures.added ∙ ap (λ t. c.text-2.new.self ++ t) c.axis_text.ensures.text) in
    four c.args.line.now c.text-3.new.self c.text-4.new.self c.add_value.new.line c.text-5.new.self _ (codes " is ") (value_text c.args.axis c.args.value) (box_text c.args.axis)
    front c.text-4.ensures.added added (c.text-5.ensures.added ∙ ap (λ t. c.add_value.new.line ++ t) c.box_text.ensures.text)
