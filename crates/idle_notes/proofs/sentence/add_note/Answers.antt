use Rattle.std.proofs.Common.{◌++◌, ap, sym, ◌∙◌}
use Rattle.fault_text.proofs.Pieces.{two}
use Rattle.idle_notes.specs.Sentences.{note_text}
use Rattle.idle_notes.proofs.sentence.add_note.Goals as goal

pub returns-in-IdlePlan-clause-added : goal.returns-in-IdlePlan-clause-added
returns-in-IdlePlan-clause-added c =
    two c.args.line.now c.text-in-IdlePlan.new.self c.add_no_ra-in-IdlePlan.new.line _ _ c.text-in-IdlePlan.ensures.added c.add_no_ra-in-IdlePlan.ensures.added
    ∙ ap (λ w. c.args.line.now ++ note_text w) (sym c.in-IdlePlan.is)
