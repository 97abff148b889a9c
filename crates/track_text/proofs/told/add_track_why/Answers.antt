use Rattle.std.proofs.Common.{◌++◌, ◌∙◌, ap, sym}
use Rattle.fault_text.proofs.Pieces.{two}
use Rattle.track_text.specs.Sentences.{track_why_text}
use Rattle.track_text.proofs.told.add_track_why.Goals as goal

pub returns-in-NoHeader-clause-added : goal.returns-in-NoHeader-clause-added
returns-in-NoHeader-clause-added c =
    two c.args.line.now c.text-in-NoHeader.new.self c.add_shown.new.line _ _ c.text-in-NoHeader.ensures.added c.add_shown.ensures.added ∙ ap (λ w. c.args.line.now ++ track_why_text w) (sym c.in-NoHeader.is)

pub returns-in-ManyCrafts-clause-added : goal.returns-in-ManyCrafts-clause-added
returns-in-ManyCrafts-clause-added c = c.text-in-ManyCrafts.ensures.added ∙ ap (λ w. c.args.line.now ++ track_why_text w) (sym c.in-ManyCrafts.is)
