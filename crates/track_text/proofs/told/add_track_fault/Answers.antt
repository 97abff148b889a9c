use Rattle.std.proofs.Common.{◌++◌, ◌∙◌, ap, sym}
use Rattle.fault_text.proofs.Pieces.{four, three, two}
use Rattle.track_text.specs.Sentences.{track_fault}
use Rattle.track_text.proofs.told.add_track_fault.Goals as goal

pub returns-in-Cover-clause-added : goal.returns-in-Cover-clause-added
returns-in-Cover-clause-added c =
    three c.args.line.now c.text.new.self c.add_address.new.line c.text-in-Cover.new.self _ _ _ c.text.ensures.added c.add_address.ensures.added c.text-in-Cover.ensures.added
    ∙ ap (λ k. c.args.line.now ++ track_fault k c.args.address) (sym c.in-Cover.is)

pub returns-in-Rate-clause-added : goal.returns-in-Rate-clause-added
returns-in-Rate-clause-added c =
    two c.args.line.now c.u16.new.self c.text-in-Rate-2.new.self _ _
    (four c.args.line.now c.text.new.self c.add_address.new.line c.text-in-Rate.new.self c.u16.new.self _ _ _ _ c.text.ensures.added c.add_address.ensures.added c.text-in-Rate.ensures.added c.u16.ensures.added)
    c.text-in-Rate-2.ensures.added
    ∙ ap (λ k. c.args.line.now ++ track_fault k c.args.address) (sym c.in-Rate.is)
