use Rattle.std.proofs.Common.{None, ap, ◌∙◌}
use Rattle.std.specs.Prelude.{is_some}
use Rattle.track_text.specs.Conditions.{IsLowestFault}
use Rattle.track_text.specs.Reading.{refusal_after}
use Rattle.track_text.specs.declared.refusal.Fault.TheVariants.{Text}
use Rattle.track_text.specs.declared.refusal.ReadError.TheVariants.{Refused}
use Rattle.track_text.proofs.Kept.{kept-if, missing, refuses}
use Rattle.track_text.proofs.tables.TrackTables.finish.Goals as goal

pub returns : goal.returns
returns c = λ earlier h.
    let kept = kept-if c.args.self.made earlier c.args.self h (ap is_some c.in-None.is) in
    refuses earlier c.args.self (IsLowestFault earlier None) (Text _) c.refused-missing.result kept.count (missing earlier c.args.self kept) (c.refused-missing.ensures ∙ ap (λ why. Refused (refusal_after c.args.self.count (Text why))) c.missing_after.ensures)
