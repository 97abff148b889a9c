use Rattle.std.proofs.Common.{◌∙◌, ap, refl}
use Rattle.std.proofs.lemmas.Bool.{both_ways}
use Rattle.enc_file.specs.Conditions.{is_stranger}
use Rattle.fault_text.specs.Lines.{fields_in}
use Rattle.track_text.specs.Told.{all_shared}
use Rattle.track_text.proofs.TrackRows.{before-shared, in-shared}
use Rattle.track_text.proofs.against.stranger_why.Goals as goal

pub unreachable-requires : goal.unreachable-requires
unreachable-requires c =
    let a = c.requires.against in
    let known = c.in-None.ensures (all_shared a.refused.earlier) (before-shared c.args.text.now c.args.refusal a.refused) in
    both_ways _ known (ap (λ rs. is_stranger rs (fields_in c.args.line.now) 1) (in-shared a.refused.earlier) ∙ a.fault)

pub returns : goal.returns
returns c =
    let a = c.requires.against in
    record { refused = a.refused; tells = (refl, c.in-Some.ensures (all_shared a.refused.earlier) (before-shared c.args.text.now c.args.refusal a.refused)) }
