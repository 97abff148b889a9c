use Rattle.std.proofs.Common.{◌≡◌, ◌∙◌, ap, arith, length, sym}
use Rattle.acas_top.specs.Answers.{read_as}
use Rattle.acas_top.specs.declared.explaining.Subject.TheVariants as subjects
use Rattle.acas_top.proofs.Limits.{encounter-most, recording-most, tracks-most}
use Rattle.acas_top.proofs.answers.answer_explain.Goals as goal

pub answer_recording-requires : goal.answer_recording-requires
answer_recording-requires c =
    let is : read_as c.args.bytes.items ≡ subjects.Recording = ap read_as (sym c.as_slice.ensures.value) ∙ sym c.read_as.ensures ∙ c.in-Recording.is in
    record { subject = is; few = omega (arith, c.requires, recording-most c.args.bytes.items is) }

pub answer_about_tracks-requires : goal.answer_about_tracks-requires
answer_about_tracks-requires c =
    let is : read_as c.args.bytes.items ≡ subjects.Tracks = ap read_as (sym c.as_slice.ensures.value) ∙ sym c.read_as.ensures ∙ c.in-Tracks.is in
    record { subject = ap read_as c.as_slice-in-Tracks.ensures.value ∙ is; few = omega (arith, c.requires, tracks-most c.args.bytes.items is, ap (λ l. length l) c.as_slice-in-Tracks.ensures.value) }

pub answer_encounter-requires : goal.answer_encounter-requires
answer_encounter-requires c =
    let is : read_as c.args.bytes.items ≡ subjects.Encounter = ap read_as (sym c.as_slice.ensures.value) ∙ sym c.read_as.ensures ∙ c.in-Encounter.is in
    record { subject = is; few = omega (arith, c.requires, encounter-most c.args.bytes.items is) }

pub returns-in-Tracks : goal.returns-in-Tracks
returns-in-Tracks c = rw c.as_slice-in-Tracks.ensures.value at c.answer_about_tracks.ensures
