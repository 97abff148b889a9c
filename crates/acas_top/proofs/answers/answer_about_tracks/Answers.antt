use Rattle.std.proofs.Common.{◌∙◌, ◌++◌, [], subst, sym}
use Rattle.std.proofs.lemmas.List.{append-nil}
use Rattle.acas_top.specs.Answers.{IsRight}
use Rattle.acas_top.specs.declared.explaining.Subject.{Subject}
use Rattle.track_text.specs.Reading.{Explains}
use Rattle.track_text.specs.declared.refusal.ReadError.{ReadError}
use Rattle.acas_top.proofs.answers.answer_about_tracks.Goals as goal

pub answer_refused_tracks-requires-clause-refused : goal.answer_refused_tracks-requires-clause-refused
answer_refused_tracks-requires-clause-refused c = subst (λ (error : ReadError). Explains c.args.bytes.now error) c.in-Err-Refused.field-0-is c.in-Err-Refused.ensures.reading

pub returns-in-Ok : goal.returns-in-Ok
returns-in-Ok c =
    subst (λ (kind : Subject). IsRight kind c.args.bytes.now (c.right_tracks_line.result ++ [])) (sym c.requires.subject)
    (record { encounter = c.in-Ok.encounter; says = c.in-Ok.ensures.reading; text_is = append-nil c.right_tracks_line.result ∙ c.right_tracks_line.ensures })
