use Rattle.std.proofs.Common.{◌∙◌, ◌++◌, [], List, ℕ, ap, ap₂, subst, sym}
use Rattle.std.proofs.lemmas.List.{append-nil}
use Rattle.acas_lines.specs.Lines.{joined}
use Rattle.acas_top.specs.Refusing.{refused_line}
use Rattle.acas_top.specs.Answers.{IsFaulty, IsRight}
use Rattle.acas_top.specs.Explaining.{EncounterFile, right_encounter_lines}
use Rattle.acas_top.specs.declared.explaining.Subject.{Subject}
use Rattle.enc_file.specs.Reading.{reading_of}
use Rattle.fault_text.specs.Told.{IsExplained}
use Rattle.acas_top.proofs.answers.answer_encounter.Goals as goal

pub returns-in-Ok : goal.returns-in-Ok
returns-in-Ok c =
    let says = rw c.in-Ok.is at c.in_ok-encounter.ensures.says in
    subst (λ (kind : Subject). IsRight kind c.args.bytes.items (joined (right_encounter_lines c.new.result))) (sym c.requires.subject)
    (record { encounter = c.in-Ok.encounter; says = rw c.as_slice.ensures.value at says; text_is = ap (λ (right : EncounterFile). joined (right_encounter_lines right)) c.new.ensures })

pub explained-requires-clause-refused : goal.explained-requires-clause-refused
explained-requires-clause-refused c =
    let refused = rw c.in-Err.is at c.in_ok-encounter.ensures.refused in
    ap reading_of (c.as_slice-in-Err.ensures.value ∙ sym c.as_slice.ensures.value) ∙ refused

pub returns-in_ok-told-in-Err : goal.returns-in_ok-told-in-Err
returns-in_ok-told-in-Err c =
    let refused = rw c.in-Err.is at c.in_ok-encounter.ensures.refused in
    let told = c.in_ok-told-in-Err.told in
    subst (λ (kind : Subject). IsFaulty kind c.args.bytes.items (refused_line c.in-Err.refusal.at c.number.result ++ (told ++ []))) (sym c.requires.subject)
    (record {
      refusal = c.in-Err.refusal;
      is = ap reading_of (sym c.as_slice.ensures.value) ∙ refused;
      line = told;
      explained = subst (λ (text : List ℕ). IsExplained text c.in-Err.refusal told) c.as_slice-in-Err.ensures.value c.in_ok-told-in-Err.ensures;
      text_is = ap₂ (λ (code : ℕ) (line : List ℕ). refused_line c.in-Err.refusal.at code ++ line) c.number.ensures (append-nil told);
    })
