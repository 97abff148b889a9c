use Rattle.std.proofs.Common.{subst}
use Rattle.acas_top.proofs.Endings.{done-serial, flight-ends, put-done, put-ends, unread-ends, wanting-ends}
use Rattle.acas_top.specs.Answers.{AnswersPlain}
use Rattle.acas_top.specs.Given.{answer_status, answer_text}
use Rattle.acas_top.specs.declared.status.Status.{Status}
use Rattle.acas_top.specs.declared.words.Plain.TheVariants.{Serial}
use Rattle.acas_top.specs.Commands.{OfPlain}
use Rattle.acas_top.proofs.plain_program.acas_plain.Goals as goal

pub returns-in-Err-clause-ended : goal.returns-in-Err-clause-ended
returns-in-Err-clause-ended g c =
    let said = c.in-Some.ensures.some in
    unread-ends (OfPlain c.in-Some.plain) c.in-Err.status said (λ none. none.0 c.in-Some.plain c.in-Some.ensures.valid said) (rw c.limit.ensures at c.in-Err.ensures.untouched) (rw c.limit.ensures at c.in-Err.ensures.unread)

pub returns-in-Err-answer_to-clause-ended : goal.returns-in-Err-answer_to-clause-ended
returns-in-Err-answer_to-clause-ended g c =
    let said = c.in-Some.ensures.some in
    wanting-ends (OfPlain c.in-Some.plain) said (λ none. none.0 c.in-Some.plain c.in-Some.ensures.valid said) (rw c.limit.ensures at c.in-Ok.ensures.untouched) c.in-Ok.ensures.no_fault

pub returns-in-Ok-answer_to-clause-ended : goal.returns-in-Ok-answer_to-clause-ended
returns-in-Ok-answer_to-clause-ended g c =
    let plain = c.in-Some.plain in
    let said = c.in-Some.ensures.some in
    let answer = c.in-Ok-answer_to.answer in
    let answers : AnswersPlain plain c.in-Ok.bytes.items (answer_status answer) (answer_text answer) = c.in-Ok-answer_to.ensures in
    put-ends (OfPlain plain) c.in-Ok.bytes.items (answer_text answer) (answer_status answer) c.put_answer.result said c.in-Some.ensures.valid (λ none. none.0 plain c.in-Some.ensures.valid said) (rw c.limit.ensures at c.in-Ok.ensures.untouched)
    (rw c.limit.ensures at c.in-Ok.ensures.read) c.in-Ok.ensures.no_fault answers c.put_answer.ensures

pub returns-in-Ok-answer_to-clause-played : goal.returns-in-Ok-answer_to-clause-played
returns-in-Ok-answer_to-clause-played g c = λ also done.
    let plain = c.in-Some.plain in
    let answer = c.in-Ok-answer_to.answer in
    let answers : AnswersPlain plain c.in-Ok.bytes.items (answer_status answer) (answer_text answer) = c.in-Ok-answer_to.ensures in
    let put = put-done (answer_status answer) c.put_answer.result (answer_text answer) _ _ _ _ done c.put_answer.ensures in
    let done_answers = subst (λ (status : Status). AnswersPlain plain c.in-Ok.bytes.items status (answer_text answer)) put.0 answers in
    done-serial (OfPlain plain) _ _ _ c.in-Ok.bytes.items (answer_text answer) _ c.in-Some.ensures.some done_answers (rw c.limit.ensures at c.in-Ok.ensures.read) put.1 also

pub returns-in_default-clause-ended : goal.returns-in_default-clause-ended
returns-in_default-clause-ended g c = flight-ends c.in_default.ensures.none c.fly.ensures

pub returns-in_default-clause-played : goal.returns-in_default-clause-played
returns-in_default-clause-played g c = λ said done. absurd (c.in_default.ensures.none Serial tt said)
