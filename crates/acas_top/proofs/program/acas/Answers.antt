use Rattle.std.proofs.Common.{subst}
use Rattle.acas_top.proofs.Endings.{done-play, plain-ends, put-done, put-ends, unread-ends, wanting-ends}
use Rattle.acas_top.specs.Answers.{Answers}
use Rattle.acas_top.specs.Given.{answer_status, answer_text}
use Rattle.acas_top.specs.declared.status.Status.{Status}
use Rattle.acas_top.specs.Commands.{OfRun}
use Rattle.acas_top.proofs.program.acas.Goals as goal

pub returns-in_default-clause-ended : goal.returns-in_default-clause-ended
returns-in_default-clause-ended g c = plain-ends c.in_default.ensures.none c.acas_plain.ensures.ended

pub returns-clause-ended : goal.returns-clause-ended
returns-clause-ended g c =
    let run = c.in-Some.run' in
    let said = c.in-Some.ensures.some in
    unread-ends (OfRun run) c.in-Err.status said (λ none. none (OfRun run) tt said) c.in-Err.ensures.untouched c.in-Err.ensures.unread

pub returns-in-Ok-clause-ended : goal.returns-in-Ok-clause-ended
returns-in-Ok-clause-ended g c =
    let said = c.in-Some.ensures.some in
    wanting-ends (OfRun c.in-Some.run') said (λ none. none (OfRun c.in-Some.run') tt said) c.in-Ok.ensures.untouched c.in-Ok.ensures.no_fault

pub returns-in-Ok-answer_in_threads-clause-ended : goal.returns-in-Ok-answer_in_threads-clause-ended
returns-in-Ok-answer_in_threads-clause-ended g c =
    let run = c.in-Some.run' in
    let said = c.in-Some.ensures.some in
    let answer = c.in-Ok-answer_in_threads.answer in
    let answers : Answers (OfRun run) c.in-Ok.bytes.items (answer_status answer) (answer_text answer) = rw c.as_slice.ensures.value at c.in-Ok-answer_in_threads.ensures in
    put-ends (OfRun run) c.in-Ok.bytes.items (answer_text answer) (answer_status answer) c.put_answer.result said tt (λ none. none (OfRun run) tt said) c.in-Ok.ensures.untouched c.in-Ok.ensures.read c.in-Ok.ensures.no_fault answers c.put_answer.ensures

pub returns-in-Ok-answer_in_threads-clause-played_in_threads : goal.returns-in-Ok-answer_in_threads-clause-played_in_threads
returns-in-Ok-answer_in_threads-clause-played_in_threads g c = λ also done.
    let run = c.in-Some.run' in
    let answer = c.in-Ok-answer_in_threads.answer in
    let answers : Answers (OfRun run) c.in-Ok.bytes.items (answer_status answer) (answer_text answer) = rw c.as_slice.ensures.value at c.in-Ok-answer_in_threads.ensures in
    let put = put-done (answer_status answer) c.put_answer.result (answer_text answer) _ _ _ _ done c.put_answer.ensures in
    let done_answers = subst (λ (status : Status). Answers (OfRun run) c.in-Ok.bytes.items status (answer_text answer)) put.0 answers in
    done-play run _ _ _ c.in-Ok.bytes.items (answer_text answer) _ c.in-Some.ensures.some done_answers c.in-Ok.ensures.read put.1 also
