use Rattle.acas_top.proofs.Endings.{picture-ends, put-ends, unread-ends}
use Rattle.acas_top.specs.Commands.{OfFlight}
use Rattle.acas_top.specs.Flying.{AnswersFlight}
use Rattle.acas_top.specs.Given.{answer_status, answer_text}
use Rattle.std.proofs.Common.{map}
use Rattle.std.specs.String.{string_bytes}
use Rattle.acas_top.proofs.plain_program.fly.Goals as goal

pub returns : goal.returns
returns g c =
    let names = map string_bytes c.in-Some.names.now in
    let said = c.in-Some.ensures.some in
    unread-ends (OfFlight names) c.in-Err.status said (λ none. none.0 names said) c.in-Err.ensures.untouched c.in-Err.ensures.unread

pub returns-in-Ok-answer_flight : goal.returns-in-Ok-answer_flight
returns-in-Ok-answer_flight g c =
    let names = map string_bytes c.in-Some.names.now in
    let said = c.in-Some.ensures.some in
    let answer = c.in-Ok-answer_flight.answer in
    let answers : AnswersFlight names c.in-Ok.bytes.items (answer_status answer) (answer_text answer) = rw c.as_slice.ensures.value at c.in-Ok-answer_flight.ensures in
    put-ends (OfFlight names) c.in-Ok.bytes.items (answer_text answer) (answer_status answer) c.put_answer.result said tt (λ none. none.0 names said) c.in-Ok.ensures.untouched c.in-Ok.ensures.read c.in-Ok.ensures.no_fault answers c.put_answer.ensures

pub returns-in_default : goal.returns-in_default
returns-in_default g c = picture-ends c.in_default.ensures.none c.draw.ensures
