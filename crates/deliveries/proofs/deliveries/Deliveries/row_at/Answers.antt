use Rattle.std.proofs.Common.{None, sym, arith}
use Rattle.std.proofs.lemmas.Bool.{and_left, cond-false}
use Rattle.air_rules.specs.Journal.{sends}
use Rattle.deliveries.specs.Mishaps.{befallen_of, befalls}
use Rattle.deliveries.specs.Rows.{begins_row, is_marked}
use Rattle.deliveries.proofs.Marking.{marked-none}
use Rattle.deliveries.proofs.deliveries.Deliveries.row_at.Goals as goal

pub returns-then-number-sent-clause-value : goal.returns-then-number-sent-clause-value
returns-then-number-sent-clause-value c =
    let s = c.args.self.now in
    let flags = befallen_of s.encounter s.journal c.args.mishap c.args.sender c.args.receiver in
    let number = c.args.number in
    let n = c.sent.ensures.value in
    let past = c.if-number-sent.true in
    let unmarked = marked-none (befalls s.encounter s.journal c.args.mishap c.args.sender c.args.receiver) (sends s.journal c.args.sender c.args.receiver) number (omega arith) in
    sym (cond-false (begins_row flags number) _ None (and_left (is_marked flags number) _ unmarked))
