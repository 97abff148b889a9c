use Rattle.std.proofs.Common.{sym, ◌∙◌, arith}
use Rattle.air_rules.specs.Journal.{sends}
use Rattle.deliveries.specs.Mishaps.{befalls}
use Rattle.deliveries.proofs.Marking.{marked-by, marked-none}
use Rattle.deliveries.proofs.deliveries.Deliveries.is_marked.Goals as goal

pub returns-then-number-sent : goal.returns-then-number-sent
returns-then-number-sent c =
    let s = c.args.self.now in
    let n = c.sent.ensures.value in
    let past = c.if-number-sent.true in
    sym (marked-none (befalls s.encounter s.journal c.args.mishap c.args.sender c.args.receiver) (sends s.journal c.args.sender c.args.receiver) c.args.number (omega arith))

pub returns : goal.returns
returns c =
    let s = c.args.self.now in
    let n = c.sent.ensures.value in
    let within = c.if-number-sent.false in
    c.befalls.ensures ∙ sym (marked-by (befalls s.encounter s.journal c.args.mishap c.args.sender c.args.receiver) (sends s.journal c.args.sender c.args.receiver) c.args.number c.requires.first (omega arith))
