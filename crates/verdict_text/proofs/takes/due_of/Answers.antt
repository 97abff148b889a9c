use Rattle.std.proofs.Common.{List, refl, subst, sym, arith, None}
use Rattle.std.proofs.lemmas.List.{take_all}
use Rattle.air_journal.specs.Queues.{IsIn}
use Rattle.air_journal.specs.declared.kept.Waiting.{Waiting}
use Rattle.verdict_text.proofs.Barring.{none-waits-more}
use Rattle.verdict_text.proofs.Copies.{in-get}
use Rattle.verdict_text.proofs.takes.due_of.Goals as goal
use Rattle.verdict_text.proofs.takes.due_of.Goals.{else-waiting-send-via-then-waiting-send+else-waiting-copy, else-waiting-send-via-else-waiting-send}

pub returns-then-waiting-copy : goal.returns-then-waiting-copy
returns-then-waiting-copy c = record {
  waiting = _;
  is_in = in-get c.args.queue.now c.loop-waiting.waiting-index (record { send = 0; copy = 0; due = 0; reads = None }) (omega (arith, c.loop-waiting-test.true));
  send_is = c.if-waiting-send.true;
  copy_is = c.if-waiting-copy.true;
  due_is = refl;
}

pub loop-waiting-preserved : goal.loop-waiting-preserved
loop-waiting-preserved c =
    none-waits-more c.args.queue.now c.args.send c.args.copy c.loop-waiting.waiting-index (record { send = 0; copy = 0; due = 0; reads = None }) (omega (arith, c.loop-waiting-test.true))
    (λ s k. elim c.else-waiting-send.branch [
      | else-waiting-send-via-then-waiting-send+else-waiting-copy w ↦ w.if-waiting-copy.false k
      | else-waiting-send-via-else-waiting-send w ↦ w.if-waiting-send.false s
    ])
    c.loop-waiting.invariant

pub returns : goal.returns
returns c = λ w a. c.loop-waiting.invariant w (subst (λ (L : List Waiting). IsIn w L) (sym (take_all c.loop-waiting.waiting-index c.args.queue.now (omega (arith, c.loop-waiting-test.false)))) a)
