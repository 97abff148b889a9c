use Rattle.std.proofs.Common.{◌<◌, List, length, subst, sym, ◌∙◌, arith}
use Rattle.air_journal.proofs.Bounds.{few-crafts}
use Rattle.air_journal.proofs.Queued.{is-queue}
use Rattle.air_journal.proofs.Soundness.{sound-of}
use Rattle.air_journal.proofs.state.AirState.waiting.Goals as goal
use Rattle.air_journal.specs.Airs.{air_of}
use Rattle.air_journal.specs.Queues.{IsQueue}
use Rattle.air_journal.specs.States.{State}
use Rattle.air_journal.specs.declared.kept.Waiting.{Waiting}

pub returns-clause-queue : goal.returns-clause-queue
returns-clause-queue c =
    let h = c.self.invariant.whole in
    let e = c.self.inside.encounter in
    let few = few-crafts e h.is_journal.valid in
    let from : c.args.sender < length e.crafts = subst (λ (s : State). c.args.sender < length s.encounter.crafts) (sym c.self.view_is) c.requires.sender in
    let to : c.args.receiver < length e.crafts = subst (λ (s : State). c.args.receiver < length s.encounter.crafts) (sym c.self.view_is) c.requires.receiver in
    subst (λ (s : State). IsQueue (air_of s.encounter) s.journal c.args.sender c.args.receiver c.queue.result.now) c.self.view_is
    (subst (λ (ws : List Waiting). IsQueue (air_of e) c.self.inside.journal.entries c.args.sender c.args.receiver ws) (sym (c.queue.ensures ∙ h.kept.queue c.args.sender c.args.receiver (omega arith) (omega arith)))
    (is-queue (air_of e) (sound-of e h.is_journal.valid) c.self.inside.journal.entries h.is_journal.legal c.args.sender c.args.receiver))
