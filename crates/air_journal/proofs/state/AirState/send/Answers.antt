use Rattle.std.proofs.Common.{◌≡◌, ℕ, ◌+◌, true, ◌∷◌, sym, ap, ◌∙◌, subst, refl, arith}
use Rattle.acas_base.specs.declared.entry.Entry.TheVariants as kinds
use Rattle.air_journal.proofs.Adding.{WritesOn, SendFits, may-send, reads-back, send-fits, sent-whole}
use Rattle.air_journal.proofs.Bounds.{active-is, below-all}
use Rattle.air_journal.proofs.Telling.{owes-nothing}
use Rattle.air_journal.specs.Airs.{air_of}
use Rattle.air_journal.specs.Calls.{SentFirst}
use Rattle.air_journal.specs.States.{IsWhole, State}
use Rattle.air_rules.specs.Air.{is_active}
use Rattle.air_rules.specs.Owed.{OwesNothing}
use Rattle.craft_view.specs.Kept.{IsActive}
use Rattle.acas_base.specs.Fates.{copies_of}
use Rattle.air_journal.proofs.state.AirState.send.Goals as goal
use Rattle.air_journal.proofs.state.AirState.send.Goals.{After-send, In-None, In-Some}
use Rattle.air_journal.specs.Kept.{AfterSend, copies_from, made_at, read_as, vrc_of}
use Rattle.res_message.specs.Words.{flip_word, read_word, word_of}

active : (c : In-Some) → is_active (air_of c.self.inside.encounter) c.args.own ≡ true
active c = active-is c.self.inside.encounter c.args.own (subst (λ (s : State). IsActive s.encounter c.args.own) (sym c.self.view_is) c.requires)

fit : (c : In-Some) → SendFits c.self.inside.encounter c.self.inside.journal c.self.inside.tables c.args.own c.in-Some.owing.target
fit c = send-fits c.self.invariant.whole c.args.own c.in-Some.owing.target c.in-Some.owing.message (active c) c.in-Some.ensures

pub overflow_cast-position : goal.overflow_cast-position
overflow_cast-position c = let f = fit (goal.at.overflow_cast-position c).In-Some in omega (arith, f.position, c.len-position.ensures)

pub link-number-requires-clause-own : goal.link-number-requires-clause-own
link-number-requires-clause-own c = (fit (goal.at.link-number-requires-clause-own c).In-Some).own

pub overflow_add-number : goal.overflow_add-number
overflow_add-number c = let f = fit (goal.at.overflow_add-number c).In-Some in omega (arith, f.sends, ap (λ l. l.sends) c.link-number.ensures)

pub push_send-requires : goal.push_send-requires
push_send-requires c = (fit (goal.at.push_send-requires c).In-Some).room

pub send-requires-clause-own : goal.send-requires-clause-own
send-requires-clause-own c = (fit (goal.at.send-requires-clause-own c).In-Some).own

pub send-requires-clause-word : goal.send-requires-clause-word
send-requires-clause-word c =
    let m = c.in-Some.owing.message in
    ap (λ (w : ℕ). vrc_of (read_word w)) c.encode-word.ensures.value
    ∙ reads-back c.self.invariant.whole c.args.own c.in-Some.owing.target m (active (goal.at.send-requires-clause-word c).In-Some) c.in-Some.ensures

pub send-requires-clause-sends : goal.send-requires-clause-sends
send-requires-clause-sends c = (fit (goal.at.send-requires-clause-sends c).In-Some).sends

pub send-requires-clause-commits : goal.send-requires-clause-commits
send-requires-clause-commits c = (fit (goal.at.send-requires-clause-commits c).In-Some).commits

pub send-requires-clause-room : goal.send-requires-clause-room
send-requires-clause-room c = (fit (goal.at.send-requires-clause-room c).In-Some).copies

written : (c : After-send) → WritesOn c.self.inside.journal c.push_send.new.self (kinds.Send c.args.own c.in-Some.owing.target (c.link-number.result.sends + 1) (word_of c.in-Some.owing.message))
written c = record {
  entries = c.push_send.ensures.entries ∙ ap (λ (w : ℕ). kinds.Send c.args.own c.in-Some.owing.target (c.link-number.result.sends + 1) w ∷ c.self.inside.journal.entries) c.encode-word.ensures.value;
  room = c.push_send.ensures.room;
  crafts = c.push_send.ensures.crafts;
  places = c.push_send.ensures.places;
}

after : (c : After-send) → AfterSend c.self.inside.tables c.send.new.self c.args.own c.in-Some.owing.target c.in-Some.owing.message.vrc
    (copies_from (read_as flip_word read_word (word_of c.in-Some.owing.message)) c.len-position.result (made_at c.self.inside.tables c.in-Some.owing.target).commits 0 (copies_of c.fate-fate.result))
after c = subst (λ (w : ℕ). AfterSend c.self.inside.tables c.send.new.self c.args.own c.in-Some.owing.target c.in-Some.owing.message.vrc
    (copies_from (read_as flip_word read_word w) c.len-position.result (made_at c.self.inside.tables c.in-Some.owing.target).commits 0 (copies_of c.fate-fate.result))) c.encode-word.ensures.value c.send.ensures

whole : (c : After-send) → is_active (air_of c.self.inside.encounter) c.args.own ≡ true → IsWhole c.self.inside.encounter c.push_send.new.self c.send.new.self
whole c active = sent-whole c.self.invariant.whole c.args.own c.in-Some.owing.target (c.link-number.result.sends + 1) c.len-position.result c.in-Some.owing.message (copies_of c.fate-fate.result) active c.in-Some.ensures
    (ap (λ l. l.sends + 1) c.link-number.ensures) c.len-position.ensures c.fate-fate.ensures (written c) (after c)

pub invariant_of-self : goal.invariant_of-self
invariant_of-self c = record { usual = c.self.invariant.usual; whole = whole c (active (goal.at.invariant_of-self c).In-Some) }

pub returns-in-None-clause-sends : goal.returns-in-None-clause-sends
returns-in-None-clause-sends c =
    let h = c.self.invariant.whole in
    let a = active-is c.self.inside.encounter c.args.own (subst (λ (s : State). IsActive s.encounter c.args.own) (sym c.self.view_is) c.requires) in
    (subst (λ (s : State). OwesNothing (air_of s.encounter) s.journal c.args.own) c.self.view_is (owes-nothing h c.args.own (below-all c.self.inside.encounter h.is_journal.valid c.args.own a) c.in-None.ensures), refl)

pub returns-in-Some-clause-sends : goal.returns-in-Some-clause-sends
returns-in-Some-clause-sends c =
    let h = c.self.invariant.whole in
    subst (λ (s : State). SentFirst (air_of s.encounter) s.journal c.args.own c.push_send.new.self.entries c.len-position.result) c.self.view_is
    (record {
      position_is = c.len-position.ensures;
      target = c.in-Some.owing.target;
      number = c.link-number.result.sends + 1;
      word = word_of c.in-Some.owing.message;
      allowed = may-send h c.args.own c.in-Some.owing.target (c.link-number.result.sends + 1) c.in-Some.owing.message (active (goal.at.returns-in-Some-clause-sends c).In-Some) c.in-Some.ensures (ap (λ l. l.sends + 1) c.link-number.ensures);
      new_is = (written c).entries;
    })

pub returns-in-Some-clause-legal : goal.returns-in-Some-clause-legal
returns-in-Some-clause-legal c = (whole c (active (goal.at.returns-in-Some-clause-legal c).In-Some)).is_journal.legal
