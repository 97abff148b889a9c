use Rattle.std.proofs.Common.{◌≡◌, ℕ, ◌+◌, ◌++◌, ◌∷◌, [], List, Option, length, sym, ap, ◌∙◌, subst, arith}
use Rattle.std.specs.List.{flat_map, range_with_len}
use Rattle.std.specs.Prelude.{option_map, option_to_list, slice_get}
use Rattle.std.proofs.lemmas.List.{append-nil}
use Rattle.acas_base.specs.Encounter.{Parts}
use Rattle.acas_base.specs.Fates.{copies_of, fate_of}
use Rattle.acas_base.specs.declared.link.CopyPlan.{CopyPlan}
use Rattle.acas_lines.proofs.Ranges.{flat-more}
use Rattle.air_journal.specs.Airs.{air_of, plans_of}
use Rattle.air_rules.specs.Journal.{Sent}
use Rattle.journal_tables.specs.Messages.{copy_line, lines_of_copy, message_of, take_of}
use Rattle.journal_tables.proofs.Copies.{lines-some}
use Rattle.journal_tables.proofs.messages.put_message.Goals as goal
use Rattle.journal_tables.proofs.messages.put_message.Goals.{in-Some, in_default}

pub loop-copy-preserved : goal.loop-copy-preserved
loop-copy-preserved g c =
    let e = c.args.state.now.encounter in
    let J = c.args.state.now.journal in
    let read = c.args.reader.now.read in
    let sender = c.args.way.sender in
    let receiver = c.args.way.receiver in
    let sent : Sent = record { sender = sender; receiver = receiver; number = c.args.number; word = c.args.word } in
    let message = message_of e read sent in
    let plans = plans_of e sender receiver c.args.number in
    let takes = take_of (air_of e) J sender receiver (length read) in
    let copy = c.loop-copy.copy in
    let f = lines_of_copy message plans takes in
    let row = flat_map f (range_with_len 0 copy) in
    let here : 0 + copy ≡ copy = omega arith in
    let fate = c.fate-fate.ensures ∙ ap (λ (p : Parts). fate_of p sender receiver c.args.number) c.enc.ensures in
    let at : c.plan_of.result ≡ slice_get plans copy = c.plan_of.ensures ∙ (λ t. slice_get (copies_of (fate t)) copy) in
    let told : Option CopyPlan → List (List ℕ) = λ o. option_to_list (option_map (λ (plan : CopyPlan). copy_line message copy plan (takes copy)) o) in
    elim c.match-plan_of.branch [
      | in-Some w ↦
          (let take = w.take_at-take.ensures ∙ c.requires.takes.each (length read) copy sent c.requires.sent c.loop-copy-test.true in
          let line = w.copy_line.ensures ∙ (λ t. copy_line (c.message_of-message.ensures t) copy w.in-Some.plan (take t)) in
          let lines = ap (λ (l : List ℕ). l ∷ []) line ∙ ap told (sym w.in-Some.is ∙ at) ∙ ap f (sym here) in
          let put = g.met.S.LineSink.then _ _ _ _ _ c.loop-copy.invariant w.line-in-Some.ensures in
          rw w.sink-is (subst (g.S.LineSink.took c.args.sink.now w.line-in-Some.new.self) (ap (λ (xs : List (List ℕ)). row ++ xs) lines ∙ sym (flat-more f 0 copy)) put))
      | in_default w ↦
          (let none = ap told (sym w.in_default.is ∙ at) ∙ ap f (sym here) in
          rw w.sink-is (subst (g.S.LineSink.took c.args.sink.now c.loop-copy.sink) (sym (append-nil row) ∙ ap (λ (xs : List (List ℕ)). row ++ xs) none ∙ sym (flat-more f 0 copy)) c.loop-copy.invariant))
    ]

pub returns : goal.returns
returns g c =
    let e = c.args.state.now.encounter in
    let J = c.args.state.now.journal in
    let read = c.args.reader.now.read in
    let sender = c.args.way.sender in
    let receiver = c.args.way.receiver in
    let sent : Sent = record { sender = sender; receiver = receiver; number = c.args.number; word = c.args.word } in
    let message = message_of e read sent in
    let plans = plans_of e sender receiver c.args.number in
    let takes = take_of (air_of e) J sender receiver (length read) in
    let all : c.loop-copy.copy ≡ 3 = (let end = c.loop-copy-test.false in let most = c.loop-copy.auto.copy-end in omega arith) in
    let fate = c.fate-fate.ensures ∙ ap (λ (p : Parts). fate_of p sender receiver c.args.number) c.enc.ensures in
    subst (g.S.LineSink.took c.args.sink.now c.loop-copy.sink)
    (ap (λ (n : ℕ). flat_map (lines_of_copy message plans takes) (range_with_len 0 n)) all ∙ lines-some message c.fate-fate.result plans takes (ap copies_of fate) c.if-fate-eq0.false) c.loop-copy.invariant
