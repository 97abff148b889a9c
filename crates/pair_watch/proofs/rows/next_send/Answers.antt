use Rattle.std.proofs.Common.{◌≡◌, ◌+◌, ◌<◌, ◌≤◌, ◌∷◌, List, Some, None, length, option_map, sym, ap, ◌∙◌, subst, arith}
use Rattle.acas_base.specs.declared.entry.Entry.{Entry}
use Rattle.air_journal.proofs.Bounds.{fits, most-few}
use Rattle.air_journal.specs.EntryRefs.{entry_of}
use Rattle.journal_reader.proofs.Prefixes.{follows, read-all, read-length, read-past}
use Rattle.journal_reader.specs.Reading.{read_of}
use Rattle.pair_watch.specs.Watching.{next_send}
use Rattle.pair_watch.proofs.Sending.{next-here, next-none, next-past, next-stays}
use Rattle.pair_watch.proofs.rows.next_send.Goals as goal
use Rattle.pair_watch.proofs.rows.next_send.Goals.{in-Some+else-is_send_from, in_default}

pub overflow_step-at : goal.overflow_step-at
overflow_step-at c =
    let e = c.args.state.now.encounter in
    let few : length c.args.state.now.journal ≤ 585600 = (let a = fits e c.args.state.now.journal c.legal_law.ensures.valid c.legal_law.ensures.legal in let b = most-few e c.legal_law.ensures.valid in omega arith) in
    let within = c.requires in
    omega arith

pub loop-at-init : goal.loop-at-init
loop-at-init c =
    let J = c.args.state.now.journal in
    let size : length (read_of J (c.args.from + 1)) ≡ c.args.from + 1 = read-length J (c.args.from + 1) (let within = c.requires in omega arith) in
    next-none (read_of J (c.args.from + 1)) c.args.pair.low c.args.pair.high c.args.from (omega arith)

pub returns-then-is_send_from : goal.returns-then-is_send_from
returns-then-is_send_from c =
    let J = c.args.state.now.journal in
    let at = c.loop-at.at in
    let x = entry_of c.in-Some.entry in
    let f = follows c.args.state.now.encounter J at x c.legal_law.ensures.valid c.legal_law.ensures.legal (sym c.entry_ref.ensures ∙ ap (option_map entry_of) c.in-Some.is) in
    let first = c.loop-at.auto.at in
    let within : c.args.from < length (read_of J at) = (let p = f.position in omega arith) in
    sym (next-stays c.args.pair.low c.args.pair.high c.args.from at (x ∷ read_of J at) J f.begins
    (next-here x (read_of J at) c.args.pair.low c.args.pair.high c.args.from (sym c.is_send_from.ensures ∙ c.if-is_send_from.true) within c.loop-at.invariant ∙ ap Some (sym f.position)))

pub loop-at-preserved : goal.loop-at-preserved
loop-at-preserved c =
    let J = c.args.state.now.journal in
    let at = c.loop-at.at in
    elim c.match-entry_ref.branch [
      | in-Some+else-is_send_from w ↦
          (let x = entry_of w.in-Some.entry in
          let f = follows c.args.state.now.encounter J at x c.legal_law.ensures.valid c.legal_law.ensures.legal (sym c.entry_ref.ensures ∙ ap (option_map entry_of) w.in-Some.is) in
          subst (λ (K : List Entry). next_send K c.args.pair.low c.args.pair.high c.args.from ≡ None) (sym f.grows)
          (next-past x (read_of J at) c.args.pair.low c.args.pair.high c.args.from (sym w.is_send_from.ensures ∙ w.if-is_send_from.false) ∙ c.loop-at.invariant))
      | in_default w ↦
          (let past = read-past J at (sym c.entry_ref.ensures ∙ ap (option_map entry_of) w.in_default.is) in
          let within = c.loop-at-test.true in
          let count = c.count-at-end.ensures.value in
          absurd (omega arith))
    ]

pub returns : goal.returns
returns c =
    let J = c.args.state.now.journal in
    let past : length J ≤ c.loop-at.at = (let end = c.loop-at-test.false in let count = c.count-at-end.ensures.value in omega arith) in
    sym (subst (λ (K : List Entry). next_send K c.args.pair.low c.args.pair.high c.args.from ≡ None) (read-all J c.loop-at.at past) c.loop-at.invariant)
