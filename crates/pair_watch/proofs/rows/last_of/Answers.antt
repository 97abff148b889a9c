use Rattle.std.proofs.Common.{◌≡◌, ℕ, ◌+◌, ◌≤◌, List, Some, length, option_map, sym, ap, ◌∙◌, subst, subst₂, arith}
use Rattle.acas_base.specs.declared.entry.Entry.{Entry}
use Rattle.air_journal.proofs.Bounds.{fits, most-few}
use Rattle.air_journal.specs.EntryRefs.{entry_of}
use Rattle.journal_reader.proofs.Prefixes.{Follows, follows, read-all, read-length, read-past}
use Rattle.journal_reader.specs.Reading.{read_of}
use Rattle.pair_watch.specs.Watching.{last_of}
use Rattle.pair_watch.proofs.Lasting.{Lasts, has-cells, lasts-first, lasts-no-more, lasts-on, lasts-past}
use Rattle.pair_watch.proofs.rows.last_of.Goals as goal
use Rattle.pair_watch.proofs.rows.last_of.Goals.{In-Some, in-Some-pair_cell+else-not-has_sense, in_default-pair_cell}

next : (c : In-Some) → Follows c.args.state.now.encounter c.args.state.now.journal c.loop-at.at (entry_of c.in-Some.entry)
next c = follows c.args.state.now.encounter c.args.state.now.journal c.loop-at.at (entry_of c.in-Some.entry) c.legal_law.ensures.valid c.legal_law.ensures.legal (sym c.entry_ref.ensures ∙ ap (option_map entry_of) c.in-Some.is)

pub overflow_step-at : goal.overflow_step-at
overflow_step-at c =
    let e = c.args.state.now.encounter in
    let few : length c.args.state.now.journal ≤ 585600 = (let a = fits e c.args.state.now.journal c.legal_law.ensures.valid c.legal_law.ensures.legal in let b = most-few e c.legal_law.ensures.valid in omega arith) in
    let within = c.requires.within in
    omega arith

pub loop-at-init : goal.loop-at-init
loop-at-init c =
    let J = c.args.state.now.journal in
    record {
      row = c.requires.row;
      sense_is = c.requires.sense;
      last_is = lasts-first (read_of J (c.args.from + 1)) c.args.pair.low c.args.pair.high c.args.from (read-length J (c.args.from + 1) (let within = c.requires.within in omega arith)) c.requires.row;
    }

pub returns-in_default : goal.returns-in_default
returns-in_default c =
    let past = read-past c.args.state.now.journal c.loop-at.at (sym c.entry_ref.ensures ∙ ap (option_map entry_of) c.in_default.is) in
    let within = c.loop-at-test.true in
    let count = c.count-at-end.ensures.value in
    absurd (omega arith)

pub pair_cell-requires-clause-cells : goal.pair_cell-requires-clause-cells
pair_cell-requires-clause-cells c = has-cells _ (entry_of c.in-Some.entry) (next (goal.at.pair_cell-requires-clause-cells c).In-Some).fits

pub returns-then-not-has_sense : goal.returns-then-not-has_sense
returns-then-not-has_sense c =
    let f = next (goal.at.returns-then-not-has_sense c).In-Some in
    lasts-no-more (entry_of c.in-Some.entry) (read_of c.args.state.now.journal c.loop-at.at) c.args.state.now.journal c.args.pair.low c.args.pair.high c.args.from c.args.sense c.loop-at.last c.in-Some-pair_cell.cell c.requires.apart
    (sym c.pair_cell.ensures ∙ c.in-Some-pair_cell.is) (sym c.has_sense.ensures ∙ c.if-not-has_sense.true) c.loop-at.invariant f.begins

pub loop-at-preserved : goal.loop-at-preserved
loop-at-preserved c =
    let f = next (goal.at.loop-at-preserved c).In-Some in
    let x = entry_of c.in-Some.entry in
    let J = c.args.state.now.journal in
    let K = read_of J c.loop-at.at in
    let low = c.args.pair.low in
    let high = c.args.pair.high in
    elim c.match-pair_cell.branch [
      | in-Some-pair_cell+else-not-has_sense w ↦
          subst₂ (λ (L : List Entry) (last : ℕ). Lasts L low high c.args.from c.args.sense last) (sym f.grows) (sym f.position ∙ sym w.last-is)
          (lasts-on x K low high c.args.from c.args.sense c.loop-at.last w.in-Some-pair_cell.cell c.requires.apart (sym c.pair_cell.ensures ∙ w.in-Some-pair_cell.is) (sym w.has_sense.ensures ∙ w.if-not-has_sense.false) c.loop-at.invariant)
      | in_default-pair_cell w ↦
          subst₂ (λ (L : List Entry) (last : ℕ). Lasts L low high c.args.from c.args.sense last) (sym f.grows) (sym w.last-is)
          (lasts-past x K low high c.args.from c.args.sense c.loop-at.last (sym c.pair_cell.ensures ∙ w.in_default-pair_cell.is) c.loop-at.invariant)
    ]

pub returns : goal.returns
returns c =
    let J = c.args.state.now.journal in
    let past : length J ≤ c.loop-at.at = (let end = c.loop-at-test.false in let count = c.count-at-end.ensures.value in omega arith) in
    subst (λ (K : List Entry). last_of K c.args.pair.low c.args.pair.high c.args.from ≡ Some c.loop-at.last) (read-all J c.loop-at.at past) c.loop-at.invariant.last_is
