use Rattle.std.proofs.Common.{◌≤◌, length, option_map, sym, ap, ◌∙◌, arith}
use Rattle.air_journal.proofs.Bounds.{fits, most-few}
use Rattle.air_journal.specs.EntryRefs.{entry_of}
use Rattle.journal_reader.proofs.Prefixes.{follows, read-all, read-length, read-past}
use Rattle.journal_reader.specs.Reading.{read_of}
use Rattle.picture.specs.Head.{counted, sent_in}
use Rattle.picture.proofs.Counting.{few-sent, sent-more, sent-none}
use Rattle.picture.proofs.head.sent_in.Goals as goal

pub loop-at-init : goal.loop-at-init
loop-at-init c = sym sent-none

pub returns-in_default : goal.returns-in_default
returns-in_default c =
    let past = read-past c.args.state.now.journal c.loop-at.at (sym c.entry_ref.ensures ∙ ap (option_map entry_of) c.in_default.is) in
    let within = c.loop-at-test.true in
    let count = c.count-at-end.ensures.value in
    absurd (omega arith)

pub counted-sent-requires : goal.counted-sent-requires
counted-sent-requires c =
    let e = c.args.state.now.encounter in
    let J = c.args.state.now.journal in
    let most = fits e J c.legal_law.ensures.valid c.legal_law.ensures.legal in
    let few = most-few e c.legal_law.ensures.valid in
    let count = c.count-at-end.ensures.value in
    let within = c.loop-at-test.true in
    let size = read-length J c.loop-at.at (omega arith) in
    let sent = c.loop-at.invariant in
    let all = few-sent (read_of J c.loop-at.at) in
    omega arith

pub loop-at-preserved : goal.loop-at-preserved
loop-at-preserved c =
    let e = c.args.state.now.encounter in
    let J = c.args.state.now.journal in
    let x = entry_of c.in-Some.entry in
    let f = follows e J c.loop-at.at x c.legal_law.ensures.valid c.legal_law.ensures.legal (sym c.entry_ref.ensures ∙ ap (option_map entry_of) c.in-Some.is) in
    c.counted-sent.ensures ∙ ap (λ n. counted n x) c.loop-at.invariant ∙ sym (ap sent_in f.grows ∙ sent-more x (read_of J c.loop-at.at))

pub returns : goal.returns
returns c =
    let J = c.args.state.now.journal in
    let all : length J ≤ c.loop-at.at = (let count = c.count-at-end.ensures.value in let end = c.loop-at-test.false in omega arith) in
    c.loop-at.invariant ∙ ap sent_in (read-all J c.loop-at.at all)
