use Rattle.std.proofs.Common.{◌≡◌, ◌≢◌, ℕ, length, sym, ◌∙◌, subst}
use Rattle.air_journal.specs.Airs.{air_of}
use Rattle.summary.specs.Lines.{more_lines, told_stretches}
use Rattle.summary.specs.Stretches.{starts_of}
use Rattle.summary.proofs.Telling.{quiet-lines, some-lines}
use Rattle.summary.proofs.stretches.put_stretches.Goals as goal

pub returns-then-count-eq0 : goal.returns-then-count-eq0
returns-then-count-eq0 g c =
    let e = c.args.page.now.encounter in
    let J = c.args.page.now.journal in
    let starts = starts_of (air_of e) J c.args.own c.args.other in
    let none : length starts ≡ 0 = sym c.count-count.ensures ∙ c.if-count-eq0.true in
    subst (g.S.LineSink.took c.args.sink.now c.line.new.self) (quiet-lines e J c.args.own c.args.other starts none) (rw c.quiet_stretches.ensures at c.line.ensures)

pub returns : goal.returns
returns g c =
    let e = c.args.page.now.encounter in
    let J = c.args.page.now.journal in
    let starts = starts_of (air_of e) J c.args.own c.args.other in
    let some : length starts ≢ 0 = λ none. c.if-count-eq0.false (c.count-count.ensures ∙ none) in
    let more = subst (λ (n : ℕ). g.S.LineSink.took c.put_first.new.sink c.put_more.new.sink (more_lines told_stretches n)) c.count-count.ensures c.put_more.ensures in
    subst (g.S.LineSink.took c.args.sink.now c.put_more.new.sink) (some-lines e J c.args.own c.args.other starts some) (g.met.S.LineSink.then _ _ _ _ _ c.put_first.ensures more)
