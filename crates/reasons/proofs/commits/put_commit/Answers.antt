use Rattle.std.proofs.Common.{◌∙◌, ◌<◌, ℕ, ap, length, subst}
use Rattle.acas_base.specs.Encounter.{Parts}
use Rattle.craft_view.proofs.Stepping.{active-within}
use Rattle.reasons.proofs.Pairing.{none-more, one-more, other-rows, own-rows}
use Rattle.reasons.specs.Columns.{reason_line}
use Rattle.reasons.specs.Reasons.{pair_reasons, reason_of}
use Rattle.reasons.proofs.commits.put_commit.Goals as goal

pub reason_of-reason-requires-clause-own : goal.reason_of-reason-requires-clause-own
reason_of-reason-requires-clause-own g c =
    let e = c.args.reader.now.encounter in
    subst (λ (k : ℕ). k < length e.crafts) c.requires.own (active-within e c.args.craft.now.own c.requires.belongs.active)

pub loop-other-preserved-then-other-commit : goal.loop-other-preserved-then-other-commit
loop-other-preserved-then-other-commit g c =
    let a = c.args in
    let n = c.loop-other.other in
    let rows = own-rows a.reader.now.encounter a.reader.now.read a.commit.now.own a.commit.now.cycle a.commit.now.cells.now n c.if-other-commit.true in
    subst (g.S.LineSink.took a.sink.now c.loop-other.sink) (none-more a.reader.now.encounter.profile (pair_reasons a.reader.now.encounter a.reader.now.read a.commit.now.own a.commit.now.cycle a.commit.now.cells.now) n rows) c.loop-other.invariant

pub loop-other-preserved : goal.loop-other-preserved
loop-other-preserved g c =
    let a = c.args in
    let n = c.loop-other.other in
    let reason = reason_of a.reader.now.encounter a.reader.now.read a.commit.now.own a.commit.now.cycle a.commit.now.cells.now n in
    let reasons = other-rows a.reader.now.encounter a.reader.now.read a.commit.now.own a.commit.now.cycle a.commit.now.cells.now n c.if-other-commit.false in
    let profile = c.profile.ensures ∙ ap (λ (x : Parts). x.profile) c.requires.same in
    let line = c.set_line.ensures ∙ (λ i. reason_line (profile i) (c.reason_of-reason.ensures i)) in
    subst (g.S.LineSink.took a.sink.now c.line.new.self) (one-more a.reader.now.encounter.profile (pair_reasons a.reader.now.encounter a.reader.now.read a.commit.now.own a.commit.now.cycle a.commit.now.cells.now) n reason reasons)
    (g.met.S.LineSink.then _ _ _ _ _ c.loop-other.invariant (rw line at c.line.ensures))
