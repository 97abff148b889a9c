use Rattle.std.proofs.Common.{◌≤◌, List, length, sym, ap, ◌∙◌, subst, arith}
use Rattle.std.specs.List.{flat_map}
use Rattle.acas_base.specs.declared.entry.Entry.{Entry}
use Rattle.air_journal.specs.States.{State}
use Rattle.journal_reader.proofs.Prefixes.{read-all}
use Rattle.picture.specs.Mishaps.{rows_in}
use Rattle.picture.specs.MishapsDrawn.{drawn_row}
use Rattle.picture.proofs.Befallen.{rows-none, signs-more}
use Rattle.picture.proofs.mishaps.put_mishaps.Goals as goal

pub loop-at-init : goal.loop-at-init
loop-at-init g c =
    let e = c.args.deliveries.now.encounter in
    let J = c.args.deliveries.now.journal in
    subst (g.D.Drawing.drew c.args.drawing.now c.args.drawing.now) (sym (ap (flat_map (drawn_row e c.args.sign)) (rows-none e J c.args.sign))) (g.met.D.Drawing.nothing c.args.drawing.now)

pub loop-at-preserved : goal.loop-at-preserved
loop-at-preserved g c =
    let e = c.args.deliveries.now.encounter in
    let J = c.args.deliveries.now.journal in
    subst (g.D.Drawing.drew c.args.drawing.now c.put_sent_at.new.drawing) (signs-more e J c.args.sign c.loop-at.at)
    (g.met.D.Drawing.then _ _ _ _ _ c.loop-at.invariant c.put_sent_at.ensures)

pub returns : goal.returns
returns g c =
    let e = c.args.deliveries.now.encounter in
    let J = c.args.deliveries.now.journal in
    let count = c.count-at-end.ensures.value ∙ ap (λ (s : State). length s.journal) c.state.ensures in
    let end : length J ≤ c.loop-at.at = (let t = c.loop-at-test.false in omega arith) in
    subst (λ (K : List Entry). g.D.Drawing.drew c.args.drawing.now c.loop-at.drawing (flat_map (drawn_row e c.args.sign) (rows_in e J c.args.sign K))) (read-all J c.loop-at.at end) c.loop-at.invariant
