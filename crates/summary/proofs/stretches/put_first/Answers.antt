use Rattle.std.proofs.Common.{◌≡◌, Some, None, sym, ap, ◌∙◌, subst}
use Rattle.std.specs.Prelude.{map, slice_get}
use Rattle.air_journal.specs.Airs.{air_of}
use Rattle.summary.specs.Lines.{stretch_line}
use Rattle.summary.specs.Stretches.{starts_of}
use Rattle.summary.proofs.Telling.{first-all, first-more}
use Rattle.summary.proofs.stretches.put_first.Goals as goal
use Rattle.summary.proofs.stretches.put_first.Goals.{in-Some, in_default}

pub loop-place-preserved : goal.loop-place-preserved
loop-place-preserved g c =
    let e = c.args.page.now.encounter in
    let J = c.args.page.now.journal in
    let own = c.args.own in
    let other = c.args.other in
    let starts = starts_of (air_of e) J own other in
    let f = stretch_line e J own other in
    let n = c.loop-place.place in
    elim c.match-start.branch [
      | in-Some w ↦
          (let at : slice_get starts n ≡ Some w.in-Some.start = sym c.start.ensures.value ∙ w.in-Some.is in
          let line = rw w.stretch_line.ensures at w.line.ensures in
          let put = g.met.S.LineSink.then _ _ _ _ _ c.loop-place.invariant line in
          rw w.sink-is (subst (g.S.LineSink.took c.args.sink.now w.line.new.self) (sym (first-more f starts n w.in-Some.start at)) put))
      | in_default w ↦
          (let at : slice_get starts n ≡ None = sym c.start.ensures.value ∙ w.in_default.is in
          rw w.sink-is (subst (g.S.LineSink.took c.args.sink.now c.loop-place.sink) (sym (ap (map f) (first-all starts n at))) c.loop-place.invariant))
    ]
