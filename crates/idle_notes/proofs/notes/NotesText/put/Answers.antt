use Rattle.std.proofs.Common.{◌≡◌, ℕ, ◌+◌, ◌-◌, ◌*◌, List, [], ◌∷◌, ◌++◌, length, length-append, refl, sym, ap, ◌∙◌, subst, arith, append_assoc}
use Rattle.std.proofs.lemmas.List.{append-nil}
use Rattle.fault_text.specs.Lines.{file_lines}
use Rattle.idle_notes.specs.Told.{line_notes, more_lines, notes_from, notes_text_lines, still_told, told_lines}
use Rattle.idle_notes.proofs.Telling.{still-none, still-plus}
use Rattle.idle_notes.proofs.notes.NotesText.put.Goals as goal

pub loop-line-init : goal.loop-line-init
loop-line-init g c = record {
  done = [];
  took = subst (λ (ls : List (List ℕ)). g.S.LineSink.took c.args.sink.now c.args.sink.now ls) (sym (still-none 0)) (g.met.S.LineSink.nothing _);
  told = refl;
  whole = ap (notes_from c.args.self.now.encounter c.args.self.now.journal 1) (sym c.lines-lines.ensures.lines);
  room = omega (arith, c.lines-lines.ensures.few);
  few = omega arith;
}

pub loop-line-preserved : goal.loop-line-preserved
loop-line-preserved g c =
    let e = c.args.self.now.encounter in
    let journal = c.args.self.now.journal in
    let inv = c.loop-line.invariant in
    let here = line_notes e journal c.loop-line.number c.in-Some.line.now in
    let rest = notes_from e journal (c.loop-line.number + 1) c.next.new.self in
    let told = c.tell_line-told.ensures.count in
    let size = length-append inv.done here in
    let lines = ap length c.in-Some.ensures in
    record {
      done = inv.done ++ here;
      took =
          subst (g.S.LineSink.took c.args.sink.now c.tell_line-told.new.sink)
          (sym (still-plus 0 inv.done here ∙ ap (λ (k : ℕ). still_told 0 inv.done ++ still_told k here) (let same : 0 + length inv.done ≡ c.loop-line.told = omega (arith, inv.told) in same)))
          (g.met.S.LineSink.then _ _ _ _ _ inv.took c.tell_line-told.ensures.lines);
      told = omega (arith, told, size, inv.told);
      whole = inv.whole ∙ ap (λ (ls : List (List ℕ)). inv.done ++ notes_from e journal c.loop-line.number ls) c.in-Some.ensures ∙ sym (append_assoc inv.done here rest);
      room = omega (arith, inv.room, lines);
      few = omega (arith, inv.few, c.tell_line-told.ensures.most);
    }

pub returns : goal.returns
unfolding notes_text_lines
returns g c =
    let e = c.args.self.now.encounter in
    let journal = c.args.self.now.journal in
    let inv = c.loop-line.invariant in
    let whole = inv.whole ∙ ap (λ (ls : List (List ℕ)). inv.done ++ notes_from e journal c.loop-line.number ls) c.in_default.ensures.0 ∙ append-nil inv.done in
    let both = g.met.S.LineSink.then _ _ _ _ _ inv.took c.put_more.ensures in
    subst (λ (ls : List (List ℕ)). g.S.LineSink.took c.args.sink.now c.put_more.new.sink (told_lines ls)) (sym whole)
    (subst (λ (n : ℕ). g.S.LineSink.took c.args.sink.now c.put_more.new.sink (still_told 0 inv.done ++ more_lines (n - 40))) inv.told both)
