use Rattle.std.proofs.Common.{◌≡◌, ℕ, List, [], Option, sym, ◌∙◌}
use Rattle.std.specs.Prelude.{Result, Ok, Err}
use Rattle.std.proofs.lemmas.List.{append-nil}
use Rattle.acas_io.specs.Stream.{Puts}
use Rattle.acas_lines.specs.Gathering.{Gathers}
use Rattle.acas_lines.specs.Lines.{joined}
use Rattle.acas_lines.specs.Gathered.{gathers-lines}
use Rattle.acas_lines.proofs.writer.write_text.Goals as goal

-- A text that was gathered in an empty buffer, of which nothing waits, was put.
puts-gathered : {T E : Type 0} (old new : Option (List ℕ)) (k n : ℕ) (waits : List ℕ) (so_far : Result T E) (t : T) (r : Result T E) (text : List ℕ)
    → waits ≡ [] → so_far ≡ Ok t → Gathers old new k n waits [] so_far r text → Puts old new k n text r
puts-gathered old new k n waits so_far t (Ok s) text e f g =
    let h = rw (e, f) at g in
    let all : h.0.0 ≡ text = sym (append-nil h.0.0) ∙ h.0.2 in
    (rw (← all) h.0.1, h.1)
puts-gathered old new k n waits so_far t (Err s) text e f g = rw (e, f) at g

pub returns : goal.returns
returns g c =
    let before = c.new-writer.result in
    let after = c.put.new.sink in
    let K = g.K.Sink in
    let lines = g.T.Text.lines c.args.text.now in
    rw (c.sink-1.given.1 (cc (c.put.ensures.0)), ← c.new-writer.ensures.sink) (
    puts-gathered _ _ _ _ before.batch before.so_far tt c.finish.result (joined lines) c.new-writer.ensures.batch c.new-writer.ensures.so_far
    (rw (append-nil lines) at (gathers-lines (K.written before.sink.now) (K.written after.sink.now) _ (K.faults before.sink.now) (K.faults after.sink.now) _ before.batch after.batch [] before.so_far after.so_far
    c.finish.result lines [] c.put.ensures.1 c.finish.ensures.written)))
