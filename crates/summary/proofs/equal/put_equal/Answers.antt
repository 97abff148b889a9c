use Rattle.std.proofs.Common.{◌≡◌, ℕ, Bool, true, cond, nat_lt, List, [], ◌∷◌, ◌++◌, length, sym, ap, ◌∙◌, subst}
use Rattle.summary.specs.Lines.{more_lines}
use Rattle.summary.specs.Pairs.{equal_cycles, equal_line, equal_rows, row_lines, told_rows}
use Rattle.summary.proofs.equal.put_equal.Goals as goal

pub returns-then-is_some : goal.returns-then-is_some
returns-then-is_some g c =
    let J = c.args.state.now.journal in
    let cycles = c.args.state.now.encounter.cycles in
    let a = c.args.a in
    let b = c.args.b in
    let count = length (equal_cycles J a b cycles) in
    let rows = row_lines J cycles a b cycles in
    let rest = more_lines told_rows (length (equal_rows J a b cycles)) in
    let met : nat_lt 0 count ≡ true = sym (c.is_some.ensures ∙ ap (nat_lt 0) c.count_equal-count.ensures) ∙ c.if-is_some.true in
    let line = c.equal_line.ensures ∙ ap equal_line c.count_equal-count.ensures in
    let head = subst (λ (l : List ℕ). g.S.LineSink.took c.args.sink.now c.line.new.self (l ∷ [])) line c.line.ensures in
    let more = subst (λ (n : ℕ). g.S.LineSink.took c.put_rows-rows.new.sink c.put_more.new.sink (more_lines told_rows n)) c.put_rows-rows.ensures.count c.put_more.ensures in
    subst (g.S.LineSink.took c.args.sink.now c.put_more.new.sink) (ap (λ (t : Bool). cond t (equal_line count ∷ (rows ++ rest)) []) (sym met))
    (g.met.S.LineSink.then _ _ _ _ _ head (g.met.S.LineSink.then _ _ _ _ _ c.put_rows-rows.ensures.put more))
