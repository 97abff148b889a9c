use Rattle.std.proofs.Common.{◌≡◌, Bool, true, false, cond, nat_lt, [], ◌∷◌, sym, ap, ◌∙◌, subst}
use Rattle.summary.specs.Pairs.{row_line, told_rows}
use Rattle.summary.proofs.equal.put_row.Goals as goal

pub returns-then-is_told : goal.returns-then-is_told
returns-then-is_told g c =
    let line = row_line c.args.state.now.journal c.args.state.now.encounter.cycles c.args.a c.args.b c.args.first in
    let met : nat_lt c.args.before told_rows ≡ true = sym c.is_told.ensures ∙ c.if-is_told.true in
    subst (g.S.LineSink.took c.args.sink.now c.line.new.self) (ap (λ (b : Bool). cond b (line ∷ []) []) (sym met)) (rw c.row_line.ensures at c.line.ensures)

pub returns-else-is_told : goal.returns-else-is_told
returns-else-is_told g c =
    let line = row_line c.args.state.now.journal c.args.state.now.encounter.cycles c.args.a c.args.b c.args.first in
    let unmet : nat_lt c.args.before told_rows ≡ false = sym c.is_told.ensures ∙ c.if-is_told.false in
    subst (g.S.LineSink.took c.args.sink.now c.args.sink.now) (ap (λ (b : Bool). cond b (line ∷ []) []) (sym unmet)) (g.met.S.LineSink.nothing c.args.sink.now)
