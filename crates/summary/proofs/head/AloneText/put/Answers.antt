use Rattle.std.proofs.Common.{◌≡◌, Bool, true, cond, nat_lt, [], ◌∷◌, codes, sym, ap, ◌∙◌, subst}
use Rattle.summary.specs.Lines.{quiet}
use Rattle.summary.proofs.head.AloneText.put.Goals as goal

pub returns-then-is_alone : goal.returns-then-is_alone
returns-then-is_alone g c =
    let met : nat_lt c.args.self.now.0 2 ≡ true = sym c.is_alone.ensures ∙ c.if-is_alone.true in
    let first = rw c.fixed_line.ensures at c.line.ensures in
    let second = rw c.quiet_line.ensures at c.line-then-is_alone.ensures in
    subst (g.S.LineSink.took c.args.sink.now c.line-then-is_alone.new.self) (ap (λ (b : Bool). cond b (codes "\n" ∷ quiet ∷ []) []) (sym met)) (g.met.S.LineSink.then _ _ _ _ _ first second)
