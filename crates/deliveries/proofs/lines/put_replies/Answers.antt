use Rattle.std.proofs.Common.{◌∷◌, [], List, ℕ, sym, ◌∙◌, subst}
use Rattle.std.proofs.lemmas.Bool.{cond-true}
use Rattle.deliveries.specs.Misses.{has_misses}
use Rattle.deliveries.specs.Text.{all_missed_lines, replies_head}
use Rattle.deliveries.proofs.lines.put_replies.Goals as goal

pub returns-then-has_misses : goal.returns-then-has_misses
returns-then-has_misses g c =
    let e = c.args.encounter.now in
    let head = subst (λ (l : List ℕ). g.S.LineSink.took c.args.sink.now c.line.new.self (l ∷ [])) c.fixed_line.ensures c.line.ensures in
    let lines = cond-true (has_misses e) (replies_head ∷ all_missed_lines e) [] (sym c.has_misses.ensures ∙ c.if-has_misses.true) in
    subst (g.S.LineSink.took c.args.sink.now c.put_all_missed.new.sink) (sym lines) (g.met.S.LineSink.then _ _ _ _ _ head c.put_all_missed.ensures)
