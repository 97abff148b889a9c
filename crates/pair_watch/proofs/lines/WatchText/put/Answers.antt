use Rattle.std.proofs.Common.{◌≡◌, ◌∷◌, ◌≤◌, ℕ, [], List, codes, length, refl, sym, ap, ◌∙◌, subst, arith}
use Rattle.acas_lines.specs.Lines.{count_line}
use Rattle.pair_watch.specs.Watching.{interval_lines}
use Rattle.pair_watch.proofs.Putting.{few-lines}
use Rattle.pair_watch.proofs.lines.WatchText.put.Goals as goal

none : (lines : List (List ℕ)) → length lines ≤ 0 → lines ≡ []
none [] few = refl
none (line ∷ lines) few = absurd (omega arith)

pub returns-then-count-gt0 : goal.returns-then-count-gt0
returns-then-count-gt0 g c =
    let e = c.args.self.now.0.now.encounter in
    let J = c.args.self.now.0.now.journal in
    let lines = interval_lines e J in
    let count : c.count_lines-count.result ≡ length lines = c.count_lines-count.ensures (few-lines e J c.legal_law.ensures.valid c.legal_law.ensures.legal) in
    let head : c.count_line.result ≡ count_line (codes "watch") (length lines) = c.count_line.ensures ∙ ap (count_line (codes "watch")) count in
    subst (g.S.LineSink.took c.args.sink.now c.put.new.sink) (ap (λ (l : List ℕ). l ∷ lines) head) (g.met.S.LineSink.then _ _ _ _ _ c.line.ensures c.put.ensures)

pub returns-else-count-gt0 : goal.returns-else-count-gt0
returns-else-count-gt0 g c =
    let e = c.args.self.now.0.now.encounter in
    let J = c.args.self.now.0.now.journal in
    let lines = interval_lines e J in
    let count : c.count_lines-count.result ≡ length lines = c.count_lines-count.ensures (few-lines e J c.legal_law.ensures.valid c.legal_law.ensures.legal) in
    let head : c.count_line.result ≡ count_line (codes "watch") (length lines) = c.count_line.ensures ∙ ap (count_line (codes "watch")) count in
    let all : lines ≡ [] = none lines (let few = c.if-count-gt0.false in omega arith) in
    subst (g.S.LineSink.took c.args.sink.now c.line.new.self) (ap (λ (l : List ℕ). l ∷ []) head ∙ ap (λ (ls : List (List ℕ)). count_line (codes "watch") (length lines) ∷ ls) (sym all)) c.line.ensures
