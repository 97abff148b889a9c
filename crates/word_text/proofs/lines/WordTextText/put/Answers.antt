use Rattle.std.proofs.Common.{◌∷◌, ℕ, List, ap, sym, ◌∙◌, subst}
use Rattle.word_text.specs.Lines.{lines_as_block, lines_as_message}
use Rattle.word_text.proofs.Telling.{lines_if}
use Rattle.word_text.proofs.lines.WordTextText.put.Goals as goal

pub returns-then-is_block : goal.returns-then-is_block
returns-then-is_block g c =
    let word = c.args.self.now.0 in
    let chosen = ap (lines_if word) (sym c.if-is_block.true ∙ c.is_block.ensures) in
    let head = ap (λ (line : List ℕ). line ∷ lines_as_block word) c.fixed_line.ensures in
    subst (g.S.LineSink.took c.args.sink.now c.put_as_block.new.sink) (head ∙ chosen) (g.met.S.LineSink.then _ _ _ _ _ c.line.ensures c.put_as_block.ensures)

pub returns-else-is_block : goal.returns-else-is_block
returns-else-is_block g c =
    let word = c.args.self.now.0 in
    let chosen = ap (lines_if word) (sym c.if-is_block.false ∙ c.is_block.ensures) in
    let head = ap (λ (line : List ℕ). line ∷ lines_as_message word) c.fixed_line-else-is_block.ensures in
    subst (g.S.LineSink.took c.args.sink.now c.put_as_message.new.sink) (head ∙ chosen) (g.met.S.LineSink.then _ _ _ _ _ c.line-else-is_block.ensures c.put_as_message.ensures)
