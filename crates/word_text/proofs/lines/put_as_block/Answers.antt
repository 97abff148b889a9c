use Rattle.std.proofs.Common.{ap, sym, ◌∙◌, subst}
use Rattle.word_text.specs.Lines.{block_lines, lines_or_none}
use Rattle.word_text.proofs.lines.put_as_block.Goals as goal

pub returns-in-Some : goal.returns-in-Some
returns-in-Some g c =
    let lines = c.block_lines.ensures ∙ ap (lines_or_none block_lines) (sym c.in-Some.is ∙ c.decode.ensures.value) in
    subst (g.S.LineSink.took c.args.sink.now c.put_lines.new.sink) lines c.put_lines.ensures
