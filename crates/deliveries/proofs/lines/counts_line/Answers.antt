use Rattle.std.specs.List.{flat_map}
use Rattle.deliveries.proofs.Telling.{whole-line}
use Rattle.deliveries.specs.Text.{count_part, counts_head, mishaps, sent_count}
use Rattle.std.proofs.Common.{codes, ap, ◌∙◌}
use Rattle.deliveries.proofs.lines.counts_line.Goals as goal

pub returns : goal.returns
returns c =
    let s = c.args.deliveries.now in
    whole-line (counts_head (sent_count s.journal)) (flat_map (count_part s.encounter s.journal) mishaps) (codes "\n") c.counts_head-line.result c.add_counts.new.line c.text.new.self
    (c.counts_head-line.ensures.value ∙ ap counts_head c.counts-counts.ensures.sent) c.add_counts.ensures.added c.text.ensures.added
