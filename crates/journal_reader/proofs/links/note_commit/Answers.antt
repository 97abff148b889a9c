use Rattle.std.proofs.Common.{ℕ, Option, ap, get_or, arith}
use Rattle.acas_base.specs.declared.advisory.Cell.TheVariants.{Clear}
use Rattle.journal_reader.proofs.Rows.{row-more}
use Rattle.journal_reader.specs.Links.{no_link}
use Rattle.journal_reader.specs.declared.links.Link.{Link}
use Rattle.journal_reader.proofs.links.note_commit.Goals as goal

pub loop-other-preserved : goal.loop-other-preserved
loop-other-preserved c =
    let link = get_or c.loop-other.links c.pair_of-pair.result no_link in
    let cell = get_or c.args.cells.now.list c.from.result Clear in
    row-more c.args.links.now c.loop-other.links c.args.own c.loop-other.other c.pair_of-pair.result c.from.result c.args.at c.args.cells.now _ c.pair_of-pair.ensures c.from.ensures c.requires.own (omega arith)
    (ap (λ (run : Option ℕ). let l : Link = record { cell = cell; run = run; taken = link.taken; bound = link.taken } in l) c.run_after.ensures) c.loop-other.invariant
