-- The page that is read first.
use Rattle.std.specs.Prelude.{ℕ, List, ◌++◌, length}
use Rattle.acas_base.specs.Encounter.{Parts}
use Rattle.acas_base.specs.declared.entry.Entry.{Entry}
use Rattle.acas_lines.specs.Lines.{joined}
use Rattle.summary.specs.Head.{alone_lines, head_lines}
use Rattle.summary.specs.Pairs.{pairs_lines}

-- The counts; that nobody meets, where there is one aircraft; and the lines of the pairs.
abbrev pub summary_lines : Parts → List Entry → List (List ℕ)
summary_lines e journal = head_lines e journal ++ (alone_lines (length e.crafts) ++ pairs_lines e journal)

abbrev pub summary_text : Parts → List Entry → List ℕ
summary_text e journal = joined (summary_lines e journal)
