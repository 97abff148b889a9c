-- The text of `sum`: how many commits a run in threads has, and the counts of the serial run.
use Rattle.std.specs.Prelude.{ℕ, List, [], ◌∷◌, ◌++◌, codes}
use Rattle.acas_lines.specs.Lines.{count_line}
use Rattle.acas_top.specs.Counted.{counts_text}
use Rattle.sweep.specs.declared.counts.Counts.{Counts}

abbrev pub played_line : ℕ → List ℕ
played_line commits = count_line (codes "play") commits

abbrev pub serial_line : Counts → List ℕ
serial_line counts = codes "serial," ++ counts_text counts

abbrev pub summed_lines : ℕ → Counts → List (List ℕ)
summed_lines commits counts = played_line commits ∷ serial_line counts ∷ []
