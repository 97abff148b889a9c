-- Words about a cycle.
use Rattle.std.specs.Prelude.{ℕ, List, ◌++◌, codes, Option, None, Some}
use Rattle.std.specs.Fmt.{decimal}
use Rattle.plot_axes.specs.Time.{label_of}

abbrev pub cycle_text : ℕ → List ℕ
cycle_text cycle = codes "cycle " ++ decimal cycle

-- How words tell a cycle: by its number, or by its time of day where there is a clock.
unfoldable pub when_text : Option ℕ → ℕ → List ℕ
when_text None cycle = cycle_text cycle
when_text (Some second) cycle = label_of (Some second) cycle
