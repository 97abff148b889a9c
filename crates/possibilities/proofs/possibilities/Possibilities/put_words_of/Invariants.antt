use Rattle.std.specs.Prelude.{flat_map}
use Rattle.std.specs.List.{range_with_len}
use Rattle.possibilities.specs.Listing.{word_lines_in}
use Rattle.possibilities.proofs.possibilities.Possibilities.put_words_of.Given as goal

-- The lines of the cycles so far were taken.
abbrev pub invariant-loop-made : goal.invariant-loop-made
invariant-loop-made g l = g.S.LineSink.took l.fn.sink l.sink (flat_map (word_lines_in l.self l.own) (range_with_len 1 l.made))
