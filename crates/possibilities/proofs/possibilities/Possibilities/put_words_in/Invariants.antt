use Rattle.std.specs.Prelude.{flat_map, take}
use Rattle.possibilities.specs.Listing.{word_lines_at}
use Rattle.report_words.specs.declared.word.TheConstants.{ALL_WORDS}
use Rattle.possibilities.proofs.possibilities.Possibilities.put_words_in.Given as goal

-- The lines of the words so far were taken.
abbrev pub invariant-loop-at : goal.invariant-loop-at
invariant-loop-at g l = g.S.LineSink.took l.fn.sink l.sink (flat_map (word_lines_at l.self l.own l.cycle) (take l.at ALL_WORDS))
