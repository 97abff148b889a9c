use Rattle.std.proofs.Common.{ℕ, ◌<◌, get_or}
use Rattle.std.specs.Prelude.{◌≢◌}
use Rattle.report_words.specs.Saying.{text_of}
use Rattle.report_words.specs.declared.word.TheConstants.{ALL_WORDS}
use Rattle.report_words.specs.declared.word.Word.TheVariants.{Clear}
use Rattle.report_words.proofs.word.Word.parse.Given as goal

-- None of the words so far has this text.
abbrev pub invariant-loop-at : goal.invariant-loop-at
invariant-loop-at l = (k : ℕ) → k < l.at → l.text ≢ text_of (get_or ALL_WORDS k Clear)
