-- How many of many runs have something.
use Rattle.std.specs.Prelude.{◌≤◌, Bool, List, nat_lt, is_some, count_by, length}
use Rattle.outcomes.specs.declared.outcome.Outcome.{Outcome}
use Rattle.outcomes.specs.declared.totals.Totals.{Totals}

abbrev pub has_advised : Outcome → Bool
has_advised it = is_some it.first

abbrev pub has_turned : Outcome → Bool
has_turned it = nat_lt 0 it.turns

abbrev pub has_reversed : Outcome → Bool
has_reversed it = nat_lt 0 it.reversals

abbrev pub has_equal : Outcome → Bool
has_equal it = nat_lt 0 it.equal

-- With an advisory, with a turn, with a reversal, and with equal senses.
abbrev pub totals_of : List Outcome → Totals
totals_of list = record {
  runs = length list;
  advised = count_by has_advised list;
  turned = count_by has_turned list;
  reversed = count_by has_reversed list;
  equal = count_by has_equal list;
}

-- No more runs have something than there are.
pub record AreFew (it : Totals) : Type 0 where
  pub advised : it.advised ≤ it.runs
  pub turned : it.turned ≤ it.runs
  pub reversed : it.reversed ≤ it.runs
  pub equal : it.equal ≤ it.runs
