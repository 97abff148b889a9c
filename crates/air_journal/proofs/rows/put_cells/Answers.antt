use Rattle.std.proofs.Common.{sym, ◌∙◌, inl, inr, arith}
use Rattle.std.proofs.lemmas.Bool.{cases_lt}
use Rattle.air_journal.proofs.rows.put_cells.Goals as goal

pub returns : goal.returns
returns c = record {
  size = c.loop-other.invariant.size;
  row = λ b few. elim (cases_lt b c.loop-other.other) [
    | inl h ↦ c.loop-other.invariant.done b h
    | inr h ↦ c.loop-other.invariant.rest b h few ∙ sym (c.requires.past b (omega arith) few)
  ];
  others = c.loop-other.invariant.others;
}
