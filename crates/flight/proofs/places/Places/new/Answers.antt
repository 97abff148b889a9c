use Rattle.std.proofs.Common.{rules}
use Rattle.flight.proofs.places.Places.new.Goals as goal

pub invariant_of-result : goal.invariant_of-result
invariant_of-result c = (
  c.requires,
  record {
    at = λ craft d within. let call = c.from_fn.ensures.items.at craft d within in search rules;
    reachable = λ craft within. search rules;
  },
  c.owns_missing.ensures,
  search rules,
)
