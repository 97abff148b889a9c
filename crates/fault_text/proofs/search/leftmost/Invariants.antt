use Rattle.std.proofs.Common.{◌≡◌, drop}
use Rattle.fault_text.specs.Lines.{fields_in}
use Rattle.fault_text.specs.Names.{first_failing}
use Rattle.fault_text.proofs.search.leftmost.Given as goal

-- No field so far fails.
abbrev pub invariant-loop-name : goal.invariant-loop-name
invariant-loop-name l = first_failing l.fn.code l.fn.names (drop 1 (fields_in l.fn.line)) ≡ first_failing l.fn.code (drop l.name-index l.fn.names) l.fields
