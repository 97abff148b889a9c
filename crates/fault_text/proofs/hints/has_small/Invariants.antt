use Rattle.std.proofs.Common.{◌≡◌, drop}
use Rattle.std.specs.List.{list_any}
use Rattle.fault_text.specs.Hints.{is_small}
use Rattle.fault_text.proofs.hints.has_small.Given as goal

abbrev pub invariant-loop-byte : goal.invariant-loop-byte
invariant-loop-byte l = list_any is_small l.fn.found ≡ list_any is_small (drop l.byte-index l.fn.found)
