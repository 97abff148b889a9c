use Rattle.std.proofs.Common.{◌≡◌}
use Rattle.enc_file.specs.Earlier.{by_group, call_group}
use Rattle.enc_file.proofs.calls.calls_by_craft.Given as goal

-- Those of the aircraft so far.
abbrev pub invariant-loop-craft : goal.invariant-loop-craft
invariant-loop-craft l = l.all.items ≡ by_group call_group l.craft l.calls
