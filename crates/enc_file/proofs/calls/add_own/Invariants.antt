use Rattle.std.proofs.Common.{◌≡◌, ◌++◌, take}
use Rattle.enc_file.specs.Earlier.{call_group, in_group}
use Rattle.enc_file.proofs.calls.add_own.Given as goal

-- Those among the first ones were added.
abbrev pub invariant-loop-call : goal.invariant-loop-call
invariant-loop-call l = l.all.items ≡ l.fn.all.items ++ in_group call_group (take l.call-index l.calls) l.craft
