use Rattle.std.proofs.Common.{◌≡◌, ◌+◌, ◌++◌, take, vec_len, vec_capacity}
use Rattle.acas_io.proofs.memory.put_front.Given as goal

-- The bytes so far were added, in the room that was there.
abbrev pub invariant-loop-byte : goal.invariant-loop-byte
invariant-loop-byte l = record {
  written : l.room.items ≡ l.fn.room.items ++ take l.byte-index l.byte-items;
  long : vec_len l.room ≡ vec_len l.fn.room + l.byte-index;
  room : vec_capacity l.room ≡ vec_capacity l.fn.room;
}
