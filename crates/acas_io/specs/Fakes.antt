-- What contracts see of the sources and sinks in memory.
use Rattle.std.specs.Prelude.{ℕ, ◌+◌, ◌-◌, ◌^◌, ◌==◌, ◌++◌, min, length, take, if◌then◌else◌, List, Option, Some, None}

-- A source in memory: what is left, how much a read gives at most, which reads fail (by number, from 1), how many reads
-- there were, and how many faults. Both counts stop at the last value of 64 bits.
pub record MemorySource : Type 0 where
  pub left : List ℕ
  pub piece : ℕ
  pub fails : List ℕ
  pub reads : ℕ
  pub faults : ℕ

-- A sink in memory: what it holds, how much it may hold, and for its writes what a source has for its reads.
pub record MemorySink : Type 0 where
  pub written : List ℕ
  pub room : ℕ
  pub piece : ℕ
  pub fails : List ℕ
  pub writes : ℕ
  pub faults : ℕ

-- A sink that holds what fits its room, and counts the bytes that it dropped. The count stops at the last value of 64
-- bits.
pub record RoomSink : Type 0 where
  pub held : List ℕ
  pub room : ℕ
  pub dropped : ℕ

-- What was written is known as long as nothing was dropped.
abbrev pub told : RoomSink → Option (List ℕ)
told s = if s.dropped == 0 then Some s.held else None

-- It holds the front of a piece that fits, and drops the rest.
abbrev pub with_piece : RoomSink → List ℕ → RoomSink
with_piece s piece =
    let free = s.room - length s.held in
    record { held = s.held ++ take free piece; room = s.room; dropped = min (s.dropped + (length piece - free)) (2 ^ 64 - 1) }
