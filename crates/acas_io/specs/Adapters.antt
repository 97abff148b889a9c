-- What contracts see of the adapters over readers and writers.
use Rattle.std.specs.Prelude.{ℕ, ◌≤◌, ◌<◌, ◌⊎◌, List, length, take, Option, Result, Ok, Err, MatchResult}
use Rattle.std.specs.Io.KnownBytes.{Appends}
use Rattle.acas_io.specs.declared.stream.Failed.{Failed}
use Rattle.acas_io.specs.declared.std_source.StdSource.{StdSource}
use Rattle.acas_io.specs.declared.std_sink.StdSink.{StdSink}

-- The reader under a source.
abbrev pub source_reader : {R : Type 0} → StdSource R → R
source_reader s = s.inner

-- How often a read has failed.
abbrev pub source_faults : {R : Type 0} → StdSource R → ℕ
source_faults s = s.faults

-- The writer under a sink.
abbrev pub sink_writer : {W : Type 0} → StdSink W → W
sink_writer s = s.inner

-- How often a write has failed.
abbrev pub sink_faults : {W : Type 0} → StdSink W → ℕ
sink_faults s = s.faults

-- What a writer holds, where that is known, before and after a write. It grew by the bytes that the write counted, and
-- at an error by a front of the piece.
abbrev pub Passes : {E : Type 0} → Option (List ℕ) → Option (List ℕ) → List ℕ → Result ℕ E → Type 0
Passes old new piece result =
    MatchResult result
    (λ n. Appends old new (take n piece))
    (λ _. (n : ℕ) × (n ≤ length piece) × Appends old new (take n piece))

-- A piece was written to a writer by one call, and flushed by one call after it. At an error the write failed or took
-- nothing, or the flush after it failed.
abbrev pub WritesOnce : {W : Type 0} → (W → List ℕ → Result ℕ Failed → W → Type 0) → (W → Result (Unit {0}) Failed → W → Type 0) → W → List ℕ → Result ℕ Failed → W → Type 0
WritesOnce {W} Write Flush old piece (Ok n) new = (between : W) × (0 < n) × Write old piece (Ok n) between × Flush between (Ok tt) new
WritesOnce {W} Write Flush old piece (Err e) new =
    Write old piece (Err e) new ⊎ (Write old piece (Ok 0) new ⊎ ((between : W) × (n : ℕ) × (0 < n) × Write old piece (Ok n) between × Flush between (Err e) new))
