-- What the earlier records of tracks give. In a list of records the newest stands first.
use Rattle.std.specs.Prelude.{ℕ, ◌==◌, if◌then◌else◌, Bool, true, false, List, [], ◌∷◌, ◌++◌, length, map, Option, Some, None}
use Rattle.std.specs.List.{range_with_len}
use Rattle.enc_file.specs.Earlier.{crafts_of, index_of, whole_run}
use Rattle.enc_file.specs.declared.record.Record.{Record}
use Rattle.enc_file.specs.declared.record.Record.TheVariants as said
use Rattle.track_file.specs.declared.track.Point.{Point}
use Rattle.track_text.specs.declared.record.TrackRecord.{TrackRecord}
use Rattle.track_text.specs.declared.record.TrackRecord.TheVariants.{Shared, At}

-- The records that an encounter has, too.
abbrev pub shared_of : List TrackRecord → List Record
shared_of [] = []
shared_of (Shared now ∷ earlier) = now ∷ shared_of earlier
shared_of (At address point ∷ earlier) = shared_of earlier

abbrev pub is_end : Record → Bool
is_end said.End = true
is_end other = false

-- An aircraft that was found has this index.
abbrev pub is_index : ℕ → Option ℕ → Bool
is_index craft None = false
is_index craft (Some other) = other == craft

-- The points of the aircraft with an index, in the order of the text. A point belongs to the aircraft that has its
-- address.
abbrev pub track_of : ℕ → List TrackRecord → List Point
track_of craft [] = []
track_of craft (Shared now ∷ earlier) = track_of craft earlier
track_of craft (At address point ∷ earlier) = track_of craft earlier ++ (if is_index craft (index_of (crafts_of (shared_of earlier)) address) then point ∷ [] else [])

-- The tracks of all aircraft, in the order of the aircraft.
abbrev pub tracks_of : List TrackRecord → List (List Point)
tracks_of earlier = map (λ craft. track_of craft earlier) (range_with_len 0 (length (crafts_of (shared_of earlier))))

-- How many cycles the run has; 0 where no run was given.
abbrev pub cycles_of : List TrackRecord → ℕ
cycles_of earlier = (whole_run (shared_of earlier)).cycles
