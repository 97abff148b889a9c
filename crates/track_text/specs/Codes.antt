-- The numbers of the codes.
use Rattle.std.specs.Prelude.{ℕ}
use Rattle.enc_file.specs.Codes.{code_number}
use Rattle.track_file.specs.declared.along.TrackFault.{TrackFault}
use Rattle.track_file.specs.declared.along.TrackFault.TheVariants.{Cover, Rate}
use Rattle.track_text.specs.declared.refusal.Fault.{Fault}
use Rattle.track_text.specs.declared.refusal.Fault.TheVariants.{Text, Track}

abbrev pub track_number : TrackFault → ℕ
track_number (Cover craft) = 13
track_number (Rate craft cycle) = 14

abbrev pub fault_number : Fault → ℕ
fault_number (Text code) = code_number code
fault_number (Track fault address) = track_number fault
