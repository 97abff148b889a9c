-- The line of a note.
use Rattle.std.specs.Prelude.{ℕ, ◌==◌, if◌then◌else◌, List, [], ◌∷◌, ◌++◌, codes}
use Rattle.std.specs.Fmt.{decimal, signed_decimal}
use Rattle.acas_text.specs.Hex.{hex}
use Rattle.flight.specs.Measurement.{longest}
use Rattle.idle_notes.specs.declared.note.Note.{Note}
use Rattle.idle_notes.specs.declared.note.Note.TheVariants as note

-- The last cycle of the run.
abbrev pub last_text : ℕ → List ℕ
last_text last = codes "cycle " ++ decimal last ++ codes ", the last one"

abbrev pub no_ra_text : ℕ → List ℕ
no_ra_text craft = hex 6 craft ++ codes " isn't of kind RA"

-- The fate of this line, and how many more of its pair.
abbrev pub fates_text : ℕ → List ℕ
fates_text more =
    if more == 0 then codes "this fate has no effect: " else codes "this fate and " ++ decimal more ++ codes " more of this pair have no effect: "

abbrev pub sends_text : ℕ → ℕ → List ℕ
sends_text sender receiver = hex 6 sender ++ codes " sends " ++ hex 6 receiver

abbrev pub count_text : ℕ → List ℕ
count_text sent =
    if sent == 0 then codes " no message" else
    if sent == 1 then codes " only 1 message" else codes " only " ++ decimal sent ++ codes " messages"

abbrev pub note_text : Note → List ℕ
note_text (note.LateLeg craft last) = codes "this leg has no effect: it would move " ++ hex 6 craft ++ codes " after " ++ last_text last
note_text (note.SameRates craft) = codes "this leg has no effect: " ++ hex 6 craft ++ codes " has these rates already"
note_text (note.PassiveMiss own) = codes "this miss has no effect: " ++ hex 6 own ++ codes " is of kind XPDR, and measures nobody"
note_text (note.LateMiss last) = codes "this miss has no effect: it begins after " ++ last_text last
note_text (note.IdleClimb craft) = codes "this climb has no effect: " ++ no_ra_text craft
note_text (note.IdlePlan silent) = codes "this plan has no effect: " ++ no_ra_text silent
note_text (note.SilentFates more silent) = fates_text more ++ no_ra_text silent
note_text (note.UnsentFates more sender receiver sent) = fates_text more ++ sends_text sender receiver ++ count_text sent
note_text (note.LateFates more sender receiver last) = fates_text more ++ sends_text sender receiver ++ codes " at most one message in a cycle, up to " ++ last_text last
note_text (note.LowAircraft craft) = hex 6 craft ++ codes " gives no resolution advisories: it is too near the ground in each cycle (sensitivity level 2)"
note_text (note.LoneAircraft craft) = hex 6 craft ++ codes " measures nobody: it is never within " ++ decimal longest ++ codes " ft of another aircraft"
note_text (note.BelowGround craft cycle altitude elevation) =
    hex 6 craft ++ codes " is below the ground in cycle " ++ decimal cycle ++ codes ": its altitude is " ++ signed_decimal altitude ++ codes " ft, and the ground is at " ++ signed_decimal elevation ++ codes " ft"

abbrev pub sentence : ℕ → Note → List ℕ
sentence line note = codes "line " ++ decimal line ++ codes ": " ++ note_text note ++ codes "\n"
