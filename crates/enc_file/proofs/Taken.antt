-- What the next record says, where some were read.
use Rattle.std.proofs.Common.{◌≡◌, ◌∙◌, ℕ, ◌≤◌, true, false, List, [], ◌∷◌, length, Option, Some, None, Result, Ok, Err, refl, sym, ap, arith}
use Rattle.std.specs.Prelude.{is_some}
use Rattle.std.proofs.lemmas.Bool.{false≢true}
use Rattle.acas_base.specs.Encounter.{Parts}
use Rattle.enc_file.specs.Earlier.{has_ended, version_of}
use Rattle.enc_file.specs.Faults.{fault_of}
use Rattle.enc_file.specs.Reading.{checked, missing_after, next_record, read_from, refusal_after, unless_faulty}
use Rattle.enc_file.specs.Saying.{record_of}
use Rattle.enc_file.specs.Tables.{Adds, AreGoing, Holds, IsMade, Takes}
use Rattle.enc_file.specs.declared.record.Record.{Record}
use Rattle.enc_file.specs.declared.refusal.Code.{Code}
use Rattle.enc_file.specs.declared.refusal.Code.TheVariants as code
use Rattle.enc_file.specs.declared.refusal.ReadError.{ReadError}
use Rattle.enc_file.specs.declared.refusal.ReadError.TheVariants.{OutOfMemory, Refused}
use Rattle.enc_file.specs.declared.tables.Tables.{Tables}

pub none-read : (earlier : List Record) → length earlier ≡ 0 → earlier ≡ []
none-read [] e = refl
none-read (last ∷ earlier) e = absurd (omega (arith, e))

-- Once the encounter is made, the end was read; else it wasn't.
pub ended-if-made : (earlier : List Record) (made : Option Parts) → IsMade earlier made → is_some made ≡ true → has_ended earlier ≡ true
ended-if-made earlier None is some = absurd (false≢true some)
ended-if-made earlier (Some e) is some = is.0

pub going-if-none : (earlier : List Record) (made : Option Parts) → IsMade earlier made → is_some made ≡ false → has_ended earlier ≡ false
going-if-none earlier None is some = is
going-if-none earlier (Some e) is some = absurd (false≢true (sym some))

pub next-after : (earlier : List Record) (row : List (List ℕ)) → 1 ≤ length earlier → has_ended earlier ≡ true → next_record earlier row ≡ Err code.After
next-after [] row some ended = absurd (omega (arith, some))
next-after (last ∷ earlier) row some ended = rw ended refl

next-is : (earlier : List Record) (row : List (List ℕ)) → AreGoing earlier → next_record earlier row ≡ checked earlier (record_of (version_of earlier) row)
next-is [] row going = absurd (omega (arith, going.some))
next-is (last ∷ earlier) row going = rw (going.unended) refl

pub next-said : (earlier : List Record) (row : List (List ℕ)) (now : Record) → AreGoing earlier → record_of (version_of earlier) row ≡ Ok now → next_record earlier row ≡ unless_faulty now (fault_of earlier now)
next-said earlier row now going said = next-is earlier row going ∙ ap (checked earlier) said

pub next-unsaid : (earlier : List Record) (row : List (List ℕ)) (why : Code) → AreGoing earlier → record_of (version_of earlier) row ≡ Err why → next_record earlier row ≡ Err why
next-unsaid earlier row why going said = next-is earlier row going ∙ ap (checked earlier) said

sound-of : (earlier : List Record) (now : Record) (tables : Tables) → 1 ≤ length earlier → Holds (now ∷ earlier) tables → fault_of earlier now ≡ None
sound-of [] now tables some h = absurd (omega (arith, some))
sound-of (last ∷ earlier) now tables some h = h.read.1.sound

-- What was added was taken.
pub takes : {T : Type 0} (earlier : List Record) (row : List (List ℕ)) (now : Record) (tables : Tables) (r : Result T ReadError) → AreGoing earlier → record_of (version_of earlier) row ≡ Ok now → Adds earlier now tables r → Takes earlier row tables r
takes earlier row now tables (Ok x) going said h =
    (now, next-said earlier row now going said ∙ ap (unless_faulty now) (sound-of earlier now tables going.some h), h)
takes earlier row now tables (Err (Refused refusal)) going said h = (h.0, next-said earlier row now going said ∙ ap (unless_faulty now) h.1, h.2)
takes earlier row now tables (Err OutOfMemory) going said h = tt

-- Where no record follows.
pub read-ended : (earlier : List Record) (e : Parts) → IsMade earlier (Some e) → read_from earlier [] ≡ Ok e
unfolding read_from
read-ended earlier e made = rw (made.0, made.1) refl

pub read-unended : (earlier : List Record) → has_ended earlier ≡ false → read_from earlier [] ≡ Err (refusal_after (length earlier) (missing_after (length earlier)))
unfolding read_from
read-unended earlier unended = rw unended refl
