-- A whole text, record by record.
use Rattle.std.proofs.Common.{◌≡◌, ◌∙◌, ℕ, Bool, true, false, List, [], ◌∷◌, length, Result, Ok, Err, refl, sym, ap, subst}
use Rattle.std.specs.Prelude.{if◌then◌else◌, IfOk, IsTrue, not}
use Rattle.std.specs.Result.{IsErrAnd}
use Rattle.std.proofs.lemmas.Bool.{false≢true}
use Rattle.acas_base.specs.Encounter.{Parts}
use Rattle.flight.specs.Inside.{IsInside, stays_inside}
use Rattle.enc_file.specs.Earlier.{encounter_by, has_ended}
use Rattle.enc_file.specs.Reading.{Explains, IsReading, goes_on, missing_after, next_record, read_from, refusal_after}
use Rattle.enc_file.specs.Tables.{Refuses}
use Rattle.enc_file.specs.WellRead.{AreRead}
use Rattle.enc_file.specs.declared.record.Record.{Record}
use Rattle.enc_file.specs.declared.record.Record.TheVariants as said
use Rattle.enc_file.specs.declared.refusal.Code.{Code}
use Rattle.enc_file.specs.declared.refusal.ReadError.{ReadError}
use Rattle.enc_file.specs.declared.refusal.ReadError.TheVariants.{OutOfMemory, Refused}
use Rattle.enc_file.specs.declared.refusal.Refusal.{Refusal}
use Rattle.flight.proofs.Boxed.{stays-inside}
use Rattle.enc_file.proofs.Faultless.{faultless}

-- The next record goes on, or is refused.
pub on-next : (earlier : List Record) (row : List (List ℕ)) (more : List (List (List ℕ))) (now : Record) → next_record earlier row ≡ Ok now → read_from earlier (row ∷ more) ≡ read_from (now ∷ earlier) more
unfolding read_from
on-next earlier row more now is = ap (λ r. goes_on (length earlier) r (λ now. read_from (now ∷ earlier) more)) is

on-fault : (earlier : List Record) (row : List (List ℕ)) (more : List (List (List ℕ))) (why : Code) → next_record earlier row ≡ Err why → read_from earlier (row ∷ more) ≡ Err (refusal_after (length earlier) why)
unfolding read_from
on-fault earlier row more why is = ap (λ r. goes_on (length earlier) r (λ now. read_from (now ∷ earlier) more)) is

-- A record with a fault is where the text is refused.
pub refused-at : (reading : Result Parts Refusal) (earlier : List Record) (row : List (List ℕ)) (more : List (List (List ℕ))) (e : ReadError) → reading ≡ read_from earlier (row ∷ more)
    → Refuses (length earlier) (λ why. next_record earlier row ≡ Err why) e → Explains reading e
refused-at reading earlier row more (Refused refusal) same h = same ∙ on-fault earlier row more h.0 h.1 ∙ ap Err (sym h.2)
refused-at reading earlier row more OutOfMemory same h = tt

true-by-not : (b : Bool) → not b ≡ false → IsTrue b
true-by-not true h = refl
true-by-not false h = absurd (false≢true (sym h))

-- What was read to its end stays inside the box.
ended-inside : (earlier : List Record) → AreRead earlier → has_ended earlier ≡ true → IsInside (encounter_by earlier)
ended-inside [] read ended = absurd (false≢true ended)
ended-inside (said.End ∷ []) read ended = absurd read
ended-inside (said.End ∷ last ∷ earlier) read ended =
    (stays-inside (encounter_by (last ∷ earlier))).0 (true-by-not (stays_inside (encounter_by (last ∷ earlier))) (faultless (last ∷ earlier) said.End read.1).boxed)
ended-inside (said.Header version ∷ []) read ended = absurd (false≢true ended)
ended-inside (now ∷ []) read ended = absurd read
ended-inside (said.Header version ∷ last ∷ earlier) read ended = absurd (false≢true (sym read.1.unended ∙ ended))
ended-inside (said.Profile profile ∷ last ∷ earlier) read ended = absurd (false≢true (sym read.1.unended ∙ ended))
ended-inside (said.Name text ∷ last ∷ earlier) read ended = absurd (false≢true (sym read.1.unended ∙ ended))
ended-inside (said.Clock second ∷ last ∷ earlier) read ended = absurd (false≢true (sym read.1.unended ∙ ended))
ended-inside (said.Call address sign ∷ last ∷ earlier) read ended = absurd (false≢true (sym read.1.unended ∙ ended))
ended-inside (said.Run run ∷ last ∷ earlier) read ended = absurd (false≢true (sym read.1.unended ∙ ended))
ended-inside (said.Gains gains ∷ last ∷ earlier) read ended = absurd (false≢true (sym read.1.unended ∙ ended))
ended-inside (said.Craft craft ∷ last ∷ earlier) read ended = absurd (false≢true (sym read.1.unended ∙ ended))
ended-inside (said.Climb address limit ∷ last ∷ earlier) read ended = absurd (false≢true (sym read.1.unended ∙ ended))
ended-inside (said.Leg address course ∷ last ∷ earlier) read ended = absurd (false≢true (sym read.1.unended ∙ ended))
ended-inside (said.Miss pair from to ∷ last ∷ earlier) read ended = absurd (false≢true (sym read.1.unended ∙ ended))
ended-inside (said.Plan pair copies ∷ last ∷ earlier) read ended = absurd (false≢true (sym read.1.unended ∙ ended))
ended-inside (said.Fate pair number copies ∷ last ∷ earlier) read ended = absurd (false≢true (sym read.1.unended ∙ ended))

-- What is read stays inside the box.
pub read-inside : (earlier : List Record) (r : Result Parts ReadError) → AreRead earlier → IsReading (read_from earlier []) r → IfOk r IsInside
unfolding read_from
read-inside earlier (Err e) read h = tt
read-inside earlier (Ok e) read h = at (has_ended earlier) refl h where
  at : (b : Bool) → has_ended earlier ≡ b → (if b then Ok (encounter_by earlier) else Err (refusal_after (length earlier) (missing_after (length earlier)))) ≡ Ok e → IsInside e
  at true ended is =
      let same : encounter_by earlier ≡ e = cc is in
      subst IsInside same (ended-inside earlier read ended)
  at false ended is = absurd (cc is)

-- An error is told as it is.
pub passed-on : (reading : Result Parts Refusal) (r : Result Parts ReadError) (e : ReadError) → IsErrAnd r (λ x. x ≡ e) → Explains reading e → IsReading reading r
passed-on reading (Ok x) e h k = absurd h
passed-on reading (Err x) e h k = rw h k
