-- A whole text of tracks, record by record.
use Rattle.std.proofs.Common.{◌≡◌, ◌∙◌, ℕ, List, [], ◌∷◌, ◌++◌, length, take, Some, Result, Ok, Err, refl, sym, ap, subst}
use Rattle.std.specs.Prelude.{IfOk, MatchResult, None, slice_get}
use Rattle.std.specs.Result.{IsErrAnd}
use Rattle.acas_base.specs.Encounter.{Parts}
use Rattle.flight.specs.Inside.{IsInside}
use Rattle.enc_file.specs.Records.{records_of}
use Rattle.track_text.specs.Conditions.{ArePassed, HasNoFault, IsLowestFault, said_by}
use Rattle.track_text.specs.Reading.{Explains, IsMade, IsReading, Refuses}
use Rattle.track_text.specs.declared.record.TrackRecord.{TrackRecord}
use Rattle.track_text.specs.declared.refusal.ReadError.{ReadError}
use Rattle.track_text.specs.declared.refusal.ReadError.TheVariants.{OutOfMemory, Refused}
use Rattle.track_text.specs.declared.refusal.Refusal.{Refusal}

pub passed-more : (first earlier : List TrackRecord) (rows : List (List (List ℕ))) (fields : List (List ℕ)) (now : TrackRecord) → ArePassed first rows earlier → HasNoFault earlier (Some fields) → said_by earlier fields ≡ Ok now
    → ArePassed first (rows ++ fields ∷ []) (now ∷ earlier)
passed-more first earlier [] fields now passed fine said =
    subst (λ (e : List TrackRecord). ArePassed e (fields ∷ []) (now ∷ earlier)) (sym passed) (fine, (now, said, refl))
passed-more first earlier (row ∷ rows) fields now passed fine said = (passed.0, (passed.1.0, passed.1.1, passed-more (passed.1.0 ∷ first) earlier rows fields now passed.1.2 fine said))

at-place : {X : Type 0} (xs ys : List X) (y : X) → slice_get (xs ++ y ∷ ys) (length xs) ≡ Some y
at-place [] ys y = refl
at-place (x ∷ xs) ys y = at-place xs ys y

front-of : {X : Type 0} (xs ys : List X) → take (length xs) (xs ++ ys) ≡ xs
front-of [] ys = refl
front-of (x ∷ xs) ys = ap (λ l. x ∷ l) (front-of xs ys)

past-end : {X : Type 0} (xs : List X) → slice_get xs (length xs) ≡ None
past-end [] = refl
past-end (x ∷ xs) = past-end xs

front-all : {X : Type 0} (xs : List X) → take (length xs) xs ≡ xs
front-all [] = refl
front-all (x ∷ xs) = ap (λ l. x ∷ l) (front-all xs)

-- A record with a fault is where the text is refused.
pub refused-at : (bytes : List ℕ) (earlier : List TrackRecord) (rows : List (List (List ℕ))) (row : List (List ℕ)) (more : List (List (List ℕ))) (e : ReadError) → records_of bytes ≡ rows ++ row ∷ more
    → length earlier ≡ length rows → ArePassed [] rows earlier → Refuses (length earlier) (IsLowestFault earlier (Some row)) e → Explains bytes e
refused-at bytes earlier rows row more (Refused refusal) all count passed h = record {
  earlier = earlier;
  passed = subst (λ (l : List (List (List ℕ))). ArePassed [] l earlier) (sym (ap (λ n. take n (records_of bytes)) count ∙ ap (take (length rows)) all ∙ front-of rows (row ∷ more))) passed;
  at = ap (λ (r : Refusal). r.at) h.2;
  fault =
      subst (λ o. IsLowestFault earlier o refusal.fault) (sym (ap (slice_get (records_of bytes)) count ∙ ap (λ l. slice_get l (length rows)) all ∙ at-place rows more row))
      (subst (IsLowestFault earlier (Some row)) (sym (ap (λ (r : Refusal). r.fault) h.2)) h.1);
}
refused-at bytes earlier rows row more OutOfMemory all count passed h = tt

-- The whole text was read.
pub whole-read : (bytes : List ℕ) (earlier : List TrackRecord) (rows : List (List (List ℕ))) (r : Result Parts ReadError) → records_of bytes ≡ rows → length earlier ≡ length rows → ArePassed [] rows earlier
    → MatchResult r (IsMade earlier) (Refuses (length earlier) (IsLowestFault earlier None)) → IsReading bytes r
whole-read bytes earlier rows (Ok e) all count passed h = record { earlier = earlier; passed = subst (λ (l : List (List (List ℕ))). ArePassed [] l earlier) (sym all) passed; made = h }
whole-read bytes earlier rows (Err (Refused refusal)) all count passed h = record {
  earlier = earlier;
  passed = subst (λ (l : List (List (List ℕ))). ArePassed [] l earlier) (sym (ap (λ n. take n (records_of bytes)) count ∙ ap (take (length rows)) all ∙ front-all rows)) passed;
  at = ap (λ (r : Refusal). r.at) h.2;
  fault =
      subst (λ o. IsLowestFault earlier o refusal.fault) (sym (ap (slice_get (records_of bytes)) count ∙ ap (λ l. slice_get l (length rows)) all ∙ past-end rows))
      (subst (IsLowestFault earlier None) (sym (ap (λ (r : Refusal). r.fault) h.2)) h.1);
}
whole-read bytes earlier rows (Err OutOfMemory) all count passed h = tt

-- What is read stays inside the box.
pub read-inside : (earlier : List TrackRecord) (r : Result Parts ReadError) → MatchResult r (IsMade earlier) (Refuses (length earlier) (IsLowestFault earlier None)) → IfOk r IsInside
read-inside earlier (Ok e) h = h.flies.in_box
read-inside earlier (Err e) h = tt

-- An error is told as it is.
pub passed-on : (bytes : List ℕ) (r : Result Parts ReadError) (e : ReadError) → IsErrAnd r (λ x. x ≡ e) → Explains bytes e → IsReading bytes r
passed-on bytes (Ok x) e h k = absurd h
passed-on bytes (Err x) e h k = rw h k
