-- A point that doesn't come after the last one of its aircraft.
use Rattle.std.proofs.Common.{◌≡◌, ◌∙◌, ℕ, ◌+◌, Bool, true, false, not, ℤ, List, [], ◌∷◌, ◌++◌, length, Option, Some, None, refl, sym, ap, subst, eqb-true}
use Rattle.std.specs.Prelude.{◌≤ℤ◌, codes, find}
use Rattle.std.specs.List.{list_any}
use Rattle.std.proofs.lemmas.Bool.{false≢true}
use Rattle.std.proofs.lemmas.Option.{same_Some}
use Rattle.enc_file.specs.Conditions.{if_said, is_first, is_given}
use Rattle.enc_file.specs.Earlier.{has_ended, version_of}
use Rattle.enc_file.specs.Records.{records_of}
use Rattle.enc_file.specs.Values.{address_in, field}
use Rattle.enc_file.specs.declared.refusal.Code.TheVariants as code
use Rattle.fault_text.specs.Before.{IsLastBefore}
use Rattle.fault_text.specs.Lines.{IsPlaced, fields_in, file_lines}
use Rattle.fault_text.specs.declared.lines.Place.{Place}
use Rattle.fault_text.proofs.Passing.{found-none, found-some}
use Rattle.track_file.specs.declared.track.Point.{Point}
use Rattle.track_text.specs.Conditions.{ArePassed, HasNoFault, IsRefused, PointKind, has_point_since, has_text_fault, is_repeat, is_unknown, kind_named}
use Rattle.track_text.specs.Earlier.{shared_of}
use Rattle.track_text.specs.Points.{row_point_of}
use Rattle.track_text.specs.Told.{IsAgainst, TellsEarlier, is_point_of, ms_in}
use Rattle.track_text.specs.declared.kinds.LineKind.TheVariants as of
use Rattle.track_text.specs.declared.kinds.OwnKind.TheVariants as own
use Rattle.track_text.specs.declared.record.TrackRecord.{TrackRecord}
use Rattle.track_text.specs.declared.record.TrackRecord.TheVariants.{Shared, At}
use Rattle.track_text.specs.declared.refusal.Fault.TheVariants.{Text}
use Rattle.track_text.specs.declared.refusal.Refusal.{Refusal}
use Rattle.track_text.specs.declared.why.TrackWhy.TheVariants as why
use Rattle.track_text.proofs.LastPoints.{ArePoints, find-last, find-none, late-reached}
use Rattle.track_text.proofs.TrackRows.{SaysTrack, before-tracks, headed, no-true, other-header, point-says, same-points, unended, was-told}

-- Each earlier point belongs to an aircraft, and comes after those before it.
record IsFinePoint (before : List TrackRecord) (row : List (List ℕ)) : Type 0 where
  repeat : is_repeat before PointKind row ≡ false
  unknown : is_unknown before PointKind row ≡ false

fine-point : (before : List TrackRecord) (row : List (List ℕ)) → HasNoFault before (Some row) → is_first (shared_of before) ≡ false → has_ended (shared_of before) ≡ false → kind_named (version_of (shared_of before)) (field row 0) ≡ Some PointKind → IsFinePoint before row
unfolding has_text_fault
fine-point before row fine some going named = record {
  repeat = no-true (is_repeat before PointKind row) (rw (some, going, named) at (fine (Text code.Repeat)));
  unknown = no-true (is_unknown before PointKind row) (rw (some, going, named) at (fine (Text code.Unknown)));
}

not-false : (b : Bool) → not b ≡ false → b ≡ true
not-false true h = refl
not-false false h = absurd (false≢true (sym h))

points-more : (before : List TrackRecord) (row : List (List ℕ)) (now : TrackRecord) → SaysTrack before row now → ArePoints before → ArePoints (now ∷ before)
points-more before row (Shared now) is points = points
points-more before row (At address point) is points =
    let told = was-told before row (At address point) is.1 in
    let some = headed before row is.0 (other-header row (codes "at") (sym told.0) refl) in
    let fine = fine-point before row is.0 some (unended before row is.0) (rw told.0 refl) in
    let known : not (is_given (shared_of before) address) ≡ false = rw (told.1) at fine.unknown in
    let later : has_point_since before address point.ms ≡ false = rw (told.1, told.2) at fine.repeat in
    (not-false (is_given (shared_of before) address) known, later, points)

passed-points : (before : List TrackRecord) (rows : List (List (List ℕ))) (all : List TrackRecord) → ArePassed before rows all → ArePoints before → ArePoints all
passed-points before [] all passed points = subst ArePoints passed points
passed-points before (row ∷ rows) all passed points = passed-points (passed.1.0 ∷ before) rows all passed.1.2 (points-more before row passed.1.0 (passed.0, passed.1.1) points)

-- What the record says.
pub record IsLatePoint (earlier : List TrackRecord) (fields : List (List ℕ)) : Type 0 where
  pub address : ℕ
  pub ms : ℤ
  pub one : address_in (field fields 1) ≡ Some address
  pub two : ms_in (field fields 2) ≡ Some ms
  pub since : has_point_since earlier address ms ≡ true

late-by : (earlier : List TrackRecord) (fields : List (List ℕ)) (o : Option ℕ) (p : Option ℤ) → address_in (field fields 1) ≡ o → ms_in (field fields 2) ≡ p → if_said o (λ a. if_said p (has_point_since earlier a)) ≡ true → IsLatePoint earlier fields
late-by earlier fields None p e f h = absurd (false≢true h)
late-by earlier fields (Some a) None e f h = absurd (false≢true h)
late-by earlier fields (Some a) (Some n) e f h = record { address = a; ms = n; one = e; two = f; since = h }

pub late-point : (text : List ℕ) (refusal : Refusal) (line : List ℕ) (a : IsAgainst text refusal code.Repeat PointKind line) → IsLatePoint a.refused.earlier (fields_in line)
late-point text refusal line a = late-by a.refused.earlier (fields_in line) (address_in (field (fields_in line) 1)) (ms_in (field (fields_in line) 2)) refl refl a.fault

-- What was found, by what it is.
pub found-as : (text : List ℕ) (at address : ℕ) (found o : Option Place) → found ≡ o → IsLastBefore (λ line. row_point_of address (fields_in line)) (file_lines text) at found
    → IsLastBefore (λ line. row_point_of address (fields_in line)) (file_lines text) at o
found-as text at address found o e last = subst (λ (x : Option Place). IsLastBefore (λ line. row_point_of address (fields_in line)) (file_lines text) at x) e last

-- The last point of its aircraft.
pub record IsFoundPoint (text : List ℕ) (earlier : List TrackRecord) (address : ℕ) (place : Place) : Type 0 where
  pub at : ℕ
  pub point : Point
  pub newer : List TrackRecord
  pub older : List TrackRecord
  pub whole : earlier ≡ newer ++ At address point ∷ older
  pub number : at ≡ length older + 1
  pub passes : is_point_of address (At address point) ≡ true
  pub last : list_any (is_point_of address) newer ≡ false
  pub says : ms_in (field (fields_in place.line.now) 2) ≡ Some point.ms
  pub placed : IsPlaced (file_lines text) at place.number place.line.now

record IsOwnPoint (address : ℕ) (before : List TrackRecord) (row : List (List ℕ)) (now : TrackRecord) : Type 0 where
  point : Point
  is : now ≡ At address point
  says : ms_in (field row 2) ≡ Some point.ms

own-point : (address : ℕ) (before : List TrackRecord) (row : List (List ℕ)) (now : TrackRecord) → SaysTrack before row now → is_point_of address now ≡ true → IsOwnPoint address before row now
own-point address before row (Shared now) is passes = absurd (false≢true passes)
own-point address before row (At other point) is passes = record {
  point = point;
  is = ap (λ n. At n point) (eqb-true other address passes);
  says = (point-says before row other point is).1;
}

pub found-point : (text : List ℕ) (refusal : Refusal) (r : IsRefused (records_of text) refusal) (address : ℕ) (place : Place) → IsLastBefore (λ line. row_point_of address (fields_in line)) (file_lines text) refusal.at (Some place)
    → IsFoundPoint text r.earlier address place
found-point text refusal r address place last =
    let f = found-some SaysTrack (is_point_of address) (row_point_of address) text refusal.at r.earlier place (before-tracks text refusal r) (same-points address) last in
    let own = own-point address f.older (fields_in place.line.now) f.now f.says f.passes in record {
      at = f.at;
      point = own.point;
      newer = f.newer;
      older = f.older;
      whole = f.whole ∙ ap (λ now. f.newer ++ now ∷ f.older) own.is;
      number = f.number;
      passes = ap (is_point_of address) (sym own.is) ∙ f.passes;
      last = f.last;
      says = own.says;
      placed = f.placed;
    }

points : (text : List ℕ) (refusal : Refusal) (r : IsRefused (records_of text) refusal) → ArePoints r.earlier
points text refusal r = passed-points [] _ r.earlier r.passed tt

pub late-none : (text : List ℕ) (refusal : Refusal) (line : List ℕ) (a : IsAgainst text refusal code.Repeat PointKind line) (address : ℕ) → address_in (field (fields_in line) 1) ≡ Some address
    → IsLastBefore (λ line. row_point_of address (fields_in line)) (file_lines text) refusal.at None → ⊥
late-none text refusal line a address spelled none =
    let l = late-point text refusal line a in
    let same : l.address ≡ address = same_Some l.address address (sym l.one ∙ spelled) in
    let late = subst (λ n. has_point_since a.refused.earlier n l.ms ≡ true) same l.since in
    let reached = late-reached a.refused.earlier address l.ms (points text refusal a.refused) late in
    let any = found-none SaysTrack (is_point_of address) (row_point_of address) text refusal.at a.refused.earlier (before-tracks text refusal a.refused) (same-points address) none in
    find-none (is_point_of address) a.refused.earlier (At address reached.point) any reached.found

same-at : (a : ℕ) (p q : Point) → Some (At a p) ≡ Some (At a q) → p.ms ≡ q.ms
same-at a p q e =
    let same : p ≡ q = cc e in
    ap (λ (r : Point). r.ms) same

pub tells-late : (text : List ℕ) (refusal : Refusal) (line : List ℕ) (a : IsAgainst text refusal code.Repeat PointKind line) (address : ℕ) (found reached : ℤ) (place : Place) → address_in (field (fields_in line) 1) ≡ Some address
    → ms_in (field (fields_in line) 2) ≡ Some found → IsLastBefore (λ line. row_point_of address (fields_in line)) (file_lines text) refusal.at (Some place) → ms_in (field (fields_in place.line.now) 2) ≡ Some reached
    → TellsEarlier text refusal code.Repeat (of.Own own.Point) line (why.NotAbove found reached place.number)
tells-late text refusal line a address found reached place spelled ms last there =
    let l = late-point text refusal line a in
    let same : l.address ≡ address = same_Some l.address address (sym l.one ∙ spelled) in
    let time : l.ms ≡ found = same_Some l.ms found (sym l.two ∙ ms) in
    let late = subst (λ n. has_point_since a.refused.earlier address n ≡ true) time (subst (λ n. has_point_since a.refused.earlier n l.ms ≡ true) same l.since) in
    let r = late-reached a.refused.earlier address found (points text refusal a.refused) late in
    let f = found-point text refusal a.refused address place last in
    let one : find (is_point_of address) a.refused.earlier ≡ Some (At address f.point) = ap (find (is_point_of address)) f.whole ∙ find-last (is_point_of address) f.newer f.older (At address f.point) f.last f.passes in
    let point : r.point.ms ≡ f.point.ms = same-at address r.point f.point (sym r.found ∙ one) in
    let reaches : f.point.ms ≡ reached = same_Some f.point.ms reached (sym f.says ∙ there) in
    record {
      refused = a.refused;
      tells = record {
        address = address;
        spelled = spelled;
        found-is = ms;
        at = f.at;
        point = f.point;
        is = record { newer = f.newer; older = f.older; whole = f.whole; number = f.number; passes = f.passes; last = f.last };
        reached-is = reaches;
        line = place.line.now;
        placed = f.placed;
        order = subst (λ n. found ≤ℤ n) (point ∙ reaches) r.reaches;
      };
    }
