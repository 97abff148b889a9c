-- A point that is added to its track.
use Rattle.std.proofs.Common.{◌≡◌, ◌≢◌, ℕ, ◌+◌, ◌<◌, Bool, true, false, List, [], ◌∷◌, ◌++◌, length, get_or, set, Option, Some, None, refl, sym, ap, subst, ◌∙◌, arith, Vec, Global}
use Rattle.std.specs.Prelude.{◌==◌, if◌then◌else◌, is_none, option_map}
use Rattle.std.specs.List.{list_any}
use Rattle.std.specs.Vec.{with_item}
use Rattle.std.proofs.lemmas.Bool.{eqb-false, eqb-true, false≢true}
use Rattle.std.proofs.lemmas.Grind.{get_or-set_at}
use Rattle.std.proofs.lemmas.List.{append-nil, get_or-set_other, length-set}
use Rattle.std.proofs.lemmas.List.Elements.{All-set}
use Rattle.acas_base.specs.declared.TheConstants.{CRAFTS}
use Rattle.acas_base.specs.declared.craft.CraftSpec.{CraftSpec}
use Rattle.enc_file.specs.Earlier.{crafts_of, index_of}
use Rattle.enc_file.specs.Faults.{holds}
use Rattle.enc_file.specs.declared.refusal.Code.{Code}
use Rattle.enc_file.specs.declared.refusal.Code.TheVariants as code
use Rattle.enc_file.proofs.Crafted.{crafts-few}
use Rattle.enc_file.proofs.Named.{index-within}
use Rattle.track_file.specs.Track.{IsPoint, IsTrack, is_from}
use Rattle.track_file.specs.declared.track.Point.{Point}
use Rattle.track_text.specs.Earlier.{is_index, shared_of, track_of}
use Rattle.track_text.specs.Tables.{AreBegun, HoldsTracks, IsFine, KeepsTracks, fault_of}
use Rattle.track_text.specs.declared.record.TrackRecord.{TrackRecord}
use Rattle.track_text.specs.declared.record.TrackRecord.TheVariants.{At}
use Rattle.track_text.specs.declared.tables.TrackTables.{TrackTables}
use Rattle.track_text.proofs.Kept.{held-going}
use Rattle.track_text.proofs.Since.{track-push}

-- The aircraft that was found.

pub craft-within : (earlier : List TrackRecord) (t : TrackTables) (crafts : List CraftSpec) (address craft : ℕ) → KeepsTracks earlier t → crafts ≡ crafts_of (shared_of earlier) → index_of crafts address ≡ Some craft → craft < CRAFTS
craft-within earlier t crafts address craft kept is found =
    omega (arith, index-within crafts address craft found, ap (λ (l : List CraftSpec). length l) is, crafts-few (shared_of earlier) kept.tables.read)

pub found-in : (earlier : List TrackRecord) (crafts : List CraftSpec) (address : ℕ) (o : Option ℕ) → AreBegun earlier → crafts ≡ crafts_of (shared_of earlier) → index_of crafts address ≡ o → index_of (crafts_of (shared_of earlier)) address ≡ o
found-in earlier crafts address o begun is found =
    ap (λ (l : List CraftSpec). index_of l address) (sym (is)) ∙ found

-- What is wrong with a point, by the aircraft that was found.

abbrev by-index : List TrackRecord → Point → Option ℕ → Option Code
by-index earlier p o =
    if holds (option_map (λ craft. list_any (is_from p.ms) (track_of craft earlier)) o) then Some code.Repeat else
    if is_none o then Some code.Unknown else None

pub point-fault : (earlier : List TrackRecord) (address : ℕ) (p : Point) (o : Option ℕ) → index_of (crafts_of (shared_of earlier)) address ≡ o → fault_of earlier (At address p) ≡ by-index earlier p o
point-fault earlier address p o is = ap (by-index earlier p) is

pub point-unknown : (earlier : List TrackRecord) (address : ℕ) (p : Point) → index_of (crafts_of (shared_of earlier)) address ≡ None → fault_of earlier (At address p) ≡ Some code.Unknown
point-unknown earlier address p is = point-fault earlier address p None is

pub point-late : (earlier : List TrackRecord) (address craft : ℕ) (p : Point) (b : Bool) → index_of (crafts_of (shared_of earlier)) address ≡ Some craft → list_any (is_from p.ms) (track_of craft earlier) ≡ b
    → fault_of earlier (At address p) ≡ (if b then Some code.Repeat else None)
point-late earlier address craft p b is late = point-fault earlier address p (Some craft) is ∙ ap (λ b. if b then Some code.Repeat else None) late

pub track-more : (earlier : List TrackRecord) (address craft k : ℕ) (p : Point) (b : Bool) → index_of (crafts_of (shared_of earlier)) address ≡ Some craft → (craft == k) ≡ b
    → track_of k (At address p ∷ earlier) ≡ track_of k earlier ++ (if b then p ∷ [] else [])
track-more earlier address craft k p b is e =
    ap (λ o. track_of k earlier ++ (if is_index k o then p ∷ [] else [])) is ∙ ap (λ b. track_of k earlier ++ (if b then p ∷ [] else [])) e

points-more : (earlier : List TrackRecord) (t : TrackTables) (address craft k : ℕ) (p : Point) (old new d : Vec Point Global) (b : Bool) → KeepsTracks earlier t → index_of (crafts_of (shared_of earlier)) address ≡ Some craft
    → craft < CRAFTS → k < CRAFTS → old.items ≡ track_of craft earlier → new.items ≡ old.items ++ p ∷ [] → (craft == k) ≡ b → (get_or (set t.tracks.items craft new) k d).items ≡ track_of k (At address p ∷ earlier)
points-more earlier t address craft k p old new d true kept found within low was now e =
    let same : k ≡ craft = sym (eqb-true craft k e) in
    let here : get_or (set t.tracks.items craft new) k d ≡ new = get_or-set_at t.tracks.items craft k new d same (omega (arith, within, kept.many)) in
    ap (λ (v : Vec Point Global). v.items) here ∙ now ∙ ap (λ l. l ++ p ∷ []) (was ∙ ap (λ c. track_of c earlier) (sym same)) ∙ sym (track-more earlier address craft k p true found e)
points-more earlier t address craft k p old new d false kept found within low was now e =
    let apart : k ≢ craft = λ same. eqb-false craft k e (sym same) in
    ap (λ (v : Vec Point Global). v.items) (get_or-set_other t.tracks.items craft k new d apart) ∙ kept.points k d low ∙ sym (append-nil (track_of k earlier)) ∙ sym (track-more earlier address craft k p false found e)

pub point-added : (earlier : List TrackRecord) (t : TrackTables) (address craft : ℕ) (p : Point) (old new : Vec Point Global) → KeepsTracks earlier t → AreBegun earlier → IsPoint p
    → index_of (crafts_of (shared_of earlier)) address ≡ Some craft → craft < CRAFTS → old.items ≡ track_of craft earlier → new.items ≡ old.items ++ p ∷ [] → IsTrack old.items → list_any (is_from p.ms) (track_of craft earlier) ≡ false
    → IsFine earlier (At address p) × HoldsTracks (At address p ∷ earlier) (record t { count = t.count + 1; tracks = with_item t.tracks craft new })
point-added earlier t address craft p old new kept begun fits found within was now track early = (
  record { sound = point-late earlier address craft p false found early; flown = λ end. absurd (false≢true end) },
  held-going (At address p ∷ earlier) (record t { count = t.count + 1; tracks = with_item t.tracks craft new }) (record {
    count = ap (λ n. n + 1) kept.count ∙ omega arith;
    unended = kept.unended;
    version = kept.version;
    tables = kept.tables;
    many = length-set t.tracks.items craft new ∙ kept.many;
    points = λ k d low. points-more earlier t address craft k p old new d (craft == k) kept found within low was now refl;
    rising = All-set (λ (v : Vec Point Global). IsTrack v.items) t.tracks.items craft new (subst IsTrack (sym now) (track-push old.items p track fits (ap (list_any (is_from p.ms)) was ∙ early))) kept.rising;
    unmade = kept.unmade;
    begun = λ some. begun.some;
  }),
)
