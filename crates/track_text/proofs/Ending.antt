-- The end of the records: the tracks of all aircraft, and the encounter.
use Rattle.std.proofs.Common.{◌≡◌, ℕ, ◌+◌, ◌<◌, ◌≤◌, true, false, List, [], ◌∷◌, length, get_or, map, take, Some, None, refl, sym, ap, subst, ◌∙◌, arith, zero-add, Vec, Global}
use Rattle.std.specs.Prelude.{if◌then◌else◌}
use Rattle.std.specs.List.{range_with_len}
use Rattle.std.proofs.lemmas.List.{ext_get_or, get_or-map, get_or-take, length-map, length-take-le}
use Rattle.std.proofs.lemmas.List.FromFn.{get_or-map-range_with_len, length-map-range_with_len}
use Rattle.acas_base.specs.Encounter.{Parts}
use Rattle.acas_base.specs.declared.TheConstants.{CRAFTS}
use Rattle.enc_file.specs.Earlier.{crafts_of, encounter_by}
use Rattle.enc_file.specs.Faults.{miscounts}
use Rattle.enc_file.specs.declared.record.Record.{Record}
use Rattle.enc_file.specs.declared.record.Record.TheVariants as said
use Rattle.enc_file.specs.declared.refusal.Code.TheVariants as code
use Rattle.enc_file.proofs.Crafted.{crafts-few}
use Rattle.track_file.specs.Along.{CanBeFlown, FliesAlong, IsFaultOf, craft_at, rounded_row}
use Rattle.track_file.specs.declared.along.TrackFault.{TrackFault}
use Rattle.track_file.specs.declared.along.TrackFault.TheVariants.{Cover, Rate}
use Rattle.track_file.specs.declared.track.Point.{Point}
use Rattle.track_text.specs.Conditions.{address_at}
use Rattle.track_text.specs.Earlier.{cycles_of, shared_of, track_of, tracks_of}
use Rattle.track_text.specs.Tables.{AreBegun, HasMade, IsFine, IsFirstFault, KeepsTracks, fault_of}
use Rattle.track_text.specs.declared.record.TrackRecord.{TrackRecord}
use Rattle.track_text.specs.declared.record.TrackRecord.TheVariants.{Shared}
use Rattle.track_text.specs.declared.refusal.Fault.TheVariants.{Text, Track}
use Rattle.track_text.specs.declared.tables.TrackTables.{TrackTables}

abbrev points-of : Vec Point Global → List Point
points-of v = v.items

pub few-crafts : (earlier : List TrackRecord) (t : TrackTables) → KeepsTracks earlier t → length (crafts_of (shared_of earlier)) ≤ length t.tracks.items
few-crafts earlier t kept = omega (arith, crafts-few (shared_of earlier) kept.tables.read, kept.many)

some-track : (tracks : List (Vec Point Global)) → length tracks ≡ CRAFTS → Vec Point Global
some-track [] many = absurd (omega (arith, many))
some-track (track ∷ tracks) many = track

-- The tracks of the aircraft, up to the last of them.
pub tracks-are : (earlier : List TrackRecord) (t : TrackTables) (n : ℕ) → KeepsTracks earlier t → n ≡ length (crafts_of (shared_of earlier)) → n ≤ length t.tracks.items → map points-of (take n t.tracks.items) ≡ tracks_of earlier
tracks-are earlier t n kept is few =
    rw (← is) (ext_get_or [] (map points-of (take n t.tracks.items)) (map (λ craft. track_of craft earlier) (range_with_len 0 n))
    (length-map (take n t.tracks.items) points-of ∙ length-take-le n t.tracks.items few ∙ sym (length-map-range_with_len (λ craft. track_of craft earlier) 0 n)) same) where
      same : (i : ℕ) → i < length (map points-of (take n t.tracks.items)) → get_or (map points-of (take n t.tracks.items)) i [] ≡ get_or (map (λ craft. track_of craft earlier) (range_with_len 0 n)) i []
      same i within =
          let low : i < n = omega (arith, within, length-map (take n t.tracks.items) points-of, length-take-le n t.tracks.items few) in
          let d = some-track t.tracks.items kept.many in
          get_or-map points-of (take n t.tracks.items) i d [] (omega (arith, low, length-take-le n t.tracks.items few))
          ∙ ap points-of (get_or-take n t.tracks.items i d low) ∙ kept.points i d (omega (arith, low, few, kept.many))
          ∙ sym (get_or-map-range_with_len (λ craft. track_of craft earlier) 0 n i i [] low (zero-add i))

abbrev SoFar : List Record → Parts → Type 0
SoFar s e = (miscounts s said.End ≡ false) × (e ≡ encounter_by s)

pub end-counted : (earlier : List TrackRecord) → AreBegun earlier → miscounts (shared_of earlier) said.End ≡ true → IsFirstFault earlier (Shared said.End) (Text code.Count)
end-counted earlier begun is = ap (λ b. if b then Some code.Count else None) is

end-sound : (earlier : List TrackRecord) → AreBegun earlier → miscounts (shared_of earlier) said.End ≡ false → fault_of earlier (Shared said.End) ≡ None
end-sound earlier begun is = ap (λ b. if b then Some code.Count else None) is

same-encounter : (earlier : List TrackRecord) (e : Parts) → AreBegun earlier → SoFar (shared_of earlier) e → e ≡ encounter_by (shared_of earlier)
same-encounter earlier e begun so = so.1

-- The aircraft at fault is one of those that have tracks.
pub fault-within : (cycles : ℕ) (tracks : List (List Point)) (fault : TrackFault) → IsFaultOf cycles tracks fault → craft_at fault < length tracks
fault-within cycles tracks (Cover craft) wrong = wrong.0
fault-within cycles tracks (Rate craft cycle) wrong = omega (arith, wrong.1.0, length-map tracks (rounded_row cycles))

pub end-fault : (earlier : List TrackRecord) (e : Parts) (tracks : List (List Point)) (fault : TrackFault) (address : ℕ) → AreBegun earlier → SoFar (shared_of earlier) e → tracks ≡ tracks_of earlier → IsFaultOf e.cycles tracks fault
    → address_at e.crafts (craft_at fault) ≡ Some address → IsFirstFault earlier (Shared said.End) (Track fault address)
end-fault earlier e tracks fault address begun so are wrong named =
    let cycles : e.cycles ≡ cycles_of earlier = ap (λ (p : Parts). p.cycles) (same-encounter earlier e begun so) in (
      end-sound earlier begun so.0,
      refl,
      subst (λ l. IsFaultOf (cycles_of earlier) l fault) are (subst (λ n. IsFaultOf n tracks fault) cycles wrong),
      ap (λ (p : Parts). address_at p.crafts (craft_at fault)) (sym (same-encounter earlier e begun so)) ∙ named,
    )

pub end-made : (earlier : List TrackRecord) (t : TrackTables) (e made : Parts) (tracks : List (List Point)) (n : ℕ) → KeepsTracks earlier t → AreBegun earlier → SoFar (shared_of earlier) e → tracks ≡ tracks_of earlier
    → CanBeFlown e.cycles tracks → FliesAlong made e tracks → (new : TrackTables) → new.count ≡ t.count + 1 → IsFine earlier (Shared said.End) × HasMade (Shared said.End ∷ earlier) new made
end-made earlier t e made tracks n kept begun so are can flies new count =
    let is = same-encounter earlier e begun so in
    let cycles : e.cycles ≡ cycles_of earlier = ap (λ (p : Parts). p.cycles) is in (
      record { sound = end-sound earlier begun so.0; flown = λ end. subst (λ l. CanBeFlown (cycles_of earlier) l) are (subst (λ n. CanBeFlown n tracks) cycles can) },
      record {
        count = count ∙ ap (λ n. n + 1) kept.count ∙ omega arith;
        made = record { ended = refl; flies = subst (λ l. FliesAlong made (encounter_by (shared_of earlier)) l) are (subst (λ p. FliesAlong made p tracks) is flies) };
      },
    )
