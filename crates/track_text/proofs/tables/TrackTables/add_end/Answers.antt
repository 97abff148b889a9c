use Rattle.std.proofs.Common.{◌≡◌, ◌∙◌, ◌≤◌, Global, Vec, ap, arith, length, map, refl, subst, sym, take}
use Rattle.std.specs.Prelude.{All}
use Rattle.std.proofs.lemmas.List.{length-map, length-take-le}
use Rattle.std.proofs.lemmas.List.Elements.{All-take}
use Rattle.acas_base.specs.Encounter.{Parts}
use Rattle.enc_file.specs.Earlier.{crafts_of}
use Rattle.enc_file.specs.declared.record.Record.TheVariants as said
use Rattle.enc_file.specs.declared.refusal.Code.TheVariants as code
use Rattle.track_file.specs.Track.{IsTrack}
use Rattle.track_file.specs.declared.track.Point.{Point}
use Rattle.track_text.specs.Earlier.{shared_of, tracks_of}
use Rattle.track_text.specs.Tables.{IsFirstFault}
use Rattle.track_text.specs.declared.record.TrackRecord.TheVariants.{Shared}
use Rattle.track_text.specs.declared.refusal.Fault.TheVariants.{Text, Track}
use Rattle.track_file.specs.Along.{craft_at}
use Rattle.track_text.specs.Conditions.{address_at}
use Rattle.track_text.proofs.Ending.{end-counted, end-fault, end-made, fault-within, few-crafts, tracks-are}
use Rattle.track_text.proofs.Kept.{refuses, wanting}
use Rattle.track_text.proofs.tables.TrackTables.add_end.Goals as goal

pub returns-in_err-encounter : goal.returns-in_err-encounter
returns-in_err-encounter c = λ earlier begun kept. wanting _ _ _ c.from_residual.result c.from_residual.ensures.1

pub returns-in_default : goal.returns-in_default
returns-in_default c = λ earlier begun kept.
    let missing = rw c.in_default.is at (c.in_ok-encounter.ensures (shared_of earlier) kept.tables) in
    refuses earlier c.args.self.now (IsFirstFault earlier (Shared said.End)) (Text code.Count) c.refused.result kept.count (end-counted earlier begun missing) c.refused.ensures

pub slice_bounds-fly_along-end : goal.slice_bounds-fly_along-end
slice_bounds-fly_along-end c =
    let earlier = c.requires.kept.0 in
    let kept = c.requires.kept.1 in
    let so = rw c.in-Some.is at (c.in_ok-encounter.ensures (shared_of earlier) kept.tables) in
    let many : length c.crafts-count.result.now ≡ length (crafts_of (shared_of earlier)) = ap (λ l. length l) (c.crafts-count.ensures.value ∙ ap (λ (p : Parts). p.crafts) so.1) in
    sym (length-take-le (length c.crafts-count.result.now) c.deref.result.now (omega (arith, many, few-crafts earlier c.args.self.now kept, ap (λ l. length l) c.deref.ensures.value)))

pub fly_along-requires-clause-count : goal.fly_along-requires-clause-count
fly_along-requires-clause-count c =
    let earlier = c.requires.kept.0 in
    let kept = c.requires.kept.1 in
    let so = rw c.in-Some.is at (c.in_ok-encounter.ensures (shared_of earlier) kept.tables) in
    let many : length c.crafts-count.result.now ≡ length (crafts_of (shared_of earlier)) = ap (λ l. length l) (c.crafts-count.ensures.value ∙ ap (λ (p : Parts). p.crafts) so.1) in
    length-take-le (length c.crafts-count.result.now) c.deref.result.now (omega (arith, many, few-crafts earlier c.args.self.now kept, ap (λ l. length l) c.deref.ensures.value)) ∙ ap (λ l. length l) c.crafts-count.ensures.value

pub fly_along-requires-clause-tracks : goal.fly_along-requires-clause-tracks
fly_along-requires-clause-tracks c =
    let kept = c.requires.kept.1 in
    All-take (λ (v : Vec Point Global). IsTrack v.items) (length c.crafts-count.result.now) c.deref.result.now (subst (λ l. All (λ (v : Vec Point Global). IsTrack v.items) l) (sym c.deref.ensures.value) kept.rising)

pub returns-in_err-made : goal.returns-in_err-made
returns-in_err-made c = λ earlier begun kept. wanting _ _ _ c.from_residual-in_err-made.result c.from_residual-in_err-made.ensures.1

pub returns-in-Ok : goal.returns-in-Ok
returns-in-Ok c = λ earlier begun kept.
    let so = rw c.in-Some.is at (c.in_ok-encounter.ensures (shared_of earlier) kept.tables) in
    let n = length c.crafts-count.result.now in
    let many : n ≡ length (crafts_of (shared_of earlier)) = ap (λ l. length l) (c.crafts-count.ensures.value ∙ ap (λ (p : Parts). p.crafts) so.1) in
    let few : n ≤ length c.args.self.now.tracks.items = omega (arith, many, few-crafts earlier c.args.self.now kept) in
    let are : map (λ (v : Vec Point Global). v.items) (take n c.deref.result.now) ≡ tracks_of earlier = ap (λ l. map (λ (v : Vec Point Global). v.items) (take n l)) c.deref.ensures.value ∙ tracks-are earlier c.args.self.now n kept many few in
    end-made earlier c.args.self.now c.in-Some.encounter c.in-Ok.made (map (λ (v : Vec Point Global). v.items) (take n c.deref.result.now)) n kept begun so are
    (rw c.in-Ok.is at c.in_ok-made.ensures.flyable) (rw c.in-Ok.is at c.in_ok-made.ensures.flies) _ refl

pub returns : goal.returns
returns c = λ earlier begun kept.
    let so = rw c.in-Some.is at (c.in_ok-encounter.ensures (shared_of earlier) kept.tables) in
    let n = length c.crafts-count.result.now in
    let many : n ≡ length (crafts_of (shared_of earlier)) = ap (λ l. length l) (c.crafts-count.ensures.value ∙ ap (λ (p : Parts). p.crafts) so.1) in
    let few : n ≤ length c.args.self.now.tracks.items = omega (arith, many, few-crafts earlier c.args.self.now kept) in
    let are : map (λ (v : Vec Point Global). v.items) (take n c.deref.result.now) ≡ tracks_of earlier = ap (λ l. map (λ (v : Vec Point Global). v.items) (take n l)) c.deref.ensures.value ∙ tracks-are earlier c.args.self.now n kept many few in
    refuses earlier c.args.self.now (IsFirstFault earlier (Shared said.End)) (Track c.in-Err.fault c.address_of-address.result) c.refused-in-Err.result kept.count
    (end-fault earlier c.in-Some.encounter (map (λ (v : Vec Point Global). v.items) (take n c.deref.result.now)) c.in-Err.fault c.address_of-address.result begun so are (rw c.in-Err.is at c.in_ok-made.ensures.fault)
    (ap (λ l. address_at l (craft_at c.in-Err.fault)) (sym c.crafts.ensures.value) ∙ c.address_of-address.ensures)) c.refused-in-Err.ensures

pub address_of-address-requires : goal.address_of-address-requires
address_of-address-requires c =
    let earlier = c.requires.kept.0 in
    let kept = c.requires.kept.1 in
    let so = rw c.in-Some.is at (c.in_ok-encounter.ensures (shared_of earlier) kept.tables) in
    let n = length c.crafts-count.result.now in
    let many : n ≡ length (crafts_of (shared_of earlier)) = ap (λ l. length l) (c.crafts-count.ensures.value ∙ ap (λ (p : Parts). p.crafts) so.1) in
    let few = length-take-le n c.deref.result.now (omega (arith, many, few-crafts earlier c.args.self.now kept, ap (λ l. length l) c.deref.ensures.value)) in
    let within = fault-within c.in-Some.encounter.cycles (map (λ (v : Vec Point Global). v.items) (take n c.deref.result.now)) c.in-Err.fault (rw c.in-Err.is at c.in_ok-made.ensures.fault) in
    omega (arith, within, length-map (take n c.deref.result.now) (λ (v : Vec Point Global). v.items), few, ap (λ l. length l) c.crafts-count.ensures.value, ap (λ l. length l) c.crafts.ensures.value)
