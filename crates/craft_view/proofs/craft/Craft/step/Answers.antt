use Rattle.std.proofs.Common.{◌≡◌, ◌+◌, ◌<◌, ◌∙◌, ap, sym, subst, arith, rules, w32, to_z, of_z}
use Rattle.std.proofs.lemmas.Int.{ints, to_z-of_z}
use Rattle.craft_view.specs.Kept.{Belongs, Kept}
use Rattle.flight.specs.Measurement.{own_altitude}
use Rattle.craft_view.specs.KnownTracks.{own_track, tracks_of}
use Rattle.craft_view.specs.Sight.{sight_of}
use Rattle.craft_view.proofs.Stepping.{active-within, own-next, then-next}
use Rattle.craft_view.proofs.craft.Craft.step.Goals as goal

pub own_altitude-altitude-requires : goal.own_altitude-altitude-requires
own_altitude-altitude-requires c =
    let e = c.args.places.now.encounter in
    let before = subst (Belongs e) (sym c.self.view_is) c.requires.belongs in
    active-within e c.self.inside.own before.active

pub step-requires : goal.step-requires
step-requires c =
    let e = c.args.places.now.encounter in
    let before = subst (Belongs e) (sym c.self.view_is) c.requires.belongs in
    let altitude = c.own_altitude-altitude.ensures.altitude before.inside (omega (arith, c.requires.next, c.requires.left)) in
    rw (to_z-of_z w32 c.own_altitude-altitude.result (search rules)) (record { at_least = omega (arith, ints, altitude.at_least); at_most = omega (arith, ints, altitude.at_most) })

pub step_tracks-requires-clause-own : goal.step_tracks-requires-clause-own
step_tracks-requires-clause-own c =
    let e = c.args.places.now.encounter in
    let before = subst (Belongs e) (sym c.self.view_is) c.requires.belongs in
    active-within e c.self.inside.own before.active

pub returns-clause-belongs : goal.returns-clause-belongs
returns-clause-belongs c =
    let e = c.args.places.now.encounter in
    let kept = c.self.inside in
    let cycle = c.args.places.now.cycle in
    let before = subst (Belongs e) (sym c.self.view_is) c.requires.belongs in
    let left = subst (λ (k : Kept). k.cycle < e.cycles) (sym c.self.view_is) c.requires.left in
    let next = subst (λ (k : Kept). cycle ≡ k.cycle + 1) (sym c.self.view_is) c.requires.next in
    record {
      inside = before.inside;
      active = before.active;
      cycle = omega (arith, left);
      above = (rw c.encounter-encounter.ensures at c.go_on-self-inside.ensures kept.own) before.above
          (to_z-of_z w32 c.own_altitude-altitude.result (search rules) ∙ c.own_altitude-altitude.ensures.value ∙ ap (own_altitude e kept.own) next);
      altitude = own-next e kept.own kept.cycle cycle kept.altitude c.step.new.self (to_z w32 (of_z w32 c.own_altitude-altitude.result)) c.altitude_gains.result next
          (rw c.encounter-encounter.ensures at c.altitude_gains.ensures)
          (to_z-of_z w32 c.own_altitude-altitude.result (search rules) ∙ c.own_altitude-altitude.ensures.value) before.altitude c.step.ensures.track
          ∙ ap (λ n. own_track (sight_of e kept.own n)) next;
      tracks = λ index within. c.step_tracks.ensures index within ∙ then-next e kept.own kept.cycle cycle index _ next (before.tracks index within)
          ∙ ap (λ n. tracks_of (sight_of e kept.own n) index) next;
    }
