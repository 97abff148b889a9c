use Rattle.std.proofs.Common.{◌≡◌, ◌≢◌, ◌<◌, length, get_or, ◌∙◌, refl, ap, subst, arith, rules, inl, inr, below_more, get_or-set_other, get_or-set_same, length-set}
use Rattle.std.proofs.lemmas.Bool.{cases_lt}
use Rattle.acas_base.specs.Encounter.{IsEncounter, Parts}
use Rattle.craft_view.specs.KnownTracks.{no_tracks, tracks_then}
use Rattle.craft_view.specs.declared.tracks.Tracks.{Tracks}
use Rattle.craft_view.proofs.Past.{few-crafts, past-tracks}
use Rattle.craft_view.proofs.Stepping.{read-or}
use Rattle.craft_view.proofs.others.step_tracks.Goals as goal

pub loop-target-init : goal.loop-target-init
loop-target-init c = record {
  few = few-crafts c.args.places.now.encounter (subst IsEncounter c.encounter-encounter.ensures c.valid_law.ensures);
  size = search rules;
  done = λ k h. absurd (omega arith);
  rest = λ k h. refl;
}

pub loop-target-preserved : goal.loop-target-preserved
loop-target-preserved c =
    let t = c.loop-target.target in
    let xs = c.loop-target.tracks in
    let next = c.step_place.new.tracks in
    let few = c.loop-target.invariant.few in
    let here : t < length c.args.places.now.encounter.crafts = search rules in
    let within : t < length xs = omega (arith, c.loop-target.invariant.size, few, here) in
    let before : get_or xs t c.index-tracks-target.result ≡ get_or c.args.tracks.now t no_tracks =
    read-or xs t c.index-tracks-target.result no_tracks within c.index-tracks-target.is ∙ c.loop-target.invariant.rest t (omega arith) in
    record {
      few = few;
      size = length-set xs t next ∙ c.loop-target.invariant.size;
      done = below_more _ _
          (λ k h. let ne : k ≢ t = omega arith in get_or-set_other xs t k next no_tracks ne ∙ c.loop-target.invariant.done k h)
          (get_or-set_same xs t next no_tracks within
          ∙ c.step_place.ensures
          ∙ ap (λ (s : Tracks). tracks_then c.args.places.now.encounter c.args.own c.args.places.now.cycle t s) before);
      rest = λ k h. let ne : k ≢ t = omega arith in get_or-set_other xs t k next no_tracks ne ∙ c.loop-target.invariant.rest k (omega arith);
    }

pub returns : goal.returns
returns c =
    let e = c.args.places.now.encounter in
    let i = c.loop-target.invariant in
    let count : length c.crafts-target-end.result.now ≡ length e.crafts = ap length c.crafts-target-end.ensures.value ∙ ap (λ (e : Parts). length e.crafts) c.encounter-encounter.ensures in
    λ k below. elim (cases_lt k (length e.crafts)) [
      | inl there ↦ i.done k (omega (arith, count, there))
      | inr past ↦ i.rest k (omega (arith, count, past)) ∙ past-tracks e c.args.own c.args.places.now.cycle k _ past
    ]
