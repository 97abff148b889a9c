use Rattle.std.proofs.Common.{◌∙◌, ◌<◌, ap, arith, subst}
use Rattle.std.specs.Prelude.{slice_index_or}
use Rattle.acas_base.specs.Encounter.{IsEncounter}
use Rattle.acas_base.specs.declared.TheConstants.{CRAFTS}
use Rattle.air_journal.proofs.Bounds.{few-crafts}
use Rattle.air_journal.specs.Airs.{air_of}
use Rattle.air_rules.specs.Air.{rank_of}
use Rattle.flight.specs.Measurement.{measurement}
use Rattle.reasons.proofs.Looking.{moderate-seen, seen-is}
use Rattle.reasons.proofs.seen.seen_of.Goals as goal

few : (c : goal.After-result-2-1) → c.args.other < CRAFTS
few c =
    let crafts = few-crafts c.args.places.now.encounter (subst IsEncounter c.encounter-encounter.ensures c.valid_law.ensures) in
    let within = c.requires.other in
    omega arith

pub returns-clause-value : goal.returns-clause-value
returns-clause-value c =
    let e = c.args.places.now.encounter in
    let kept = c.args.craft.now in
    let rank = c.rank.ensures ∙ (λ i. rank_of (air_of (c.encounter-encounter.ensures i)) (c.own.ensures i) c.args.other) in
    let reply = c.measure.ensures.value ∙ (λ i. measurement e (c.own-2.ensures i) c.args.other (c.requires.present i)) in
    ap (λ n. record { rank = c.rank.result; reply = c.measure.result; own = c.args.own.now; motion = c.motion_of.result; view = slice_index_or c.args.picture.now.views n _ }) c.from.ensures
    ∙ seen-is e kept c.args.other c.args.picture.now c.rank.result c.measure.result c.args.own.now c.motion_of.result _ c.requires.belongs c.requires.begun c.requires.apart c.requires.other (few c) c.requires.picture rank reply c.requires.own c.motion_of.ensures.value

pub returns-clause-bounds : goal.returns-clause-bounds
returns-clause-bounds c =
    let e = c.args.places.now.encounter in
    let kept = c.args.craft.now in
    record {
      own = c.requires.own_bounds;
      motion = c.motion_of.ensures.bounds;
      view = moderate-seen e kept c.args.other c.args.picture.now c.from.result _ c.args.own.now c.motion_of.result c.requires.belongs c.requires.own c.requires.own_bounds (few c) c.from.ensures c.requires.picture c.motion_of.ensures.value c.motion_of.ensures.bounds;
    }
