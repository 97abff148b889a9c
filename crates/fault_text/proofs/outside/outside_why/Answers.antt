use Rattle.std.proofs.Common.{rules, ◌≡◌, ◌<◌, length, arith, to_z, of_z, w32}
use Rattle.enc_file.specs.Earlier.{encounter_by}
use Rattle.flight.specs.Inside.{IsInside}
use Rattle.fault_text.proofs.EndRefused.{not-inside}
use Rattle.fault_text.proofs.Leaves.{given-before, outside-told}
use Rattle.fault_text.proofs.Refusals.{refused-text}
use Rattle.fault_text.proofs.outside.outside_why.Goals as goal

pub unreachable-requires : goal.unreachable-requires
unreachable-requires c =
    let r = refused-text c.args.text.now c.args.refusal c.requires.refused in
    let same : c.in_ok-encounter.encounter ≡ encounter_by r.earlier = c.in_ok-encounter.ensures r in
    let stays : IsInside c.in_ok-encounter.encounter = c.in_default.ensures in
    not-inside c.args.text.now c.args.refusal r c.requires.code (rw same at stays)

pub address_before-requires-clause-given : goal.address_before-requires-clause-given
address_before-requires-clause-given c =
    let r = refused-text c.args.text.now c.args.refusal c.requires.refused in
    let within : c.from.result < length c.in_ok-encounter.encounter.crafts = omega (arith, c.in-Some.ensures.known, c.from.ensures) in
    given-before c.args.text.now c.args.refusal r c.in_ok-encounter.encounter c.crafts.result.now c.from.result c.index-crafts-from.result c.requires.code (c.in_ok-encounter.ensures r) c.crafts.ensures.value within

pub returns : goal.returns
returns c =
    let r = refused-text c.args.text.now c.args.refusal c.requires.refused in
    let value : to_z w32 (of_z w32 c.in-Some.leaving.value) ≡ c.in-Some.leaving.value = search rules in
    outside-told c.args.text.now c.args.refusal r c.in_ok-encounter.encounter c.crafts.result.now c.from.result c.index-crafts-from.result c.in-Some.leaving c.address_before.result _ (c.in_ok-encounter.ensures r) c.crafts.ensures.value c.from.ensures
    c.in-Some.ensures value c.address_before.ensures
