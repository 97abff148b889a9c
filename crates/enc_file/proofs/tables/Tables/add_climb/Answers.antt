use Rattle.std.proofs.Common.{◌≡◌, ◌∙◌, ap, map, set, sym, Some, false, w32}
use Rattle.std.specs.Prelude.{AllPairs}
use Rattle.std.proofs.lemmas.Int.{to_z-of_z}
use Rattle.acas_base.specs.Encounter.{AreApart}
use Rattle.acas_base.specs.declared.craft.CraftSpec.{CraftSpec}
use Rattle.enc_file.specs.Earlier.{crafts_of, index_of, with_ceiling}
use Rattle.enc_file.specs.Faults.{has_ceiling}
use Rattle.enc_file.proofs.Climbing.{ceiling-set}
use Rattle.enc_file.proofs.Crafted.{crafts-read}
use Rattle.enc_file.proofs.Refused.{climb-fine}
use Rattle.enc_file.proofs.Tabled.{held-climb}
use Rattle.enc_file.proofs.tables.Tables.add_climb.Goals as goal

pub returns : goal.returns
returns c = λ earlier going format h.
    let items = c.args.self.now.crafts.items in
    let i = c.in-Some.craft in
    let before = c.index_mut.result.now in
    let at : index_of items c.args.address ≡ Some i = sym c.index_of.ensures ∙ c.in-Some.is in
    let found : index_of (crafts_of earlier) c.args.address ≡ Some i = ap (λ crafts. index_of crafts c.args.address) (sym h.crafts) ∙ at in
    let apart : AllPairs AreApart items = rw h.crafts (crafts-read earlier h.read).apart in
    let ceilings : set items i (record before { ceiling = Some c.args.limit }) ≡ map (with_ceiling c.args.address c.args.limit) (crafts_of earlier) =
    ap (λ (craft : CraftSpec). set items i (record craft { ceiling = Some c.args.limit })) c.index_mut.ensures.value ∙ ceiling-set items c.args.address i c.args.limit before apart at
    ∙ ap (map (with_ceiling c.args.address c.args.limit)) h.crafts in
    let bare : has_ceiling items i ≡ false = ap (λ crafts. has_ceiling crafts i) (sym c.deref.ensures.value) ∙ sym c.has_ceiling.ensures ∙ c.if-has_ceiling.false in
    let unlimited : has_ceiling (crafts_of earlier) i ≡ false = ap (λ crafts. has_ceiling crafts i) (sym h.crafts) ∙ bare in
    let fine = climb-fine earlier c.args.address c.args.limit i found unlimited in
    rw (to_z-of_z w32 c.args.limit c.ranges.limit) (held-climb earlier c.args.self.now c.args.address c.args.limit _ h going (c.requires.said, format, fine) ceilings)
