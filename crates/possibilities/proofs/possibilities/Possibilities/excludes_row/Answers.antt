use Rattle.std.proofs.Common.{◌≡◌, ap, subst, sym, true, ◌∙◌}
use Rattle.acas_base.specs.Encounter.{Parts}
use Rattle.air_journal.specs.Airs.{air_of}
use Rattle.air_rules.specs.Shape.{coordinate}
use Rattle.possibilities.proofs.Excluded.{never-row}
use Rattle.possibilities.specs.Excluded.{HasNoRow}
use Rattle.possibilities.specs.Rows.{Found, equal_of}
use Rattle.possibilities.proofs.possibilities.Possibilities.excludes_row.Goals as goal

pub returns : goal.returns
returns c = λ none.
    let it = c.args.self.now in
    let here = c.enc.ensures ∙ c.state.ensures.encounter in
    let both : coordinate (air_of it.encounter) c.args.one c.args.other ≡ true = ap (λ (e : Parts). coordinate (air_of e) c.args.one c.args.other) (sym here) ∙ sym c.coordinate.ensures ∙ c.if-not-coordinate.false in
    let list = c.list.ensures ∙ ap (λ (found : Found). equal_of found.equal c.args.one c.args.other) c.found.ensures in
    never-row it.scope it.encounter c.found_law.ensures.encounter it.found c.found_law.ensures.found c.args.one c.args.other c.args.cycles both c.requires
    (subst (λ n. HasNoRow (equal_of it.found.equal c.args.one c.args.other) n c.args.cycles) c.cycles.ensures.value (subst (λ list. HasNoRow list c.cycles.result c.args.cycles) list (c.has_no_row.ensures none)))
