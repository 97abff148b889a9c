use Rattle.std.proofs.Common.{◌<◌, ◌∙◌, sym, length, arith}
use Rattle.acas_base.proofs.ByKey.{found-at, none-at, none-at-end}
use Rattle.acas_base.proofs.fates.find_by_key.Goals as goal

pub returns-then-at-records : goal.returns-then-at-records
returns-then-at-records g c = sym (none-at-end g.T.Keyed.key_of c.args.records.now c.args.wanted c.count_below-at.result c.count_below-at.ensures.parted (omega arith))

pub returns-then-has_key : goal.returns-then-has_key
returns-then-has_key g c =
    let within : c.count_below-at.result < length c.args.records.now = omega (arith, c.count_below-at.ensures.bound, c.if-at-records.false) in
    sym (found-at g.T.Keyed.key_of c.args.records.now c.args.wanted c.count_below-at.result _ c.count_below-at.ensures.parted within c.index-records-at.is (sym c.has_key.ensures ∙ c.if-has_key.true))

pub returns-else-has_key : goal.returns-else-has_key
returns-else-has_key g c =
    let within : c.count_below-at.result < length c.args.records.now = omega (arith, c.count_below-at.ensures.bound, c.if-at-records.false) in
    sym (none-at g.T.Keyed.key_of c.args.records.now c.args.wanted c.count_below-at.result _ c.requires c.count_below-at.ensures.parted within c.index-records-at.is (sym c.has_key.ensures ∙ c.if-has_key.false))
