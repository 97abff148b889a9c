use Rattle.std.proofs.Common.{◌<◌, ap, get_or, length, sym, subst, ◌∙◌}
use Rattle.std.proofs.lemmas.Bool.{ltb-true}
use Rattle.air_journal.proofs.Usually.{of-record}
use Rattle.air_journal.proofs.usual.fate_at.Goals as goal

pub returns-then-is_of : goal.returns-then-is_of
returns-then-is_of c =
    let fates = c.fates.ensures in
    let read = c.in-Some.ensures.lookup in
    let it = c.is_of.ensures c.if-is_of.true in
    of-record c.args.encounter.now c.args.sender c.args.receiver c.args.number c.args.at c.in-Some.fate.now c.in-Some.fate.now fates.valid.records.fates.1
    (subst (λ list. c.args.at < length list) fates.value (ltb-true _ _ (sym read.0)))
    (read.1 ∙ ap (λ list. get_or list c.args.at c.in-Some.fate.now) fates.value)
    it.0 it.1 it.2
