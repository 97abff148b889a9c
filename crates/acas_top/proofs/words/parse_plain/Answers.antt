use Rattle.std.proofs.Common.{subst, sym}
use Rattle.std.specs.Prelude.{IfNone}
use Rattle.std.specs.String.{string_bytes}
use Rattle.acas_top.proofs.ManyWords.{map-five, map-six}
use Rattle.acas_top.specs.Words.{AreNoPlain}
use Rattle.acas_top.proofs.words.parse_plain.Goals as goal

pub returns-in-len5-clause-none : goal.returns-in-len5-clause-none
returns-in-len5-clause-none c =
    let items = map-five string_bytes _ _ _ _ _ c.args.words.now c.in-len5.len_at_least c.in-len5.len_below c.word-item-then-words-lt6.is c.number-item-then-words-lt6.is c.count-item.is c.crafts-item-then-words-lt6.is c.cycles-item-then-words-lt6.is in
    let given = rw (c.as_str-in-len5.ensures.value, c.as_str-in-len5-2.ensures.value, c.as_str-in-len5-3.ensures.value, c.as_str-in-len5-4.ensures.value, c.as_str-in-len5-5.ensures.value) at c.of_five.ensures.none in
    subst (λ words. IfNone c.of_five.result (AreNoPlain words)) (sym items) given

pub returns-in-len6-clause-none : goal.returns-in-len6-clause-none
returns-in-len6-clause-none c =
    let items = map-six string_bytes _ _ _ _ _ _ c.args.words.now c.in-len6.len_at_least c.in-len6.len_below c.word-item-then-words-lt7.is c.quantity-item.is c.address-item.is c.first-item.is c.count-item-then-words-lt7.is c.step-item.is in
    let given = rw (c.as_str-in-len6.ensures.value, c.as_str-in-len6-2.ensures.value, c.as_str-in-len6-3.ensures.value, c.as_str-in-len6-4.ensures.value, c.as_str-in-len6-5.ensures.value, c.as_str-in-len6-6.ensures.value) at c.of_six.ensures.none in
    subst (λ words. IfNone c.of_six.result (AreNoPlain words)) (sym items) given
