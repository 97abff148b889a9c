use Rattle.std.proofs.Common.{◌-◌, ap, ap₂, ◌∙◌, sym, arith, drop, length, length-drop, map, take}
use Rattle.std.proofs.lemmas.List.{drop-map, take-map, take_all}
use Rattle.std.specs.String.{string_bytes}
use Rattle.labels.specs.Labels.{name_count}
use Rattle.labels.proofs.labels.split_words.Goals as goal

pub returns-clause-names : goal.returns-clause-names
returns-clause-names c =
    let rest = c.after_start-rest.ensures in
    let count = c.name_count-count.ensures.value ∙ ap name_count rest in
    sym (take-map string_bytes c.name_count-count.result c.after_start-rest.result.now) ∙ ap₂ take count rest

pub returns-clause-marks : goal.returns-clause-marks
returns-clause-marks c =
    let all = c.after_start-rest.result.now in
    let n = c.name_count-count.result in
    let rest = c.after_start-rest.ensures in
    let count = c.name_count-count.ensures.value ∙ ap name_count rest in
    let size = length-drop n all in
    ap (map string_bytes) (take_all (length all - n) (drop n all) (omega (arith, size))) ∙ sym (drop-map string_bytes n all) ∙ ap₂ drop count rest
