use Rattle.std.proofs.Common.{◌≡◌, ℕ, ◌+◌, List, ◌++◌, length, length-append, sym, ap, ap₂, ◌∙◌, subst, arith}
use Rattle.std.specs.Prelude.{map, option_to_list, Option}
use Rattle.fault_text.specs.Lines.{fields_in}
use Rattle.idle_notes.specs.Noted.{craft_notes}
use Rattle.idle_notes.specs.Sentences.{sentence}
use Rattle.idle_notes.specs.Told.{still_told}
use Rattle.idle_notes.specs.declared.note.Note.{Note}
use Rattle.idle_notes.proofs.Telling.{still-more}
use Rattle.idle_notes.proofs.notes.tell_craft.Goals as goal

pub returns-clause-lines : goal.returns-clause-lines
returns-clause-lines g c =
    let f = sentence c.args.number in
    let low = option_to_list c.low_note.result in
    let alone = option_to_list c.alone_note.result in
    let below = option_to_list c.ground_note.result in
    let told = c.args.told in
    let after = c.tell-after_low.result in
    let both = c.tell-after_alone.result in
    let count = length-append low alone in
    let two = still-more f told after low alone c.tell-after_low.ensures.count in
    let three = still-more f told both (low ++ alone) below (let a = c.tell-after_low.ensures.count in let b = c.tell-after_alone.ensures.count in omega arith) in
    let notes : (low ++ alone) ++ below ≡ craft_notes c.args.encounter.now (fields_in c.args.line.now) =
    ap₂ (λ (xs ys : List Note). xs ++ ys)
    (ap₂ (λ (xs ys : List Note). xs ++ ys) (ap (λ (o : Option Note). option_to_list o) c.low_note.ensures) (ap (λ (o : Option Note). option_to_list o) c.alone_note.ensures))
    (ap (λ (o : Option Note). option_to_list o) c.ground_note.ensures) in
    let then = g.met.S.LineSink.then in
    let first = subst (g.S.LineSink.took c.args.sink.now c.tell-after_alone.new.sink) (sym two) (then _ _ _ _ _ c.tell-after_low.ensures.lines c.tell-after_alone.ensures.lines) in
    let all = subst (g.S.LineSink.took c.args.sink.now c.tell.new.sink) (sym three) (then _ _ _ _ _ first c.tell.ensures.lines) in
    subst (λ (xs : List Note). g.S.LineSink.took c.args.sink.now c.tell.new.sink (still_told told (map f xs))) notes all
