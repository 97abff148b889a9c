use Rattle.std.proofs.Common.{◌≡◌, ℕ, ◌+◌, List, length, sym, ap, ◌∙◌, subst, arith}
use Rattle.std.specs.Prelude.{map, Option}
use Rattle.enc_file.specs.Conditions.{kind_named}
use Rattle.fault_text.specs.Lines.{fields_in}
use Rattle.fault_text.specs.Told.{stated_kinds}
use Rattle.idle_notes.specs.Sentences.{sentence}
use Rattle.idle_notes.specs.Told.{still_told}
use Rattle.idle_notes.specs.declared.note.Note.{Note}
use Rattle.idle_notes.proofs.NamedNotes.{named-notes}
use Rattle.idle_notes.proofs.Telling.{map-length, still-none}
use Rattle.idle_notes.proofs.notes.tell_line.Goals as goal

pub returns-in-Some-clause-count : goal.returns-in-Some-clause-count
returns-in-Some-clause-count g c =
    let s = c.args.notes.now in
    let is = named-notes s.encounter s.journal _ (fields_in c.args.line.now) (ap stated_kinds (sym c.in-Some.is) ∙ c.kind_of.ensures ∙ ap (kind_named 2) c.field.ensures) in
    c.tell_kind.ensures.count ∙ ap (λ (n : ℕ). c.args.told + n) (sym (map-length (sentence c.args.number) _) ∙ ap (λ (xs : List Note). length (map (sentence c.args.number) xs)) is)

pub returns-in-Some-clause-lines : goal.returns-in-Some-clause-lines
returns-in-Some-clause-lines g c =
    let s = c.args.notes.now in
    let is = named-notes s.encounter s.journal _ (fields_in c.args.line.now) (ap stated_kinds (sym c.in-Some.is) ∙ c.kind_of.ensures ∙ ap (kind_named 2) c.field.ensures) in
    subst (λ (xs : List Note). g.S.LineSink.took c.args.sink.now c.tell_kind.new.sink (still_told c.args.told (map (sentence c.args.number) xs))) is c.tell_kind.ensures.lines

pub returns-in-None-clause-count : goal.returns-in-None-clause-count
returns-in-None-clause-count g c =
    let s = c.args.notes.now in
    let is = named-notes s.encounter s.journal _ (fields_in c.args.line.now) (ap stated_kinds (sym c.in-None.is) ∙ c.kind_of.ensures ∙ ap (kind_named 2) c.field.ensures) in
    let same = ap (λ (xs : List Note). length (map (sentence c.args.number) xs)) is in
    omega (arith, same)

pub returns-in-None-clause-lines : goal.returns-in-None-clause-lines
returns-in-None-clause-lines g c =
    let s = c.args.notes.now in
    let is = named-notes s.encounter s.journal _ (fields_in c.args.line.now) (ap stated_kinds (sym c.in-None.is) ∙ c.kind_of.ensures ∙ ap (kind_named 2) c.field.ensures) in
    subst (λ (xs : List Note). g.S.LineSink.took c.args.sink.now c.args.sink.now (still_told c.args.told (map (sentence c.args.number) xs))) is
    (subst (λ (ls : List (List ℕ)). g.S.LineSink.took c.args.sink.now c.args.sink.now ls) (sym (still-none c.args.told)) (g.met.S.LineSink.nothing _))
