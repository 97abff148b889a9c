use Rattle.std.proofs.Common.{rules, ◌≡◌, ◌∙◌, ap, sym, Some, None, to_z, of_z, w32}
use Rattle.std.proofs.lemmas.Option.{none-some}
use Rattle.enc_file.specs.Values.{address_in, field}
use Rattle.fault_text.specs.Lines.{fields_in}
use Rattle.track_text.specs.Told.{ms_in}
use Rattle.track_text.proofs.LatePoints.{found-as, found-point, late-none, tells-late}
use Rattle.track_text.proofs.against.late_why.Goals as goal

pub unreachable-requires-in_default-last_before : goal.unreachable-requires-in_default-last_before
unreachable-requires-in_default-last_before c =
    let spelled : address_in (field (fields_in c.args.line.now) 1) ≡ Some c.in-Some.address = ap address_in (sym c.field.ensures) ∙ sym c.address_in.ensures ∙ c.in-Some.is in
    late-none c.args.text.now c.args.refusal c.args.line.now c.requires.against c.in-Some.address spelled
    (found-as c.args.text.now c.args.refusal.at c.in-Some.address c.last_before.result None c.in_default-last_before.is c.last_before.ensures)

pub unreachable-requires-in_default-ms_in-2 : goal.unreachable-requires-in_default-ms_in-2
unreachable-requires-in_default-ms_in-2 c =
    let place = c.in-Some-last_before.place in
    let last = found-as c.args.text.now c.args.refusal.at c.in-Some.address c.last_before.result (Some place) c.in-Some-last_before.is c.last_before.ensures in
    let f = found-point c.args.text.now c.args.refusal c.requires.against.refused c.in-Some.address place last in
    none-some f.point.ms (sym c.in_default-ms_in-2.is ∙ c.ms_in-2.ensures ∙ ap ms_in c.field-3.ensures ∙ f.says)

pub returns : goal.returns
returns c =
    let place = c.in-Some-last_before.place in
    let last = found-as c.args.text.now c.args.refusal.at c.in-Some.address c.last_before.result (Some place) c.in-Some-last_before.is c.last_before.ensures in
    let spelled : address_in (field (fields_in c.args.line.now) 1) ≡ Some c.in-Some.address = ap address_in (sym c.field.ensures) ∙ sym c.address_in.ensures ∙ c.in-Some.is in
    let ms : ms_in (field (fields_in c.args.line.now) 2) ≡ Some c.in-Some-ms_in.found = ap ms_in (sym c.field-2.ensures) ∙ sym c.ms_in.ensures ∙ c.in-Some-ms_in.is in
    let there : ms_in (field (fields_in place.line.now) 2) ≡ Some c.in-Some-ms_in-2.reached = ap ms_in (sym c.field-3.ensures) ∙ sym c.ms_in-2.ensures ∙ c.in-Some-ms_in-2.is in
    let one : to_z w32 (of_z w32 c.in-Some-ms_in.found) ≡ c.in-Some-ms_in.found = search rules in
    let two : to_z w32 (of_z w32 c.in-Some-ms_in-2.reached) ≡ c.in-Some-ms_in-2.reached = search rules in
    rw (one, two) (tells-late c.args.text.now c.args.refusal c.args.line.now c.requires.against c.in-Some.address c.in-Some-ms_in.found c.in-Some-ms_in-2.reached place spelled ms last there)
