use Rattle.std.proofs.Common.{◌≡◌, ◌∙◌, ap, sym, refl, Some}
use Rattle.enc_file.specs.Values.{address_in, field}
use Rattle.fault_text.specs.Lines.{fields_in}
use Rattle.fault_text.specs.Rows.{records_in}
use Rattle.fault_text.specs.declared.names.RecordKind.TheVariants as kind
use Rattle.fault_text.proofs.AfterOthers.{last-as, no-stranger, stranger-none, stranger-some}
use Rattle.fault_text.proofs.Repeats.{of-craft}
use Rattle.fault_text.proofs.against.stranger.Goals as goal

pub returns-in-Some : goal.returns-in-Some
returns-in-Some c = λ earlier b.
    let sought = of-craft kind.Craft c.in_ok-address.address in
    let spelled : address_in (field (fields_in c.args.line.now) c.args.place) ≡ Some c.in_ok-address.address = ap address_in (sym c.field-found.ensures) ∙ sym c.address_in.ensures ∙ c.in_ok-address.was in
    let last = last-as c.args.text.now c.args.at sought sought c.last_before.result _ refl c.in-Some.is c.last_before.ensures in
    no-stranger (records_in earlier) (fields_in c.args.line.now) c.args.place c.in_ok-address.address spelled (stranger-some c.args.text.now c.args.at earlier c.in_ok-address.address c.in-Some.field-0 b last)

pub returns-in-None : goal.returns-in-None
returns-in-None c = λ earlier b.
    let sought = of-craft kind.Craft c.in_ok-address.address in
    let last = last-as c.args.text.now c.args.at sought sought c.last_before.result _ refl c.in-None.is c.last_before.ensures in
    stranger-none c.args.text.now c.args.at earlier (fields_in c.args.line.now) c.args.place c.field-found.result.now c.in_ok-address.address b c.field-found.ensures (sym c.address_in.ensures ∙ c.in_ok-address.was) last
