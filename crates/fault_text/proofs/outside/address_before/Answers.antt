use Rattle.std.proofs.Common.{◌∙◌, ap, refl, sym}
use Rattle.std.proofs.lemmas.Bool.{false≢true}
use Rattle.enc_file.specs.Conditions.{is_given}
use Rattle.fault_text.specs.declared.names.RecordKind.TheVariants as kind
use Rattle.fault_text.proofs.AfterOthers.{last-as, stranger-unknown}
use Rattle.fault_text.proofs.RefusedRows.{all_said, before-refused, in-all}
use Rattle.fault_text.proofs.Repeats.{of-craft}
use Rattle.fault_text.proofs.outside.address_before.Goals as goal

pub unreachable-requires : goal.unreachable-requires
unreachable-requires c =
    let text = c.args.text.now in
    let r = c.requires.given.refused in
    let last = last-as text c.args.refusal.at (of-craft kind.Craft c.args.address) (of-craft kind.Craft c.args.address) c.last_before.result _ refl c.in-None.is c.last_before.ensures in
    let unknown = stranger-unknown text c.args.refusal.at (all_said r.earlier) c.args.address (before-refused text c.args.refusal r) last in
    false≢true (sym unknown ∙ ap (λ rs. is_given rs c.args.address) (in-all r.earlier) ∙ c.requires.given.given)
