use Rattle.std.specs.Prelude.{codes}
use Rattle.enc_file.specs.Spelling.{address_at, copies_fields}
use Rattle.enc_file.proofs.Written.{line-after-three}
use Rattle.enc_file.proofs.spelling.spell_plan.Goals as goal

pub returns : goal.returns
returns c =
    let plan = c.args.plan.now in
    let crafts = c.args.crafts.now in
    rw (c.text-2.ensures.added, c.add_copies.ensures.added, c.address_field-2.ensures.added, c.address_in-2.ensures.value, c.address_field.ensures.added, c.address_in.ensures.value, c.text.ensures.added, c.requires) (
    line-after-three (codes "plan") (address_at crafts plan.sender) (address_at crafts plan.receiver) (copies_fields plan.copies plan.first plan.second plan.third)
    )
