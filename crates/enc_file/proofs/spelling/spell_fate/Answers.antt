use Rattle.std.specs.Prelude.{codes}
use Rattle.enc_file.specs.Spelling.{address_at, copies_fields, number}
use Rattle.enc_file.proofs.Written.{line-after-four}
use Rattle.enc_file.proofs.spelling.spell_fate.Goals as goal

pub returns : goal.returns
returns c =
    let fate = c.args.fate.now in
    let crafts = c.args.crafts.now in
    rw (c.text-2.ensures.added, c.add_copies.ensures.added, c.u16_field.ensures.added, c.address_field-2.ensures.added, c.address_in-2.ensures.value, c.address_field.ensures.added, c.address_in.ensures.value, c.text.ensures.added, c.requires) (
    line-after-four (codes "fate") (address_at crafts fate.sender) (address_at crafts fate.receiver) (number fate.number) (copies_fields fate.copies fate.first fate.second fate.third)
    )
