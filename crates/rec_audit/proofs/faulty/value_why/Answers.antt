use Rattle.rec_audit.proofs.Rightly.{all-right, never-spelled}
use Rattle.rec_audit.specs.Fields.{fields_of}
use Rattle.rec_audit.proofs.faulty.value_why.Goals as goal

pub unreachable-requires : goal.unreachable-requires
unreachable-requires c =
    let fs = fields_of c.args.body.now in
    never-spelled c.args.crafts fs (all-right c.args.crafts c.own_of.result c.args.kind fs c.requires.crafts.0 c.requires.crafts.1 c.requires.named c.requires.counted c.own_of.ensures c.in-None.ensures) c.requires.unspelled
