use Rattle.air_journal.proofs.Worlds.{same-cells}
use Rattle.air_journal.proofs.state_laws.worlds_law.Goals as goal
use Rattle.air_journal.specs.Airs.{air_of}

pub returns : goal.returns
returns c = λ sees told.
    let e = air_of c.args.a.now.encounter in
    let f = air_of c.args.b.now.encounter in
    same-cells e f c.args.a.now.journal c.args.b.now.journal c.legal_law.ensures.legal c.legal_law-2.ensures.legal
    (c.worlds_law.ensures e f c.args.a.now.journal c.args.b.now.journal c.legal_law.ensures.legal c.legal_law-2.ensures.legal)
    c.args.own c.args.cycle c.requires.made_in_a c.requires.made_in_b (c.alike_law.ensures c.args.a.now.encounter c.args.b.now.encounter c.args.own c.args.cycle sees) told
