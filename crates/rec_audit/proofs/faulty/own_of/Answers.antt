use Rattle.std.proofs.Common.{arith, sym}
use Rattle.rec_audit.proofs.Rightly.{own-read, own-unread, rest-of}
use Rattle.rec_audit.specs.Fields.{fields_of}
use Rattle.rec_audit.proofs.faulty.own_of.Goals as goal

pub returns-in-Some : goal.returns-in-Some
returns-in-Some c = λ n low there.
    let rest = rest-of c.of-fields.result c.next.new.self c.next.result c.next.ensures in
    own-read c.args.crafts n c.in-Some.own (fields_of c.args.body.now) c.next.new.self c.number.new.self (rw c.of-fields.ensures at rest) (omega (arith, c.in-Some.ensures.0, c.ranges.crafts)) (omega (arith, low, c.ranges.crafts)) there c.in-Some.ensures.1

pub returns-in-None : goal.returns-in-None
returns-in-None c = λ n low there.
    let rest = rest-of c.of-fields.result c.next.new.self c.next.result c.next.ensures in
    own-unread c.args.crafts n (fields_of c.args.body.now) c.next.new.self (rw c.of-fields.ensures at rest) there (λ m more within. c.in-None.ensures m more (within.0, omega (arith, within.1, c.from.ensures))) low
