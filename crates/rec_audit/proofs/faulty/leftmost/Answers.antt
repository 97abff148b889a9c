use Rattle.std.proofs.Common.{◌∙◌, ◌+◌, ap, arith, length, subst, sym}
use Rattle.rec_audit.specs.Faulty.{field_at}
use Rattle.rec_audit.proofs.Rightly.{here-left, none-right, rest-of, step-left, step-right, value-moved}
use Rattle.rec_audit.proofs.faulty.leftmost.Goals as goal

pub returns-then-not-is_value : goal.returns-then-not-is_value
returns-then-not-is_value c =
    c.loop-found.invariant.some c.field_at-name.result c.in-Some.found.now
    (here-left c.args.crafts c.args.own c.loop-found.place c.args.kind c.loop-found.fields c.next-in-loop-found.new.self c.in-Some.found.now c.field_at-name.result c.in-Some.ensures c.field_at-name.ensures c.if-not-is_value.ensures)
