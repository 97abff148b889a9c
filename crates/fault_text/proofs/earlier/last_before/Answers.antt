use Rattle.std.proofs.Common.{◌∷◌, ◌++◌, [], sym, ◌∙◌, arith}
use Rattle.fault_text.specs.Lines.{file_lines}
use Rattle.fault_text.proofs.FirstLine.{is-blank, is-no-blank, moved, passed-blank, passed-record}
use Rattle.fault_text.proofs.LastLine.{blank-line, kept-last, new-last, other-line}
use Rattle.fault_text.proofs.earlier.last_before.Goals as goal
use Rattle.fault_text.proofs.earlier.last_before.Goals.{then-not-is_empty, then-is_passed, else-is_passed, else-not-is_empty}

pub loop-left-preserved : goal.loop-left-preserved
loop-left-preserved g c =
    let inv = c.loop-left.invariant in
    let holds = g.T.LineTest.holds c.args.test.now in
    let line = c.cut.result.0.now in
    let whole = moved (file_lines c.args.text.now) inv.before line c.loop-left.rest.now c.cut.result.1.now inv.whole c.cut.ensures.first in
    elim c.if-not-is_empty.branch [
      | then-not-is_empty w ↦
          let full = is-no-blank line (sym w.if-not-is_empty.ensures) in
          let p = passed-record inv.before line full in
          record {
            before = inv.before ++ line ∷ [];
            whole = whole;
            number = omega (arith, inv.number, p.size);
            left = omega (arith, w.left-is, inv.left, p.records-now, c.loop-left-test.true);
            some = omega (arith, w.left-is, c.loop-left-test.true);
            room = omega (arith, inv.room, p.size, c.cut.ensures.shorter);
            found = rw w.found-is (elim w.if-is_passed.branch [
              | then-is_passed v ↦ rw v.found-is (new-last holds inv.before (record { number = c.loop-left.number; line = c.cut.result.0 }) full (sym w.is_passed.ensures ∙ v.if-is_passed.true) inv.number)
              | else-is_passed v ↦ rw v.found-is (kept-last holds inv.before line c.loop-left.found inv.found (other-line holds line full (sym w.is_passed.ensures ∙ v.if-is_passed.false)))
            ]);
          }
      | else-not-is_empty w ↦
          let blank = is-blank line (sym w.if-not-is_empty.ensures) in
          let p = passed-blank inv.before line blank in
          record {
            before = inv.before ++ line ∷ [];
            whole = whole;
            number = omega (arith, inv.number, p.size);
            left = omega (arith, w.left-is, inv.left, p.records-now);
            some = omega (arith, w.left-is, inv.some);
            room = omega (arith, inv.room, p.size, c.cut.ensures.shorter);
            found = rw w.found-is (kept-last holds inv.before line c.loop-left.found inv.found (blank-line holds line blank));
          }
    ]
