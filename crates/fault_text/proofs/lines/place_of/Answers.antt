use Rattle.std.proofs.Common.{◌∷◌, ◌++◌, [], ap, sym, false, refl, arith}
use Rattle.fault_text.specs.Lines.{file_lines, lines_after}
use Rattle.fault_text.proofs.FirstLine.{is-blank, is-no-blank, moved, passed-blank, passed-record}
use Rattle.fault_text.proofs.lines.place_of.Goals as goal
use Rattle.fault_text.proofs.lines.place_of.Goals.{then-not-is_empty+else-left-eq1, else-not-is_empty}

pub loop-rest-init : goal.loop-rest-init
loop-rest-init c = record {
  before = [];
  whole = ap (lines_after false) (sym c.unmarked-rest.ensures.bare);
  number = refl;
  behind = refl;
  left = omega arith;
  some = c.requires.counted;
  room = omega (arith, c.unmarked-rest.ensures.short);
}

pub loop-rest-preserved : goal.loop-rest-preserved
loop-rest-preserved c =
    let inv = c.loop-rest.invariant in
    let line = c.cut.result.0.now in
    let whole = moved (file_lines c.args.text.now) inv.before line c.loop-rest.rest.now c.cut.result.1.now inv.whole c.cut.ensures.first in
    elim c.if-not-is_empty.branch [
      | then-not-is_empty+else-left-eq1 w ↦
          let p = passed-record inv.before line (is-no-blank line (sym w.if-not-is_empty.ensures)) in record {
            before = inv.before ++ line ∷ [];
            whole = whole;
            number = omega (arith, inv.number, p.size);
            behind = omega (arith, w.behind-is, inv.number, p.behind-now);
            left = omega (arith, w.left-is, inv.left, p.records-now);
            some = omega (arith, w.left-is, w.if-left-eq1.false, inv.some);
            room = omega (arith, inv.room, p.size, c.cut.ensures.shorter);
          }
      | else-not-is_empty w ↦
          let p = passed-blank inv.before line (is-blank line (sym w.if-not-is_empty.ensures)) in record {
            before = inv.before ++ line ∷ [];
            whole = whole;
            number = omega (arith, inv.number, p.size);
            behind = omega (arith, w.behind-is, inv.behind, p.behind-now);
            left = omega (arith, w.left-is, inv.left, p.records-now);
            some = omega (arith, w.left-is, inv.some);
            room = omega (arith, inv.room, p.size, c.cut.ensures.shorter);
          }
    ]
