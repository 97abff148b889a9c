use Rattle.std.proofs.Common.{◌∙◌, ◌∷◌, ◌++◌, [], ap, sym, false, refl, arith}
use Rattle.fault_text.specs.Lines.{file_lines, lines_after}
use Rattle.fault_text.proofs.FirstLine.{is-blank, is-no-blank, moved, passed-blank, passed-record}
use Rattle.fault_text.proofs.Counted.{all-counted}
use Rattle.fault_text.proofs.lines.record_count.Goals as goal

pub loop-rest-init : goal.loop-rest-init
loop-rest-init c = record {
  before = [];
  whole = ap (lines_after false) (sym c.unmarked-rest.ensures.bare);
  count = refl;
  room = omega (arith, c.unmarked-rest.ensures.short);
}

pub loop-rest-preserved-then-not-is_empty : goal.loop-rest-preserved-then-not-is_empty
loop-rest-preserved-then-not-is_empty c =
    let inv = c.loop-rest.invariant in
    let line = c.cut.result.0.now in
    let whole = moved (file_lines c.args.text.now) inv.before line c.loop-rest.rest.now c.cut.result.1.now inv.whole c.cut.ensures.first in
    let p = passed-record inv.before line (is-no-blank line (sym c.is_empty-in-loop-rest.ensures ∙ c.if-not-is_empty.true)) in
    record { before = inv.before ++ line ∷ []; whole = whole; count = omega (arith, inv.count, p.records-now); room = omega (arith, inv.room, c.cut.ensures.shorter) }

pub loop-rest-preserved : goal.loop-rest-preserved
loop-rest-preserved c =
    let inv = c.loop-rest.invariant in
    let line = c.cut.result.0.now in
    let whole = moved (file_lines c.args.text.now) inv.before line c.loop-rest.rest.now c.cut.result.1.now inv.whole c.cut.ensures.first in
    let p = passed-blank inv.before line (is-blank line (sym c.is_empty-in-loop-rest.ensures ∙ c.if-not-is_empty.false)) in
    record { before = inv.before ++ line ∷ []; whole = whole; count = omega (arith, inv.count, p.records-now); room = omega (arith, inv.room, c.cut.ensures.shorter) }

pub returns : goal.returns
returns c = all-counted c.args.text.now c.loop-rest.rest.now c.loop-rest.invariant.before c.loop-rest.count c.loop-rest.invariant.whole (sym c.is_empty.ensures ∙ c.loop-rest-test.false) c.loop-rest.invariant.count
