use Rattle.std.proofs.Common.{◌+◌, ◌≡◌, ◌∙◌, refl, sym, ap, ◌∷◌, [], ◌++◌, length, length-append, append_assoc, arith}
use Rattle.std.proofs.lemmas.Bool.{false≢true}
use Rattle.csv.specs.Records.{fields_of}
use Rattle.enc_file.specs.Earlier.{encounter_by}
use Rattle.enc_file.specs.Faults.{miscounts}
use Rattle.enc_file.specs.Reading.{read_from, reading_of}
use Rattle.enc_file.specs.Records.{records_of}
use Rattle.enc_file.specs.Rows.{after_read}
use Rattle.enc_file.specs.declared.record.Record.TheVariants as said
use Rattle.enc_file.proofs.WholeText.{on-next, refused-at}
use Rattle.fault_text.proofs.EndRefused.{one-place, passed-more, read-all, refused-as-end}
use Rattle.fault_text.proofs.Refusals.{counted-at, refused-text}
use Rattle.fault_text.proofs.before.encounter_among.Goals as goal

pub loop-left-init : goal.loop-left-init
loop-left-init c = record {
  read = [];
  all = sym c.requires.rows;
  earlier = [];
  count = refl;
  holds = c.requires.none;
  same = ap (read_from []) (sym c.requires.rows);
  passed = λ more all h. h;
  left = omega arith;
  some = counted-at c.args.text.now c.args.refusal c.requires.refused;
}

pub loop-left-preserved : goal.loop-left-preserved
loop-left-preserved c =
    let inv = c.loop-left.invariant in
    let row = fields_of c.read.new.row in
    let more = c.read.new.self in
    let left : c.loop-left.rows ≡ row ∷ more = c.in_ok-read.ensures.read ∙ ap (λ found. after_read found row more) c.if-not-branch.false in
    let taken = rw (c.in-Ok.is) at (c.take.ensures inv.earlier inv.holds) in
    record {
      read = inv.read ++ row ∷ [];
      all = inv.all ∙ ap (λ rows. inv.read ++ rows) left ∙ sym (append_assoc inv.read (row ∷ []) more);
      earlier = taken.0 ∷ inv.earlier;
      count = omega (arith, inv.count, length-append inv.read (row ∷ []));
      holds = taken.2;
      same = inv.same ∙ ap (read_from inv.earlier) left ∙ on-next inv.earlier row more taken.0 taken.1;
      passed = λ more all. passed-more inv.earlier inv.read more row taken.0 all inv.passed taken.1;
      left = omega (arith, inv.left, c.loop-left-test.true);
      some = omega (arith, c.loop-left-test.true);
    }

pub unreachable-requires : goal.unreachable-requires
unreachable-requires c =
    let inv = c.loop-left.invariant in
    let left : c.loop-left.rows ≡ [] = c.in_ok-read.ensures.read ∙ ap (λ found. after_read found (fields_of c.read.new.row) c.read.new.self) c.if-not-branch.true in
    let all : records_of c.args.text.now ≡ inv.read ++ [] = inv.all ∙ ap (λ rows. inv.read ++ rows) left in
    let r = refused-text c.args.text.now c.args.refusal c.requires.refused in
    let some = (refused-as-end (records_of c.args.text.now) c.args.refusal r c.requires.code).some in
    omega (arith, r.at, some, ap length all, length-append inv.read [], inv.count, inv.left, c.loop-left-test.true)

pub unreachable-requires-in-Err-Refused : goal.unreachable-requires-in-Err-Refused
unreachable-requires-in-Err-Refused c =
    let inv = c.loop-left.invariant in
    let row = fields_of c.read.new.row in
    let more = c.read.new.self in
    let left : c.loop-left.rows ≡ row ∷ more = c.in_ok-read.ensures.read ∙ ap (λ found. after_read found row more) c.if-not-branch.false in
    let refused = rw (c.in-Err-Refused.is) at (c.take.ensures inv.earlier inv.holds) in
    let told = refused-at (reading_of c.args.text.now) inv.earlier row more c.in-Err-Refused.field-0 (inv.same ∙ ap (read_from inv.earlier) left) refused in
    let at = one-place c.args.text.now c.args.refusal c.in-Err-Refused.field-0-0 (length inv.earlier) _ c.in-Err-Refused.field-0 c.requires.refused told refused c.in-Err-Refused.field-0-is in
    omega (arith, inv.left, c.loop-left-test.true, at)

pub unreachable-requires-in-None : goal.unreachable-requires-in-None
unreachable-requires-in-None c =
    let inv = c.loop-left.invariant in
    let r = refused-text c.args.text.now c.args.refusal c.requires.refused in
    let at : length inv.earlier + 1 ≡ c.args.refusal.at = omega (arith, inv.left, inv.some, c.loop-left-test.false) in
    let same = read-all c.args.text.now c.args.refusal r inv.earlier inv.read c.loop-left.rows inv.count at inv.all inv.passed in
    let none = rw (c.in-None.is) at (c.in_ok-encounter.ensures inv.earlier inv.holds) in
    false≢true (sym (refused-as-end (records_of c.args.text.now) c.args.refusal r c.requires.code).counted ∙ ap (λ rs. miscounts rs said.End) (sym same) ∙ none)

pub returns : goal.returns
returns c = λ r.
    let inv = c.loop-left.invariant in
    let at : length inv.earlier + 1 ≡ c.args.refusal.at = omega (arith, inv.left, inv.some, c.loop-left-test.false) in
    let same = read-all c.args.text.now c.args.refusal r inv.earlier inv.read c.loop-left.rows inv.count at inv.all inv.passed in
    let made = rw (c.in-Some.is) at (c.in_ok-encounter.ensures inv.earlier inv.holds) in
    made.1 ∙ ap encounter_by same
