use Rattle.std.proofs.Common.{◌≡◌, ◌∙◌, refl, sym, ap, ◌∷◌, [], ◌++◌, length, length-append, append_assoc, arith}
use Rattle.std.proofs.lemmas.List.{append-nil}
use Rattle.csv.specs.Records.{fields_of}
use Rattle.enc_file.specs.Records.{records_of}
use Rattle.enc_file.specs.Rows.{after_read}
use Rattle.track_text.proofs.Kept.{count-of}
use Rattle.track_text.proofs.WholeTracks.{passed-more, passed-on, read-inside, refused-at, whole-read}
use Rattle.track_text.proofs.reading.read.Goals as goal

pub loop-row-init : goal.loop-row-init
loop-row-init c = record {
  read = [];
  all = sym c.of-rows.ensures.rows;
  few = omega (arith, c.of-rows.ensures.few);
  earlier = [];
  count = refl;
  holds = c.in_ok-tables.ensures;
  passed = refl;
}

pub loop-row-preserved : goal.loop-row-preserved
loop-row-preserved c =
    let inv = c.loop-row.invariant in
    let row = fields_of c.read.new.row in
    let more = c.read.new.self in
    let left : c.loop-row.rows ≡ row ∷ more = c.in_ok-read.ensures.read ∙ ap (λ found. after_read found row more) c.if-branch.true in
    let taken = rw (c.in_ok-take.was) at (c.take.ensures inv.earlier inv.holds) in
    record {
      read = inv.read ++ row ∷ [];
      all = inv.all ∙ ap (λ rows. inv.read ++ rows) left ∙ sym (append_assoc inv.read (row ∷ []) more);
      few = omega (arith, inv.few, ap length left, length-append inv.read (row ∷ []));
      earlier = taken.1.0 ∷ inv.earlier;
      count = omega (arith, inv.count, length-append inv.read (row ∷ []));
      holds = taken.1.2;
      passed = passed-more [] inv.earlier inv.read row taken.1.0 inv.passed taken.0 taken.1.1;
    }

pub take-requires-clause-room : goal.take-requires-clause-room
take-requires-clause-room c =
    let inv = c.loop-row.invariant in
    omega (arith, c.requires, count-of c.loop-row.tables.made inv.earlier c.loop-row.tables inv.holds, inv.count, inv.few)

pub returns-in_err-take-clause-reading : goal.returns-in_err-take-clause-reading
returns-in_err-take-clause-reading c =
    let inv = c.loop-row.invariant in
    let row = fields_of c.read.new.row in
    let more = c.read.new.self in
    let left : c.loop-row.rows ≡ row ∷ more = c.in_ok-read.ensures.read ∙ ap (λ found. after_read found row more) c.if-branch.true in
    let error = c.in_err-take.field-0.0 in
    let refused = rw (c.in_err-take.was) at (c.take.ensures inv.earlier inv.holds) in
    passed-on c.args.bytes.now c.from_residual-in_err-take.result error c.from_residual-in_err-take.ensures.1
    (refused-at c.args.bytes.now inv.earlier inv.read row more error (inv.all ∙ ap (λ rows. inv.read ++ rows) left) inv.count inv.passed refused)

pub finish-requires : goal.finish-requires
finish-requires c =
    let inv = c.loop-row.invariant in
    record { room = omega (arith, c.requires, count-of c.loop-row.tables.made inv.earlier c.loop-row.tables inv.holds, inv.count, inv.few) }

pub returns-clause-reading : goal.returns-clause-reading
returns-clause-reading c =
    let inv = c.loop-row.invariant in
    let left : c.loop-row.rows ≡ [] = c.in_ok-read.ensures.read ∙ ap (λ found. after_read found (fields_of c.read.new.row) c.read.new.self) c.if-branch.false in
    let all : records_of c.args.bytes.now ≡ inv.read = inv.all ∙ ap (λ rows. inv.read ++ rows) left ∙ append-nil inv.read in
    whole-read c.args.bytes.now inv.earlier inv.read c.finish.result all inv.count inv.passed (c.finish.ensures inv.earlier inv.holds)

pub returns-clause-inside : goal.returns-clause-inside
returns-clause-inside c =
    let inv = c.loop-row.invariant in
    read-inside inv.earlier c.finish.result (c.finish.ensures inv.earlier inv.holds)
