use Rattle.std.proofs.Common.{◌≡◌, ◌∙◌, ◌∷◌, ap, length, arith}
use Rattle.csv.specs.Records.{fields_of}
use Rattle.enc_file.specs.Reading.{read_from, reading_of}
use Rattle.enc_file.specs.Rows.{after_read}
use Rattle.enc_file.proofs.WholeText.{on-next, passed-on, read-inside, refused-at}
use Rattle.enc_file.proofs.reading.read.Goals as goal

pub loop-row-preserved : goal.loop-row-preserved
loop-row-preserved c =
    let inv = c.loop-row.invariant in
    let row = fields_of c.read.new.row in
    let left : c.loop-row.rows ≡ row ∷ c.read.new.self = c.in_ok-read.ensures.read ∙ ap (λ found. after_read found row c.read.new.self) c.if-branch.true in
    let taken = rw (c.in_ok-take.was) at (c.take.ensures inv.earlier inv.holds) in
    record {
      earlier = taken.0 ∷ inv.earlier;
      holds = taken.2;
      same = inv.same ∙ ap (read_from inv.earlier) left ∙ on-next inv.earlier row c.read.new.self taken.0 taken.1;
      few = omega (arith, inv.few, ap length left);
    }

pub returns-in_err-take-clause-reading : goal.returns-in_err-take-clause-reading
returns-in_err-take-clause-reading c =
    let inv = c.loop-row.invariant in
    let row = fields_of c.read.new.row in
    let left : c.loop-row.rows ≡ row ∷ c.read.new.self = c.in_ok-read.ensures.read ∙ ap (λ found. after_read found row c.read.new.self) c.if-branch.true in
    let error = c.in_err-take.field-0.0 in
    let refused = rw (c.in_err-take.was) at (c.take.ensures inv.earlier inv.holds) in
    passed-on (reading_of c.args.bytes.now) c.from_residual-in_err-take.result error c.from_residual-in_err-take.ensures.1
    (refused-at (reading_of c.args.bytes.now) inv.earlier row c.read.new.self error (inv.same ∙ ap (read_from inv.earlier) left) refused)

pub returns-clause-inside : goal.returns-clause-inside
returns-clause-inside c =
    let inv = c.loop-row.invariant in
    read-inside inv.earlier c.finish.result inv.holds.read (c.finish.ensures inv.earlier inv.holds)
