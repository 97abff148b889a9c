use Rattle.std.proofs.Common.{◌≡◌}
use Rattle.csv.specs.Records.{fields_of}
use Rattle.enc_file.specs.Rows.{after_read, rows_left}
use Rattle.enc_file.proofs.RowsLeft.{passed-on, read-left}
use Rattle.enc_file.proofs.rows.Rows.read.Goals as goal

pub returns-clause-read : goal.returns-clause-read
returns-clause-read c =
    let done = c.read_byte_record in
    let read = read-left c.self.inside.reader done.new.self done.result (fields_of done.new.row) c.self.invariant done.ensures.failed done.ensures.reads in
    passed-on done.result c.map_err.result (λ found. c.args.self.now ≡ after_read found (fields_of done.new.row) (rows_left done.new.self)) _ c.map_err.ensures.cases (rw c.self.view_is at read)
