use Rattle.std.proofs.Common.{◌≡◌, ◌+◌, length, refl, arith}
use Rattle.csv.specs.Reading.{strip_bom}
use Rattle.csv.specs.declared.parser.State.TheVariants as st
use Rattle.enc_file.specs.Records.{unquoted}
use Rattle.enc_file.proofs.Reached.{spare}
use Rattle.enc_file.proofs.RowsLeft.{bare-short, records-few}
use Rattle.enc_file.proofs.rows.Rows.of.Goals as goal

pub returns-clause-few : goal.returns-clause-few
returns-clause-few c =
    let text = c.args.text.now in
    let none : spare st.StartRecord ≡ 0 = refl in
    rw (c.from_reader.ensures.state, c.from_reader.ensures.source) (omega (arith, records-few unquoted (length (strip_bom text) + 1) st.StartRecord (strip_bom text), bare-short text, none))
