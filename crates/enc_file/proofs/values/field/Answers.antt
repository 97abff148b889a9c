use Rattle.std.proofs.Common.{sym}
use Rattle.csv.specs.Records.{fields_of}
use Rattle.enc_file.proofs.Spelled.{field-some, field-none}
use Rattle.enc_file.proofs.values.field.Goals as goal

pub returns-in-Some : goal.returns-in-Some
returns-in-Some c = field-some (fields_of c.args.row.now) c.args.place c.in-Some.bytes.now (sym c.in-Some.ensures.value)

pub returns-in-None : goal.returns-in-None
returns-in-None c = field-none (fields_of c.args.row.now) c.args.place (sym c.in-None.ensures.value)
