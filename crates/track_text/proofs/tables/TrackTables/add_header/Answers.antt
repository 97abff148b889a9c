use Rattle.std.proofs.Common.{◌∙◌, [], sym, Some}
use Rattle.csv.specs.Records.{fields_of}
use Rattle.enc_file.specs.declared.refusal.Code.TheVariants as code
use Rattle.track_text.specs.Conditions.{IsLowestFault}
use Rattle.track_text.specs.declared.refusal.Fault.TheVariants.{Text}
use Rattle.track_text.proofs.Kept.{count-of, header-taken, refuses, unheaded, wanting}
use Rattle.track_text.proofs.tables.TrackTables.add_header.Goals as goal

pub returns-in_default : goal.returns-in_default
returns-in_default c = λ h.
    refuses [] c.args.self.now (IsLowestFault [] (Some (fields_of c.args.row.now))) (Text code.Header) c.refused.result (count-of c.args.self.now.made [] c.args.self.now h)
    (unheaded (fields_of c.args.row.now) (sym c.version_in.ensures.value ∙ c.in_default.is)) c.refused.ensures

pub returns-in_err-self : goal.returns-in_err-self
returns-in_err-self c = λ h. wanting _ 0 _ c.from_residual.result c.from_residual.ensures.1

pub returns : goal.returns
returns c = λ h.
    header-taken c.args.self.now (fields_of c.args.row.now) c.in-Some.version c.in_ok-self.field-0 (sym c.version_in.ensures.value ∙ c.in-Some.is) c.in_ok-self.ensures h
