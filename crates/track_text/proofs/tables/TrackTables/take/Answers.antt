use Rattle.std.proofs.Common.{◌≡◌, ◌∙◌, [], sym, ap, arith, Some}
use Rattle.csv.specs.Records.{fields_of}
use Rattle.enc_file.specs.declared.refusal.Code.TheVariants as code
use Rattle.track_text.specs.Conditions.{IsLowestFault}
use Rattle.track_text.specs.Saying.{record_of}
use Rattle.track_text.specs.Tables.{AreBegun}
use Rattle.track_text.specs.declared.refusal.Fault.TheVariants.{Text}
use Rattle.track_text.proofs.Kept.{after-lowest, count-of, ended-if, going-of, kept-if, none-read, refuses, taken, unread-lowest}
use Rattle.track_text.proofs.Lowest.{lowest-text}
use Rattle.track_text.proofs.tables.TrackTables.take.Goals as goal

pub returns-then-self-eq0 : goal.returns-then-self-eq0
returns-then-self-eq0 c = λ earlier h.
    let none : earlier ≡ [] = none-read earlier (sym (count-of c.args.self.now.made earlier c.args.self.now h) ∙ c.if-self-eq0.true) in
    rw none (c.add_header.ensures (rw none at h))

pub returns-then-is_some : goal.returns-then-is_some
returns-then-is_some c = λ earlier h.
    let ended = ended-if c.args.self.now.made earlier c.args.self.now h (sym c.is_some.ensures ∙ c.if-is_some.true) in
    refuses earlier c.args.self.now (IsLowestFault earlier (Some (fields_of c.args.row.now))) (Text code.After) c.refused.result (count-of c.args.self.now.made earlier c.args.self.now h)
    (lowest-text earlier (Some (fields_of c.args.row.now)) code.After (after-lowest earlier (fields_of c.args.row.now) ended)) c.refused.ensures

pub returns-in-Ok : goal.returns-in-Ok
returns-in-Ok c = λ earlier h.
    let kept = kept-if c.args.self.now.made earlier c.args.self.now h (sym c.is_some.ensures ∙ c.if-is_some.false) in
    let begun : AreBegun earlier = record { some = kept.begun (omega (arith, kept.count, c.if-self-eq0.false)) } in
    taken earlier (fields_of c.args.row.now) c.in-Ok.now c.add.new.self c.add.result (going-of earlier c.args.self.now kept begun) (ap (λ v. record_of v (fields_of c.args.row.now)) (sym kept.version) ∙ sym c.record_of.ensures.value ∙ c.in-Ok.is) (c.add.ensures earlier begun kept)

pub returns-in-Err : goal.returns-in-Err
returns-in-Err c = λ earlier h.
    let kept = kept-if c.args.self.now.made earlier c.args.self.now h (sym c.is_some.ensures ∙ c.if-is_some.false) in
    let begun : AreBegun earlier = record { some = kept.begun (omega (arith, kept.count, c.if-self-eq0.false)) } in
    refuses earlier c.args.self.now (IsLowestFault earlier (Some (fields_of c.args.row.now))) (Text c.in-Err.code) c.refused-in-Err.result kept.count
    (unread-lowest earlier (fields_of c.args.row.now) c.in-Err.code (going-of earlier c.args.self.now kept begun) (ap (λ v. record_of v (fields_of c.args.row.now)) (sym kept.version) ∙ sym c.record_of.ensures.value ∙ c.in-Err.is)) c.refused-in-Err.ensures

pub add-requires-clause-kept : goal.add-requires-clause-kept
add-requires-clause-kept c =
    (c.requires.held.0, kept-if c.args.self.now.made c.requires.held.0 c.args.self.now c.requires.held.1 (sym c.is_some.ensures ∙ c.if-is_some.false))
