use Rattle.std.proofs.Common.{◌≡◌, ◌∙◌, ◌≤◌, [], ap, sym, length, arith, Ok, Err}
use Rattle.csv.specs.Records.{fields_of}
use Rattle.enc_file.specs.Earlier.{version_of}
use Rattle.enc_file.specs.Reading.{next_record}
use Rattle.enc_file.specs.Saying.{record_of}
use Rattle.enc_file.specs.Tables.{AreGoing}
use Rattle.enc_file.specs.declared.refusal.Code.TheVariants as code
use Rattle.enc_file.proofs.Refused.{refuses}
use Rattle.enc_file.proofs.Taken.{ended-if-made, going-if-none, next-after, next-unsaid, none-read, takes}
use Rattle.enc_file.proofs.tables.Tables.take.Goals as goal

pub returns-then-self-eq0 : goal.returns-then-self-eq0
returns-then-self-eq0 c = λ earlier h.
    let none : earlier ≡ [] = none-read earlier (sym h.count ∙ c.if-self-eq0.true) in
    rw none (c.add_header.ensures (rw none at h))

pub returns-then-is_some : goal.returns-then-is_some
returns-then-is_some c = λ earlier h.
    let some : 1 ≤ length earlier = omega (arith, h.count, c.if-self-eq0.false) in
    let ended = ended-if-made earlier c.args.self.now.made h.made (sym c.is_some.ensures ∙ c.if-is_some.true) in
    refuses earlier c.args.self.now (λ why. next_record earlier (fields_of c.args.row.now) ≡ Err why) code.After c.refused.result h (next-after earlier (fields_of c.args.row.now) some ended) c.refused.ensures

pub returns-in-Ok : goal.returns-in-Ok
returns-in-Ok c = λ earlier h.
    let some : 1 ≤ length earlier = omega (arith, h.count, c.if-self-eq0.false) in
    let going : AreGoing earlier = record { some = some; unended = going-if-none earlier c.args.self.now.made h.made (sym c.is_some.ensures ∙ c.if-is_some.false) } in
    let said : record_of (version_of earlier) (fields_of c.args.row.now) ≡ Ok c.in-Ok.now = ap (λ v. record_of v (fields_of c.args.row.now)) (sym h.version) ∙ sym c.record_of.ensures.value ∙ c.in-Ok.is in
    takes earlier (fields_of c.args.row.now) c.in-Ok.now c.add.new.self c.add.result going said (c.add.ensures earlier going h)

pub returns-in-Err : goal.returns-in-Err
returns-in-Err c = λ earlier h.
    let some : 1 ≤ length earlier = omega (arith, h.count, c.if-self-eq0.false) in
    let going : AreGoing earlier = record { some = some; unended = going-if-none earlier c.args.self.now.made h.made (sym c.is_some.ensures ∙ c.if-is_some.false) } in
    let said : record_of (version_of earlier) (fields_of c.args.row.now) ≡ Err c.in-Err.code = ap (λ v. record_of v (fields_of c.args.row.now)) (sym h.version) ∙ sym c.record_of.ensures.value ∙ c.in-Err.is in
    refuses earlier c.args.self.now (λ why. next_record earlier (fields_of c.args.row.now) ≡ Err why) c.in-Err.code c.refused-in-Err.result h (next-unsaid earlier (fields_of c.args.row.now) c.in-Err.code going said) c.refused-in-Err.ensures
