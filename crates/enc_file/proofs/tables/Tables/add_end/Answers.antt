use Rattle.std.proofs.Common.{◌≡◌, Some, subst, sym}
use Rattle.flight.specs.Inside.{IsInside}
use Rattle.enc_file.specs.Earlier.{encounter_by}
use Rattle.enc_file.specs.Faults.{fault_of}
use Rattle.enc_file.specs.declared.record.Record.TheVariants as said
use Rattle.enc_file.specs.declared.refusal.Code.TheVariants as code
use Rattle.enc_file.proofs.Refused.{end-fine, end-miscounted, end-outside, refuses, wanting}
use Rattle.enc_file.proofs.Tabled.{held-end}
use Rattle.enc_file.proofs.tables.Tables.add_end.Goals as goal

pub returns-in_default : goal.returns-in_default
returns-in_default c = λ earlier going h.
    let missing = rw c.in_default.is at (c.in_ok-encounter.ensures earlier h) in
    refuses earlier c.args.self.now (λ why. fault_of earlier said.End ≡ Some why) code.Count c.refused.result h (end-miscounted earlier missing) c.refused.ensures

pub returns-in_err-encounter : goal.returns-in_err-encounter
returns-in_err-encounter c = λ earlier going h. wanting _ _ _ c.from_residual.result c.from_residual.ensures.1

pub returns-then-not-inside : goal.returns-then-not-inside
returns-then-not-inside c = λ earlier going h.
    let made = rw c.in-Some.is at (c.in_ok-encounter.ensures earlier h) in
    let outside : IsInside (encounter_by earlier) → ⊥ = λ inside. cc (c.inside.ensures.1 (subst IsInside (sym made.1) inside), c.if-not-inside.true) in
    refuses earlier c.args.self.now (λ why. fault_of earlier said.End ≡ Some why) code.Box c.refused-then-not-inside.result h (end-outside earlier made.0 outside) c.refused-then-not-inside.ensures

pub returns : goal.returns
returns c = λ earlier going h.
    let made = rw c.in-Some.is at (c.in_ok-encounter.ensures earlier h) in
    let inside = subst IsInside made.1 (c.inside.ensures.0 c.if-not-inside.false) in
    held-end earlier c.args.self.now c.in-Some.encounter h going (end-fine earlier made.0 inside) made.1
