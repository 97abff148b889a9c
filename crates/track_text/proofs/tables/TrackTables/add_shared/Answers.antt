use Rattle.std.proofs.Common.{◌≡◌, ◌∙◌, ◌≤◌, Some, ap, arith, length, subst, sym}
use Rattle.enc_file.specs.Faults as enc
use Rattle.enc_file.specs.WellRead.{IsOfFormat}
use Rattle.enc_file.specs.declared.refusal.Refusal.{Refusal}
use Rattle.track_text.specs.Tables.{IsFirstFault}
use Rattle.track_text.specs.Earlier.{shared_of}
use Rattle.track_text.specs.declared.record.TrackRecord.TheVariants.{Shared}
use Rattle.track_text.specs.declared.refusal.Fault.TheVariants.{Text}
use Rattle.track_text.proofs.Kept.{few-shared, refuses, shared-added, shared-going, shared-wrong}
use Rattle.track_text.proofs.tables.TrackTables.add_shared.Goals as goal

pub add-requires-clause-room : goal.add-requires-clause-room
add-requires-clause-room c =
    let kept = c.requires.kept.1 in
    let few : length (shared_of c.requires.kept.0) ≤ 4294967294 = omega (arith, few-shared c.requires.kept.0, kept.count, c.requires.room) in
    omega (arith, kept.tables.count, few)

pub returns-in-Ok : goal.returns-in-Ok
returns-in-Ok c = λ earlier begun kept.
    shared-added earlier c.args.self.now c.args.now c.add.new.self kept begun c.requires.more c.requires.said.1 (rw c.in-Ok.is at (c.add.ensures (shared_of earlier) (shared-going earlier c.args.self.now kept begun) kept.tables))

pub returns-in-Err-Refused : goal.returns-in-Err-Refused
returns-in-Err-Refused c = λ earlier begun kept.
    let h = rw (c.in-Err-Refused.is, c.in-Err-Refused.field-0-is) at (c.add.ensures (shared_of earlier) (shared-going earlier c.args.self.now kept begun) kept.tables) in
    let wrong : enc.fault_of (shared_of earlier) c.args.now ≡ Some c.in-Err-Refused.refusal.code = h.1 ∙ ap (λ (r : Refusal). Some r.code) (sym h.2) in
    refuses earlier c.args.self.now (IsFirstFault earlier (Shared c.args.now)) (Text c.in-Err-Refused.refusal.code) c.refused.result kept.count (shared-wrong earlier c.args.now c.in-Err-Refused.refusal.code c.requires.more wrong) c.refused.ensures

pub add-requires-clause-format : goal.add-requires-clause-format
add-requires-clause-format c =
    let kept = c.requires.kept.1 in
    subst (λ v. IsOfFormat v c.args.now) (kept.version ∙ sym kept.tables.version) c.requires.said.1
