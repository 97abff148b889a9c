use Rattle.enc_file.specs.declared.refusal.Code.TheVariants as code
use Rattle.track_text.specs.Told.{all_shared}
use Rattle.track_text.specs.declared.kinds.LineKind.TheVariants as of
use Rattle.track_text.specs.declared.why.TrackWhy.TheVariants as why
use Rattle.track_text.proofs.EarlierTracks.{against-as, shared-unknown, tells-kind}
use Rattle.track_text.proofs.TrackRows.{shared-against}
use Rattle.track_text.proofs.against.names_why.Goals as goal

pub unknown_why-requires-clause-against : goal.unknown_why-requires-clause-against
unknown_why-requires-clause-against c =
    let a = against-as c.args.text.now c.args.refusal code.Unknown c.args.kind (of.Shared c.in-Shared.kind) c.args.line.now c.in-Shared.is c.requires.against in
    (all_shared a.refused.earlier, shared-against c.args.text.now c.args.refusal code.Unknown c.in-Shared.kind c.args.line.now a)

pub returns-in-Shared : goal.returns-in-Shared
returns-in-Shared c =
    let k = c.in-Shared.kind in
    let a = against-as c.args.text.now c.args.refusal code.Unknown c.args.kind (of.Shared k) c.args.line.now c.in-Shared.is c.requires.against in
    tells-kind c.args.text.now c.args.refusal code.Unknown c.args.kind (of.Shared k) c.args.line.now (why.Shared c.unknown_why.result) c.in-Shared.is
    (shared-unknown c.args.text.now c.args.refusal k c.args.line.now c.unknown_why.result a c.unknown_why.ensures)
