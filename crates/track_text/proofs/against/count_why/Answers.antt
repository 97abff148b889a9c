use Rattle.std.proofs.Common.{◌≡◌, ◌∙◌, ap, subst}
use Rattle.enc_file.specs.declared.refusal.Code.TheVariants as code
use Rattle.track_text.specs.Kinds.{IsLineKind}
use Rattle.track_text.specs.declared.kinds.LineKind.TheVariants as of
use Rattle.track_text.specs.declared.kinds.OwnKind.TheVariants as own
use Rattle.track_text.specs.declared.why.TrackWhy.TheVariants as why
use Rattle.track_text.proofs.EarlierTracks.{against-as, end-counted, many-crafts, tells-kind}
use Rattle.track_text.proofs.against.count_why.Goals as goal

pub returns-in-Craft : goal.returns-in-Craft
returns-in-Craft c =
    let is : c.args.kind ≡ of.Own own.Craft = c.in-Own.is ∙ ap of.Own c.in-Craft.is in
    tells-kind c.args.text.now c.args.refusal code.Count c.args.kind (of.Own own.Craft) c.args.line.now why.ManyCrafts is
    (many-crafts c.args.text.now c.args.refusal c.args.line.now (against-as c.args.text.now c.args.refusal code.Count c.args.kind (of.Own own.Craft) c.args.line.now is c.requires.against))

pub returns-in-Shared : goal.returns-in-Shared
returns-in-Shared c =
    let k = c.in-Shared.field-0 in
    let named = subst (IsLineKind c.args.line.now) c.in-Shared.is c.requires.named in
    tells-kind c.args.text.now c.args.refusal code.Count c.args.kind (of.Shared k) c.args.line.now (why.Shared c.end_why.result) c.in-Shared.is
    (end-counted c.args.text.now c.args.refusal k c.args.line.now c.end_why.result c.format_of.result named.1 c.format_of.ensures (against-as c.args.text.now c.args.refusal code.Count c.args.kind (of.Shared k) c.args.line.now c.in-Shared.is c.requires.against) c.end_why.ensures)
