use Rattle.track_text.specs.Told.{wrong_by}
use Rattle.track_text.proofs.RefusedTracks.{fields-line, line-kind-none, line-wrong}
use Rattle.track_text.proofs.telling.record_why.Goals as goal

pub unreachable-requires : goal.unreachable-requires
unreachable-requires c =
    line-kind-none c.args.text.now c.args.refusal c.requires.refused c.args.line.now (wrong_by c.args.code) c.format_of.result c.format_of.ensures
    (fields-line c.args.text.now c.args.refusal c.requires.refused c.args.line.now c.args.code c.requires.code c.requires.fields c.requires.place) c.in_default.ensures

pub fields_why-requires-clause-wrong : goal.fields_why-requires-clause-wrong
fields_why-requires-clause-wrong c =
    line-wrong c.args.text.now c.args.refusal c.requires.refused c.args.line.now c.args.code c.format_of.result c.in-Some.kind c.requires.code c.requires.fields c.requires.place c.format_of.ensures c.in-Some.ensures
