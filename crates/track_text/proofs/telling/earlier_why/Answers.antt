use Rattle.track_text.specs.Told.{against_by}
use Rattle.track_text.proofs.RefusedTracks.{earlier-line, line-against, line-kind-none, tells-earlier}
use Rattle.track_text.proofs.telling.earlier_why.Goals as goal

pub unreachable-requires : goal.unreachable-requires
unreachable-requires c =
    line-kind-none c.args.text.now c.args.refusal c.requires.refused c.args.line.now (against_by c.args.code c.requires.refused.earlier) c.format_of.result c.format_of.ensures
    (earlier-line c.args.text.now c.args.refusal c.requires.refused c.args.line.now c.args.code c.requires.code c.requires.earlier c.requires.place) c.in_default.ensures

pub against_why-requires-clause-against : goal.against_why-requires-clause-against
against_why-requires-clause-against c =
    line-against c.args.text.now c.args.refusal c.requires.refused c.args.line.now c.args.code c.format_of.result c.in-Some.kind c.requires.code c.requires.earlier c.requires.place c.format_of.ensures c.in-Some.ensures

pub returns : goal.returns
returns c =
    tells-earlier c.args.text.now c.args.refusal c.args.line.now c.against_why.result c.args.code c.in-Some.kind c.requires.code c.requires.earlier c.in-Some.ensures.names c.against_why.ensures
