use Rattle.reasons.proofs.Gathered.{line-is}
use Rattle.reasons.proofs.columns.set_line.Goals as goal

pub returns : goal.returns
returns c =
    rw (
      c.text.ensures.added,
      c.add_rule.ensures.added,
      c.add_decided.ensures.added,
      c.add_told.ensures.added,
      c.add_continued.ensures.added,
      c.add_projected.ensures.added,
      c.add_tested.ensures.added,
      c.add_own.ensures.added,
      c.add_reply.ensures.added,
      c.set_named.ensures.added,
    ) (line-is c.args.profile c.args.reason.now)
