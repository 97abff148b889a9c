use Rattle.track_text.proofs.saying.record_of.Goals as goal

pub returns-then-eq-clause-ranges : goal.returns-then-eq-clause-ranges
returns-then-eq-clause-ranges c = c.point_of.ensures.ranges c.args.version

pub returns-then-eq-2-clause-ranges : goal.returns-then-eq-2-clause-ranges
returns-then-eq-2-clause-ranges c = c.craft_of.ensures.ranges c.args.version
