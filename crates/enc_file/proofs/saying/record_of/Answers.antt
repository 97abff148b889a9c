use Rattle.enc_file.proofs.saying.record_of.Goals as goal

pub returns-then-eq-clause-format : goal.returns-then-eq-clause-format
returns-then-eq-clause-format c = c.fate_of.ensures.format c.args.version

pub returns-then-eq-2-clause-format : goal.returns-then-eq-2-clause-format
returns-then-eq-2-clause-format c = c.miss_of.ensures.format c.args.version

pub returns-then-eq-3-clause-format : goal.returns-then-eq-3-clause-format
returns-then-eq-3-clause-format c = c.leg_of.ensures.format c.args.version

pub returns-then-eq-4-clause-format : goal.returns-then-eq-4-clause-format
returns-then-eq-4-clause-format c = c.craft_of.ensures.format c.args.version

pub returns-then-eq-5-clause-format : goal.returns-then-eq-5-clause-format
returns-then-eq-5-clause-format c = c.run_of.ensures.format c.args.version

pub returns-then-eq-6-clause-format : goal.returns-then-eq-6-clause-format
returns-then-eq-6-clause-format c = c.gains_of.ensures.format c.args.version

pub returns-then-eq-7-clause-format : goal.returns-then-eq-7-clause-format
returns-then-eq-7-clause-format c = c.end_of.ensures.format c.args.version
