use Rattle.rec_text.proofs.Whole.{canonical-whole}
use Rattle.comparison.proofs.Differing.{differ-any, not-empty, same-where}
use Rattle.enc_file.specs.Canonical.{canonical_lines}
use Rattle.comparison.proofs.encounters.first_in.Goals as goal

pub returns-then-reading : goal.returns-then-reading
returns-then-reading c = λ lines whole is.
    rw (c.count_feeds-same.ensures)
    (differ-any c.args.text.now c.put.new.sink.rest.now c.put.new.sink.differs lines (canonical_lines c.args.other.now) whole (canonical-whole c.args.other.now c.valid_law.ensures) is c.put.ensures (λ f. absurd (let t = c.if-reading.true in cc)))

pub returns-then-not-is_empty : goal.returns-then-not-is_empty
returns-then-not-is_empty c = λ lines whole is.
    rw (c.count_feeds-same.ensures)
    (differ-any c.args.text.now c.put.new.sink.rest.now c.put.new.sink.differs lines (canonical_lines c.args.other.now) whole (canonical-whole c.args.other.now c.valid_law.ensures) is c.put.ensures
    (λ f. not-empty c.put.new.sink.rest.now c.is_empty.result c.is_empty.ensures c.if-not-is_empty.true))

pub returns : goal.returns
returns c = λ lines whole is.
    same-where c.args.text.now c.put.new.sink.rest.now c.put.new.sink.differs c.is_empty.result lines (canonical_lines c.args.other.now) whole (canonical-whole c.args.other.now c.valid_law.ensures) is c.put.ensures c.if-reading.false c.is_empty.ensures
    c.if-not-is_empty.false
