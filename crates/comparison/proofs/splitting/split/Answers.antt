use Rattle.std.proofs.Common.{◌+◌, take, arith}
use Rattle.comparison.proofs.Cutting.{cut-at, cut-no, read-few, read-next, read-none, read-other, tail}
use Rattle.comparison.proofs.splitting.split.Goals as goal

pub loop-at-init : goal.loop-at-init
loop-at-init c = read-none c.args.bytes.now

pub overflow_add-lines : goal.overflow_add-lines
overflow_add-lines c = (let few = read-few c.args.bytes.now c.loop-at.at c.loop-at.lines c.loop-at.invariant in let most = c.requires in omega arith)

pub returns-then-is_close-clause-parts : goal.returns-then-is_close-clause-parts
returns-then-is_close-clause-parts c =
    (cut-at c.args.bytes.now (c.loop-at.at + c.first_line_len-len.result) (c.loop-at.lines + 1) (take c.first_line_len-len.result (tail c.args.bytes.now c.loop-at.at))
    (read-next c.args.bytes.now c.loop-at.at c.loop-at.lines c.first_line_len-len.result c.loop-at-test.true c.first_line_len-len.ensures.within c.loop-at.invariant c.first_line_len-len.ensures.first) c.if-is_close.ensures).split

pub returns-then-is_close-clause-lines : goal.returns-then-is_close-clause-lines
returns-then-is_close-clause-lines c =
    (cut-at c.args.bytes.now (c.loop-at.at + c.first_line_len-len.result) (c.loop-at.lines + 1) (take c.first_line_len-len.result (tail c.args.bytes.now c.loop-at.at))
    (read-next c.args.bytes.now c.loop-at.at c.loop-at.lines c.first_line_len-len.result c.loop-at-test.true c.first_line_len-len.ensures.within c.loop-at.invariant c.first_line_len-len.ensures.first) c.if-is_close.ensures).count

pub loop-at-preserved : goal.loop-at-preserved
loop-at-preserved c =
    read-other c.args.bytes.now (c.loop-at.at + c.first_line_len-len.result) (c.loop-at.lines + 1) (take c.first_line_len-len.result (tail c.args.bytes.now c.loop-at.at))
    (read-next c.args.bytes.now c.loop-at.at c.loop-at.lines c.first_line_len-len.result c.loop-at-test.true c.first_line_len-len.ensures.within c.loop-at.invariant c.first_line_len-len.ensures.first) c.if-is_close.ensures

pub returns-clause-parts : goal.returns-clause-parts
returns-clause-parts c = (cut-no c.args.bytes.now c.loop-at.at c.loop-at.lines c.loop-at.invariant c.loop-at-test.false).split

pub returns-clause-lines : goal.returns-clause-lines
returns-clause-lines c = (cut-no c.args.bytes.now c.loop-at.at c.loop-at.lines c.loop-at.invariant c.loop-at-test.false).count
