use Rattle.std.proofs.Common.{subst}
use Rattle.picture.proofs.Listing.{listed-is}
use Rattle.picture.specs.Gathered.{call_lines}
use Rattle.picture.specs.Heard.{heard_marks}
use Rattle.picture.proofs.heard.put_heard.Goals as goal

pub returns : goal.returns
unfolding heard_marks
returns g c =
    let e = c.args.state.now.encounter in
    let all = call_lines e c.args.state.now.journal in
    let shown = subst (g.D.Drawing.drew c.put_heading.new.drawing c.put_calls-count.new.drawing) (listed-is c.args.top e c.args.labels.now all) c.put_calls-count.ensures.drawn in
    let rest = rw c.put_calls-count.ensures.count at c.put_rest.ensures in
    g.met.D.Drawing.then _ _ _ _ _ c.put_heading.ensures (g.met.D.Drawing.then _ _ _ _ _ shown rest)
