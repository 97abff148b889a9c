use Rattle.svg_text.specs.Attributes.{opening}
use Rattle.svg_text.proofs.document.put_definitions.Goals as goal

pub returns : goal.returns
unfolding opening
returns g c =
    let l0 = rw c.fixed_line.ensures at c.line.ensures in
    let l1 = rw c.fixed_line-2.ensures at c.line-2.ensures in
    let l2 = rw c.fixed_line-3.ensures at c.line-3.ensures in
    let l3 = rw c.end_line.ensures at c.line-4.ensures in
    let l4 = rw c.end_line-2.ensures at c.line-5.ensures in
    let l5 = rw c.fixed_line-4.ensures at c.line-6.ensures in
    let l6 = rw c.window_line.ensures at c.line-7.ensures in
    let l7 = rw c.end_line-3.ensures at c.line-8.ensures in
    let l8 = rw c.end_line-4.ensures at c.line-9.ensures in
    let l9 = rw c.end_line-5.ensures at c.line-10.ensures in
    g.met.S.LineSink.then _ _ _ _ _ l0 (g.met.S.LineSink.then _ _ _ _ _ l1 (g.met.S.LineSink.then _ _ _ _ _ l2 (g.met.S.LineSink.then _ _ _ _ _ l3 (g.met.S.LineSink.then _ _ _ _ _ l4 (g.met.S.LineSink.then _ _ _ _ _ l5 (g.met.S.LineSink.then _ _ _ _ _ l6 (g.met.S.LineSink.then _ _ _ _ _ l7 (g.met.S.LineSink.then _ _ _ _ _ l8 l9))))))))
