use Rattle.std.proofs.Common.{ap, ◌∙◌}
use Rattle.picture.specs.Head.{sent_text}
use Rattle.picture.proofs.head.put_title.Goals as goal

pub returns : goal.returns
returns g c =
    let first = rw c.point_at.ensures at c.put_words.ensures in
    let one = rw c.requires.title at first in
    let text = c.sent_text.ensures.text ∙ ap sent_text c.sent_in.ensures in
    let second = rw c.point_at-2.ensures at c.put_words-2.ensures in
    let two = rw text at second in
    g.met.D.Drawing.then _ _ _ _ _ one two
