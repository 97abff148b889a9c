use Rattle.std.proofs.Common.{List, ℕ, ap, ◌∙◌}
use Rattle.picture.specs.Heard.{said_text}
use Rattle.picture.proofs.heard.put_line_with.Goals as goal

pub returns : goal.returns
returns g c =
    let one = rw c.call_title-title.ensures.text at c.put_sense.ensures in
    let words = c.said_text-words.ensures.text ∙ ap (λ (p : List ℕ). said_text p c.args.calls) c.phrase.ensures.text in
    let two = rw words at c.put_line_words.ensures in
    g.met.D.Drawing.then _ _ _ _ _ one two
