use Rattle.picture.specs.Heard.{line_marks}
use Rattle.picture.proofs.heard.put_call_line.Goals as goal

pub returns : goal.returns
unfolding line_marks
returns g c =
    let y = rw c.line_y.ensures.value at c.put_line_with.ensures in
    let name = rw c.name.ensures.text at y in
    let label = rw c.label.ensures.text at name in
    let start = rw c.axis_of.ensures.start at label in
    rw c.address_of-address.ensures at start
