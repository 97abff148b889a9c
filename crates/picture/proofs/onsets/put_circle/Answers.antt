use Rattle.picture.proofs.onsets.put_circle.Goals as goal

pub returns : goal.returns
returns g c =
    let at = rw c.point_at.ensures at c.figure.ensures in
    let paint = rw c.onset_paint.ensures at at in
    paint
