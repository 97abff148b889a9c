use Rattle.picture.proofs.bands.put_last_stripe.Goals as goal

pub returns : goal.returns
returns g c =
    let shape = rw c.last_stripe.ensures at c.figure.ensures in
    let paint = rw c.stripe_paint.ensures at shape in
    paint
