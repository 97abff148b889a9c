use Rattle.enc_file.proofs.Parts.{canonical-parts}
use Rattle.enc_file.proofs.canonical.CanonicalTextText.put.Goals as goal

pub returns : goal.returns
returns g c =
    let then = g.met.S.LineSink.then in
    let e = c.args.self.now.0.now in
    let head = rw (c.header_line.ensures, c.version.ensures) at c.line.ensures in
    rw (
      ← canonical-parts e,
      ← c.run_line.ensures,
      ← c.range_gains.ensures,
      ← c.altitude_gains.ensures,
      ← c.gains_line.ensures,
      ← c.end_line.ensures,
      ← c.calls.ensures.value,
      ← c.legs.ensures.value,
      ← c.misses.ensures.value,
      ← c.plans.ensures.value,
      ← c.fates.ensures.value,
    ) (simp (c.crafts-crafts.ensures.value) at (
    then _ _ _ _ _ (then _ _ _ _ _ (then _ _ _ _ _ (then _ _ _ _ _ (then _ _ _ _ _ (then _ _ _ _ _ (then _ _ _ _ _ (then _ _ _ _ _ (then _ _ _ _ _ (then _ _ _ _ _ (then _ _ _ _ _ (
    then _ _ _ _ _ head c.put_profile.ensures)
    c.put_name.ensures)
    c.put_clock.ensures)
    (then _ _ _ _ _ c.line-2.ensures c.line-3.ensures))
    c.put_each.ensures)
    c.put_each-2.ensures)
    c.put_climbs.ensures)
    c.put_each-3.ensures)
    c.put_each-4.ensures)
    c.put_each-5.ensures)
    c.put_each-6.ensures)
    c.line-4.ensures
    ))
