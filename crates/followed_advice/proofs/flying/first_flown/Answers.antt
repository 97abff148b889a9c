use Rattle.std.specs.Prelude.{map}
use Rattle.followed_advice.proofs.Plays.{right-first, rows-begin, rows-of-read}
use Rattle.followed_advice.proofs.flying.first_flown.Goals as goal

pub fly_kept-requires-clause-rows : goal.fly_kept-requires-clause-rows
fly_kept-requires-clause-rows c =
    rw c.as_slice.ensures.value (rows-of-read c.args.encounter.now c.args.named.now c.args.encounter.now (map (λ row. row.items) c.in_ok-rows.rows.items) c.in_ok-rows.ensures)

pub fly_kept-requires-clause-start : goal.fly_kept-requires-clause-start
fly_kept-requires-clause-start c =
    rw c.as_slice.ensures.value
    (rows-begin c.args.encounter.now c.args.named.now c.args.encounter.now (map (λ row. row.items) c.in_ok-rows.rows.items) c.valid_law.ensures.run.length.0 c.in_ok-rows.ensures)

pub returns : goal.returns
returns c =
    right-first c.args.encounter.now c.args.named.now (map (λ row. row.items) c.as_slice.result.now) c.in_ok-flown.flown c.valid_law.ensures.run.length.0 c.in_ok-flown.ensures
