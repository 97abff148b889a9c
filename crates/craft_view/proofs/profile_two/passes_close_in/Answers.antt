use Rattle.std.proofs.Common.{◌≡◌, ◌-ℤ◌, ◌∙◌, rules, w64, to_z, of_z}
use Rattle.std.proofs.lemmas.Int.{to_z-of_z}
use Rattle.craft_view.proofs.profile_two.passes_close_in.Goals as goal

pub returns : goal.returns
returns c =
    let m = c.args.motion.now in
    let height : to_z w64 (of_z w64 c.difference-height.result) ≡ m.target.est -ℤ m.own.est =
    to_z-of_z w64 c.difference-height.result (search rules) ∙ (rw (to_z-of_z w64 m.target.est (search rules), to_z-of_z w64 m.own.est (search rules)) at c.difference-height.ensures) in
    let rate : to_z w64 (of_z w64 c.difference-rate.result) ≡ m.target.rate -ℤ m.own.rate =
    to_z-of_z w64 c.difference-rate.result (search rules) ∙ (rw (to_z-of_z w64 m.target.rate (search rules), to_z-of_z w64 m.own.rate (search rules)) at c.difference-rate.ensures) in
    rw (height, rate) at c.passes_close.ensures
