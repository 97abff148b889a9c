use Rattle.std.proofs.Common.{ℕ, ℤ, w32, ◌++◌, ap, sym, ◌∙◌}
use Rattle.std.specs.Fmt.{signed_decimal}
use Rattle.std.proofs.lemmas.Int.{to_z-of_z}
use Rattle.acas_text.specs.Hex.{hex}
use Rattle.fault_text.proofs.Pieces.{four, two}
use Rattle.idle_notes.proofs.sentence.add_below.Goals as goal

pub returns-clause-added : goal.returns-clause-added
returns-clause-added c =
    let first = four c.args.line.now c.address.new.self c.text.new.self c.u16.new.self c.text-2.new.self (hex 6 c.args.craft) _ _ _
    (c.address.ensures.added ∙ ap (λ (n : ℕ). c.args.line.now ++ hex 6 n) c.value.ensures.value) c.text.ensures.added c.u16.ensures.added c.text-2.ensures.added in
    let altitude = two c.args.line.now c.text-2.new.self c.i32.new.self _ (signed_decimal c.args.altitude) first
    (c.i32.ensures.added ∙ ap (λ (z : ℤ). c.text-2.new.self ++ signed_decimal z) (to_z-of_z w32 c.args.altitude c.ranges.altitude)) in
    let between = two c.args.line.now c.i32.new.self c.text-3.new.self _ _ altitude c.text-3.ensures.added in
    let elevation = two c.args.line.now c.text-3.new.self c.i32-2.new.self _ (signed_decimal c.args.ground) between
    (c.i32-2.ensures.added ∙ ap (λ (z : ℤ). c.text-3.new.self ++ signed_decimal z) (to_z-of_z w32 c.args.ground c.ranges.ground)) in
    two c.args.line.now c.i32-2.new.self c.text-4.new.self _ _ elevation c.text-4.ensures.added
