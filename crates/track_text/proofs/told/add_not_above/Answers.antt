use Rattle.std.proofs.Common.{rules, ◌≡◌, to_z, of_z, w32}
use Rattle.fault_text.proofs.Pieces.{four, three}
use Rattle.track_text.proofs.told.add_not_above.Goals as goal

pub returns-clause-added : goal.returns-clause-added
returns-clause-added c =
    let one : to_z w32 (of_z w32 c.args.found) ≡ c.args.found = search rules in
    let two : to_z w32 (of_z w32 c.args.reached) ≡ c.args.reached = search rules in
    three c.args.line.now c.i32-2.new.self c.text-3.new.self c.u32.new.self _ _ _
    (four c.args.line.now c.text.new.self c.i32.new.self c.text-2.new.self c.i32-2.new.self _ _ _ _ c.text.ensures.added (rw one at c.i32.ensures.added) c.text-2.ensures.added (rw two at c.i32-2.ensures.added))
    c.text-3.ensures.added c.u32.ensures.added
