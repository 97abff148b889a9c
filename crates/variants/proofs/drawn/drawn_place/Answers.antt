use Rattle.std.proofs.Common.{FitsSigned, pos, ◌∙◌, ◌≤ℤ◌, ◌<ℤ◌, arith, refl, rules, w64}
use Rattle.std.proofs.lemmas.Int.{ints, to_z-of_z}
use Rattle.variants.proofs.Onward.{before-run, begun-run, drawn-back, drawn-in, drawn-on}
use Rattle.variants.proofs.drawn.drawn_place.Goals as goal

pub returns-then-cycle-lt1-clause-value : goal.returns-then-cycle-lt1-clause-value
returns-then-cycle-lt1-clause-value c =
    let fits : FitsSigned w64 c.args.cycle = search rules in
    let back = to_z-of_z w64 c.args.cycle fits in
    let test = rw back at c.if-cycle-lt1.true in
    let before : c.args.cycle <ℤ pos 1 = omega (arith, ints, test) in
    (rw back at c.place_before.ensures.value) ∙ drawn-back c.args.encounter.now c.args.craft c.args.cycle (before-run c.args.cycle before)

pub returns-then-cycle-le600-clause-value : goal.returns-then-cycle-le600-clause-value
returns-then-cycle-le600-clause-value c =
    let fits : FitsSigned w64 c.args.cycle = search rules in
    let back = to_z-of_z w64 c.args.cycle fits in
    let test = rw back at c.if-cycle-lt1.false in
    let begun : pos 1 ≤ℤ c.args.cycle = omega (arith, ints, test) in
    (rw back at c.place_within.ensures.value) ∙ drawn-in c.args.encounter.now c.args.craft c.args.cycle _ (begun-run c.args.cycle begun) refl

pub returns-else-cycle-le600-clause-value : goal.returns-else-cycle-le600-clause-value
returns-else-cycle-le600-clause-value c =
    let fits : FitsSigned w64 c.args.cycle = search rules in
    let back = to_z-of_z w64 c.args.cycle fits in
    let test = rw back at c.if-cycle-lt1.false in
    let begun : pos 1 ≤ℤ c.args.cycle = omega (arith, ints, test) in
    let later = rw back at c.if-cycle-le600.false in
    let late : pos 600 ≤ℤ c.args.cycle = omega (arith, ints, later) in
    (rw back at c.place_behind.ensures.value) ∙ drawn-on c.args.encounter.now c.args.craft c.args.cycle c.place_behind.ensures.valid c.requires.craft late (begun-run c.args.cycle begun)
