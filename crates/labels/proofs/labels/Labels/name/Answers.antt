use Rattle.std.proofs.Common.{◌≤◌, ℕ, List, length, map, sym, subst, arith}
use Rattle.std.specs.String.{string_bytes}
use Rattle.labels.proofs.Kept.{named-short}
use Rattle.labels.proofs.labels.Labels.name.Goals as goal

pub line_of-requires : goal.line_of-requires
line_of-requires c =
    let short = named-short (map string_bytes c.self.inside.names.now) c.bytes.result.now c.in-Some.name.now c.self.invariant.named c.in-Some.ensures in
    omega (arith, short)

pub returns-in-Some-clause-short : goal.returns-in-Some-clause-short
returns-in-Some-clause-short c =
    let short = named-short (map string_bytes c.self.inside.names.now) c.bytes.result.now c.in-Some.name.now c.self.invariant.named c.in-Some.ensures in
    subst (λ (v : List ℕ). length v ≤ 8) (sym c.line_of.ensures) short
