-- The lines of the blocks.
use Rattle.std.proofs.Common.{ℕ, ◌*◌, ◌<◌, ◌≤◌, ◌^◌, List, length, Option, Some, None, arith}
use Rattle.std.specs.Prelude.{option_map, option_to_list}
use Rattle.std.proofs.Math.Nat.{mul-le-mul}
use Rattle.acas_base.specs.Encounter.{IsEncounter, Parts}
use Rattle.acas_base.specs.declared.entry.Entry.{Entry}
use Rattle.acas_lines.proofs.Ranges.{length-flat}
use Rattle.air_journal.proofs.Bounds.{few-crafts}
use Rattle.air_journal.specs.Airs.{address_of}
use Rattle.ra_report.specs.Blocks.{block_in, block_line, block_lines, lines_in, lines_of}

one-at-most : {X Y : Type 0} (f : X → Y) (o : Option X) → length (option_to_list (option_map f o)) ≤ 1
one-at-most f None = omega arith
one-at-most f (Some x) = omega arith

pub few-lines : (e : Parts) (journal : List Entry) → IsEncounter e → length (block_lines e journal) < 2 ^ 32
unfolding block_lines
few-lines e journal is =
    let n = length e.crafts in
    let crafts : n ≤ 16 = few-crafts e is in
    let cycles : e.cycles ≤ 600 = is.run.length.1 in
    let one : (k : ℕ) → length (lines_in e journal k) ≤ n * 1 = λ k. length-flat (lines_of e journal k) 1 0 n (λ own. one-at-most (block_line k (address_of e own)) (block_in e journal own k)) in
    let all : length (block_lines e journal) ≤ e.cycles * (n * 1) = length-flat (lines_in e journal) (n * 1) 1 e.cycles one in
    let some : n * 1 ≤ 16 = omega arith in
    let most : e.cycles * (n * 1) ≤ 600 * 16 = mul-le-mul cycles some in
    omega arith
