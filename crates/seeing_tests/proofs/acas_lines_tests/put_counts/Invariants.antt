use Rattle.std.proofs.Common.{◌∷◌, ◌++◌, [], map, take}
use Rattle.std.specs.Fmt.{decimal}
use Rattle.seeing_tests.proofs.acas_lines_tests.put_counts.Given as goal

-- The lines of the counts so far were put.
abbrev pub invariant-loop-count : goal.invariant-loop-count
invariant-loop-count g l = g.S.LineSink.took l.fn.sink l.sink (map (λ n. decimal n ++ 10 ∷ []) (take l.count-index l.counts))
