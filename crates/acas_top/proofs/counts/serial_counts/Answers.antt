use Rattle.std.proofs.Common.{◌∙◌, ap}
use Rattle.acas_base.specs.Encounter.{Parts}
use Rattle.acas_top.proofs.counts.serial_counts.Goals as goal
use Rattle.acas_top.specs.Counted.{counts_of}

pub returns : goal.returns
returns c =
    let state = c.in_ok-state in
    record {
      journal = state.state.journal;
      serial = state.ensures.serial;
      counts_are = c.counts_of.ensures ∙ ap (λ (e : Parts). counts_of e state.state.journal) state.ensures.encounter;
    }
