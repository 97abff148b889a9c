use Rattle.std.proofs.Common.{◌∙◌, ap}
use Rattle.acas_base.specs.Encounter.{Parts}
use Rattle.acas_lines.specs.Lines.{joined}
use Rattle.acas_top.proofs.threaded.answer_sum.Goals as goal
use Rattle.acas_top.specs.Counted.{counts_of}
use Rattle.acas_top.specs.Summing.{summed_lines}
use Rattle.sweep.specs.declared.counts.Counts.{Counts}

pub returns : goal.returns
returns c bytes says =
    let journal = c.args.played.now.journal in
    let counts = c.in_ok-serial.serial in
    let commits = ap (λ (x : Counts). x.commits) (c.counts_of.ensures ∙ ap (λ (e : Parts). counts_of e journal) c.requires.encounter) in
    record {
      encounter = c.args.encounter.now;
      journal = journal;
      counts = counts;
      says = says;
      run = c.requires.run;
      serial = c.in_ok-serial.ensures;
      text_is = ap (λ n. joined (summed_lines n counts)) commits;
    }
