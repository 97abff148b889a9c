use Rattle.std.proofs.Common.{◌≡◌, ◌∙◌, ◌∷◌, ap, arith, length, subst}
use Rattle.air_journal.specs.Airs.{air_of}
use Rattle.air_journal.specs.EntryRefs.{entry_of}
use Rattle.air_rules.proofs.Beginnings.{begins-length}
use Rattle.air_rules.proofs.Legal.{legal-begins}
use Rattle.reasons.proofs.Reading.{read-on, ready-on, lines-on}
use Rattle.reasons.proofs.commits.put_commits.Goals as goal
use Rattle.reasons.proofs.commits.put_commits.Given as given

-- What was read is the entry that was seen.
read-is : (g : given.Over) (c : goal.After-next g) → c.next.new.self.read ≡ entry_of c.in-Some.entry ∷ c.entries.reader.read
read-is g c = read-on c.next.result c.in-Some.entry _ c.entries.reader.journal c.entries.reader.read c.next.new.self.read c.in-Some.ensures.entry c.next.ensures.entry c.next.ensures.read

pub put_entry-requires-clause-legal : goal.put_entry-requires-clause-legal
put_entry-requires-clause-legal g c = legal-begins (air_of c.entries.reader.encounter) c.in-Some.ensures.end c.reading_law.ensures.legal

pub entries-smaller : goal.entries-smaller
entries-smaller g c =
    let size = ap length (read-is g c) in
    let same = ap length c.next.ensures.journal in
    let within = begins-length _ _ c.in-Some.ensures.end in
    omega arith

pub entries-preserved : goal.entries-preserved
entries-preserved g c =
    let e = c.args.state.now.encounter in
    let reader = c.entries.reader in
    record {
      encounter = c.next.ensures.encounter ∙ c.entries.invariant.encounter;
      journal = c.next.ensures.journal ∙ c.entries.invariant.journal;
      ready = ready-on e reader.encounter reader.read c.next.new.self.read (entry_of c.in-Some.entry) c.put_entry.new.surveillance.crafts c.entries.invariant.encounter (read-is g c) c.put_entry.ensures.ready;
      lines = subst (g.S.LineSink.took c.args.sink.now c.put_entry.new.sink) (lines-on e reader.encounter reader.read c.next.new.self.read (entry_of c.in-Some.entry) c.entries.invariant.encounter (read-is g c))
          (g.met.S.LineSink.then _ _ _ _ _ c.entries.invariant.lines c.put_entry.ensures.lines);
    }
