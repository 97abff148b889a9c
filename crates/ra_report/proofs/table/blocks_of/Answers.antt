use Rattle.std.proofs.Common.{◌≡◌, ◌+◌, ◌∷◌, ◌≤◌, List, length, Option, option_map, sym, ap, ◌∙◌, subst, subst₂, arith}
use Rattle.std.specs.Prelude.{MatchOption}
use Rattle.acas_base.specs.Encounter.{Parts}
use Rattle.acas_base.specs.declared.entry.Entry.{Entry}
use Rattle.air_journal.proofs.WellFormed.{entries-fit}
use Rattle.air_journal.specs.EntryRefs.{entry_of}
use Rattle.air_journal.specs.Ranges.{IsEntry}
use Rattle.air_journal.specs.declared.entry_ref.EntryRef.{EntryRef}
use Rattle.air_rules.proofs.Beginnings.{begins-length}
use Rattle.air_rules.specs.Journal.{Begins}
use Rattle.journal_reader.proofs.Prefixes.{holds-next}
use Rattle.ra_report.specs.Stories.{AreBlocks, AreStories}
use Rattle.ra_block.specs.declared.block.RaBlock.{RaBlock}
use Rattle.ra_report.specs.declared.story.Story.{Story}
use Rattle.ra_report.proofs.Keeping.{no-blocks, no-stories, nothing-begins, reads-on}
use Rattle.ra_report.proofs.table.blocks_of.Goals as goal
use Rattle.ra_report.proofs.table.blocks_of.Goals.{In-Some}

begins : (c : In-Some) → Begins (entry_of c.in-Some.entry ∷ c.loop-entry.reader.read) c.loop-entry.reader.journal
begins c =
    let r = c.loop-entry.reader in
    subst (λ (o : Option EntryRef). MatchOption o (r.read ≡ r.journal) (λ entry. Begins (entry_of entry ∷ r.read) r.journal)) c.in-Some.is c.peek.ensures.end

pub loop-entry-init : goal.loop-entry-init
loop-entry-init c =
    let e = c.args.state.now.encounter in
    let read = sym c.new-reader.ensures.read in
    record {
      encounter = c.new-reader.ensures.encounter;
      journal = c.new-reader.ensures.journal;
      begins = subst (λ (K : List Entry). Begins K c.new-reader.result.journal) read (nothing-begins c.new-reader.result.journal);
      stories = subst₂ (λ (K : List Entry) (stories : List Story). AreStories e K stories) read (sym c.no_stories-stories.ensures) (no-stories e);
      told = subst₂ (λ (K : List Entry) (blocks : List (Option RaBlock)). AreBlocks e K blocks) read (sym c.no_blocks-blocks.ensures) (no-blocks e);
    }

pub note_commit-requires-clause-fits : goal.note_commit-requires-clause-fits
note_commit-requires-clause-fits c =
    let e = c.args.state.now.encounter in
    let J = c.args.state.now.journal in
    let K = c.loop-entry.reader.read in
    let d = (goal.at.note_commit-requires-clause-fits c).In-Some in
    let whole : Begins (entry_of c.in-Some.entry ∷ K) J = subst (Begins (entry_of c.in-Some.entry ∷ K)) c.loop-entry.invariant.journal (begins d) in
    subst (λ (p : Parts). IsEntry (length p.crafts) (entry_of c.in-Some.entry)) (sym c.enc-encounter.ensures)
    (holds-next (IsEntry (length e.crafts)) (entry_of c.in-Some.entry) K J whole (entries-fit e J c.legal_law.ensures.valid c.legal_law.ensures.legal))

pub loop-entry-preserved : goal.loop-entry-preserved
loop-entry-preserved c =
    let d = (goal.at.loop-entry-preserved c).In-Some in
    let e = c.args.state.now.encounter in
    let old = c.loop-entry.reader in
    let new = c.next.new.self in
    let read = reads-on old new c.in-Some.entry c.next.result (sym (ap (option_map entry_of) c.in-Some.is) ∙ c.peek.ensures.entry) c.next.ensures.entry c.next.ensures.read in
    record {
      encounter = c.next.ensures.encounter ∙ c.loop-entry.invariant.encounter;
      journal = c.next.ensures.journal ∙ c.loop-entry.invariant.journal;
      begins = subst₂ (λ (K J : List Entry). Begins K J) (sym read) (sym c.next.ensures.journal) (begins d);
      stories = subst₂ (λ (p : Parts) (K : List Entry). AreStories p K c.note_commit.new.stories) c.enc-encounter.ensures (sym read) c.note_commit.ensures.stories;
      told = subst₂ (λ (p : Parts) (K : List Entry). AreBlocks p K c.note_commit.new.blocks) c.enc-encounter.ensures (sym read) c.note_commit.ensures.blocks;
    }

pub loop-entry-smaller : goal.loop-entry-smaller
loop-entry-smaller c =
    let d = (goal.at.loop-entry-smaller c).In-Some in
    let old = c.loop-entry.reader in
    let new = c.next.new.self in
    let read = reads-on old new c.in-Some.entry c.next.result (sym (ap (option_map entry_of) c.in-Some.is) ∙ c.peek.ensures.entry) c.next.ensures.entry c.next.ensures.read in
    let more : length new.read ≡ length old.read + 1 = ap length read ∙ (omega arith) in
    let same : length new.journal ≡ length old.journal = ap length c.next.ensures.journal in
    let within : length old.read + 1 ≤ length old.journal = (let b = begins-length _ _ (begins d) in omega arith) in
    omega arith
