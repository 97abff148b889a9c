use Rattle.std.proofs.Common.{◌≡◌, ℕ, ◌<◌, ◌∷◌, length, set, get_or, sym, ap, ◌∙◌, subst, arith}
use Rattle.std.proofs.lemmas.List.{get_or_read}
use Rattle.acas_base.specs.declared.TheConstants.{CRAFTS}
use Rattle.acas_base.specs.declared.entry.Entry.{Entry}
use Rattle.acas_base.specs.declared.entry.Entry.TheVariants as kinds
use Rattle.air_journal.specs.EntryRefs.{entry_of}
use Rattle.air_journal.specs.Ranges.{IsEntry}
use Rattle.air_journal.specs.declared.entry_ref.EntryRef.{EntryRef}
use Rattle.ra_report.specs.Blocks.{cells_of}
use Rattle.ra_report.specs.Stories.{AreBlocks, IsStory, no_story}
use Rattle.ra_report.proofs.Keeping.{block-is, blocks-commit}
use Rattle.ra_report.proofs.table.note_commit.Goals as goal

pub returns-in-Commit-clause-blocks : goal.returns-in-Commit-clause-blocks
returns-in-Commit-clause-blocks c =
    let e = c.args.encounter.now in
    let K = c.args.reader.now.read in
    let own = c.in-Commit.own in
    let cycle = c.in-Commit.cycle in
    let cells = c.in-Commit.cells.now in
    let stories = c.args.stories.now in
    let fit : IsEntry (length e.crafts) (kinds.Commit own cycle cells) = subst (λ (r : EntryRef). IsEntry (length e.crafts) (entry_of r)) c.in-Commit.is c.requires.fits in
    let within : own < CRAFTS = (let a = fit.0 in let b = c.requires.few in omega arith) in
    let read = get_or_read stories c.from.result c.index-stories-from.result (let n = c.requires.stories.size in let p = c.from.ensures in omega arith) c.index-stories-from.is no_story in
    let old : c.index-stories-from.result ≡ get_or stories own no_story = read ∙ ap (λ (n : ℕ). get_or stories n no_story) c.from.ensures in
    let story : IsStory e (cells ∷ cells_of K own) c.after-story.result = c.after-story.ensures (cells_of K own) (subst (IsStory e (cells_of K own)) (sym old ∙ c.index-stories-from.is) (c.requires.stories.each own within)) in
    subst (λ (x : Entry). AreBlocks e (x ∷ K) (set c.args.blocks.now c.place_of.result c.block_of.result)) (sym (ap entry_of c.in-Commit.is))
    (blocks-commit e K own cycle c.place_of.result cells c.args.blocks.now c.block_of.result c.requires.blocks within fit.1.0 fit.1.1 c.place_of.ensures
    (c.block_of.ensures ∙ block-is e K own cells c.after-story.result story))
