-- The stories and blocks of a journal with one entry more.
use Rattle.std.proofs.Common.{◌≡◌, ℕ, ◌<◌, ◌≤◌, ◌&&◌, cond, eqb, List, [], ◌∷◌, length-set, set, get_or, replicate, Option, Some, None, option_map, refl, sym, ap, ◌∙◌, subst, arith, inl, inr, eq-eqb, ne_eqb}
use Rattle.std.specs.Prelude.{MatchOption}
use Rattle.std.proofs.lemmas.Bool.{and_from, and_left, and_right, cases_eq, cond-false, cond-true}
use Rattle.std.proofs.lemmas.List.{get_or-replicate, get_or-set_other, get_or-set_same, length-replicate}
use Rattle.acas_base.specs.Encounter.{Parts}
use Rattle.acas_base.specs.declared.TheConstants.{CRAFTS}
use Rattle.acas_base.specs.declared.advisory.Cells.{Cells}
use Rattle.acas_base.specs.declared.entry.Entry.{Entry}
use Rattle.acas_base.specs.declared.entry.Entry.TheVariants.{Commit}
use Rattle.air_journal.specs.Airs.{air_of}
use Rattle.air_journal.specs.Cells.{place_of}
use Rattle.air_journal.specs.EntryRefs.{entry_of}
use Rattle.air_journal.specs.declared.entry_ref.EntryRef.{EntryRef}
use Rattle.air_rules.specs.Air.{is_ra}
use Rattle.air_rules.specs.Journal.{Begins, more, whole}
use Rattle.journal_reader.specs.Reading.{Reading, next_entry}
use Rattle.ra_report.specs.Blocks.{block_in, block_of, cells_of, is_limited, is_not_above, is_not_below, limited}
use Rattle.ra_report.specs.Stories.{AreBlocks, AreStories, IsStory, block_by, no_senses, no_story, told}
use Rattle.ra_block.specs.declared.block.RaBlock.{RaBlock}
use Rattle.ra_report.specs.declared.story.Held.{Held}
use Rattle.ra_report.specs.declared.story.Story.{Story}
use Rattle.ra_report.proofs.Course.{advice-is}

twice : (f : RaBlock → RaBlock) (o : Option Held) → option_map (λ (h : Held). f (told h)) o ≡ option_map f (option_map told o)
twice f None = refl
twice f (Some held) = refl

-- What the story of a commit's aircraft gives is the commit's block.
pub block-is : (e : Parts) (K : List Entry) (own : ℕ) (cells : Cells) (story : Story) → IsStory e (cells ∷ cells_of K own) story → block_by e K own story.held ≡ block_of e K own cells
block-is e K own cells story is =
    let limit = limited (is_limited is_not_below e K own) (is_limited is_not_above e K own) in
    ap (λ (o : Option RaBlock). cond (is_ra (air_of e) own) o None)
    (twice limit story.held ∙ ap (λ (h : Option Held). option_map limit (option_map told h)) is.held ∙ ap (option_map limit) (advice-is e cells (cells_of K own)))

pub blocks-commit : (e : Parts) (K : List Entry) (own cycle place : ℕ) (cells : Cells) (old : List (Option RaBlock)) (block : Option RaBlock) → AreBlocks e K old → own < CRAFTS → 1 ≤ cycle → cycle ≤ 600 →
    place ≡ place_of own cycle → block ≡ block_of e K own cells → AreBlocks e (Commit own cycle cells ∷ K) (set old place block)
blocks-commit e K own cycle place cells old block are ho hc hd p is = record {
  size = length-set old place block ∙ are.size;
  each = λ a k ha hk hm. elim (cases_eq own a) [
    | inl same ↦ elim (cases_eq cycle k) [
      | inl also ↦
          ap (λ (n : ℕ). get_or (set old place block) n None) (let q : place_of a k ≡ place = omega arith in q) ∙ get_or-set_same old place block None (let n = are.size in omega arith) ∙ is
          ∙ sym (cond-true (eqb own a && eqb cycle k) (block_of e K own cells) (block_in e K a k) (and_from _ _ (eq-eqb own a same) (eq-eqb cycle k also)))
      | inr apart ↦
          get_or-set_other old place (place_of a k) block None (λ q. apart (omega arith)) ∙ are.each a k ha hk hm
          ∙ sym (cond-false (eqb own a && eqb cycle k) (block_of e K own cells) (block_in e K a k) (and_right _ _ (ne_eqb cycle k apart)))
    ]
    | inr apart ↦
        get_or-set_other old place (place_of a k) block None (λ q. apart (omega arith)) ∙ are.each a k ha hk hm
        ∙ sym (cond-false (eqb own a && eqb cycle k) (block_of e K own cells) (block_in e K a k) (and_left _ _ (ne_eqb own a apart)))
  ];
}

-- ---- at the start, and from entry to entry

pub no-stories : (e : Parts) → AreStories e [] (replicate CRAFTS no_story)
no-stories e = record {
  size = length-replicate CRAFTS no_story;
  each = λ own h. subst (IsStory e []) (sym (get_or-replicate 16 own no_story no_story h)) (record { size = refl; senses = λ other k. get_or-replicate 16 other no_senses no_senses k; held = refl });
}

abbrev nothing : Option RaBlock
nothing = None

pub no-blocks : (e : Parts) → AreBlocks e [] (replicate 9600 None)
no-blocks e = record {
  size = length-replicate 9600 nothing;
  each = λ own cycle ho hc hd. get_or-replicate 9600 (place_of own cycle) nothing nothing (omega arith);
}

pub nothing-begins : (journal : List Entry) → Begins [] journal
nothing-begins [] = whole
nothing-begins (entry ∷ journal) = more (nothing-begins journal)

-- The entry that was looked at is the one that is read.
pub reads-on : (old new : Reading) (entry : EntryRef) (found : Option EntryRef) → option_map entry_of (Some entry) ≡ next_entry old → option_map entry_of found ≡ next_entry old →
    MatchOption found ((old.read ≡ old.journal) × (new.read ≡ old.read)) (λ it. new.read ≡ entry_of it ∷ old.read) → new.read ≡ entry_of entry ∷ old.read
reads-on old new entry None looked read is = absurd (let z = looked ∙ sym read in cc)
reads-on old new entry (Some it) looked read is = is ∙ ap (λ (x : Entry). x ∷ old.read) (let z : Some (entry_of it) ≡ Some (entry_of entry) = read ∙ sym looked in cc)
