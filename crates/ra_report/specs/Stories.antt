-- What is kept of each aircraft's own commits, and the blocks so far.
use Rattle.std.specs.Prelude.{◌≡◌, ℕ, ◌+◌, ◌<◌, ◌≤◌, ◌||◌, ◌==◌, nat_lt, Bool, false, if◌then◌else◌, List, [], ◌∷◌, Option, Some, None, length, option_and_then, option_map, slice_index_or}
use Rattle.acas_base.specs.Encounter.{Parts}
use Rattle.acas_base.specs.Senses.{is_same_sense}
use Rattle.acas_base.specs.declared.TheConstants.{CRAFTS}
use Rattle.acas_base.specs.declared.advisory.Cell.{Cell}
use Rattle.acas_base.specs.declared.advisory.Cell.TheVariants.{Clear, Traffic, Ra}
use Rattle.acas_base.specs.declared.advisory.Cells.{Cells}
use Rattle.acas_base.specs.declared.advisory.Sense.{Sense}
use Rattle.acas_base.specs.declared.advisory.Sense.TheVariants.{Up, Down}
use Rattle.acas_base.specs.declared.entry.Entry.{Entry}
use Rattle.air_journal.specs.Airs.{address_of, air_of}
use Rattle.air_journal.specs.Cells.{place_of}
use Rattle.air_rules.specs.Air.{is_ra}
use Rattle.air_rules.specs.Journal.{cell_at}
use Rattle.ra_report.specs.Blocks.{block_for, block_in, cells_of, ended, fresh_block, has_had, hold, is_limited, is_none, is_not_above, is_not_below, limited, threats}
use Rattle.ra_block.specs.declared.block.RaBlock.{RaBlock}
use Rattle.ra_report.specs.declared.story.Held.{Held}
use Rattle.ra_report.specs.declared.story.Senses.{Senses}
use Rattle.ra_report.specs.declared.story.Story.{Story}
use Rattle.ra_report.specs.declared.story.Threats.{Threats}
use Rattle.ra_report.specs.declared.story.Threats.TheVariants as kinds

-- No aircraft, one, or many.
abbrev pub as_threats : List ℕ → Threats
as_threats [] = kinds.Nobody
as_threats (one ∷ []) = kinds.One one
as_threats (one ∷ another ∷ rest) = kinds.Many

abbrev pub with_threat : Threats → ℕ → Threats
with_threat kinds.Nobody other = kinds.One other
with_threat (kinds.One one) other = kinds.Many
with_threat kinds.Many other = kinds.Many

-- The threats are among the first `count` aircraft.
abbrev pub IsAmong : ℕ → Threats → Type 0
IsAmong count kinds.Nobody = Unit {0}
IsAmong count (kinds.One other) = other < count
IsAmong count kinds.Many = Unit {0}

-- The senses that an advisory against an aircraft has had.
abbrev pub no_senses : Senses
no_senses = record { up = false; down = false }

abbrev pub had : Senses → Sense → Bool
had senses Up = senses.up
had senses Down = senses.down

abbrev pub senses_of : List Cells → ℕ → Senses
senses_of commits other = record { up = has_had commits other Up; down = has_had commits other Down }

abbrev pub senses_after : Senses → Cell → Senses
senses_after before Clear = no_senses
senses_after before Traffic = no_senses
senses_after before (Ra it) = record {
  up = is_same_sense it.sense Up || (if it.age == 1 then false else before.up);
  down = is_same_sense it.sense Down || (if it.age == 1 then false else before.down);
}

-- What is held of an aircraft: the block of the last commit that advised, if that commit advised against exactly one
-- aircraft, and how many commits have come since. It is held for `hold` commits.
abbrev pub older : Held → Option Held
older held = if nat_lt held.since hold then Some (record { block = held.block; since = held.since + 1 }) else None

abbrev pub fresh : RaBlock → Held
fresh block = record { block = block; since = 0 }

abbrev pub held_of : Parts → List Cells → Option Held
held_of e [] = None
held_of e (cells ∷ before) = if is_none (threats (length e.crafts) cells) then option_and_then older (held_of e before) else option_map fresh (fresh_block e (cells ∷ before))

-- What is held after a commit, from what was held, the senses after the commit, and its threats.
abbrev pub held_after : Parts → Option Held → Cells → List Senses → Threats → Option Held
held_after e held cells senses kinds.Nobody = option_and_then older held
held_after e held cells senses (kinds.One other) = option_map fresh (block_for (address_of e other) (had (slice_index_or senses other no_senses)) (cell_at cells other))
held_after e held cells senses kinds.Many = None

-- The block as it is reported.
abbrev pub told : Held → RaBlock
told held = if held.since == 0 then held.block else ended held.block

pub record IsStory (e : Parts) (commits : List Cells) (story : Story) : Type 0 where
  pub size : length story.senses ≡ CRAFTS
  pub senses : (other : ℕ) → other < CRAFTS → slice_index_or story.senses other no_senses ≡ senses_of commits other
  pub held : story.held ≡ held_of e commits

abbrev pub no_story : Story
no_story = record { senses = no_senses ∷ no_senses ∷ no_senses ∷ no_senses ∷ no_senses ∷ no_senses ∷ no_senses ∷ no_senses ∷ no_senses ∷ no_senses ∷ no_senses ∷ no_senses ∷ no_senses ∷ no_senses ∷ no_senses ∷ no_senses ∷ []; held = None }

-- The block of a commit, from what is held after it.
abbrev pub block_by : Parts → List Entry → ℕ → Option Held → Option RaBlock
block_by e earlier own held =
    if is_ra (air_of e) own
    then option_map (λ (h : Held). limited (is_limited is_not_below e earlier own) (is_limited is_not_above e earlier own) (told h)) held
    else None

-- The senses of each advisory are those after the commit.
pub record AreAfter (old : List Senses) (cells : Cells) (new : List Senses) : Type 0 where
  pub size : length new ≡ CRAFTS
  pub each : (other : ℕ) → other < CRAFTS → slice_index_or new other no_senses ≡ senses_after (slice_index_or old other no_senses) (cell_at cells other)

pub record AreStories (e : Parts) (journal : List Entry) (stories : List Story) : Type 0 where
  pub size : length stories ≡ CRAFTS
  pub each : (own : ℕ) → own < CRAFTS → IsStory e (cells_of journal own) (slice_index_or stories own no_story)

-- The blocks so far, by cycle and aircraft.
pub record AreBlocks (e : Parts) (journal : List Entry) (blocks : List (Option RaBlock)) : Type 0 where
  pub size : length blocks ≡ 9600
  pub each : (own cycle : ℕ) → own < CRAFTS → 1 ≤ cycle → cycle ≤ 600 → slice_index_or blocks (place_of own cycle) None ≡ block_in e journal own cycle
