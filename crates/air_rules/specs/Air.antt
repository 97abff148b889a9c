-- The air as the rules of the journal see it.
use Rattle.std.specs.Prelude.{◌≡◌, ◌≢◌, ℕ, ◌<◌, ◌≤◌, Bool, true, false, List, length, Option, Some, slice_get}
use Rattle.std.specs.Option.{option_map_or}
use Rattle.acas_base.specs.Encounter.{is_active_kind, is_ra_kind}
use Rattle.acas_base.specs.Next.{rank_by}
use Rattle.acas_base.specs.declared.advisory.Rank.{Rank}
use Rattle.acas_base.specs.declared.advisory.Rank.TheVariants.{Second, Free}
use Rattle.acas_base.specs.declared.advisory.ResMsg.{ResMsg}
use Rattle.acas_base.specs.declared.craft.Kind.{Kind}
use Rattle.acas_base.specs.declared.link.CopyPlan.{CopyPlan}
use Rattle.acas_base.specs.declared.view.View.{View}
use Rattle.air_rules.specs.Journal.{Sent}

-- What the rules need of an encounter and of the words of messages.
pub record Air : Type 0 where
  pub count : ℕ  -- how many aircraft there are
  pub places : ℕ  -- how many cells a commit has
  pub cycles : ℕ  -- how many cycles an active aircraft commits
  pub kind : ℕ → Option Kind  -- of an aircraft
  pub address : ℕ → ℕ  -- of an aircraft
  pub copies : ℕ → ℕ → ℕ → List CopyPlan  -- of a message, by sender, receiver and number
  pub view : ℕ → ℕ → ℕ → View  -- by own aircraft, other aircraft and cycle
  pub word : ResMsg → ℕ  -- the word that is sent for a message
  pub read : ℕ → Option ResMsg  -- the message that a word reads as; none where it is spoilt
  pub flip : ℕ → ℕ → ℕ  -- a word with the bits flipped that a mask names

-- The aircraft gives resolution advisories, and takes part in coordination.
abbrev pub is_ra : Air → ℕ → Bool
is_ra air own = option_map_or is_ra_kind (air.kind own) false

-- The aircraft makes entries.
abbrev pub is_active : Air → ℕ → Bool
is_active air own = option_map_or is_active_kind (air.kind own) false

-- The rank of an aircraft against another one.
abbrev pub rank_of : Air → ℕ → ℕ → Rank
rank_of air own other = option_map_or (rank_by (air.address own) (air.address other)) (air.kind other) Free

-- The aircraft gives way to the other one. The other one resolves and doesn't have the higher address.
pub record IsSecond (air : Air) (own other : ℕ) : Type 0 where
  pub apart : own ≢ other
  pub rank : rank_of air own other ≡ Second

-- The plan of a copy, from 0, of a message.
abbrev pub copy_plan : Air → Sent → ℕ → Option CopyPlan
copy_plan air sent copy = slice_get (air.copies sent.sender sent.receiver sent.number) copy

-- A message that this aircraft can send.
pub record IsMessageOf (air : Air) (own : ℕ) (message : ResMsg) : Type 0 where
  pub resolves : is_ra air own ≡ true
  pub sender : message.sender ≡ air.address own

-- What the laws rest on.
pub record IsSound (air : Air) : Type 0 where
  -- A message has at most three copies.
  pub few : (sender receiver number : ℕ) → length (air.copies sender receiver number) ≤ 3
  -- The active aircraft are among those that are counted.
  pub counted : (own : ℕ) → is_active air own ≡ true → own < air.count
  -- Only an aircraft that resolves sees a threat, and it is of kind RA.
  pub threatens : (own other cycle : ℕ) → (air.view own other cycle).threat ≡ true → (air.view own other cycle).resolves ≡ true
  pub resolves : (own other cycle : ℕ) → (air.view own other cycle).resolves ≡ true → is_ra air own ≡ true
  -- The word of a message reads as that message.
  pub reads : (own : ℕ) (message : ResMsg) → IsMessageOf air own message → air.read (air.word message) ≡ Some message
  -- No bit is flipped by the mask 0.
  pub plain : (word : ℕ) → air.flip word 0 ≡ word
  -- Whatever bits the mask of a copy flips, the copy never reads as another message than the one that was sent.
  pub apart : (own : ℕ) (sent : Sent) (copy : ℕ) (plan : CopyPlan) (message read : ResMsg) →
      IsMessageOf air own message → copy_plan air sent copy ≡ Some plan → air.read (air.flip (air.word message) plan.mask) ≡ Some read → read ≡ message
