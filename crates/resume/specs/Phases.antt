-- Where a journal stands within a round.
use Rattle.std.specs.Prelude.{◌≡◌, ◌⊎◌, ℕ, ◌+◌, ◌<◌, ◌≤◌, true, List}
use Rattle.acas_base.specs.declared.entry.Entry.{Entry}
use Rattle.air_rules.specs.Air.{Air, is_active}
use Rattle.air_rules.specs.Due.{NothingDue}
use Rattle.air_rules.specs.Journal.{commits}
use Rattle.air_rules.specs.Owed.{NobodyOwes, OwesNothing}
use Rattle.air_rules.specs.Serial.{IsIdle}

-- Every active aircraft has made `made` commits.
abbrev pub AreLevel : Air → List Entry → ℕ → Type 0
AreLevel air journal made = (own : ℕ) → is_active air own ≡ true → commits journal own ≡ made

-- Some active aircraft has made `made` commits.
pub record HasOne (air : Air) (journal : List Entry) (made : ℕ) : Type 0 where
  pub own : ℕ
  pub active : is_active air own ≡ true
  pub made_is : commits journal own ≡ made

-- After `rounds` rounds, within the next one. The aircraft before this one have committed in it. The others haven't,
-- and they owe nothing and have nothing due. Either somebody has committed in this round, or nothing is left of the
-- round before.
pub record BeforeCommit (air : Air) (journal : List Entry) (own rounds : ℕ) : Type 0 where
  pub committed : (other : ℕ) → is_active air other ≡ true → other < own → commits journal other ≡ rounds + 1
  pub others : (other : ℕ) → is_active air other ≡ true → own ≤ other → commits journal other ≡ rounds
  pub owe_nothing : (other : ℕ) → own ≤ other → OwesNothing air journal other
  pub have_nothing : (other : ℕ) → own ≤ other → is_active air other ≡ true → NothingDue air journal other
  pub begun : HasOne air journal (rounds + 1) ⊎ IsIdle air journal

-- All are level, and the aircraft before this one owe nothing.
pub record BeforeSends (air : Air) (journal : List Entry) (own rounds : ℕ) : Type 0 where
  pub level : AreLevel air journal rounds
  pub sent : (before : ℕ) → before < own → OwesNothing air journal before

-- All are level, nobody owes, and the aircraft before this one have taken all that is due to them.
pub record BeforeTakes (air : Air) (journal : List Entry) (own rounds : ℕ) : Type 0 where
  pub level : AreLevel air journal rounds
  pub sent : NobodyOwes air journal
  pub taken : (before : ℕ) → before < own → is_active air before ≡ true → NothingDue air journal before
