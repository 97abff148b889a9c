-- Two airs that are alike in all but a few things.
use Rattle.std.specs.Prelude.{◌≡◌, ℕ, ◌≤◌}
use Rattle.acas_base.specs.declared.advisory.ResMsg.{ResMsg}
use Rattle.air_rules.specs.Air.{Air}

-- Two airs have the same aircraft, which fly as long, and words mean the same in both. What the aircraft see, and what
-- becomes of their messages, can differ.
pub record HaveTheSameAircraft (one two : Air) : Type 0 where
  pub count : one.count ≡ two.count
  pub places : one.places ≡ two.places
  pub cycles : one.cycles ≡ two.cycles
  pub kind : (own : ℕ) → one.kind own ≡ two.kind own
  pub address : (own : ℕ) → one.address own ≡ two.address own
  pub word : (message : ResMsg) → one.word message ≡ two.word message
  pub read : (word : ℕ) → one.read word ≡ two.read word
  pub flip : (word mask : ℕ) → one.flip word mask ≡ two.flip word mask

-- Two airs are alike but for the copies of messages: how many there are, how long each is held back, and which of its
-- bits are flipped. A lost message has no copy. Of this kind are two encounters that differ in fates and plans alone.
pub record AreAlikeButCopies (one two : Air) : Type 0 where
  pub aircraft : HaveTheSameAircraft one two
  pub view : (own other cycle : ℕ) → one.view own other cycle ≡ two.view own other cycle

-- Two airs are alike up to a cycle. What is seen in later cycles can differ.
pub record AreAlikeUpTo (one two : Air) (last : ℕ) : Type 0 where
  pub aircraft : HaveTheSameAircraft one two
  pub copies : (sender receiver number : ℕ) → one.copies sender receiver number ≡ two.copies sender receiver number
  pub view : (own other cycle : ℕ) → 1 ≤ cycle → cycle ≤ last → one.view own other cycle ≡ two.view own other cycle
