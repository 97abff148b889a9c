-- Messages that are lost.
use Rattle.std.specs.Prelude.{◌≡◌, ℕ, ◌+◌, ◌-◌, ◌≤◌, Bool, List, [], ◌++◌, filter, map}
use Rattle.std.specs.List.{range_with_len}
use Rattle.acas_base.specs.Encounter.{Parts, plain_copy}
use Rattle.acas_base.specs.Fates.{copies_of, fate_of}
use Rattle.acas_base.specs.Order.{fate_below}
use Rattle.acas_base.specs.declared.link.Fate.{Fate}
use Rattle.variants.specs.Flights.{IsSameRun}
use Rattle.variants.specs.declared.change.Loss.{Loss}

-- The fate of a message that is lost: it has no copy.
abbrev pub lost_fate : ℕ → ℕ → ℕ → Fate
lost_fate sender receiver number = record {
  sender = sender;
  receiver = receiver;
  number = number;
  copies = 0;
  first = plain_copy;
  second = plain_copy;
  third = plain_copy;
}

-- The fates of the lost messages, by their numbers.
abbrev pub lost_fates : Loss → List Fate
lost_fates loss = map (lost_fate loss.sender loss.receiver) (range_with_len loss.first ((loss.last + 1) - loss.first))

-- A fate stands before those of the lost messages, or behind them.
abbrev pub is_before : Loss → Fate → Bool
is_before loss fate = fate_below fate (lost_fate loss.sender loss.receiver loss.first)

abbrev pub is_behind : Loss → Fate → Bool
is_behind loss fate = fate_below (lost_fate loss.sender loss.receiver loss.last) fate

-- The fates, where these messages are lost. Each of them has a fate without copies, and no other one. All other fates
-- are as they were.
abbrev pub with_losses : Loss → List Fate → List Fate
with_losses loss fates = filter (is_before loss) fates ++ (lost_fates loss ++ filter (is_behind loss) fates)

-- The encounter `d` is `e` with these messages lost.
pub record IsLossy (e : Parts) (loss : Loss) (d : Parts) : Type 0 where
  pub run : IsSameRun d e
  pub order : loss.first ≤ loss.last
  pub crafts : d.crafts ≡ e.crafts
  pub legs : d.legs ≡ e.legs
  pub misses : d.misses ≡ e.misses
  pub plans : d.plans ≡ e.plans
  pub fates : d.fates ≡ with_losses loss e.fates

-- The message is one of the lost ones.
pub record IsLost (loss : Loss) (sender receiver number : ℕ) : Type 0 where
  pub from : sender ≡ loss.sender
  pub to : receiver ≡ loss.receiver
  pub first : loss.first ≤ number
  pub last : number ≤ loss.last

-- Exactly these messages are lost. What happens to all others stays.
pub record LosesThese (e : Parts) (loss : Loss) (d : Parts) : Type 0 where
  pub lost : (sender receiver number : ℕ) → IsLost loss sender receiver number → copies_of (fate_of d sender receiver number) ≡ []
  pub kept : (sender receiver number : ℕ) → (IsLost loss sender receiver number → ⊥) → fate_of d sender receiver number ≡ fate_of e sender receiver number
