-- The losses of messages of a run.
use Rattle.std.specs.Prelude.{ℕ, ◌-◌, ◌==◌, not, Bool, List, ◌++◌, filter, flat_map, length, map}
use Rattle.std.specs.List.{range_with_len}
use Rattle.acas_base.specs.Encounter.{Parts}
use Rattle.acas_base.specs.Fates.{copies_of, fate_of}
use Rattle.acas_base.specs.declared.entry.Entry.{Entry}
use Rattle.air_rules.specs.Journal.{sends}
use Rattle.variants.specs.declared.change.Change.{Change}
use Rattle.variants.specs.declared.change.Change.TheVariants.{Lost}

-- The message has a copy.
abbrev pub has_copy : Parts → ℕ → ℕ → ℕ → Bool
has_copy e sender receiver number = not (length (copies_of (fate_of e sender receiver number)) == 0)

-- The messages of a link lost, from one number to another one.
abbrev pub loss_of : ℕ → ℕ → ℕ → ℕ → Change
loss_of sender receiver first last = Lost (record { sender = sender; receiver = receiver; first = first; last = last })

-- One message lost.
abbrev pub one_loss : ℕ → ℕ → ℕ → Change
one_loss sender receiver number = loss_of sender receiver number number

-- The messages from the first one to a number lost.
abbrev pub front_loss : ℕ → ℕ → ℕ → Change
front_loss sender receiver last = loss_of sender receiver 1 last

-- Of the messages of a link with these numbers, each one lost that has a copy.
abbrev pub singles_among : Parts → ℕ → ℕ → List ℕ → List Change
singles_among e sender receiver numbers = map (one_loss sender receiver) (filter (has_copy e sender receiver) numbers)

-- Each message lost that was sent on a link and has a copy.
abbrev pub singles_of : Parts → List Entry → ℕ → ℕ → List Change
singles_of e journal sender receiver = singles_among e sender receiver (range_with_len 1 (sends journal sender receiver))

-- The messages of a link lost from the first one to each number from 2 to the last one that was sent.
abbrev pub fronts_of : List Entry → ℕ → ℕ → List Change
fronts_of journal sender receiver = map (front_loss sender receiver) (range_with_len 2 (sends journal sender receiver - 1))

-- Those of all links of so many aircraft, by sender and then by receiver.
abbrev pub of_links : ℕ → (ℕ → ℕ → List Change) → List Change
of_links count losses = flat_map (λ sender. flat_map (losses sender) (range_with_len 0 count)) (range_with_len 0 count)

-- The losses of a run: each message lost that has a copy, and then the first messages of each link lost, up to each
-- number.
abbrev pub losses_of : Parts → List Entry → List Change
losses_of e journal = of_links (length e.crafts) (singles_of e journal) ++ of_links (length e.crafts) (fronts_of journal)
