-- The two kinds of losses of a run.
use Rattle.std.specs.Prelude.{ℕ, ◌-◌, List, flat_map, length, map}
use Rattle.std.specs.List.{range_with_len}
use Rattle.acas_base.specs.Encounter.{Parts}
use Rattle.acas_base.specs.declared.entry.Entry.{Entry}
use Rattle.air_rules.specs.Journal.{sends}
use Rattle.run_losses.specs.Losses.{front_loss, of_links, singles_among}
use Rattle.run_losses.specs.declared.links.Part.{Part}
use Rattle.run_losses.specs.declared.links.Part.TheVariants.{Singles, Fronts}
use Rattle.variants.specs.declared.change.Change.{Change}

-- Those of one kind, of a link with so many messages.
abbrev pub losses_by : Parts → Part → ℕ → ℕ → ℕ → List Change
losses_by e Singles sender receiver sent = singles_among e sender receiver (range_with_len 1 sent)
losses_by e Fronts sender receiver sent = map (front_loss sender receiver) (range_with_len 2 (sent - 1))

-- Those of a link of a run.
abbrev pub losses_at : Parts → List Entry → Part → ℕ → ℕ → List Change
losses_at e journal part sender receiver = losses_by e part sender receiver (sends journal sender receiver)

-- Those of the links from a sender.
abbrev pub losses_from : Parts → List Entry → Part → ℕ → List Change
losses_from e journal part sender = flat_map (losses_at e journal part sender) (range_with_len 0 (length e.crafts))

-- Those of all links.
abbrev pub losses_in : Parts → List Entry → Part → List Change
losses_in e journal part = of_links (length e.crafts) (losses_at e journal part)
