-- What the words of a command line can say.
use Rattle.std.specs.Prelude.{ℕ, List}
use Rattle.acas_top.specs.declared.words.Plain.{Plain}
use Rattle.acas_top.specs.declared.words.Threaded.{Threaded}
use Rattle.labels.specs.Labels.{LabelWords}

-- A command that waits for nobody; `fly` with the addresses that it names; `picture` with labels; or a run in threads.
pub data Command : Type 0 where
  OfPlain : Plain → Command
  OfFlight : List (List ℕ) → Command
  OfPicture : LabelWords → Command
  OfRun : Threaded → Command
