-- What an entry is about.
use Rattle.std.specs.Prelude.{ℕ, ◌<◌, ◌≤◌, ◌^◌, List, [], ◌∷◌, codes}
use Rattle.std.specs.Fmt.{decimal}
use Rattle.acas_base.specs.Ranges.{IsCycle}
use Rattle.acas_base.specs.declared.entry.Entry.{Entry}
use Rattle.acas_base.specs.declared.entry.Entry.TheVariants.{Commit, Send, Take}
use Rattle.rec_audit.specs.declared.keys.Key.{Key}
use Rattle.rec_audit.specs.declared.keys.Key.TheVariants as keys

-- A commit of an aircraft and a cycle, a send of a pair, or a take of a copy by an aircraft.
abbrev pub key : Entry → Key
key (Commit own cycle cells) = keys.Commit own cycle
key (Send own target number word) = keys.Send own target
key (Take own send copy good) = keys.Take own send copy

-- The first fields of an entry's line. They say its key.
abbrev pub key_fields : Key → List (List ℕ)
key_fields (keys.Commit own cycle) = codes "c" ∷ decimal own ∷ decimal cycle ∷ []
key_fields (keys.Send own target) = codes "s" ∷ decimal own ∷ decimal target ∷ []
key_fields (keys.Take own send copy) = codes "t" ∷ decimal own ∷ decimal send ∷ decimal copy ∷ []

-- A key of an entry in an encounter of `count` aircraft.
abbrev pub IsKey : ℕ → Key → Type 0
IsKey count (keys.Commit own cycle) = (own < count) × IsCycle cycle
IsKey count (keys.Send own target) = (own < count) × (target < count)
IsKey count (keys.Take own send copy) = (own < count) × (send < 2 ^ 32) × (copy ≤ 2)
