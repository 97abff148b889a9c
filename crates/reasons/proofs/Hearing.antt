-- What follows from what was heard.
use Rattle.std.proofs.Common.{◌≡◌, ℕ, ◌+◌, Bool, true, false, List, [], ◌∷◌, Option, Some, None, refl, sym, ap, ap₂, ◌∙◌}
use Rattle.std.specs.Prelude.{◌==◌, ◌&&◌, if◌then◌else◌, option_map}
use Rattle.acas_base.specs.declared.advisory.Vrc.{Vrc}
use Rattle.acas_base.specs.declared.advisory.Vrc.TheVariants.{Nil, NotBelow, NotAbove}
use Rattle.acas_base.specs.declared.entry.Entry.{Entry}
use Rattle.acas_base.specs.declared.entry.Entry.TheVariants.{Commit, Send, Take}
use Rattle.air_rules.specs.Air.{Air}
use Rattle.air_rules.specs.Journal.{Sent, commits, sent_at}
use Rattle.air_rules.specs.Takes.{Taken, complement_from, complement_read, is_from, last_take, read_copy, vrc_in_force}
use Rattle.journal_reader.specs.Reading.{taken_at}
use Rattle.reasons.specs.Aboard.{Heard, committed, heard_in, told, with_message, without_positions}
use Rattle.reasons.specs.Reasons.{told_by, told_of}
use Rattle.reasons.specs.declared.told.Told.{Told}

-- ---- the commits

-- How many commits were heard.
unfoldable pub made : List Heard → ℕ
made [] = 0
made (committed ∷ heard) = made heard + 1
made (told sender complement ∷ heard) = made heard

made-with : (air : Air) (b : Bool) (sent : Option Sent) (copy : ℕ) (heard : List Heard) → made (if b then with_message air sent copy heard else heard) ≡ made heard
unfolding made
made-with air false sent copy heard = refl
made-with air true None copy heard = refl
made-with air true (Some sent) copy heard = refl

pub commits-heard : (air : Air) (K : List Entry) (craft : ℕ) → commits K craft ≡ made (heard_in air K craft)
unfolding made
commits-heard air [] craft = refl
commits-heard air (Commit own cycle cells ∷ K) craft = go (own == craft) (commits-heard air K craft)
  where
    go : (b : Bool) → commits K craft ≡ made (heard_in air K craft) → (if b then commits K craft + 1 else commits K craft) ≡ made (if b then committed ∷ heard_in air K craft else heard_in air K craft)
    go true same = ap (λ (n : ℕ). n + 1) same
    go false same = same
commits-heard air (Send own target number word ∷ K) craft = commits-heard air K craft
commits-heard air (Take own send copy good ∷ K) craft = commits-heard air K craft ∙ sym (made-with air (good && own == craft) (sent_at K send) copy (heard_in air K craft))

-- ---- the last good take

-- The last message that was heard of an aircraft, without its position.
unfoldable pub newest : List Heard → ℕ → Option Taken
newest [] other = None
newest (committed ∷ heard) other = newest heard other
newest (told sender complement ∷ heard) other = if sender == other then Some (record { send = 0; vrc = complement; commits = made heard }) else newest heard other

abbrev unplaced : Taken → Taken
unplaced taken = record { send = 0; vrc = taken.vrc; commits = taken.commits }

by-take : (air : Air) (good mine : Bool) (sent : Option Sent) (send copy made_before other : ℕ) (heard : List Heard) (rest : Option Taken) → made_before ≡ made heard → option_map unplaced rest ≡ newest heard other
    → option_map unplaced (if good && (mine && is_from sent other) then Some (record { send = send; vrc = complement_read (read_copy air sent copy); commits = made_before }) else rest)
    ≡ newest (if good && mine then with_message air sent copy heard else heard) other
unfolding newest
by-take air false mine sent send copy n other heard rest count same = same
by-take air true false sent send copy n other heard rest count same = same
by-take air true true None send copy n other heard rest count same = same
by-take air true true (Some sent) send copy n other heard rest count same = go (sent.sender == other)
  where
    go : (b : Bool) → option_map unplaced (if b then Some (record { send = send; vrc = complement_read (read_copy air (Some sent) copy); commits = n }) else rest)
        ≡ (if b then Some (record { send = 0; vrc = complement_read (read_copy air (Some sent) copy); commits = made heard }) else newest heard other)
    go true = ap (λ (k : ℕ). let t : Taken = record { send = 0; vrc = complement_read (read_copy air (Some sent) copy); commits = k } in Some t) count
    go false = same

take-heard : (air : Air) (K : List Entry) (craft other : ℕ) → option_map unplaced (last_take air K craft other) ≡ newest (heard_in air K craft) other
unfolding newest
take-heard air [] craft other = refl
take-heard air (Commit own cycle cells ∷ K) craft other = go (own == craft) (take-heard air K craft other)
  where
    go : (b : Bool) → option_map unplaced (last_take air K craft other) ≡ newest (heard_in air K craft) other
        → option_map unplaced (last_take air K craft other) ≡ newest (if b then committed ∷ heard_in air K craft else heard_in air K craft) other
    go true same = same
    go false same = same
take-heard air (Send own target number word ∷ K) craft other = take-heard air K craft other
take-heard air (Take own send copy good ∷ K) craft other =
    by-take air good (own == craft) (sent_at K send) send copy (commits K craft) other (heard_in air K craft) (last_take air K craft other) (commits-heard air K craft) (take-heard air K craft other)

-- ---- the complement in force

unfoldable pub in-force : List Heard → ℕ → Vrc
in-force heard other = vrc_in_force (newest heard other) (made heard)

unplaced-force : (taken : Option Taken) (n : ℕ) → vrc_in_force taken n ≡ vrc_in_force (option_map unplaced taken) n
unplaced-force None n = refl
unplaced-force (Some taken) n = refl

pub complement-heard : (air : Air) (K : List Entry) (craft other : ℕ) → complement_from air K craft other ≡ in-force (heard_in air K craft) other
unfolding in-force
complement-heard air K craft other =
    unplaced-force (last_take air K craft other) (commits K craft) ∙ ap₂ vrc_in_force (take-heard air K craft other) (commits-heard air K craft)

-- ---- what was told

abbrev nowhere : ℕ → ℕ
nowhere at = 0

abbrev without-place : Taken → ℕ
without-place taken = 0

unfoldable pub told-heard : List Heard → ℕ → Option Told
told-heard heard other = told_by (in-force heard other) (made heard) (newest heard other) (option_map without-place (newest heard other))

by-place : (b : Bool) (at : ℕ) (taken : Taken) (place : Option ℕ) (rest : Option Taken) → option_map nowhere place ≡ option_map without-place rest
    → option_map nowhere (if b then Some at else place) ≡ option_map without-place (if b then Some taken else rest)
by-place true at taken place rest same = refl
by-place false at taken place rest same = same

-- Where there is a last good take, it has a position.
placed : (air : Air) (K : List Entry) (craft other : ℕ) → option_map nowhere (taken_at K craft other) ≡ option_map without-place (last_take air K craft other)
placed air [] craft other = refl
placed air (Commit own cycle cells ∷ K) craft other = placed air K craft other
placed air (Send own target number word ∷ K) craft other = placed air K craft other
placed air (Take own send copy good ∷ K) craft other = by-place (good && (own == craft && is_from (sent_at K send) other)) _ _ (taken_at K craft other) (last_take air K craft other) (placed air K craft other)

unplaced-by : (complement : Vrc) (n : ℕ) (taken : Option Taken) (place : Option ℕ) → option_map nowhere place ≡ option_map without-place taken
    → option_map without_positions (told_by complement n taken place) ≡ told_by complement n (option_map unplaced taken) (option_map without-place (option_map unplaced taken))
unplaced-by Nil n taken place same = refl
unplaced-by NotBelow n None place same = refl
unplaced-by NotBelow n (Some taken) None same = absurd cc
unplaced-by NotBelow n (Some taken) (Some at) same = refl
unplaced-by NotAbove n None place same = refl
unplaced-by NotAbove n (Some taken) None same = absurd cc
unplaced-by NotAbove n (Some taken) (Some at) same = refl

pub told-is : (air : Air) (K : List Entry) (craft other : ℕ) → option_map without_positions (told_of air K craft other) ≡ told-heard (heard_in air K craft) other
unfolding told_of told-heard
told-is air K craft other =
    unplaced-by (complement_from air K craft other) (commits K craft) (last_take air K craft other) (taken_at K craft other) (placed air K craft other)
    ∙ (λ i. told_by (complement-heard air K craft other i) (commits-heard air K craft i) (take-heard air K craft other i) (option_map without-place (take-heard air K craft other i)))
