-- The end of a summary: what became of the messages, and the replies that were missed.
use Rattle.std.specs.Prelude.{ℕ, zero, suc, ◌-◌, ◌==◌, Bool, if◌then◌else◌, List, [], ◌∷◌, ◌++◌, codes, length, is_some, take}
use Rattle.std.specs.Fmt.{decimal}
use Rattle.std.specs.List.{flat_map, list_any, range_with_len}
use Rattle.acas_base.specs.Encounter.{Parts}
use Rattle.acas_base.specs.declared.entry.Entry.{Entry}
use Rattle.acas_lines.specs.Lines.{joined}
use Rattle.acas_text.specs.Hex.{hex}
use Rattle.air_journal.specs.Airs.{address_of}
use Rattle.air_rules.specs.Journal.{as_sent, count_of, sends}
use Rattle.deliveries.specs.Mishaps.{befallen, befallen_of}
use Rattle.deliveries.specs.Misses.{has_misses, missed_of}
use Rattle.deliveries.specs.Rows.{rows}
use Rattle.deliveries.specs.declared.mishap.Mishap.{Mishap}
use Rattle.deliveries.specs.declared.mishap.Mishap.TheVariants.{Lost, Spoilt, HeldBack, Repeated, Untaken}
use Rattle.deliveries.specs.declared.rows.Row.{Row}

-- ---- rows

abbrev pub row_text : Row → List ℕ
row_text row = if row.first == row.last then decimal row.first else decimal row.first ++ codes "-" ++ decimal row.last

abbrev pub later_row : Row → List ℕ
later_row row = codes ", " ++ row_text row

abbrev pub rows_joined : List Row → List ℕ
rows_joined [] = []
rows_joined (row ∷ rest) = row_text row ++ flat_map later_row rest

-- How many rows aren't told.
abbrev pub more_text : ℕ → List ℕ
more_text zero = []
more_text (suc n) = codes " and " ++ decimal (suc n) ++ codes " more"

-- At most six rows are told, and how many there are besides.
abbrev pub shown_rows : ℕ
shown_rows = 6

unfoldable pub rows_text : List Row → List ℕ
rows_text all = rows_joined (take shown_rows all) ++ more_text (length all - shown_rows)

-- ---- messages

abbrev pub mishaps : List Mishap
mishaps = Lost ∷ Spoilt ∷ HeldBack ∷ Repeated ∷ Untaken ∷ []

abbrev pub mishap_text : Mishap → List ℕ
mishap_text Lost = codes "lost"
mishap_text Spoilt = codes "spoilt"
mishap_text HeldBack = codes "held back"
mishap_text Repeated = codes "repeated"
mishap_text Untaken = codes "not taken by the end"

-- How many messages the journal sent.
abbrev pub sent_count : List Entry → ℕ
sent_count journal = count_of (λ entry. is_some (as_sent entry)) journal

abbrev pub count_part : Parts → List Entry → Mishap → List ℕ
count_part e journal mishap = codes ", " ++ decimal (befallen e journal mishap) ++ codes " " ++ mishap_text mishap

abbrev pub counts_head : ℕ → List ℕ
counts_head sent = codes "MESSAGES " ++ decimal sent ++ codes " sent"

abbrev pub counts_line : Parts → List Entry → List ℕ
counts_line e journal = counts_head (sent_count journal) ++ flat_map (count_part e journal) mishaps ++ codes "\n"

abbrev pub some_flag : List Bool → Bool
some_flag flags = list_any (λ flag. flag) flags

-- The numbers of the messages from one aircraft to another one that it befalls, where there are any.
abbrev pub mishap_part : Parts → List Entry → ℕ → ℕ → Mishap → List ℕ
mishap_part e journal sender receiver mishap =
    if some_flag (befallen_of e journal mishap sender receiver)
    then codes "; " ++ mishap_text mishap ++ codes " " ++ rows_text (rows (befallen_of e journal mishap sender receiver))
    else []

-- How many messages one aircraft sent to another one, by their addresses.
abbrev pub link_head : ℕ → ℕ → ℕ → List ℕ
link_head sender receiver sent = codes "  " ++ hex 6 sender ++ codes " to " ++ hex 6 receiver ++ codes ": " ++ decimal sent ++ codes " sent"

abbrev pub link_line : Parts → List Entry → ℕ → ℕ → List ℕ
link_line e journal sender receiver =
    link_head (address_of e sender) (address_of e receiver) (sends journal sender receiver) ++ flat_map (mishap_part e journal sender receiver) mishaps ++ codes "\n"

abbrev pub some_mishap : Parts → List Entry → ℕ → ℕ → Bool
some_mishap e journal sender receiver = list_any (λ mishap. some_flag (befallen_of e journal mishap sender receiver)) mishaps

-- The line of two aircraft, where something befalls a message from one to the other.
abbrev pub link_lines : Parts → List Entry → ℕ → ℕ → List (List ℕ)
link_lines e journal sender receiver = if some_mishap e journal sender receiver then link_line e journal sender receiver ∷ [] else []

abbrev pub lines_from : Parts → List Entry → ℕ → List (List ℕ)
lines_from e journal sender = flat_map (link_lines e journal sender) (range_with_len 0 (length e.crafts))

-- By the index of the sender, and then of the receiver.
unfoldable pub all_link_lines : Parts → List Entry → List (List ℕ)
all_link_lines e journal = flat_map (lines_from e journal) (range_with_len 0 (length e.crafts))

-- ---- replies

abbrev pub missed_head : ℕ → ℕ → List ℕ
missed_head own target = codes "  by " ++ hex 6 own ++ codes " from " ++ hex 6 target ++ codes " in "

-- The line of two addresses and of the cycles that are marked.
abbrev pub missed_text : ℕ → ℕ → List Bool → List ℕ
missed_text own target cycles = missed_head own target ++ rows_text (rows cycles) ++ codes "\n"

abbrev pub missed_line : Parts → ℕ → ℕ → List ℕ
missed_line e own target = missed_text (address_of e own) (address_of e target) (missed_of e own target)

abbrev pub missed_lines : Parts → ℕ → ℕ → List (List ℕ)
missed_lines e own target = if some_flag (missed_of e own target) then missed_line e own target ∷ [] else []

abbrev pub missed_by : Parts → ℕ → List (List ℕ)
missed_by e own = flat_map (missed_lines e own) (range_with_len 0 (length e.crafts))

-- By the index of the aircraft that missed them, and then of the other one.
unfoldable pub all_missed_lines : Parts → List (List ℕ)
all_missed_lines e = flat_map (missed_by e) (range_with_len 0 (length e.crafts))

abbrev pub replies_head : List ℕ
replies_head = codes "REPLIES MISSED by plan\n"

abbrev pub replies_lines : Parts → List (List ℕ)
replies_lines e = if has_misses e then replies_head ∷ all_missed_lines e else []

-- ---- the text: an empty line, the counts, the pairs, and the replies

abbrev pub empty_line : List ℕ
empty_line = codes "\n"

abbrev pub delivery_lines : Parts → List Entry → List (List ℕ)
delivery_lines e journal = empty_line ∷ counts_line e journal ∷ (all_link_lines e journal ++ replies_lines e)

abbrev pub deliveries_text : Parts → List Entry → List ℕ
deliveries_text e journal = joined (delivery_lines e journal)
