-- Lines of plain fields read as the records whose lines they are.
use Rattle.std.proofs.Common.{◌≡◌, ℕ, List, [], ◌∷◌, ◌++◌, map, Some, Bool, false, cond, refl, ap, ◌∙◌, append_assoc}
use Rattle.std.specs.Prelude.{◌==◌, ◌||◌}
use Rattle.std.specs.List.{AllByRecursion, join_with_byte}
use Rattle.csv.specs.Machine.{Runs, next_record}
use Rattle.csv.specs.Reading.{Reached, records}
use Rattle.csv.specs.declared.parser.Action.{Action}
use Rattle.csv.specs.declared.parser.State.{State}
use Rattle.csv.specs.declared.parser.State.TheVariants as st
use Rattle.csv.proofs.ReadFacts.{run-copies}
use Rattle.acas_lines.specs.Lines.{joined}
use Rattle.enc_file.specs.Records.{unquoted}
use Rattle.enc_file.specs.Spelling.{line_of}
use Rattle.enc_file.proofs.Reached.{reached-all}

-- A byte that is neither a comma nor an end of line.
pub record IsPlainByte (c : ℕ) : Type 0 where
  pub no_comma : (c == 44) ≡ false
  pub no_return : (c == 13) ≡ false
  pub no_feed : (c == 10) ≡ false

abbrev pub IsPlainField : List ℕ → Type 0
IsPlainField field = AllByRecursion IsPlainByte field

-- A record that its line gives back: its fields are plain, and it has a first one, which is not empty.
abbrev pub IsReadable : List (List ℕ) → Type 0
IsReadable [] = ⊥
IsReadable ([] ∷ fields) = ⊥
IsReadable ((c ∷ cs) ∷ fields) = IsPlainField (c ∷ cs) × AllByRecursion IsPlainField fields

abbrev pub AreReadable : List (List (List ℕ)) → Type 0
AreReadable rows = AllByRecursion IsReadable rows

-- A plain byte joins the field.
byte-joins : (a b c : Bool) → a ≡ false → b ≡ false → c ≡ false → (x y z : State × Action) → cond a x (cond (b || c) y z) ≡ z
byte-joins a b c comma return feed x y z = rw (comma, return, feed) refl

field-runs : (f : List ℕ) → IsPlainField f → Runs unquoted st.InField f
unfolding Runs
field-runs [] h = tt
field-runs (c ∷ cs) h = (byte-joins (c == 44) (c == 13) (c == 10) h.0.no_comma h.0.no_return h.0.no_feed _ _ _, field-runs cs h.1)

-- A comma ends a field, and a line feed the record.
comma-ends : (done : List (List ℕ)) (f rest : List ℕ) → next_record unquoted st.InField done f (44 ∷ rest) ≡ next_record unquoted st.StartField (done ++ f ∷ []) [] rest
unfolding next_record
comma-ends done f rest = refl

feed-ends : (done : List (List ℕ)) (f rest : List ℕ) → next_record unquoted st.InField done f (10 ∷ rest) ≡ Some (done ++ f ∷ [], st.StartRecord, rest)
unfolding next_record
feed-ends done f rest = refl

-- With quoting off the start of a field reads as its inside does.
start-byte : (done : List (List ℕ)) (c : ℕ) (rest : List ℕ) → next_record unquoted st.StartField done [] (c ∷ rest) ≡ next_record unquoted st.InField done [] (c ∷ rest)
unfolding next_record
start-byte done c rest = refl

start-field : (done : List (List ℕ)) (bytes rest : List ℕ) → next_record unquoted st.StartField done [] (bytes ++ 10 ∷ rest) ≡ next_record unquoted st.InField done [] (bytes ++ 10 ∷ rest)
start-field done [] rest = start-byte done 10 rest
start-field done (c ∷ bytes) rest = start-byte done c (bytes ++ 10 ∷ rest)

-- The rest of a record, from inside a field of which a part was read.
fields-read : (done : List (List ℕ)) (part f : List ℕ) (fs : List (List ℕ)) (rest : List ℕ) → IsPlainField f → AllByRecursion IsPlainField fs
    → next_record unquoted st.InField done part (join_with_byte 44 (f ∷ fs) ++ 10 ∷ rest) ≡ Some (done ++ (part ++ f) ∷ fs, st.StartRecord, rest)
fields-read done part f [] rest h hs = run-copies unquoted st.InField done part f (10 ∷ rest) (field-runs f h) ∙ feed-ends done (part ++ f) rest
fields-read done part f (g ∷ gs) rest h hs =
    let others = join_with_byte 44 (g ∷ gs) in
    ap (next_record unquoted st.InField done part) (append_assoc f (44 ∷ others) (10 ∷ rest))
    ∙ run-copies unquoted st.InField done part f (44 ∷ (others ++ 10 ∷ rest)) (field-runs f h)
    ∙ comma-ends done (part ++ f) (others ++ 10 ∷ rest)
    ∙ start-field (done ++ (part ++ f) ∷ []) others rest
    ∙ fields-read (done ++ (part ++ f) ∷ []) [] g gs rest hs.0 hs.1
    ∙ ap (λ (t : List (List ℕ)). Some (t, st.StartRecord, rest)) (append_assoc done ((part ++ f) ∷ []) (g ∷ gs))

-- The first byte of a line starts a record.
start-record : (c : ℕ) (rest : List ℕ) → IsPlainByte c → next_record unquoted st.StartRecord [] [] (c ∷ rest) ≡ next_record unquoted st.InField [] [] (c ∷ rest)
unfolding next_record
start-record c rest h = rw (h.no_return, h.no_feed, h.no_comma) refl

record-read : (c : ℕ) (cs : List ℕ) (fs : List (List ℕ)) (rest : List ℕ) → IsReadable ((c ∷ cs) ∷ fs)
    → next_record unquoted st.StartRecord [] [] (join_with_byte 44 ((c ∷ cs) ∷ fs) ++ 10 ∷ rest) ≡ Some ((c ∷ cs) ∷ fs, st.StartRecord, rest)
record-read c cs [] rest h = start-record c (cs ++ 10 ∷ rest) h.0.0 ∙ fields-read [] [] (c ∷ cs) [] rest h.0 h.1
record-read c cs (g ∷ gs) rest h = start-record c ((cs ++ 44 ∷ join_with_byte 44 (g ∷ gs)) ++ 10 ∷ rest) h.0.0 ∙ fields-read [] [] (c ∷ cs) (g ∷ gs) rest h.0 h.1

-- The line of a readable record reads as the record, and what follows is left.
pub line-read : (row : List (List ℕ)) (rest : List ℕ) → IsReadable row → next_record unquoted st.StartRecord [] [] (line_of row ++ rest) ≡ Some (row, st.StartRecord, rest)
line-read [] rest h = absurd h
line-read ([] ∷ fs) rest h = absurd h
line-read ((c ∷ cs) ∷ fs) rest h =
    ap (next_record unquoted st.StartRecord [] []) (append_assoc (join_with_byte 44 ((c ∷ cs) ∷ fs)) (10 ∷ []) rest) ∙ record-read c cs fs rest h

-- So the records are reached one after the other, and nothing is left.
lines-reach : (rows : List (List (List ℕ))) → AreReadable rows → Reached unquoted st.StartRecord (joined (map line_of rows)) rows st.StartRecord []
unfolding Reached
lines-reach [] h = (refl, refl)
lines-reach (row ∷ rows) h =
    let rest = joined (map line_of rows) in
    ((row, st.StartRecord, rest), line-read row rest h.0, refl, lines-reach rows h.1)

-- The records of the lines of readable records are these records.
pub records-of-lines : (rows : List (List (List ℕ))) → AreReadable rows → records unquoted (joined (map line_of rows)) ≡ rows
unfolding next_record
records-of-lines rows h = reached-all unquoted st.StartRecord (joined (map line_of rows)) [] rows (lines-reach rows h) refl
