-- The records that CSV finds in a text are its lines that aren't blank.
use Rattle.std.proofs.Common.{◌≡◌, ℕ, zero, suc, ◌+◌, ◌<◌, ◌≤◌, Bool, true, false, cond, List, [], ◌∷◌, ◌++◌, length, map, Option, Some, None, refl, sym, ap, ◌∙◌, append_assoc, arith, eqb-true}
use Rattle.std.specs.Prelude.{◌==◌, if◌then◌else◌}
use Rattle.std.specs.List.{onto_first}
use Rattle.std.proofs.lemmas.List.{append-nil}
use Rattle.csv.specs.Machine.{Read, next_record}
use Rattle.csv.specs.Reading.{records_from, records_next, strip_bom}
use Rattle.csv.specs.declared.parser.State.{State}
use Rattle.csv.specs.declared.parser.State.TheVariants as st
use Rattle.enc_file.specs.Records.{records_of, unquoted}
use Rattle.fault_text.specs.Lines.{fields_in, file_lines, lines_after, written}

-- The rest of the line at hand, and what stands behind its end: whether a carriage return is the end, and the bytes.
front_line : List ℕ → List ℕ
front_line [] = []
front_line (c ∷ cs) = if c == 13 then [] else if c == 10 then [] else c ∷ front_line cs

returns_at : List ℕ → Bool
returns_at [] = false
returns_at (c ∷ cs) = if c == 13 then true else if c == 10 then false else returns_at cs

behind_line : List ℕ → List ℕ
behind_line [] = []
behind_line (c ∷ cs) = if c == 13 then cs else if c == 10 then cs else behind_line cs

-- The state between two records.
abbrev between : Bool → State
between returned = if returned then st.AfterCr else st.StartRecord

-- The first field gets bytes in front.
abbrev put : List ℕ → List (List ℕ) → List (List ℕ)
put p [] = p ∷ []
put p (f ∷ fs) = (p ++ f) ∷ fs

-- There is a field.
record HasFirst (fs : List (List ℕ)) : Type 0 where
  first : List ℕ
  others : List (List ℕ)
  whole : fs ≡ first ∷ others

has-onto : (c : ℕ) (fs : List (List ℕ)) → HasFirst (onto_first c fs)
has-onto c [] = record { first = c ∷ []; others = []; whole = refl }
has-onto c (f ∷ fs) = record { first = c ∷ f; others = fs; whole = refl }

has-split : (b : Bool) (c : ℕ) (fs : List (List ℕ)) → HasFirst (cond b ([] ∷ fs) (onto_first c fs))
has-split true c fs = record { first = []; others = fs; whole = refl }
has-split false c fs = has-onto c fs

has-fields : (line : List ℕ) → HasFirst (fields_in line)
has-fields [] = record { first = []; others = []; whole = refl }
has-fields (c ∷ cs) = has-split (c == 44) c (fields_in cs)

put-nothing : (fs : List (List ℕ)) → HasFirst fs → put [] fs ≡ fs
put-nothing fs h = rw h.whole refl

put-byte : (p : List ℕ) (c : ℕ) (fs : List (List ℕ)) → HasFirst fs → put (p ++ c ∷ []) fs ≡ put p (onto_first c fs)
put-byte p c fs h = rw h.whole (ap (λ f. f ∷ h.others) (append_assoc p (c ∷ []) h.first))

-- With quoting off the start of a field reads as its inside does.
start-as-inside : (done : List (List ℕ)) (p xs : List ℕ) → next_record unquoted st.StartField done p xs ≡ next_record unquoted st.InField done p xs
unfolding next_record
start-as-inside done p [] = refl
start-as-inside done p (c ∷ cs) = refl

-- From inside a record its line is read to the end.
abbrev read_on : List (List ℕ) → List ℕ → List ℕ → Read
read_on done p xs = (done ++ put p (fields_in (front_line xs)), between (returns_at xs), behind_line xs)

-- A byte more, where the rest is read like that.
abbrev ReadsOn : List ℕ → Type 0
ReadsOn cs = (done : List (List ℕ)) (p : List ℕ) → next_record unquoted st.InField done p cs ≡ Some (read_on done p cs)

inside-byte : (comma return feed : Bool) (done : List (List ℕ)) (p : List ℕ) (c : ℕ) (cs : List ℕ) → (c == 44) ≡ comma → (c == 13) ≡ return → (c == 10) ≡ feed → ReadsOn cs
    → next_record unquoted st.InField done p (c ∷ cs) ≡ Some (read_on done p (c ∷ cs))
unfolding next_record front_line returns_at behind_line
inside-byte true return feed done p c cs comma-is return-is feed-is more =
    let is : c ≡ 44 = eqb-true c 44 comma-is in
    rw is (start-as-inside (done ++ p ∷ []) [] cs ∙ more (done ++ p ∷ []) []
    ∙ ap (λ (t : List (List ℕ)). Some (t, between (returns_at cs), behind_line cs))
    (append_assoc done (p ∷ []) (put [] (fields_in (front_line cs))) ∙ rw (put-nothing (fields_in (front_line cs)) (has-fields (front_line cs)), append-nil p) refl))
inside-byte false true feed done p c cs comma-is return-is feed-is more = rw (comma-is, return-is) (ap (λ f. Some (done ++ f ∷ [], st.AfterCr, cs)) (sym (append-nil p)))
inside-byte false false true done p c cs comma-is return-is feed-is more = rw (comma-is, return-is, feed-is) (ap (λ f. Some (done ++ f ∷ [], st.StartRecord, cs)) (sym (append-nil p)))
inside-byte false false false done p c cs comma-is return-is feed-is more =
    rw (comma-is, return-is, feed-is) (more done (p ++ c ∷ [])
    ∙ ap (λ (t : List (List ℕ)). Some (done ++ t, between (returns_at cs), behind_line cs)) (put-byte p c (fields_in (front_line cs)) (has-fields (front_line cs)) ∙ rw comma-is refl))

inside-reads : (xs : List ℕ) → ReadsOn xs
unfolding next_record front_line returns_at behind_line
inside-reads [] = λ done p. ap (λ f. Some (done ++ f ∷ [], st.StartRecord, [])) (sym (append-nil p))
inside-reads (c ∷ cs) = λ done p. inside-byte (c == 44) (c == 13) (c == 10) done p c cs refl refl refl (inside-reads cs)

-- The lines of a text that begins inside a line, where it has a byte.
abbrev LinesOn : List ℕ → Type 0
LinesOn cs = (c : ℕ) → (c == 13) ≡ false → (c == 10) ≡ false → lines_after false (c ∷ cs) ≡ (c ∷ front_line cs) ∷ lines_after (returns_at cs) (behind_line cs)

lines-byte : (return feed : Bool) (d : ℕ) (ds : List ℕ) → (d == 13) ≡ return → (d == 10) ≡ feed → LinesOn ds → LinesOn (d ∷ ds)
unfolding front_line returns_at behind_line
lines-byte true feed d ds d-return d-feed more = λ c return-is feed-is. rw (return-is, feed-is, d-return) refl
lines-byte false true d ds d-return d-feed more = λ c return-is feed-is. rw (return-is, feed-is, d-return, d-feed) refl
lines-byte false false d ds d-return d-feed more = λ c return-is feed-is. rw (return-is, feed-is) (ap (onto_first c) (more d d-return d-feed) ∙ rw (d-return, d-feed) refl)

lines-on : (cs : List ℕ) → LinesOn cs
unfolding front_line returns_at behind_line
lines-on [] = λ c return-is feed-is. rw (return-is, feed-is) refl
lines-on (d ∷ ds) = lines-byte (d == 13) (d == 10) d ds refl refl (lines-on ds)

-- A carriage return before a text makes no difference where the text begins with a byte of a line.
lines-returned : (returned : Bool) (c : ℕ) (cs : List ℕ) → (c == 13) ≡ false → (c == 10) ≡ false → lines_after returned (c ∷ cs) ≡ (c ∷ front_line cs) ∷ lines_after (returns_at cs) (behind_line cs)
lines-returned true c cs return-is feed-is =
    let same : lines_after true (c ∷ cs) ≡ lines_after false (c ∷ cs) = rw (return-is, feed-is) refl in
    same ∙ lines-on cs c return-is feed-is
lines-returned false c cs return-is feed-is = lines-on cs c return-is feed-is

behind-choice : (a b : Bool) (c : ℕ) (cs ds : List ℕ) → length ds ≤ length cs → length (cond a cs (cond b cs ds)) ≤ length (c ∷ cs)
behind-choice true b c cs ds h = omega arith
behind-choice false true c cs ds h = omega arith
behind-choice false false c cs ds h = omega (arith, h)

behind-short : (xs : List ℕ) → length (behind_line xs) ≤ length xs
unfolding behind_line
behind-short [] = omega arith
behind-short (c ∷ cs) = behind-choice (c == 13) (c == 10) c cs (behind_line cs) (behind-short cs)

-- The next record is the first line that isn't blank, and the lines behind it are left; or there is no such line.
abbrev NextLine : Option Read → ℕ → List (List ℕ) → Type 0
NextLine None size lines = written lines ≡ []
NextLine (Some r) size lines =
    (line : List ℕ) × (returned : Bool) × (r.0 ≡ fields_in line) × (r.1 ≡ between returned) × (length r.2 < size) × (written lines ≡ line ∷ written (lines_after returned r.2))

begins : (returned : Bool) (c : ℕ) (cs : List ℕ) → (c == 13) ≡ false → (c == 10) ≡ false → next_record unquoted (between returned) [] [] (c ∷ cs) ≡ next_record unquoted st.InField [] [] (c ∷ cs)
unfolding next_record
begins true c cs return-is feed-is = rw (return-is, feed-is) refl
begins false c cs return-is feed-is = rw (return-is, feed-is) refl

fields-begin : (c : ℕ) (cs : List ℕ) → (c == 13) ≡ false → (c == 10) ≡ false → put [] (fields_in (front_line (c ∷ cs))) ≡ fields_in (c ∷ front_line cs)
unfolding front_line
fields-begin c cs return-is feed-is = rw (return-is, feed-is) (put-nothing (fields_in (c ∷ front_line cs)) (has-fields (c ∷ front_line cs)))

behind-begins : (c : ℕ) (cs : List ℕ) → (c == 13) ≡ false → (c == 10) ≡ false → (returns_at (c ∷ cs) ≡ returns_at cs) × (behind_line (c ∷ cs) ≡ behind_line cs)
unfolding returns_at behind_line
behind-begins c cs return-is feed-is = (rw (return-is, feed-is) refl, rw (return-is, feed-is) refl)

skips-return : (returned : Bool) (cs : List ℕ) → next_record unquoted (between returned) [] [] (13 ∷ cs) ≡ next_record unquoted (between false) [] [] cs
unfolding next_record
skips-return true cs = refl
skips-return false cs = refl

skips-feed : (returned : Bool) (cs : List ℕ) → next_record unquoted (between returned) [] [] (10 ∷ cs) ≡ next_record unquoted (between false) [] [] cs
unfolding next_record
skips-feed true cs = refl
skips-feed false cs = refl

written-returned : (cs : List ℕ) → written (lines_after true cs) ≡ written (lines_after false cs)
written-returned [] = refl
written-returned (c ∷ cs) = by (c == 13) (c == 10) where
  by : (a b : Bool) → written (cond a ([] ∷ lines_after true cs) (cond b (lines_after false cs) (onto_first c (lines_after false cs)))) ≡ written (cond a ([] ∷ lines_after true cs) (cond b ([] ∷ lines_after false cs) (onto_first c (lines_after false cs))))
  by true b = refl
  by false true = refl
  by false false = refl

written-feed : (returned : Bool) (cs : List ℕ) → written (lines_after returned (10 ∷ cs)) ≡ written (lines_after false cs)
written-feed true cs = refl
written-feed false cs = refl

next-none : (returned : Bool) → next_record unquoted (between returned) [] [] [] ≡ None
unfolding next_record
next-none true = refl
next-none false = refl

next-longer : (o : Option Read) (m n : ℕ) (lines : List (List ℕ)) → m ≤ n → NextLine o m lines → NextLine o n lines
next-longer None m n lines le h = h
next-longer (Some r) m n lines le h = (h.0, h.1, h.2, h.3, omega (arith, h.4, le), h.5)

next-same : (o : Option Read) (n : ℕ) (a b : List (List ℕ)) → written b ≡ written a → NextLine o n a → NextLine o n b
next-same None n a b e h = e ∙ h
next-same (Some r) n a b e h = (h.0, h.1, h.2, h.3, h.4, e ∙ h.5)

written-first : (c : ℕ) (cs : List ℕ) (lines : List (List ℕ)) → written ((c ∷ cs) ∷ lines) ≡ (c ∷ cs) ∷ written lines
written-first c cs lines = refl

abbrev LeavesLine : Bool → List ℕ → Type 0
LeavesLine returned xs = NextLine (next_record unquoted (between returned) [] [] xs) (length xs) (lines_after returned xs)

next-byte : (return feed returned : Bool) (c : ℕ) (cs : List ℕ) → (c == 13) ≡ return → (c == 10) ≡ feed → LeavesLine false cs → LeavesLine returned (c ∷ cs)
next-byte true feed returned c cs return-is feed-is more =
    let is : c ≡ 13 = eqb-true c 13 return-is in
    rw (is, skips-return returned cs) (next-longer _ (length cs) (length (13 ∷ cs)) _ (omega arith) (next-same _ (length cs) (lines_after false cs) ([] ∷ lines_after true cs) (written-returned cs) more))
next-byte false true returned c cs return-is feed-is more =
    let is : c ≡ 10 = eqb-true c 10 feed-is in
    rw (is, skips-feed returned cs) (next-longer _ (length cs) (length (10 ∷ cs)) _ (omega arith) (next-same _ (length cs) (lines_after false cs) (lines_after returned (10 ∷ cs)) (written-feed returned cs) more))
next-byte false false returned c cs return-is feed-is more =
    let behind = behind-begins c cs return-is feed-is in
    let lines : written (lines_after returned (c ∷ cs)) ≡ (c ∷ front_line cs) ∷ written (lines_after (returns_at cs) (behind_line cs)) = ap written (lines-returned returned c cs return-is feed-is) ∙ written-first c (front_line cs) (lines_after (returns_at cs) (behind_line cs)) in
    rw (begins returned c cs return-is feed-is, inside-reads (c ∷ cs) [] [])
    (c ∷ front_line cs, returns_at cs, fields-begin c cs return-is feed-is, ap between behind.0, rw behind.1 (omega (arith, behind-short cs)), rw behind.1 lines)

next-line : (xs : List ℕ) (returned : Bool) → LeavesLine returned xs
next-line [] returned = rw (next-none returned) refl
next-line (c ∷ cs) returned = next-byte (c == 13) (c == 10) returned c cs refl refl (next-line cs false)

-- All records of a text.
from-next : (n : ℕ) (o : Option Read) (size : ℕ) (lines : List (List ℕ)) → size < suc n → NextLine o size lines
    → ((returned : Bool) (xs : List ℕ) → length xs < n → records_from unquoted n (between returned) xs ≡ map fields_in (written (lines_after returned xs)))
    → records_next (records_from unquoted n) o ≡ map fields_in (written lines)
from-next n None size lines h next more = rw next refl
from-next n (Some r) size lines h next more =
    rw (next.5, next.2, next.3) (ap (λ (t : List (List (List ℕ))). fields_in next.0 ∷ t) (more next.1 r.2 (omega (arith, next.4, h))))

all-records : (n : ℕ) (returned : Bool) (xs : List ℕ) → length xs < n → records_from unquoted n (between returned) xs ≡ map fields_in (written (lines_after returned xs))
unfolding records_from
all-records zero returned xs h = absurd (omega (arith, h))
all-records (suc n) returned xs h = from-next n (next_record unquoted (between returned) [] [] xs) (length xs) (lines_after returned xs) h (next-line xs returned) (all-records n)

pub records-are-lines : (text : List ℕ) → records_of text ≡ map fields_in (written (file_lines text))
records-are-lines text = all-records (length (strip_bom text) + 1) false (strip_bom text) (omega arith)
