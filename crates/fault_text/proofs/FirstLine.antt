-- The first line of a text.
use Rattle.std.proofs.Common.{◌≡◌, ℕ, zero, suc, ◌+◌, ◌<◌, ◌≤◌, Bool, true, false, cond, List, [], ◌∷◌, ◌++◌, length, get_or, take, drop, refl, sym, ap, ◌∙◌, append_assoc, arith, zero-add, eqb, eqb-true, length-append}
use Rattle.std.specs.Prelude.{◌==◌, ◌||◌, if◌then◌else◌}
use Rattle.std.specs.List.{list_any, onto_first}
use Rattle.std.proofs.lemmas.Bool.{false≢true}
use Rattle.fault_text.specs.Lines.{is_written, lines_after, up_to_last, written}

-- No end of a line stands before a place.
abbrev pub NoEnd : List ℕ → ℕ → Type 0
NoEnd bytes n = (k : ℕ) → 0 ≤ k → k < n → (eqb (get_or bytes k 0) 10 || eqb (get_or bytes k 0) 13) ≡ true → ⊥

pub later : (c : ℕ) (cs : List ℕ) (n : ℕ) → NoEnd (c ∷ cs) (suc n) → NoEnd cs n
later c cs n none = λ k low below. none (suc k) (omega arith) (omega arith)

-- A byte that is no end.
pub record IsInside (c : ℕ) : Type 0 where
  pub feed : (c == 10) ≡ false
  pub return : (c == 13) ≡ false

inside-by : (c : ℕ) (a b : Bool) → (c == 10) ≡ a → (c == 13) ≡ b → ((a || b) ≡ true → ⊥) → IsInside c
inside-by c true b feed return none = absurd (none refl)
inside-by c false true feed return none = absurd (none refl)
inside-by c false false feed return none = record { feed = feed; return = return }

pub first-inside : (c : ℕ) (cs : List ℕ) (n : ℕ) → NoEnd (c ∷ cs) (suc n) → IsInside c
first-inside c cs n none = inside-by c (c == 10) (c == 13) refl refl (none 0 (omega arith) (omega arith))

pub onto : (c : ℕ) (cs : List ℕ) → IsInside c → lines_after false (c ∷ cs) ≡ onto_first c (lines_after false cs)
onto c cs h = rw (h.return, h.feed) refl

-- Up to the place of its first end.
pub first-at : (bytes rest : List ℕ) (n : ℕ) → n < length bytes → NoEnd bytes n → lines_after false (drop n bytes) ≡ [] ∷ lines_after false rest → lines_after false bytes ≡ take n bytes ∷ lines_after false rest
first-at [] rest n h none behind = absurd (omega arith)
first-at (c ∷ cs) rest zero h none behind = behind
first-at (c ∷ cs) rest (suc n) h none behind =
    onto c cs (first-inside c cs n none) ∙ ap (onto_first c) (first-at cs rest n (omega arith) (later c cs n none) behind)

-- Where there is none.
pub first-all : (bytes : List ℕ) → 0 < length bytes → NoEnd bytes (length bytes) → lines_after false bytes ≡ bytes ∷ []
first-all [] some none = absurd (omega arith)
first-all (c ∷ []) some none = onto c [] (first-inside c [] 0 none)
first-all (c ∷ d ∷ ds) some none =
    onto c (d ∷ ds) (first-inside c (d ∷ ds) (length (d ∷ ds)) none) ∙ ap (onto_first c) (first-all (d ∷ ds) (omega arith) (later c (d ∷ ds) (length (d ∷ ds)) none))

-- A line more.
both-or : (b : Bool) → (b || false) ≡ b
both-or true = refl
both-or false = refl

or-group : (a b c : Bool) → (a || (b || c)) ≡ ((a || b) || c)
or-group true b c = refl
or-group false b c = refl

any-more : (lines : List (List ℕ)) (line : List ℕ) → list_any is_written (lines ++ line ∷ []) ≡ (list_any is_written lines || is_written line)
any-more [] line = both-or (is_written line)
any-more (l ∷ ls) line = ap (λ b. is_written l || b) (any-more ls line) ∙ or-group (is_written l) (list_any is_written ls) (is_written line)

last-of : (l any now : Bool) (size before after : ℕ) → after ≡ (if now then size + 1 else before)
    → (if l || (any || now) then after + 1 else 0) ≡ (if now then size + 1 + 1 else (if l || any then before + 1 else 0))
last-of true any true size before after e = ap (λ n. n + 1) e
last-of true any false size before after e = ap (λ n. n + 1) e
last-of false true true size before after e = ap (λ n. n + 1) e
last-of false true false size before after e = ap (λ n. n + 1) e
last-of false false true size before after e = ap (λ n. n + 1) e
last-of false false false size before after e = refl

size-more : (b : Bool) (n m : ℕ) → (if b then n + 1 + 1 else m) ≡ (if b then suc n + 1 else m)
size-more b n m = ap (λ (k : ℕ). if b then k else m) (omega arith)

count-one : (b : Bool) (line : List ℕ) → length (cond b (line ∷ []) []) ≡ (if b then 1 else 0)
count-one true line = refl
count-one false line = refl

count-more : (b : Bool) (l : List ℕ) (now before : List (List ℕ)) (n : ℕ) → length now ≡ length before + n → length (cond b (l ∷ now) now) ≡ length (cond b (l ∷ before) before) + n
count-more true l now before n e = omega (arith, e)
count-more false l now before n e = e

pub last-more : (lines : List (List ℕ)) (line : List ℕ) → up_to_last (lines ++ line ∷ []) ≡ (if is_written line then length lines + 1 else up_to_last lines)
last-more [] line = ap (λ (b : Bool). if b then 1 else 0) (both-or (is_written line))
last-more (l ∷ ls) line =
    ap (λ (b : Bool). if is_written l || b then up_to_last (ls ++ line ∷ []) + 1 else 0) (any-more ls line)
    ∙ last-of (is_written l) (list_any is_written ls) (is_written line) (length ls) (up_to_last ls) (up_to_last (ls ++ line ∷ [])) (last-more ls line)
    ∙ size-more (is_written line) (length ls) (up_to_last (l ∷ ls))

pub written-more : (lines : List (List ℕ)) (line : List ℕ) → length (written (lines ++ line ∷ [])) ≡ length (written lines) + (if is_written line then 1 else 0)
written-more [] line = count-one (is_written line) line ∙ sym (zero-add (if is_written line then 1 else 0))
written-more (l ∷ ls) line = count-more (is_written l) l (written (ls ++ line ∷ [])) (written ls) (if is_written line then 1 else 0) (written-more ls line)

-- A line that was cut off stands behind those before it.
pub moved : (lines before : List (List ℕ)) (line rest after : List ℕ) → lines ≡ before ++ lines_after false rest → lines_after false rest ≡ line ∷ lines_after false after → lines ≡ (before ++ line ∷ []) ++ lines_after false after
moved lines before line rest after whole first = whole ∙ ap (λ t. before ++ t) first ∙ sym (append_assoc before (line ∷ []) (lines_after false after))

-- A line is blank where it has no byte.
pub is-blank : (line : List ℕ) → (length line == 0) ≡ true → is_written line ≡ false
is-blank [] e = refl
is-blank (c ∷ cs) e = absurd (omega (arith, eqb-true (length (c ∷ cs)) 0 e))

pub is-no-blank : (line : List ℕ) → (length line == 0) ≡ false → is_written line ≡ true
is-no-blank [] e = absurd (false≢true (sym e))
is-no-blank (c ∷ cs) e = refl

-- What is known once a line was passed: how many lines, records and lines up to the last record.
pub record Passed (before : List (List ℕ)) (line : List ℕ) (records behind : ℕ) : Type 0 where
  pub size : length (before ++ line ∷ []) ≡ length before + 1
  pub records-now : length (written (before ++ line ∷ [])) ≡ length (written before) + records
  pub behind-now : up_to_last (before ++ line ∷ []) ≡ behind

pub passed-record : (before : List (List ℕ)) (line : List ℕ) → is_written line ≡ true → Passed before line 1 (length before + 1)
passed-record before line is = record {
  size = length-append before (line ∷ []);
  records-now = rw is at (written-more before line);
  behind-now = rw is at (last-more before line);
}

pub passed-blank : (before : List (List ℕ)) (line : List ℕ) → is_written line ≡ false → Passed before line 0 (up_to_last before)
passed-blank before line is = record {
  size = length-append before (line ∷ []);
  records-now = rw is at (written-more before line);
  behind-now = rw is at (last-more before line);
}
