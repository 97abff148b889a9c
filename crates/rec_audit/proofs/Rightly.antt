-- Fields that are all right are those of an entry.
use Rattle.std.proofs.Common.{◌≡◌, ◌≢◌, ℕ, zero, suc, ◌+◌, ◌-◌, ◌<◌, ◌≤◌, Bool, true, false, eqb, List, [], ◌∷◌, ◌++◌, length, map, take, drop, get_or, Option, Some, None, slice_get, refl, sym, ap, ◌∙◌, subst, arith, inl, inr, eqb-true, length-append}
use Rattle.std.specs.Borrow.{Bor}
use Rattle.std.specs.List.{join_with_byte, onto_first}
use Rattle.std.specs.Prelude.{All, MatchOption, ◌==◌, if◌then◌else◌, cond, replicate}
use Rattle.std.proofs.lemmas.List.Splits.{join_with_byte-slice_split}
use Rattle.std.specs.Fmt.{decimal}
use Rattle.std.proofs.lemmas.Fmt.{decimal_injective}
use Rattle.std.proofs.Math.Seq.{drop-append_seam, take-append_seam}
use Rattle.std.proofs.lemmas.Bool.Decides.{nat_tests}
use Rattle.std.proofs.lemmas.List.Elements.{All-append, All-cons, All-nil, All-replicate}
use Rattle.acas_base.specs.declared.advisory.Cell.{Cell}
use Rattle.acas_base.specs.declared.advisory.Cell.TheVariants.{Clear}
use Rattle.acas_base.specs.declared.advisory.Cells.{Cells}
use Rattle.acas_base.specs.declared.entry.Entry.{Entry}
use Rattle.acas_base.specs.declared.entry.Entry.TheVariants.{Commit, Send, Take}
use Rattle.acas_text.specs.Hex.{hex}
use Rattle.advisory_report.specs.Cells.{cell_text}
use Rattle.air_journal.specs.Ranges.{AreCells, IsCell, IsEntry}
use Rattle.rec_audit.specs.Faulty.{AreRight, IsLeftmost, IsNamed, IsValue, cell_at_place, commit_field, field_at, field_count}
use Rattle.rec_audit.specs.Fields.{fields_of}
use Rattle.rec_audit.proofs.Placed.{eqb-yes}
use Rattle.rec_text.specs.Entries.{entry_fields, entry_line, outcome}
use Rattle.verdict_text.specs.Sentences.{letter_of}
use Rattle.verdict_text.specs.declared.spelling.EntryField.{EntryField}
use Rattle.verdict_text.specs.declared.spelling.EntryField.TheVariants as field
use Rattle.verdict_text.specs.declared.spelling.EntryKind.{EntryKind}
use Rattle.verdict_text.specs.declared.spelling.EntryKind.TheVariants as kind

-- An entry of an encounter of `count` aircraft has these fields.
pub record IsSpelled (count : ℕ) (fs : List (List ℕ)) : Type 0 where
  pub entry : Entry
  pub fits : IsEntry count entry
  pub fields : entry_fields count entry ≡ fs

-- ---- sends and takes

five : (fs : List (List ℕ)) → length fs ≡ 5 → (a : List ℕ) × (b : List ℕ) × (c : List ℕ) × (d : List ℕ) × (e : List ℕ) × (fs ≡ a ∷ b ∷ c ∷ d ∷ e ∷ [])
five [] n = absurd (omega (arith, n))
five (a ∷ []) n = absurd (omega (arith, n))
five (a ∷ b ∷ []) n = absurd (omega (arith, n))
five (a ∷ b ∷ c ∷ []) n = absurd (omega (arith, n))
five (a ∷ b ∷ c ∷ d ∷ []) n = absurd (omega (arith, n))
five (a ∷ b ∷ c ∷ d ∷ e ∷ []) n = (a, b, c, d, e, refl)
five (a ∷ b ∷ c ∷ d ∷ e ∷ f ∷ fs) n = absurd (omega (arith, n))

send-made : (count o t n w : ℕ) (a b c d e : List ℕ) → a ≡ letter_of kind.Send → b ≡ decimal o → c ≡ decimal t → d ≡ decimal n → e ≡ hex 14 w → entry_fields count (Send o t n w) ≡ a ∷ b ∷ c ∷ d ∷ e ∷ []
send-made count o t n w a b c d e one two three four five = rw (one, two, three, four, five) refl

send-spelled : (count own : ℕ) (a b c d e : List ℕ) → 0 < count → a ≡ letter_of kind.Send → AreRight count kind.Send own 0 (b ∷ c ∷ d ∷ e ∷ []) → IsSpelled count (a ∷ b ∷ c ∷ d ∷ e ∷ [])
send-spelled count own a b c d e some letter r = record {
  entry = Send r.0.0 r.1.0.0 r.1.1.0.0 r.1.1.1.0.0;
  fits = (omega (arith, some, r.0.1.1), omega (arith, some, r.1.0.1.1), r.1.1.0.1, r.1.1.1.0.1);
  fields = send-made count r.0.0 r.1.0.0 r.1.1.0.0 r.1.1.1.0.0 a b c d e letter r.0.2 r.1.0.2 r.1.1.0.2 r.1.1.1.0.2;
}

take-made : (count o s k : ℕ) (g : Bool) (a b c d e : List ℕ) → a ≡ letter_of kind.Take → b ≡ decimal o → c ≡ decimal s → d ≡ decimal k → e ≡ outcome g → entry_fields count (Take o s k g) ≡ a ∷ b ∷ c ∷ d ∷ e ∷ []
take-made count o s k g a b c d e one two three four five = rw (one, two, three, four, five) refl

take-spelled : (count own : ℕ) (a b c d e : List ℕ) → 0 < count → a ≡ letter_of kind.Take → AreRight count kind.Take own 0 (b ∷ c ∷ d ∷ e ∷ []) → IsSpelled count (a ∷ b ∷ c ∷ d ∷ e ∷ [])
take-spelled count own a b c d e some letter r = record {
  entry = Take r.0.0 r.1.0.0 r.1.1.0.0 r.1.1.1.0.0;
  fits = (omega (arith, some, r.0.1.1), omega (arith, r.1.0.1.1), r.1.1.0.1.1);
  fields = take-made count r.0.0 r.1.0.0 r.1.1.0.0 r.1.1.1.0.0 a b c d e letter r.0.2 r.1.0.2 r.1.1.0.2 r.1.1.1.0.1;
}

-- ---- commits

-- Cells that texts spell. The first of them has the place `at`.
pub record AreSpelled (own at : ℕ) (fs : List (List ℕ)) : Type 0 where
  pub cells : List Cell
  pub long : length cells ≡ length fs
  pub each : All IsCell cells
  pub texts : map cell_text cells ≡ fs
  pub own_place : (k : ℕ) → at + k ≡ own → get_or cells k Clear ≡ Clear

-- The cell at a place.
record IsOneCell (own at : ℕ) (text : List ℕ) : Type 0 where
  cell : Cell
  fits : IsCell cell
  text_is : text ≡ cell_text cell
  own_cell : at ≡ own → cell ≡ Clear

one-cell-by : (count own at : ℕ) (text : List ℕ) (b : Bool) → (at == own) ≡ b → IsValue count (if b then field.OwnCell own else field.Cell at) text → IsOneCell own at text
one-cell-by count own at text true e v = record { cell = Clear; fits = tt; text_is = v; own_cell = λ same. refl }
one-cell-by count own at text false e v = record { cell = v.0; fits = v.1; text_is = v.2; own_cell = λ same. absurd (let both : true ≡ false = sym (eqb-yes at own same) ∙ e in cc) }

commit-cell : (own at : ℕ) → commit_field own (at + 2) ≡ cell_at_place own at
commit-cell own at =
    let no-own : (at + 2 == 0) ≡ false = grind (arith, nat_tests) in
    let no-cycle : (at + 2 == 1) ≡ false = grind (arith, nat_tests) in
    let place : at + 2 - 2 ≡ at = omega arith in
    ap (λ (b : Bool). if b then field.Own else if at + 2 == 1 then field.Cycle else cell_at_place own (at + 2 - 2)) no-own ∙ ap (λ (b : Bool). if b then field.Cycle else cell_at_place own (at + 2 - 2)) no-cycle ∙ ap (cell_at_place own) place

one-cell : (count own at : ℕ) (text : List ℕ) → IsValue count (commit_field own (at + 2)) text → IsOneCell own at text
one-cell count own at text v = one-cell-by count own at text (at == own) refl (subst (λ (f : EntryField). IsValue count f text) (commit-cell own at) v)

own-first : (own at : ℕ) (c : Cell) (cs : List Cell) → (at ≡ own → c ≡ Clear) → ((k : ℕ) → (at + 1) + k ≡ own → get_or cs k Clear ≡ Clear) → (k : ℕ) → at + k ≡ own → get_or (c ∷ cs) k Clear ≡ Clear
own-first own at c cs here later zero is = here (omega (arith, is))
own-first own at c cs here later (suc k) is = later k (omega (arith, is))

cells-spelled : (count own at : ℕ) (fs : List (List ℕ)) → AreRight count kind.Commit own (at + 2) fs → AreSpelled own at fs
cells-spelled count own at [] r = record { cells = []; long = refl; each = All-nil IsCell; texts = refl; own_place = λ k is. refl }
cells-spelled count own at (f ∷ fs) r =
    let one = one-cell count own at f r.0 in
    let next : at + 2 + 1 ≡ (at + 1) + 2 = omega arith in
    let more = cells-spelled count own (at + 1) fs (subst (λ n. AreRight count kind.Commit own n fs) next r.1) in
    record {
      cells = one.cell ∷ more.cells;
      long = omega (arith, more.long);
      each = All-cons IsCell one.cell more.cells one.fits more.each;
      texts = ap (λ t. t ∷ map cell_text more.cells) (sym one.text_is) ∙ ap (λ t. f ∷ t) more.texts;
      own_place = own-first own at one.cell more.cells one.own_cell more.own_place;
    }

three : (fs : List (List ℕ)) (n : ℕ) → length fs ≡ 3 + n → (a : List ℕ) × (b : List ℕ) × (c : List ℕ) × (cells : List (List ℕ)) × (fs ≡ a ∷ b ∷ c ∷ cells) × (length cells ≡ n)
three [] n is = absurd (omega (arith, is))
three (a ∷ []) n is = absurd (omega (arith, is))
three (a ∷ b ∷ []) n is = absurd (omega (arith, is))
three (a ∷ b ∷ c ∷ cells) n is = (a, b, c, cells, refl, omega (arith, is))

clear-all : (n own : ℕ) → get_or (replicate n Clear) own Clear ≡ Clear
clear-all zero own = refl
clear-all (suc n) zero = refl
clear-all (suc n) (suc k) = clear-all n k

padded : (cs : List Cell) (n own : ℕ) → get_or cs own Clear ≡ Clear → get_or (cs ++ replicate n Clear) own Clear ≡ Clear
padded [] n own is = clear-all n own
padded (c ∷ cs) n zero is = is
padded (c ∷ cs) n (suc k) is = padded cs n k is

replicate-long : (n : ℕ) → length (replicate n Clear) ≡ n
replicate-long zero = refl
replicate-long (suc n) = ap suc (replicate-long n)

commit-spelled : (count own cycle : ℕ) (cells : List (List ℕ)) → count ≤ 16 → length cells ≡ count → own < count → (cycle-fits : (1 ≤ cycle) × (cycle ≤ 600)) → AreSpelled own 0 cells → IsSpelled count (letter_of kind.Commit ∷ decimal own ∷ decimal cycle ∷ cells)
commit-spelled count own cycle cells few long below cycle-fits s =
    let rest = replicate (16 - count) Clear in
    let all : List Cell = s.cells ++ rest in
    let size : length s.cells ≡ count = s.long ∙ long in
    record {
      entry = Commit own cycle (record { list = all });
      fits = (
        below,
        cycle-fits,
        record {
          size = omega (arith, size, few, length-append s.cells rest, replicate-long (16 - count));
          each = All-append IsCell s.cells rest s.each (All-replicate IsCell (16 - count) Clear tt);
          own_place = padded s.cells (16 - count) own (s.own_place own (omega arith));
          past = ap (λ n. drop n all) (sym size) ∙ drop-append_seam s.cells rest;
        },
      );
      fields = ap (λ t. letter_of kind.Commit ∷ decimal own ∷ decimal cycle ∷ map cell_text t) (ap (λ n. take n all) (sym size) ∙ take-append_seam s.cells rest) ∙ ap (λ t. letter_of kind.Commit ∷ decimal own ∷ decimal cycle ∷ t) s.texts;
    }

-- ---- all

-- The aircraft that the second field spells.
abbrev pub OwnIs : ℕ → ℕ → List (List ℕ) → Type 0
OwnIs count own fs = (n : ℕ) → n < count → slice_get fs 1 ≡ Some (decimal n) → own ≡ n

some-same : (a b : List ℕ) → Some a ≡ Some b → a ≡ b
some-same a b is = cc

by-five : (count own : ℕ) (of : EntryKind) (fs : List (List ℕ)) → 0 < count → of ≢ kind.Commit → length fs ≡ 5 → slice_get fs 0 ≡ Some (letter_of of) → AreRight count of own 0 (drop 1 fs) → IsSpelled count fs
by-five count own kind.Commit fs some other long named r = absurd (other refl)
by-five count own kind.Send fs some other long named r =
    let p = five fs long in
    let whole = p.5 in
    subst (λ t. IsSpelled count t) (sym whole) (send-spelled count own p.0 p.1 p.2 p.3 p.4 some (some-same p.0 (letter_of kind.Send) (ap (λ t. slice_get t 0) (sym whole) ∙ named)) (subst (λ t. AreRight count kind.Send own 0 (drop 1 t)) whole r))
by-five count own kind.Take fs some other long named r =
    let p = five fs long in
    let whole = p.5 in
    subst (λ t. IsSpelled count t) (sym whole) (take-spelled count own p.0 p.1 p.2 p.3 p.4 some (some-same p.0 (letter_of kind.Take) (ap (λ t. slice_get t 0) (sym whole) ∙ named)) (subst (λ t. AreRight count kind.Take own 0 (drop 1 t)) whole r))

commit-parts : (count own : ℕ) (a b c : List ℕ) (cells : List (List ℕ)) → 0 < count → count ≤ 16 → a ≡ letter_of kind.Commit → length cells ≡ count → OwnIs count own (a ∷ b ∷ c ∷ cells) → AreRight count kind.Commit own 0 (b ∷ c ∷ cells) → IsSpelled count (a ∷ b ∷ c ∷ cells)
commit-parts count own a b c cells some few letter long own-is r =
    let o = r.0 in
    let k = r.1.0 in
    let below : o.0 < count = omega (arith, some, o.1.1) in
    let same : own ≡ o.0 = own-is o.0 below (ap Some o.2) in
    let cells-are = subst (λ n. AreSpelled n 0 cells) same (cells-spelled count own 0 cells r.1.1) in
    let made = commit-spelled count o.0 k.0 cells few long below k.1 cells-are in
    subst (λ x. IsSpelled count (x ∷ b ∷ c ∷ cells)) (sym letter)
    (subst (λ x. IsSpelled count (letter_of kind.Commit ∷ x ∷ c ∷ cells)) (sym o.2) (subst (λ x. IsSpelled count (letter_of kind.Commit ∷ decimal o.0 ∷ x ∷ cells)) (sym k.2) made))

pub all-right : (count own : ℕ) (of : EntryKind) (fs : List (List ℕ)) → 0 < count → count ≤ 16 → slice_get fs 0 ≡ Some (letter_of of) → length fs ≡ field_count of count → OwnIs count own fs → AreRight count of own 0 (drop 1 fs) → IsSpelled count fs
all-right count own kind.Commit fs some few named long own-is r =
    let p = three fs count long in
    let whole = p.4 in
    subst (λ t. IsSpelled count t) (sym whole) (commit-parts count own p.0 p.1 p.2 p.3 some few (some-same p.0 (letter_of kind.Commit) (ap (λ t. slice_get t 0) (sym whole) ∙ named)) p.5 (subst (λ t. OwnIs count own t) whole own-is)
    (subst (λ t. AreRight count kind.Commit own 0 (drop 1 t)) whole r))
all-right count own kind.Send fs some few named long own-is r = by-five count own kind.Send fs some (λ e. absurd cc) long named r
all-right count own kind.Take fs some few named long own-is r = by-five count own kind.Take fs some (λ e. absurd cc) long named r

-- ---- one field after the other

pub rest-of : (old new : List (List ℕ)) (r : Option (Bor (List ℕ))) → MatchOption r ((old ≡ []) × (new ≡ [])) (λ f. old ≡ f.now ∷ new) → new ≡ drop 1 old
rest-of old new None h = h.1 ∙ sym (ap (drop 1) h.0)
rest-of old new (Some f) h = sym (ap (drop 1) h)

pub value-moved : (count : ℕ) (one other : EntryField) (f : List ℕ) → one ≡ other → IsValue count one f → IsValue count other f
value-moved count one other f same v = subst (λ (n : EntryField). IsValue count n f) same v

pub step-right : (count own place : ℕ) (of : EntryKind) (fs rest : List (List ℕ)) (f : List ℕ) → fs ≡ f ∷ rest → IsValue count (field_at of own place) f → AreRight count of own (place + 1) rest → AreRight count of own place fs
step-right count own place of fs rest f is v r = subst (λ t. AreRight count of own place t) (sym is) (v, r)

pub step-left : (count own place : ℕ) (of : EntryKind) (fs rest : List (List ℕ)) (f : List ℕ) (name : EntryField) (found : List ℕ) → fs ≡ f ∷ rest → IsValue count (field_at of own place) f → IsLeftmost count of own (place + 1) rest name found → IsLeftmost count of own place fs name found
step-left count own place of fs rest f name found is v l = subst (λ t. IsLeftmost count of own place t name found) (sym is) (inr (v, l))

pub here-left : (count own place : ℕ) (of : EntryKind) (fs rest : List (List ℕ)) (f : List ℕ) (name : EntryField) → fs ≡ f ∷ rest → name ≡ field_at of own place → (IsValue count name f → ⊥) → IsLeftmost count of own place fs name f
here-left count own place of fs rest f name is same wrong = subst (λ t. IsLeftmost count of own place t name f) (sym is) (inl (λ v. wrong (value-moved count (field_at of own place) name f (sym same) v), same, refl))

pub none-right : (count own place : ℕ) (of : EntryKind) (fs : List (List ℕ)) → fs ≡ [] → AreRight count of own place fs
none-right count own place of fs none = subst (λ t. AreRight count of own place t) (sym none) tt

-- ---- the line

pub fields-line : (count : ℕ) (entry : Entry) (body text : List ℕ) → text ≡ body ++ 10 ∷ [] → entry_fields count entry ≡ fields_of body → entry_line count entry ≡ text
fields-line count entry body text whole same = ap (λ fs. join_with_byte 44 fs ++ 10 ∷ []) same ∙ ap (λ b. b ++ 10 ∷ []) (join_with_byte-slice_split 44 body) ∙ sym whole

pub never-spelled : (count : ℕ) (fs : List (List ℕ)) → IsSpelled count fs → ((entry : Entry) → IsEntry count entry → entry_fields count entry ≢ fs) → ⊥
never-spelled count fs s none = none s.entry s.fits s.fields

second-of : (fs rest : List (List ℕ)) (f : List ℕ) → rest ≡ drop 1 fs → slice_get fs 1 ≡ Some f → rest ≡ f ∷ drop 2 fs
second-of [] rest f is there = absurd cc
second-of (a ∷ []) rest f is there = absurd cc
second-of (a ∷ b ∷ fs) rest f is there = let same : b ≡ f = cc in is ∙ ap (λ t. t ∷ fs) same

-- The number that the second field spells is the one that was read.
pub own-read : (count n m : ℕ) (fs rest after : List (List ℕ)) → rest ≡ drop 1 fs → m < 600 → n < 600 → slice_get fs 1 ≡ Some (decimal n) → rest ≡ decimal m ∷ after → m ≡ n
own-read count n m fs rest after is few few2 there read =
    decimal_injective m n (omega (arith, few)) (omega (arith, few2)) (ap (λ t. get_or t 0 []) (sym read ∙ second-of fs rest (decimal n) is there))

pub own-unread : (count n : ℕ) (fs rest : List (List ℕ)) → rest ≡ drop 1 fs → slice_get fs 1 ≡ Some (decimal n) → ((m : ℕ) (more : List (List ℕ)) → (0 ≤ m) × (m ≤ count - 1) → rest ≢ decimal m ∷ more) → n < count → 0 ≡ n
own-unread count n fs rest is there none low = absurd (none n (drop 2 fs) (omega arith, omega (arith, low)) (second-of fs rest (decimal n) is there))

onto-long : (c : ℕ) (fs : List (List ℕ)) → length (onto_first c fs) ≤ length fs + 1
onto-long c [] = omega arith
onto-long c (f ∷ fs) = omega arith

split-long : (b : Bool) (c : ℕ) (fs : List (List ℕ)) → length (cond b ([] ∷ fs) (onto_first c fs)) ≤ length fs + 1
split-long true c fs = omega arith
split-long false c fs = onto-long c fs

-- A line has at most one field more than it has bytes.
pub few-fields : (xs : List ℕ) → length (fields_of xs) ≤ length xs + 1
few-fields [] = omega arith
few-fields (c ∷ cs) =
    let rest : length (fields_of cs) ≤ length cs + 1 = few-fields cs in
    let here : length (fields_of (c ∷ cs)) ≤ length (fields_of cs) + 1 = split-long (c == 44) c (fields_of cs) in
    omega (arith, rest, here)
