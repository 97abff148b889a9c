-- The records before one, and the rows that say them.
use Rattle.std.proofs.Common.{◌≡◌, ◌∙◌, ℕ, ◌+◌, Bool, true, false, List, [], ◌∷◌, ◌++◌, length, map, Some, None, refl, sym, ap, subst, append_assoc, arith, length-append, take}
use Rattle.std.specs.Prelude.{◌||◌}
use Rattle.std.specs.List.{list_any}
use Rattle.std.proofs.Math.Bool.{or_comm, or-false}
use Rattle.std.proofs.Math.Seq.{take-append_seam}
use Rattle.std.proofs.lemmas.List.{append-nil}
use Rattle.std.proofs.lemmas.List.Elements.{filter-append}
use Rattle.std.proofs.lemmas.List.Folds.{list_any-append}
use Rattle.enc_file.specs.Records.{records_of}
use Rattle.fault_text.specs.Before.{IsLastBefore, IsLastLine}
use Rattle.fault_text.specs.Lines.{IsPlaced, fields_in, file_lines, is_written, written}
use Rattle.fault_text.specs.Rows.{AreBefore, AreSaid}
use Rattle.fault_text.specs.declared.lines.Place.{Place}
use Rattle.fault_text.proofs.RecordLines.{records-are-lines}

-- A test of what rows say, and the same test of the rows.
abbrev pub AreSame : {X : Type 0} → (List X → List (List ℕ) → X → Type 0) → (X → Bool) → (List (List ℕ) → Bool) → Type 0
AreSame {X} P test holds = (older : List X) (row : List (List ℕ)) (now : X) → P older row now → holds row ≡ test now

-- What was said since.
pub record Since {X : Type 0} (test : X → Bool) (holds : List (List ℕ) → Bool) (before : List X) (rows : List (List (List ℕ))) (all : List X) : Type 0 where
  pub newer : List X
  pub whole : all ≡ newer ++ before
  pub size : length newer ≡ length rows
  pub same : list_any test newer ≡ list_any holds rows

any-last : {X : Type 0} (test : X → Bool) (xs : List X) (x : X) (b : Bool) → b ≡ test x → list_any test (xs ++ x ∷ []) ≡ (b || list_any test xs)
any-last test xs x b e = list_any-append test xs (x ∷ []) ∙ or_comm (list_any test xs) (test x || false) ∙ ap (λ c. c || list_any test xs) (or-false (test x) ∙ sym e)

pub since : {X : Type 0} (P : List X → List (List ℕ) → X → Type 0) (test : X → Bool) (holds : List (List ℕ) → Bool) (before : List X) (rows : List (List (List ℕ))) (all : List X) → AreSame P test holds → AreSaid P before rows all
    → Since test holds before rows all
since P test holds before [] all tests said = record { newer = []; whole = sym said; size = refl; same = refl }
since P test holds before (row ∷ rows) all tests said =
    let now = said.0 in
    let more = since P test holds (now ∷ before) rows all tests said.2 in
    record {
      newer = more.newer ++ now ∷ [];
      whole = more.whole ∙ sym (append_assoc more.newer (now ∷ []) before);
      size = omega (arith, length-append more.newer (now ∷ []), more.size);
      same = any-last test more.newer now (holds row) (tests before row now said.1) ∙ ap (λ b. holds row || b) more.same;
    }

-- What was said at one row.
pub record Split {X : Type 0} (P : List X → List (List ℕ) → X → Type 0) (test : X → Bool) (holds : List (List ℕ) → Bool) (row : List (List ℕ)) (size : ℕ) (later : List (List (List ℕ))) (all : List X) : Type 0 where
  pub older : List X
  pub now : X
  pub newer : List X
  pub whole : all ≡ newer ++ now ∷ older
  pub place : length older ≡ size
  pub says : P older row now
  pub same : list_any test newer ≡ list_any holds later

pub split : {X : Type 0} (P : List X → List (List ℕ) → X → Type 0) (test : X → Bool) (holds : List (List ℕ) → Bool) (before : List X) (front : List (List (List ℕ))) (row : List (List ℕ)) (later : List (List (List ℕ))) (all : List X)
    → AreSame P test holds → AreSaid P before (front ++ row ∷ later) all → Split P test holds row (length before + length front) later all
split P test holds before [] row later all tests said =
    let now = said.0 in
    let more = since P test holds (now ∷ before) later all tests said.2 in
    record { older = before; now = now; newer = more.newer; whole = more.whole; place = omega arith; says = said.1; same = more.same }
split P test holds before (first ∷ front) row later all tests said =
    let more = split P test holds (said.0 ∷ before) front row later all tests said.2 in
    record { older = more.older; now = more.now; newer = more.newer; whole = more.whole; place = omega (arith, more.place); says = more.says; same = more.same }

-- Lines and rows.
any-rows : (holds : List (List ℕ) → Bool) (lines : List (List ℕ)) → list_any holds (map fields_in lines) ≡ list_any (λ line. holds (fields_in line)) lines
any-rows holds [] = refl
any-rows holds (line ∷ lines) = ap (λ b. holds (fields_in line) || b) (any-rows holds lines)

map-parts : (xs ys : List (List ℕ)) → map fields_in (xs ++ ys) ≡ map fields_in xs ++ map fields_in ys
map-parts [] ys = refl
map-parts (x ∷ xs) ys = ap (λ t. fields_in x ∷ t) (map-parts xs ys)

pub map-size : (xs : List (List ℕ)) → length (map fields_in xs) ≡ length xs
map-size [] = refl
map-size (x ∷ xs) = omega (arith, map-size xs)

rows-of : (text : List ℕ) (before after : List (List ℕ)) → file_lines text ≡ before ++ after → records_of text ≡ map fields_in (written before) ++ map fields_in (written after)
rows-of text before after e = records-are-lines text ∙ ap (λ lines. map fields_in (written lines)) e ∙ ap (map fields_in) (filter-append is_written before after) ∙ map-parts (written before) (written after)

front-rows : (text : List ℕ) (before after : List (List ℕ)) (n : ℕ) → file_lines text ≡ before ++ after → n ≡ length (written before) → take n (records_of text) ≡ map fields_in (written before)
front-rows text before after n e is =
    let size : n ≡ length (map fields_in (written before)) = omega (arith, is, map-size (written before)) in
    ap (take n) (rows-of text before after e) ∙ rw size (take-append_seam (map fields_in (written before)) (map fields_in (written after)))

kept-line : (line : List ℕ) (after : List (List ℕ)) → is_written line ≡ true → written (line ∷ after) ≡ line ∷ written after
kept-line line after is = rw is refl

-- What was found among the lines before a record, by what the records say.
pub record Found {X : Type 0} (P : List X → List (List ℕ) → X → Type 0) (test : X → Bool) (text : List ℕ) (earlier : List X) (place : Place) : Type 0 where
  pub at : ℕ
  pub now : X
  pub older : List X
  pub newer : List X
  pub whole : earlier ≡ newer ++ now ∷ older
  pub number : at ≡ length older + 1
  pub passes : test now ≡ true
  pub last : list_any test newer ≡ false
  pub says : P older (fields_in place.line.now) now
  pub placed : IsPlaced (file_lines text) at place.number place.line.now

said-front : {X : Type 0} (P : List X → List (List ℕ) → X → Type 0) (text : List ℕ) (at : ℕ) (earlier : List X) (b : AreBefore P text at earlier) (before after : List (List ℕ)) → file_lines text ≡ before ++ after
    → length (written before) + 1 ≡ at → AreSaid P [] (map fields_in (written before)) earlier
said-front P text at earlier b before after e count =
    let size : length earlier ≡ length (written before) = omega (arith, b.number, count) in
    subst (λ rows. AreSaid P [] rows earlier) (front-rows text before after (length earlier) e size) b.said

found-line : {X : Type 0} (P : List X → List (List ℕ) → X → Type 0) (test : X → Bool) (holds : List (List ℕ) → Bool) (text : List ℕ) (at : ℕ) (earlier : List X) (b : AreBefore P text at earlier) (before after : List (List ℕ)) (place : Place)
    → AreSame P test holds → file_lines text ≡ before ++ after → length (written before) + 1 ≡ at → IsLastLine (λ line. holds (fields_in line)) before place → Found P test text earlier place
found-line P test holds text at earlier b before after place tests e count last =
    let line = place.line.now in
    let said = said-front P text at earlier b before after e count in
    let rest : written before ≡ written last.before ++ line ∷ written last.after =
    ap written last.whole ∙ filter-append is_written last.before (line ∷ last.after) ∙ ap (λ t. written last.before ++ t) (kept-line line last.after last.full) in
    let rows : map fields_in (written before) ≡ map fields_in (written last.before) ++ fields_in line ∷ map fields_in (written last.after) =
    ap (map fields_in) rest ∙ map-parts (written last.before) (line ∷ written last.after) in
    let it = split P test holds [] (map fields_in (written last.before)) (fields_in line) (map fields_in (written last.after)) earlier tests (subst (λ rows. AreSaid P [] rows earlier) rows said) in
    record {
      at = length it.older + 1;
      now = it.now;
      older = it.older;
      newer = it.newer;
      whole = it.whole;
      number = refl;
      passes = sym (tests it.older (fields_in line) it.now it.says) ∙ last.passes;
      last = it.same ∙ any-rows holds (written last.after) ∙ last.last;
      says = it.says;
      placed = record {
        before = last.before;
        after = last.after ++ after;
        whole = e ∙ ap (λ t. t ++ after) last.whole ∙ append_assoc last.before (line ∷ last.after) after;
        number = last.number;
        counted = omega (arith, it.place, map-size (written last.before));
        written = last.full;
      };
    }

pub found-none : {X : Type 0} (P : List X → List (List ℕ) → X → Type 0) (test : X → Bool) (holds : List (List ℕ) → Bool) (text : List ℕ) (at : ℕ) (earlier : List X) → AreBefore P text at earlier → AreSame P test holds
    → IsLastBefore (λ line. holds (fields_in line)) (file_lines text) at None → list_any test earlier ≡ false
found-none P test holds text at earlier b tests found =
    let said = said-front P text at earlier b found.before found.after found.whole found.count in
    let all = since P test holds [] (map fields_in (written found.before)) earlier tests said in
    let any : list_any test all.newer ≡ false = all.same ∙ any-rows holds (written found.before) ∙ found.last in
    let whole : earlier ≡ all.newer = all.whole ∙ append-nil all.newer in
    ap (list_any test) whole ∙ any

pub found-some : {X : Type 0} (P : List X → List (List ℕ) → X → Type 0) (test : X → Bool) (holds : List (List ℕ) → Bool) (text : List ℕ) (at : ℕ) (earlier : List X) (place : Place) → AreBefore P text at earlier → AreSame P test holds
    → IsLastBefore (λ line. holds (fields_in line)) (file_lines text) at (Some place) → Found P test text earlier place
found-some P test holds text at earlier place b tests found = found-line P test holds text at earlier b found.before found.after place tests found.whole found.count found.last
