-- Where two texts differ, line by line.
use Rattle.std.proofs.Common.{◌≡◌, ◌≢◌, ℕ, zero, suc, Bool, true, false, List, [], ◌∷◌, ◌++◌, take, refl, sym, ap, ◌∙◌, append_assoc, subst, Option, Some, None}
use Rattle.std.specs.Prelude.{MatchBool, MatchOption, Result, Ok, Err, MatchResult, IsErr, option_to_list, slice_get}
use Rattle.std.proofs.lemmas.Bool.{both_ways}
use Rattle.std.proofs.lemmas.List.{append-nil}
use Rattle.std.proofs.lemmas.List.Concat.{flat_map-append}
use Rattle.acas_lines.specs.Differing.{DifferAt}
use Rattle.acas_lines.specs.Lines.{joined}

-- How many lines stand before the first one that differs; none where none does.
abbrev pub IsFirstDifference : List (List ℕ) → List (List ℕ) → Option ℕ → Type 0
IsFirstDifference one other found = MatchOption found (one ≡ other) (λ count. DifferAt count one other)

-- ---- lines that are compared with a text

-- Of these lines a front was found in the text, and the next one doesn't stand there.
pub record StoppedIn (before now : List ℕ) (lines : List (List ℕ)) : Type 0 where
  pub front : List (List ℕ)
  pub next : List ℕ
  pub later : List (List ℕ)
  pub lines_are : lines ≡ front ++ next ∷ later
  pub text_is : before ≡ joined front ++ now
  pub differs : (rest : List ℕ) → now ≢ next ++ rest

-- What a comparison with these lines leaves of the text. It may have differed before.
abbrev pub Compares : List ℕ → List ℕ → Bool → Bool → List (List ℕ) → Type 0
Compares before now differed differs lines = MatchBool differed ((now ≡ before) × (differs ≡ true)) (MatchBool differs (StoppedIn before now lines) (before ≡ joined lines ++ now))

pub compares-nothing : (text : List ℕ) (differed : Bool) → Compares text text differed differed []
compares-nothing text true = (refl, refl)
compares-nothing text false = refl

-- The text of some lines and then of others.
joined-both : (before now : List ℕ) (xs ys : List (List ℕ)) (after : List ℕ) → before ≡ joined xs ++ now → now ≡ joined ys ++ after → before ≡ joined (xs ++ ys) ++ after
joined-both before now xs ys after g h =
    g ∙ ap (λ t. joined xs ++ t) h ∙ sym (append_assoc (joined xs) (joined ys) after) ∙ ap (λ t. t ++ after) (sym (flat_map-append (λ (line : List ℕ). line) xs ys))

stopped-later : (a b c : List ℕ) (xs ys : List (List ℕ)) → a ≡ joined xs ++ b → StoppedIn b c ys → StoppedIn a c (xs ++ ys)
stopped-later a b c xs ys g h = record {
  front = xs ++ h.front;
  next = h.next;
  later = h.later;
  lines_are = ap (λ t. xs ++ t) h.lines_are ∙ sym (append_assoc xs h.front (h.next ∷ h.later));
  text_is = joined-both a b xs h.front c g h.text_is;
  differs = h.differs;
}

stopped-longer : (a b c : List ℕ) (xs ys : List (List ℕ)) → c ≡ b → StoppedIn a b xs → StoppedIn a c (xs ++ ys)
stopped-longer a b c xs ys e h = subst (λ (t : List ℕ). StoppedIn a t (xs ++ ys)) (sym e) (record {
  front = h.front;
  next = h.next;
  later = h.later ++ ys;
  lines_are = ap (λ t. t ++ ys) h.lines_are ∙ append_assoc h.front (h.next ∷ h.later) ys;
  text_is = h.text_is;
  differs = h.differs;
})

pub compares-then : (a b c : List ℕ) (p q r : Bool) (xs ys : List (List ℕ)) → Compares a b p q xs → Compares b c q r ys → Compares a c p r (xs ++ ys)
compares-then a b c true true r xs ys g h = (h.0 ∙ g.0, h.1)
compares-then a b c true false r xs ys g h = absurd (both_ways false refl g.1)
compares-then a b c false true true xs ys g h = stopped-longer a b c xs ys h.0 g
compares-then a b c false true false xs ys g h = absurd (both_ways false refl h.1)
compares-then a b c false false true xs ys g h = stopped-later a b c xs ys g h
compares-then a b c false false false xs ys g h = joined-both a b xs ys c g h

-- ---- lines that are kept as a text

-- What was kept, as long as memory was there.
abbrev pub Collects : {T E : Type 0} → List ℕ → List ℕ → Result T E → Result T E → List (List ℕ) → Type 0
Collects before now so_far result lines =
    MatchResult so_far (λ _. MatchResult result (λ _. now ≡ before ++ joined lines) (λ _. Unit {0})) (λ _. IsErr result)

pub collects-nothing : {T E : Type 0} (text : List ℕ) (so_far : Result T E) → Collects text text so_far so_far []
collects-nothing text (Ok t) = sym (append-nil text)
collects-nothing text (Err e) = refl

pub collects-then : {T E : Type 0} (a b c : List ℕ) (p q r : Result T E) (xs ys : List (List ℕ)) → Collects a b p q xs → Collects b c q r ys → Collects a c p r (xs ++ ys)
collects-then a b c (Ok p) (Ok q) (Ok r) xs ys g h =
    h ∙ ap (λ t. t ++ joined ys) g ∙ append_assoc a (joined xs) (joined ys) ∙ ap (λ t. a ++ t) (sym (flat_map-append (λ (line : List ℕ). line) xs ys))
collects-then a b c (Ok p) (Ok q) (Err r) xs ys g h = tt
collects-then a b c (Ok p) (Err q) (Ok r) xs ys g h = absurd (both_ways false refl h)
collects-then a b c (Ok p) (Err q) (Err r) xs ys g h = tt
collects-then a b c (Err p) (Ok q) r xs ys g h = absurd (both_ways false refl g)
collects-then a b c (Err p) (Err q) r xs ys g h = h

-- ---- one line of many

-- The line before which so many stand, where one is still looked for.
abbrev pub picked : Option ℕ → List (List ℕ) → List (List ℕ)
picked None lines = []
picked (Some before) lines = option_to_list (slice_get lines before)

-- How many lines stand before it after these; none where it was among them.
abbrev pub left_after : Option ℕ → List (List ℕ) → Option ℕ
left_after before [] = before
left_after None (line ∷ lines) = None
left_after (Some zero) (line ∷ lines) = None
left_after (Some (suc before)) (line ∷ lines) = left_after (Some before) lines

none-left : (lines : List (List ℕ)) → left_after None lines ≡ None
none-left [] = refl
none-left (line ∷ lines) = refl

pub left-append : (before : Option ℕ) (xs ys : List (List ℕ)) → left_after (left_after before xs) ys ≡ left_after before (xs ++ ys)
left-append before [] ys = refl
left-append None (x ∷ xs) ys = none-left ys
left-append (Some zero) (x ∷ xs) ys = none-left ys
left-append (Some (suc before)) (x ∷ xs) ys = left-append (Some before) xs ys

pub picked-append : (before : Option ℕ) (xs ys : List (List ℕ)) → picked before xs ++ picked (left_after before xs) ys ≡ picked before (xs ++ ys)
picked-append None [] ys = refl
picked-append (Some before) [] ys = refl
picked-append None (x ∷ xs) ys = refl
picked-append (Some zero) (x ∷ xs) ys = refl
picked-append (Some (suc before)) (x ∷ xs) ys = picked-append (Some before) xs ys
