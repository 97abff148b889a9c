-- Records about one aircraft or pair rise. So the last one of them reaches what any of them reaches.
use Rattle.std.proofs.Common.{◌≡◌, ◌∙◌, ℕ, ◌≤◌, ◌<◌, Bool, true, false, List, ◌∷◌, ◌++◌, Option, Some, None, refl, sym, ap, arith, leb-true, subst, eqb-true}
use Rattle.std.specs.Prelude.{◌==◌, ◌&&◌, ◌||◌, nat_le}
use Rattle.std.specs.List.{list_any}
use Rattle.std.proofs.Math.Bool.{and-true}
use Rattle.std.proofs.lemmas.Bool.{false≢true, leb-false, ltb-false}
use Rattle.std.proofs.lemmas.Bool.Decides.{nat_tests}
use Rattle.std.proofs.lemmas.List.Folds.{list_any-append}
use Rattle.enc_file.specs.Conditions.{if_said, is_repeat}
use Rattle.enc_file.specs.Values.{address_in, count_in, field}
use Rattle.enc_file.specs.declared.record.Record.{Record}
use Rattle.enc_file.specs.declared.record.Record.TheVariants as said
use Rattle.fault_text.specs.Before.{alike, is_about, reached_place, reached_said, rising_place}
use Rattle.fault_text.specs.Names.{stated_kind, word_text}
use Rattle.fault_text.specs.Rows.{Says, rises, word_said}
use Rattle.fault_text.specs.declared.earlier.Sought.{Sought}
use Rattle.fault_text.specs.declared.names.RecordKind.{RecordKind}
use Rattle.fault_text.specs.declared.names.RecordKind.TheVariants as kind
use Rattle.fault_text.proofs.Repeats.{any-none, any-weaken, fate-rises, fates-since, is_since, leg-rises, legs-since, miss-rises, misses-since, since-about}

less-since : (sought : Sought) (start n : ℕ) (now : Record) → start ≤ n → is_since sought n now ≡ true → is_since sought start now ≡ true
less-since sought start n now le h = by (is_about sought now) (reached_said now) h where
  by : (b : Bool) (o : Option ℕ) → (b && if_said o (λ reached. nat_le n reached)) ≡ true → (b && if_said o (λ reached. nat_le start reached)) ≡ true
  by false o h = h
  by true None h = h
  by true (Some reached) h = grind (arith, nat_tests)

stays : (newer : List Record) (now : Record) (older : List Record) (test : Record → Bool) → list_any test (newer ++ now ∷ older) ≡ true → list_any test newer ≡ false → test now ≡ false → list_any test older ≡ true
stays newer now older test h a b =
    let parts : (list_any test newer || (test now || list_any test older)) ≡ true = sym (list_any-append test newer (now ∷ older)) ∙ h in
    rw (a, b) at parts

at-most : (newer : List Record) (now : Record) (older : List Record) (sought : Sought) (n start reached : ℕ) → list_any (is_since sought n) (newer ++ now ∷ older) ≡ true → list_any (is_about sought) newer ≡ false
    → reached_said now ≡ Some reached → start ≤ reached → list_any (is_since sought start) older ≡ false → n ≤ reached
at-most newer now older sought n start reached any none said-is le fine = by (nat_le n reached) refl where
  below : (b : Bool) → (b && false) ≡ false
  below true = refl
  below false = refl

  by : (b : Bool) → nat_le n reached ≡ b → n ≤ reached
  by true e = leb-true n reached e
  by false e =
      let over : reached < n = leb-false n reached e in
      let newer-none = any-none (is_since sought n) (is_about sought) (since-about sought n) newer none in
      let now-none : is_since sought n now ≡ false = ap (λ o. is_about sought now && if_said o (λ (r : ℕ). nat_le n r)) said-is ∙ ap (λ c. is_about sought now && c) e ∙ below (is_about sought now) in
      let older-any = stays newer now older (is_since sought n) any newer-none now-none in
      let le : start ≤ n = omega arith in
      absurd (false≢true (sym fine ∙ any-weaken (is_since sought n) (is_since sought start) (λ x. less-since sought start n x le) older older-any))

-- No record of these kinds repeats an earlier one.
abbrev pub NoneRepeats : List Record → List (List ℕ) → Type 0
NoneRepeats older row = (of : RecordKind) → rises of ≡ true → word_text of ≡ field row 0 → is_repeat older (stated_kind of) row ≡ false

fine-leg : (older : List Record) (row : List (List ℕ)) (a n : ℕ) → NoneRepeats older row → field row 0 ≡ word_text kind.Leg → address_in (field row 1) ≡ Some a → count_in 1 600 (field row 2) ≡ Some n
    → list_any (is_since (record { kind = kind.Leg; first = Some a; second = None }) n) older ≡ false
fine-leg older row a n fine word one two =
    let repeat = fine kind.Leg refl (sym word) in
    sym (legs-since a n older) ∙ rw (one, two) at repeat

fine-miss : (older : List Record) (row : List (List ℕ)) (a b n : ℕ) → NoneRepeats older row → field row 0 ≡ word_text kind.Miss → address_in (field row 1) ≡ Some a → address_in (field row 2) ≡ Some b → count_in 1 600 (field row 3) ≡ Some n
    → list_any (is_since (record { kind = kind.Miss; first = Some a; second = Some b }) n) older ≡ false
fine-miss older row a b n fine word one two three =
    let repeat = fine kind.Miss refl (sym word) in
    sym (misses-since (record { first = a; second = b }) n older) ∙ rw (one, two, three) at repeat

fine-fate : (older : List Record) (row : List (List ℕ)) (a b n : ℕ) → NoneRepeats older row → field row 0 ≡ word_text kind.Fate → address_in (field row 1) ≡ Some a → address_in (field row 2) ≡ Some b → count_in 1 600 (field row 3) ≡ Some n
    → list_any (is_since (record { kind = kind.Fate; first = Some a; second = Some b }) n) older ≡ false
fine-fate older row a b n fine word one two three =
    let repeat = fine kind.Fate refl (sym word) in
    sym (fates-since (record { first = a; second = b }) n older) ∙ rw (one, two, three) at repeat

-- The last record about the same, and the number that it reaches.
pub record Risen (k : RecordKind) (fields row : List (List ℕ)) (now : Record) (found : ℕ) : Type 0 where
  pub reached : ℕ
  pub is-said : reached_said now ≡ Some reached
  pub stands : count_in 1 600 (field row (reached_place k)) ≡ Some reached
  pub order : found ≤ reached

-- What was found, where the record rises.
pub record Behind (sought : Sought) (row : List (List ℕ)) (older newer : List Record) (now : Record) : Type 0 where
  pub word : field row 0 ≡ word_said now
  pub says : Says row now
  pub fine : NoneRepeats older row
  pub passes : is_about sought now ≡ true
  pub last : list_any (is_about sought) newer ≡ false

leg-risen : (fields row : List (List ℕ)) (older newer : List Record) (now : Record) (a n : ℕ) → Behind (record { kind = kind.Leg; first = Some a; second = None }) row older newer now
    → list_any (is_since (record { kind = kind.Leg; first = Some a; second = None }) n) (newer ++ now ∷ older) ≡ true → Risen kind.Leg fields row now n
leg-risen fields row older newer (said.Leg b course) a n f any =
    let same : b ≡ a = eqb-true b a (sym (and-true (b == a)) ∙ f.passes) in
    let begins = f.says.1 in
    let fine = fine-leg older row a course.from f.fine f.word (f.says.0 ∙ ap Some same) begins in
    record { reached = course.from; is-said = refl; stands = begins; order = at-most newer (said.Leg b course) older (record { kind = kind.Leg; first = Some a; second = None }) n course.from course.from any f.last refl (omega arith) fine }
leg-risen fields row older newer other a n f any = absurd (false≢true f.passes)

both-equal : (a b c d : ℕ) → ((a == b) && (c == d)) ≡ true → (a ≡ b) × (c ≡ d)
both-equal a b c d h = by (a == b) refl h where
  by : (t : Bool) → (a == b) ≡ t → (t && (c == d)) ≡ true → (a ≡ b) × (c ≡ d)
  by true e h = (eqb-true a b e, eqb-true c d h)
  by false e h = absurd (false≢true h)

miss-risen : (fields row : List (List ℕ)) (older newer : List Record) (now : Record) (a b n : ℕ) → Behind (record { kind = kind.Miss; first = Some a; second = Some b }) row older newer now
    → list_any (is_since (record { kind = kind.Miss; first = Some a; second = Some b }) n) (newer ++ now ∷ older) ≡ true → Risen kind.Miss fields row now n
miss-risen fields row older newer (said.Miss pair from to) a b n f any =
    let same = both-equal pair.first a pair.second b f.passes in
    let says = f.says in
    let fine = fine-miss older row a b from f.fine f.word (says.0.0 ∙ ap Some same.0) (says.0.1 ∙ ap Some same.1) says.1 in
    let le : from ≤ to = ltb-false to from says.3 in
    record { reached = to; is-said = refl; stands = says.2; order = at-most newer (said.Miss pair from to) older (record { kind = kind.Miss; first = Some a; second = Some b }) n from to any f.last refl le fine }
miss-risen fields row older newer other a b n f any = absurd (false≢true f.passes)

fate-risen : (fields row : List (List ℕ)) (older newer : List Record) (now : Record) (a b n : ℕ) → Behind (record { kind = kind.Fate; first = Some a; second = Some b }) row older newer now
    → list_any (is_since (record { kind = kind.Fate; first = Some a; second = Some b }) n) (newer ++ now ∷ older) ≡ true → Risen kind.Fate fields row now n
fate-risen fields row older newer (said.Fate pair number copies) a b n f any =
    let same = both-equal pair.first a pair.second b f.passes in
    let says = f.says in
    let fine = fine-fate older row a b number f.fine f.word (says.0.0 ∙ ap Some same.0) (says.0.1 ∙ ap Some same.1) says.1 in
    record { reached = number; is-said = refl; stands = says.1; order = at-most newer (said.Fate pair number copies) older (record { kind = kind.Fate; first = Some a; second = Some b }) n number number any f.last refl (omega arith) fine }
fate-risen fields row older newer other a b n f any = absurd (false≢true f.passes)

-- The number of the record, and the one that the last record reaches.
pub record NotAbove (k : RecordKind) (fields row : List (List ℕ)) (now : Record) : Type 0 where
  pub found : ℕ
  pub stands : count_in 1 600 (field fields (rising_place k)) ≡ Some found
  pub risen : Risen k fields row now found

as-sought : (s t : Sought) (row : List (List ℕ)) (older newer : List Record) (now : Record) → s ≡ t → Behind s row older newer now → Behind t row older newer now
as-sought s t row older newer now e f = subst (λ (x : Sought). Behind x row older newer now) e f

pub not-above : (k : RecordKind) (fields row : List (List ℕ)) (older newer : List Record) (now : Record) → rises k ≡ true → is_repeat (newer ++ now ∷ older) (stated_kind k) fields ≡ true
    → Behind (alike k fields) row older newer now → NotAbove k fields row now
not-above kind.Leg fields row older newer now is h f =
    let r = leg-rises (newer ++ now ∷ older) fields h in
    record { found = r.number; stands = r.said-at; risen = leg-risen fields row older newer now r.first r.number (as-sought _ _ row older newer now r.same f) r.any }
not-above kind.Miss fields row older newer now is h f =
    let r = miss-rises (newer ++ now ∷ older) fields h in
    record { found = r.number; stands = r.said-at; risen = miss-risen fields row older newer now r.first r.second r.number (as-sought _ _ row older newer now r.same f) r.any }
not-above kind.Fate fields row older newer now is h f =
    let r = fate-rises (newer ++ now ∷ older) fields h in
    record { found = r.number; stands = r.said-at; risen = fate-risen fields row older newer now r.first r.second r.number (as-sought _ _ row older newer now r.same f) r.any }
not-above other fields row older newer now is h f = absurd (false≢true is)
