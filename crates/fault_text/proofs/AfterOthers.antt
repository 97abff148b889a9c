-- What is told of a record that has a fault after those before it.
use Rattle.std.proofs.Common.{◌≡◌, ◌∙◌, ℕ, ◌+◌, ◌<◌, ◌≤◌, Bool, true, false, List, [], ◌∷◌, ◌++◌, length, Option, Some, None, refl, sym, ap, subst, arith, leb-true, eqb-true, inl, inr}
use Rattle.std.specs.Borrow.{Bor}
use Rattle.std.specs.Prelude.{◌==◌, ◌&&◌, ◌||◌, nat_le, not, is_none, is_some}
use Rattle.std.specs.List.{list_any}
use Rattle.std.proofs.lemmas.Bool.{false≢true}
use Rattle.std.proofs.lemmas.List.Folds.{list_any-append}
use Rattle.std.proofs.lemmas.Option.{same_Some}
use Rattle.acas_base.specs.Encounter.{is_active, most_crafts}
use Rattle.acas_base.specs.declared.setting.Profile.{Profile}
use Rattle.enc_file.specs.Conditions.{if_pair, if_said, is_call_by, is_given, is_miscounted, is_repeat, is_stranger, is_unknown}
use Rattle.enc_file.specs.Earlier.{crafts_of, heading_of, run_of, version_of}
use Rattle.enc_file.specs.Faults.{lacks_profile}
use Rattle.enc_file.specs.Values.{address_in, count_in, field}
use Rattle.enc_file.specs.declared.record.Record.{Record}
use Rattle.enc_file.specs.declared.record.Record.TheVariants as said
use Rattle.enc_file.specs.declared.record.Run.{Run}
use Rattle.enc_file.specs.declared.refusal.Code.TheVariants as code
use Rattle.enc_file.specs.declared.refusal.Refusal.{Refusal}
use Rattle.fault_text.specs.Before.{Collides, IsLastBefore, IsStrange, TellsCounted, TellsEqual, TellsRepeat, alike, are_about, are_called, has_first, has_second, holds_sign, holds_sought, is_about, is_about_in, is_called_in, reached_place, rising_place}
use Rattle.fault_text.specs.Lines.{IsPlaced, fields_in, file_lines}
use Rattle.fault_text.specs.Names.{stated_kind}
use Rattle.fault_text.specs.Rows.{AreBefore, IsRow, SaysRow, records_in, rises}
use Rattle.fault_text.specs.Told.{IsAgainst, IsFormat, IsRefusedAgainst, TellsEarlier}
use Rattle.fault_text.specs.declared.earlier.Sought.{Sought}
use Rattle.fault_text.specs.declared.fault.Why.TheVariants as why
use Rattle.fault_text.specs.declared.lines.Place.{Place}
use Rattle.fault_text.specs.declared.names.RecordKind.{RecordKind}
use Rattle.fault_text.specs.declared.names.RecordKind.TheVariants as kind
use Rattle.fault_text.proofs.Passing.{AreSame, found-none, found-some}
use Rattle.fault_text.proofs.RefusedRows.{all_said, in-all, refused-against, tells-as}
use Rattle.fault_text.proofs.Refusals.{version-is}
use Rattle.fault_text.proofs.Repeats.{IsSigned, given-any, of-craft, of-kind, profile-any, repeat-any, run-any, said-bare}
use Rattle.fault_text.proofs.Rising.{NotAbove, not-above}
use Rattle.fault_text.proofs.Said.{IsFit, about-same, called-as, encounter-none}

-- What is sought.
pub alike-fit : (k : RecordKind) (fields : List (List ℕ)) → IsFit (alike k fields)
alike-fit k fields = record { first = λ e. rw e refl; second = λ e. rw e refl }

craft-fit : (address : ℕ) → IsFit (of-craft kind.Craft address)
craft-fit address = record { first = λ e. absurd (false≢true (sym e)); second = λ e. refl }

bare-fit : (k : RecordKind) → IsFit (of-kind k)
bare-fit k = record { first = λ e. refl; second = λ e. refl }

same-tests : (sought : Sought) → IsFit sought → AreSame SaysRow (is_about_in sought) (are_about sought)
same-tests sought fit = λ older row now is. about-same sought older row now fit is

-- The records of an encounter among what rows say.
any-in : (test : Record → Bool) (earlier : List (Option Record)) → list_any (λ o. if_said o test) earlier ≡ list_any test (records_in earlier)
any-in test [] = refl
any-in test (None ∷ earlier) = any-in test earlier
any-in test (Some now ∷ earlier) = ap (λ b. test now || b) (any-in test earlier)

in-parts : (newer older : List (Option Record)) → records_in (newer ++ older) ≡ records_in newer ++ records_in older
in-parts [] older = refl
in-parts (None ∷ newer) older = in-parts newer older
in-parts (Some now ∷ newer) older = ap (λ rest. now ∷ rest) (in-parts newer older)

pub none-about : (text : List ℕ) (at : ℕ) (earlier : List (Option Record)) (sought : Sought) → AreBefore SaysRow text at earlier → IsFit sought → IsLastBefore (holds_sought sought) (file_lines text) at None
    → list_any (is_about sought) (records_in earlier) ≡ false
none-about text at earlier sought b fit last =
    sym (any-in (is_about sought) earlier) ∙ found-none SaysRow (is_about_in sought) (are_about sought) text at earlier b (same-tests sought fit) last

-- A row that is about what is sought says a record.
record AboutRow (sought : Sought) (older : List (Option Record)) (row : List (List ℕ)) (now : Option Record) : Type 0 where
  it : Record
  is : now ≡ Some it
  row-is : IsRow older row it
  passes : is_about sought it ≡ true

about-row : (sought : Sought) (older : List (Option Record)) (row : List (List ℕ)) (now : Option Record) → SaysRow older row now → is_about_in sought now ≡ true → AboutRow sought older row now
about-row sought older row None is passes = absurd (false≢true passes)
about-row sought older row (Some (said.Header version)) is passes = absurd (false≢true (sym (encounter-none sought.kind _) ∙ passes))
about-row sought older row (Some (said.Run run)) is passes = record { it = said.Run run; is = refl; row-is = is; passes = passes }
about-row sought older row (Some (said.Gains gains)) is passes = record { it = said.Gains gains; is = refl; row-is = is; passes = passes }
about-row sought older row (Some (said.Craft craft)) is passes = record { it = said.Craft craft; is = refl; row-is = is; passes = passes }
about-row sought older row (Some (said.Climb address limit)) is passes = record { it = said.Climb address limit; is = refl; row-is = is; passes = passes }
about-row sought older row (Some (said.Leg address course)) is passes = record { it = said.Leg address course; is = refl; row-is = is; passes = passes }
about-row sought older row (Some (said.Miss pair from to)) is passes = record { it = said.Miss pair from to; is = refl; row-is = is; passes = passes }
about-row sought older row (Some (said.Plan pair copies)) is passes = record { it = said.Plan pair copies; is = refl; row-is = is; passes = passes }
about-row sought older row (Some (said.Fate pair number copies)) is passes = record { it = said.Fate pair number copies; is = refl; row-is = is; passes = passes }
about-row sought older row (Some said.End) is passes = record { it = said.End; is = refl; row-is = is; passes = passes }
about-row sought older row (Some (said.Profile profile)) is passes = record { it = said.Profile profile; is = refl; row-is = is; passes = passes }
about-row sought older row (Some (said.Name text)) is passes = record { it = said.Name text; is = refl; row-is = is; passes = passes }
about-row sought older row (Some (said.Clock second)) is passes = record { it = said.Clock second; is = refl; row-is = is; passes = passes }
about-row sought older row (Some (said.Call address sign)) is passes = record { it = said.Call address sign; is = refl; row-is = is; passes = passes }

-- The last record about what is sought.
pub record FoundRecord (text : List ℕ) (earlier : List (Option Record)) (sought : Sought) (place : Place) : Type 0 where
  pub at : ℕ
  pub now : Record
  pub older : List (Option Record)
  pub newer : List (Option Record)
  pub whole : earlier ≡ newer ++ Some now ∷ older
  pub number : at ≡ length older + 1
  pub passes : is_about sought now ≡ true
  pub last : list_any (is_about_in sought) newer ≡ false
  pub row-is : IsRow older (fields_in place.line.now) now
  pub placed : IsPlaced (file_lines text) at place.number place.line.now

pub some-about : (text : List ℕ) (at : ℕ) (earlier : List (Option Record)) (sought : Sought) (place : Place) → AreBefore SaysRow text at earlier → IsFit sought → IsLastBefore (holds_sought sought) (file_lines text) at (Some place)
    → FoundRecord text earlier sought place
some-about text at earlier sought place b fit last =
    let f = found-some SaysRow (is_about_in sought) (are_about sought) text at earlier place b (same-tests sought fit) last in
    let a = about-row sought f.older (fields_in place.line.now) f.now f.says f.passes in record {
      at = f.at;
      now = a.it;
      older = f.older;
      newer = f.newer;
      whole = f.whole ∙ ap (λ o. f.newer ++ o ∷ f.older) a.is;
      number = f.number;
      passes = a.passes;
      last = f.last;
      row-is = a.row-is;
      placed = f.placed;
    }

found-whole : (text : List ℕ) (earlier : List (Option Record)) (sought : Sought) (place : Place) (f : FoundRecord text earlier sought place) → records_in earlier ≡ records_in f.newer ++ f.now ∷ records_in f.older
found-whole text earlier sought place f = ap records_in f.whole ∙ in-parts f.newer (Some f.now ∷ f.older)

any-found : (earlier newer older : List Record) (now : Record) (test : Record → Bool) → earlier ≡ newer ++ now ∷ older → test now ≡ true → list_any test earlier ≡ true
any-found earlier newer older now test e is = ap (list_any test) e ∙ list_any-append test newer (now ∷ older) ∙ ap (λ b. list_any test newer || (b || list_any test older)) is ∙ either (list_any test newer) where
  either : (b : Bool) → (b || true) ≡ true
  either true = refl
  either false = refl

found-any : (text : List ℕ) (earlier : List (Option Record)) (sought : Sought) (place : Place) → FoundRecord text earlier sought place → list_any (is_about sought) (records_in earlier) ≡ true
found-any text earlier sought place f = any-found (records_in earlier) (records_in f.newer) (records_in f.older) f.now (is_about sought) (found-whole text earlier sought place f) f.passes

-- A record that repeats an earlier one.
pub repeat-called : (text : List ℕ) (at : ℕ) (k : RecordKind) (line : List ℕ) (earlier : List (Option Record)) → IsAgainst text at code.Repeat k line earlier → IsLastBefore (holds_sought (alike k (fields_in line))) (file_lines text) at None
    → IsSigned (records_in earlier) k (fields_in line)
repeat-called text at k line earlier a none = elim (repeat-any (records_in earlier) k (fields_in line) (said-bare [] _ earlier a.before.said tt) a.fault) [
  | inl any ↦ absurd (false≢true (sym (none-about text at earlier (alike k (fields_in line)) a.before (alike-fit k (fields_in line)) none) ∙ any))
  | inr signed ↦ signed
]

-- A call sign that an earlier record gave.
sign-tests : (sign : List ℕ) → AreSame SaysRow (is_called_in sign) (are_called sign)
sign-tests sign = λ older row now is. called-as sign older row now is

pub called-some : (text : List ℕ) (at : ℕ) (k : RecordKind) (line : List ℕ) (earlier : List (Option Record)) (sign : List ℕ) → sign ≡ field (fields_in line) 2 → IsAgainst text at code.Repeat k line earlier
    → IsLastBefore (holds_sought (alike k (fields_in line))) (file_lines text) at None → IsLastBefore (holds_sign sign) (file_lines text) at None → ⊥
called-some text at k line earlier sign is a none last =
    let signed = repeat-called text at k line earlier a none in
    let any : list_any (is_call_by sign) (records_in earlier) ≡ true = ap (λ (s : List ℕ). list_any (is_call_by s) (records_in earlier)) is ∙ signed.1 in
    false≢true (sym (found-none SaysRow (is_called_in sign) (are_called sign) text at earlier a.before (sign-tests sign) last) ∙ any-in (is_call_by sign) earlier ∙ any)

pub tells-called : (text : List ℕ) (at : ℕ) (k : RecordKind) (line : List ℕ) (earlier : List (Option Record)) (place : Place) (found : Bor (List ℕ)) → found.now ≡ field (fields_in line) 2 → IsAgainst text at code.Repeat k line earlier
    → IsLastBefore (holds_sought (alike k (fields_in line))) (file_lines text) at None → IsLastBefore (holds_sign found.now) (file_lines text) at (Some place) → TellsRepeat text earlier k (fields_in line) (why.Called found place.number)
tells-called text at k line earlier place found is a none last =
    let signed = repeat-called text at k line earlier a none in
    let f = found-some SaysRow (is_called_in found.now) (are_called found.now) text at earlier place a.before (sign-tests found.now) last in
    record {
      same = signed.0;
      stands = is;
      uncalled = any-in (is_about (alike k (fields_in line))) earlier ∙ none-about text at earlier (alike k (fields_in line)) a.before (alike-fit k (fields_in line)) none;
      at = f.at;
      now = f.now;
      is = record { newer = f.newer; older = f.older; whole = f.whole; number = f.number; passes = f.passes; last = f.last };
      line = place.line.now;
      placed = f.placed;
    }

pub repeat-found : (text : List ℕ) (at : ℕ) (k : RecordKind) (line : List ℕ) (earlier : List (Option Record)) (place : Place) → IsAgainst text at code.Repeat k line earlier
    → IsLastBefore (holds_sought (alike k (fields_in line))) (file_lines text) at (Some place) → FoundRecord text earlier (alike k (fields_in line)) place
repeat-found text at k line earlier place a last = some-about text at earlier (alike k (fields_in line)) place a.before (alike-fit k (fields_in line)) last

collides : (text : List ℕ) (earlier : List (Option Record)) (k : RecordKind) (fields : List (List ℕ)) (place : Place) (f : FoundRecord text earlier (alike k fields) place) → Collides text earlier k fields place.number f.now
collides text earlier k fields place f = record {
  at = f.at;
  is = record { newer = f.newer; older = f.older; whole = f.whole; number = f.number; passes = f.passes; last = f.last };
  line = place.line.now;
  placed = f.placed;
}

pub risen : (text : List ℕ) (at : ℕ) (k : RecordKind) (line : List ℕ) (earlier : List (Option Record)) (place : Place) → IsAgainst text at code.Repeat k line earlier → rises k ≡ true
    → (f : FoundRecord text earlier (alike k (fields_in line)) place) → NotAbove k (fields_in line) (fields_in place.line.now) f.now
risen text at k line earlier place a up f =
    not-above k (fields_in line) (fields_in place.line.now) (records_in f.older) (records_in f.newer) f.now up
    (subst (λ rs. is_repeat rs (stated_kind k) (fields_in line) ≡ true) (found-whole text earlier (alike k (fields_in line)) place f) a.fault)
    (record { word = f.row-is.word; says = f.row-is.says; fine = f.row-is.fine; passes = f.passes; last = sym (any-in (is_about (alike k (fields_in line))) f.newer) ∙ f.last })

pub tells-again : (text : List ℕ) (at : ℕ) (k : RecordKind) (line : List ℕ) (earlier : List (Option Record)) (place : Place) (told : Bor (List ℕ)) → told.now ≡ line → IsAgainst text at code.Repeat k line earlier → rises k ≡ false
    → IsLastBefore (holds_sought (alike k (fields_in line))) (file_lines text) at (Some place) → TellsRepeat text earlier k (fields_in line) (why.Again k told place.number)
tells-again text at k line earlier place told same a up last =
    let f = repeat-found text at k line earlier place a last in
    record { once = up; same = refl; whole = ap fields_in same; now = f.now; collides = collides text earlier k (fields_in line) place f }

pub tells-above : (text : List ℕ) (at : ℕ) (k : RecordKind) (line : List ℕ) (earlier : List (Option Record)) (place : Place) (found reached : ℕ) → IsAgainst text at code.Repeat k line earlier → rises k ≡ true
    → IsLastBefore (holds_sought (alike k (fields_in line))) (file_lines text) at (Some place) → count_in 1 600 (field (fields_in line) (rising_place k)) ≡ Some found
    → count_in 1 600 (field (fields_in place.line.now) (reached_place k)) ≡ Some reached → TellsRepeat text earlier k (fields_in line) (why.NotAbove k found reached place.number)
tells-above text at k line earlier place found reached a up last one two =
    let f = repeat-found text at k line earlier place a last in
    let n = risen text at k line earlier place a up f in
    let same-found : n.found ≡ found = same_Some n.found found (sym n.stands ∙ one) in
    let same-reached : n.risen.reached ≡ reached = same_Some n.risen.reached reached (sym n.risen.stands ∙ two) in
    record { rising = up; same = refl; now = f.now; collides = collides text earlier k (fields_in line) place f; found-is = one; reached-is = n.risen.is-said ∙ ap Some same-reached; order = omega (arith, n.risen.order, same-found, same-reached) }

-- An address that no earlier aircraft has.
pub stranger-unknown : (text : List ℕ) (at : ℕ) (earlier : List (Option Record)) (address : ℕ) → AreBefore SaysRow text at earlier → IsLastBefore (holds_sought (of-craft kind.Craft address)) (file_lines text) at None
    → is_given (records_in earlier) address ≡ false
stranger-unknown text at earlier address b none = given-any address (records_in earlier) ∙ none-about text at earlier (of-craft kind.Craft address) b (craft-fit address) none

pub stranger-none : (text : List ℕ) (at : ℕ) (earlier : List (Option Record)) (fields : List (List ℕ)) (place : ℕ) (found : List ℕ) (address : ℕ) → AreBefore SaysRow text at earlier → found ≡ field fields place → address_in found ≡ Some address
    → IsLastBefore (holds_sought (of-craft kind.Craft address)) (file_lines text) at None → IsStrange (records_in earlier) fields place found
stranger-none text at earlier fields place found address b is spelled none = record { stands = is; address = address; spelled = spelled; unknown = stranger-unknown text at earlier address b none }

pub stranger-some : (text : List ℕ) (at : ℕ) (earlier : List (Option Record)) (address : ℕ) (place : Place) → AreBefore SaysRow text at earlier → IsLastBefore (holds_sought (of-craft kind.Craft address)) (file_lines text) at (Some place)
    → is_given (records_in earlier) address ≡ true
stranger-some text at earlier address place b some =
    given-any address (records_in earlier) ∙ found-any text earlier (of-craft kind.Craft address) place (some-about text at earlier (of-craft kind.Craft address) place b (craft-fit address) some)

pub no-stranger : (earlier : List Record) (fields : List (List ℕ)) (place address : ℕ) → address_in (field fields place) ≡ Some address → is_given earlier address ≡ true → is_stranger earlier fields place ≡ false
no-stranger earlier fields place address e g = rw (e, g) refl

pub no-address : (earlier : List Record) (fields : List (List ℕ)) (place : ℕ) → address_in (field fields place) ≡ None → is_stranger earlier fields place ≡ false
no-address earlier fields place e = rw e refl

pub unknown-first : (earlier : List Record) (k : RecordKind) (fields : List (List ℕ)) → is_unknown earlier (stated_kind k) fields ≡ true → has_first k ≡ true
unknown-first earlier kind.Run fields h = absurd (false≢true h)
unknown-first earlier kind.Gains fields h = absurd (false≢true h)
unknown-first earlier kind.End fields h = absurd (false≢true h)
unknown-first earlier kind.Profile fields h = absurd (false≢true h)
unknown-first earlier kind.Name fields h = absurd (false≢true h)
unknown-first earlier kind.Clock fields h = absurd (false≢true h)
unknown-first earlier other fields h = refl

pair-by : (a b c : Bool) → (a || (b || c)) ≡ true → a ≡ false → b ≡ false → c ≡ true
pair-by true b c h e f = absurd (false≢true (sym e))
pair-by false true c h e f = absurd (false≢true (sym f))
pair-by false false c h e f = h

pub equal-by : (earlier : List Record) (k : RecordKind) (fields : List (List ℕ)) → is_unknown earlier (stated_kind k) fields ≡ true → is_stranger earlier fields 1 ≡ false → (has_second k ≡ true → is_stranger earlier fields 2 ≡ false)
    → if_pair fields (λ pair. pair.first == pair.second) ≡ true
equal-by earlier kind.Climb fields h one two = absurd (false≢true (sym one ∙ h))
equal-by earlier kind.Call fields h one two = absurd (false≢true (sym one ∙ h))
equal-by earlier kind.Leg fields h one two = absurd (false≢true (sym one ∙ h))
equal-by earlier kind.Miss fields h one two = pair-by _ _ _ h one (two refl)
equal-by earlier kind.Plan fields h one two = pair-by _ _ _ h one (two refl)
equal-by earlier kind.Fate fields h one two = pair-by _ _ _ h one (two refl)
equal-by earlier other fields h one two = absurd (false≢true h)

equal-at : (earlier : List Record) (fields : List (List ℕ)) (found : List ℕ) (one two : Option ℕ) → found ≡ field fields 1 → address_in found ≡ one → address_in (field fields 2) ≡ two
    → if_said one (λ first. if_said two (λ second. first == second)) ≡ true → if_said one (λ first. not (is_given earlier first)) ≡ false → TellsEqual earlier fields found
equal-at earlier fields found None two at e f h known = absurd (false≢true h)
equal-at earlier fields found (Some a) None at e f h known = absurd (false≢true h)
equal-at earlier fields found (Some a) (Some b) at e f h known =
    record { stands = at; address = a; first = e; second = f ∙ ap Some (sym (eqb-true a b h)); known = flip (is_given earlier a) known } where
      flip : (b : Bool) → not b ≡ false → b ≡ true
      flip true h = refl
      flip false h = absurd (false≢true (sym h))

pub tells-equal : (earlier : List Record) (fields : List (List ℕ)) (found : List ℕ) → found ≡ field fields 1 → if_pair fields (λ pair. pair.first == pair.second) ≡ true → is_stranger earlier fields 1 ≡ false → TellsEqual earlier fields found
tells-equal earlier fields found at h known = equal-at earlier fields found (address_in (field fields 1)) (address_in (field fields 2)) at (ap address_in at) refl h known

-- What is wanting at the end.
pub end-by : (earlier : List Record) (k : RecordKind) (fields : List (List ℕ)) → is_miscounted earlier (stated_kind k) fields ≡ true → (k ≡ kind.Craft → ⊥) → (k ≡ kind.End) × ((is_none (run_of earlier) || (lacks_profile earlier || not (list_any is_active (crafts_of earlier)))) ≡ true)
end-by earlier kind.Craft fields h other = absurd (other refl)
end-by earlier kind.End fields h other = (refl, h)
end-by earlier kind.Run fields h other = absurd (false≢true h)
end-by earlier kind.Gains fields h other = absurd (false≢true h)
end-by earlier kind.Climb fields h other = absurd (false≢true h)
end-by earlier kind.Leg fields h other = absurd (false≢true h)
end-by earlier kind.Miss fields h other = absurd (false≢true h)
end-by earlier kind.Plan fields h other = absurd (false≢true h)
end-by earlier kind.Fate fields h other = absurd (false≢true h)
end-by earlier kind.Profile fields h other = absurd (false≢true h)
end-by earlier kind.Name fields h other = absurd (false≢true h)
end-by earlier kind.Clock fields h other = absurd (false≢true h)
end-by earlier kind.Call fields h other = absurd (false≢true h)

no-run : (o : Option Run) → is_some o ≡ false → o ≡ None
no-run None e = refl
no-run (Some run) e = absurd (false≢true (sym e))

none-active : (o : Option Run) (a b : Bool) → is_some o ≡ true → a ≡ false → (is_none o || (a || not b)) ≡ true → b ≡ false
none-active None a b e f h = absurd (false≢true e)
none-active (Some run) true b e f h = absurd (false≢true (sym f))
none-active (Some run) false true e f h = absurd (false≢true h)
none-active (Some run) false false e f h = refl

-- Whether there is a record of a kind that names no aircraft.
pub kind-some : (text : List ℕ) (at : ℕ) (earlier : List (Option Record)) (k : RecordKind) (found : Option Place) → AreBefore SaysRow text at earlier → IsLastBefore (holds_sought (of-kind k)) (file_lines text) at found
    → is_some found ≡ list_any (is_about (of-kind k)) (records_in earlier)
kind-some text at earlier k None b last = sym (none-about text at earlier (of-kind k) b (bare-fit k) last)
kind-some text at earlier k (Some place) b last = sym (found-any text earlier (of-kind k) place (some-about text at earlier (of-kind k) place b (bare-fit k) last))

pub run-none : (earlier : List Record) → list_any (is_about (of-kind kind.Run)) earlier ≡ false → TellsCounted earlier kind.End why.NoRun
run-none earlier none = (refl, no-run (run_of earlier) (run-any earlier ∙ none))

lacking : (version : ℕ) (o : Option Profile) → nat_le 3 version ≡ true → is_some o ≡ false → (nat_le 3 version && is_none o) ≡ true
lacking version None e f = rw e refl
lacking version (Some profile) e f = absurd (false≢true (sym f))

pub profile-none : (earlier : List Record) → list_any (is_about (of-kind kind.Run)) earlier ≡ true → nat_le 3 (version_of earlier) ≡ true → list_any (is_about (of-kind kind.Profile)) earlier ≡ false
    → TellsCounted earlier kind.End why.NoProfile
profile-none earlier run third none = (refl, run-any earlier ∙ run, lacking (version_of earlier) (heading_of earlier).profile third (profile-any earlier ∙ none))

nothing-lacks : (third : Bool) (o : Option Profile) (given : Bool) → is_some o ≡ given → (third && not given) ≡ false → (third && is_none o) ≡ false
nothing-lacks false o given e h = refl
nothing-lacks true None given e h = rw (← e) at h
nothing-lacks true (Some profile) given e h = refl

pub third-format : (version : ℕ) → 3 ≤ version → nat_le 3 version ≡ true
third-format version h = grind (arith, h)

pub older-format : (version : ℕ) (given : Bool) → version < 3 → (nat_le 3 version && not given) ≡ false
older-format version given h =
    let older : nat_le 3 version ≡ false = grind (arith, h) in
    rw older refl

pub profile-given : (third given : Bool) → given ≡ true → (third && not given) ≡ false
profile-given true given e = rw e refl
profile-given false given e = refl

pub nobody-active : (earlier : List Record) (fields : List (List ℕ)) → is_miscounted earlier (stated_kind kind.End) fields ≡ true → list_any (is_about (of-kind kind.Run)) earlier ≡ true
    → (nat_le 3 (version_of earlier) && not (list_any (is_about (of-kind kind.Profile)) earlier)) ≡ false → TellsCounted earlier kind.End why.NoneActive
nobody-active earlier fields fault run there =
    let given = run-any earlier ∙ run in
    let had = nothing-lacks (nat_le 3 (version_of earlier)) (heading_of earlier).profile (list_any (is_about (of-kind kind.Profile)) earlier) (profile-any earlier) there in
    (refl, given, had, none-active (run_of earlier) (lacks_profile earlier) (list_any is_active (crafts_of earlier)) given had fault)

-- One aircraft too many.
many-by : (text : List ℕ) (refusal : Refusal) (line : List ℕ) (version : ℕ) (a : IsRefusedAgainst text refusal kind.Craft line) → refusal.code ≡ code.Count → IsFormat text version → TellsEarlier text refusal kind.Craft line (why.ManyCrafts version)
many-by text refusal line version a e format =
    let same : version_of a.refused.earlier ≡ version = version-is text refusal version a.refused a.some format in
    let b = refused-against text refusal kind.Craft line code.Count a e in
    let all : records_in (all_said a.refused.earlier) ≡ a.refused.earlier = in-all a.refused.earlier in
    let now : version ≡ version_of (records_in (all_said a.refused.earlier)) = sym same ∙ ap version_of (sym all) in
    let le : most_crafts (version_of (records_in (all_said a.refused.earlier))) ≤ length (crafts_of (records_in (all_said a.refused.earlier))) = leb-true _ _ b.fault in
    tells-as text refusal kind.Craft line (why.ManyCrafts version) code.Count a e (refl, now, subst (λ v. most_crafts v ≤ length (crafts_of (records_in (all_said a.refused.earlier)))) (sym now) le)

pub many-of : (text : List ℕ) (refusal : Refusal) (k : RecordKind) (line : List ℕ) (version : ℕ) → IsRefusedAgainst text refusal k line → k ≡ kind.Craft → refusal.code ≡ code.Count → IsFormat text version → TellsEarlier text refusal k line (why.ManyCrafts version)
many-of text refusal k line version a is e format =
    subst (λ (x : RecordKind). TellsEarlier text refusal x line (why.ManyCrafts version)) (sym is) (many-by text refusal line version (subst (λ (x : RecordKind). IsRefusedAgainst text refusal x line) is a) e format)

-- Where it isn't that, the record is the end.
pub end-of : (text : List ℕ) (refusal : Refusal) (k : RecordKind) (line : List ℕ) (version : ℕ) (w : _) → IsRefusedAgainst text refusal k line → (k ≡ kind.Craft → ⊥) → refusal.code ≡ code.Count → IsFormat text version
    → ((l : List ℕ) (earlier : List (Option Record)) → version_of (records_in earlier) ≡ version → IsAgainst text refusal.at code.Count kind.End l earlier → TellsCounted (records_in earlier) kind.End w) → TellsEarlier text refusal k line w
end-of text refusal k line version w a other e format told =
    let same : version_of (records_in (all_said a.refused.earlier)) ≡ version = ap version_of (in-all a.refused.earlier) ∙ version-is text refusal version a.refused a.some format in
    let b = refused-against text refusal k line code.Count a e in
    let end : k ≡ kind.End = (end-by (records_in (all_said a.refused.earlier)) k (fields_in line) b.fault other).0 in
    let at-end : IsAgainst text refusal.at code.Count kind.End line (all_said a.refused.earlier) = subst (λ (x : RecordKind). IsAgainst text refusal.at code.Count x line (all_said a.refused.earlier)) end b in
    tells-as text refusal k line w code.Count a e (subst (λ (x : RecordKind). TellsCounted (records_in (all_said a.refused.earlier)) x w) (sym end) (told line (all_said a.refused.earlier) same at-end))

-- What was found, by what it is.
pub last-as : (text : List ℕ) (at : ℕ) (s t : Sought) (found o : Option Place) → s ≡ t → found ≡ o → IsLastBefore (holds_sought s) (file_lines text) at found → IsLastBefore (holds_sought t) (file_lines text) at o
last-as text at s t found o e f last = subst (λ (x : Sought). IsLastBefore (holds_sought x) (file_lines text) at o) e (subst (λ (x : Option Place). IsLastBefore (holds_sought s) (file_lines text) at x) f last)
