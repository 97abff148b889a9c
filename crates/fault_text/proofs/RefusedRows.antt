-- The records before a refused one, as rows that say records of an encounter.
use Rattle.std.proofs.Common.{◌≡◌, ◌∙◌, ℕ, true, false, not, List, [], ◌∷◌, length, map, Option, Some, None, refl, sym, ap, subst}
use Rattle.std.specs.Prelude.{◌&&◌, codes}
use Rattle.std.specs.Str.{bytes_eq}
use Rattle.std.proofs.lemmas.Bool.{false≢true}
use Rattle.std.proofs.lemmas.List.{length-map}
use Rattle.enc_file.specs.Conditions.{ArePassed, HasNoFault, IsRefused, has_fault, if_said, is_repeat, kind_named, said_by}
use Rattle.enc_file.specs.Conditions as stated
use Rattle.enc_file.specs.Earlier.{has_ended, version_of}
use Rattle.enc_file.specs.Records.{records_of}
use Rattle.enc_file.specs.Values.{address_in, count_in, field}
use Rattle.enc_file.specs.declared.record.Record.{Record}
use Rattle.enc_file.specs.declared.record.Record.TheVariants as said
use Rattle.enc_file.specs.declared.refusal.Code.{Code}
use Rattle.enc_file.specs.declared.refusal.Code.TheVariants as code
use Rattle.enc_file.specs.declared.refusal.Refusal.{Refusal}
use Rattle.fault_text.specs.Names.{stated_kind, word_text}
use Rattle.fault_text.specs.Rows.{AreBefore, AreSaid, IsNoKind, IsRow, SaysRecord, SaysRow, records_in, rises}
use Rattle.fault_text.specs.Told.{IsAgainst, IsRefusedAgainst, TellsAgainst, TellsEarlier, against_by}
use Rattle.fault_text.specs.Lines.{fields_in}
use Rattle.fault_text.specs.declared.fault.Why.{Why}
use Rattle.fault_text.specs.declared.names.RecordKind.{RecordKind}
use Rattle.fault_text.specs.declared.names.RecordKind.TheVariants as kind
use Rattle.fault_text.proofs.Said.{WasRead, is-row}

-- Each record of an encounter.
abbrev pub all_said : List Record → List (Option Record)
all_said earlier = map (λ (now : Record). Some now) earlier

pub in-all : (earlier : List Record) → records_in (all_said earlier) ≡ earlier
in-all [] = refl
in-all (now ∷ earlier) = ap (λ rest. now ∷ rest) (in-all earlier)

-- A record in which nothing is wrong repeats none.
two-none : (o p : Option ℕ) → if_said o (λ a. if_said p (λ n. false)) ≡ false
two-none None p = refl
two-none (Some a) None = refl
two-none (Some a) (Some n) = refl

three-none : (o p q : Option ℕ) → if_said o (λ a. if_said p (λ b. if_said q (λ n. false))) ≡ false
three-none None p q = refl
three-none (Some a) p q = two-none p q

not-first : (last : Record) (older : List Record) (row : List (List ℕ)) (k : stated.RecordKind) → HasNoFault (last ∷ older) (Some row) → kind_named (version_of (last ∷ older)) (field row 0) ≡ Some k
    → is_repeat (last ∷ older) k row ≡ false
unfolding has_fault
not-first last older row k fine named =
    let going : has_ended (last ∷ older) ≡ false = fine code.After in
    let repeat : (not (has_ended (last ∷ older)) && if_said (kind_named (version_of (last ∷ older)) (field row 0)) (λ k. is_repeat (last ∷ older) k row)) ≡ false = fine code.Repeat in
    rw (going, named) at repeat

none-repeats : (older : List Record) (row : List (List ℕ)) (of : RecordKind) → HasNoFault older (Some row) → rises of ≡ true → word_text of ≡ field row 0 → is_repeat older (stated_kind of) row ≡ false
none-repeats [] row kind.Leg fine up word = two-none (address_in (field row 1)) (count_in 1 600 (field row 2))
none-repeats [] row kind.Miss fine up word = three-none (address_in (field row 1)) (address_in (field row 2)) (count_in 1 600 (field row 3))
none-repeats [] row kind.Fate fine up word = three-none (address_in (field row 1)) (address_in (field row 2)) (count_in 1 600 (field row 3))
none-repeats (last ∷ older) row kind.Leg fine up word = not-first last older row stated.LegKind fine (rw (← word) refl)
none-repeats (last ∷ older) row kind.Miss fine up word = not-first last older row stated.MissKind fine (rw (← word) refl)
none-repeats (last ∷ older) row kind.Fate fine up word = not-first last older row stated.FateKind fine (rw (← word) refl)
none-repeats older row other fine up word = absurd (false≢true up)

-- The header of an encounter names no kind of record.
header-other : (of : RecordKind) → bytes_eq (codes "encounter") (word_text of) ≡ false
header-other kind.Run = refl
header-other kind.Gains = refl
header-other kind.Craft = refl
header-other kind.Climb = refl
header-other kind.Leg = refl
header-other kind.Miss = refl
header-other kind.Plan = refl
header-other kind.Fate = refl
header-other kind.End = refl
header-other kind.Profile = refl
header-other kind.Name = refl
header-other kind.Clock = refl
header-other kind.Call = refl

pub header-said : (row : List (List ℕ)) → field row 0 ≡ codes "encounter" → IsNoKind row
header-said row e = λ of. ap (λ w. bytes_eq w (word_text of)) e ∙ header-other of

row-is : (before : List Record) (row : List (List ℕ)) (now : Record) → HasNoFault before (Some row) → WasRead row now → IsRow (all_said before) row now
row-is before row now fine is = record {
  word = is.word;
  says = is.says;
  fine = λ of up word. ap (λ rs. is_repeat rs (stated_kind of) row) (in-all before) ∙ none-repeats before row of fine up word;
}

row-said : (before : List Record) (row : List (List ℕ)) (now : Record) → HasNoFault before (Some row) → WasRead row now → SaysRecord (all_said before) row now
row-said before row (said.Header version) fine is = header-said row is.word
row-said before row (said.Run run) fine is = row-is before row (said.Run run) fine is
row-said before row (said.Gains gains) fine is = row-is before row (said.Gains gains) fine is
row-said before row (said.Craft craft) fine is = row-is before row (said.Craft craft) fine is
row-said before row (said.Climb address limit) fine is = row-is before row (said.Climb address limit) fine is
row-said before row (said.Leg address course) fine is = row-is before row (said.Leg address course) fine is
row-said before row (said.Miss pair from to) fine is = row-is before row (said.Miss pair from to) fine is
row-said before row (said.Plan pair copies) fine is = row-is before row (said.Plan pair copies) fine is
row-said before row (said.Fate pair number copies) fine is = row-is before row (said.Fate pair number copies) fine is
row-said before row said.End fine is = row-is before row said.End fine is
row-said before row (said.Profile profile) fine is = row-is before row (said.Profile profile) fine is
row-said before row (said.Name text) fine is = row-is before row (said.Name text) fine is
row-said before row (said.Clock second) fine is = row-is before row (said.Clock second) fine is
row-said before row (said.Call address sign) fine is = row-is before row (said.Call address sign) fine is

passed-said : (before : List Record) (rows : List (List (List ℕ))) (all : List Record) → ArePassed before rows all → AreSaid SaysRow (all_said before) rows (all_said all)
passed-said before [] all passed = ap all_said passed
passed-said before (row ∷ rows) all passed =
    let now = passed.1.0 in
    (Some now, row-said before row now passed.0 (is-row before row now passed.1.1), passed-said (now ∷ before) rows all passed.1.2)

pub before-refused : (text : List ℕ) (refusal : Refusal) (r : IsRefused (records_of text) refusal) → AreBefore SaysRow text refusal.at (all_said r.earlier)
before-refused text refusal r =
    let size : length (all_said r.earlier) ≡ length r.earlier = length-map r.earlier (λ now. Some now) in record {
      said = rw size (passed-said [] _ r.earlier r.passed);
      number = rw size r.at;
    }

-- The record that is refused after those before it.
pub refused-against : (text : List ℕ) (refusal : Refusal) (k : RecordKind) (line : List ℕ) (c : Code) (a : IsRefusedAgainst text refusal k line) → refusal.code ≡ c → IsAgainst text refusal.at c k line (all_said a.refused.earlier)
refused-against text refusal k line c a e = record {
  before = before-refused text refusal a.refused;
  fault = ap (λ rs. against_by c rs (stated_kind k) (fields_in line)) (in-all a.refused.earlier) ∙ subst (λ (d : Code). against_by d a.refused.earlier (stated_kind k) (fields_in line) ≡ true) e a.fault;
}

pub tells-as : (text : List ℕ) (refusal : Refusal) (k : RecordKind) (line : List ℕ) (w : Why) (c : Code) (a : IsRefusedAgainst text refusal k line) → refusal.code ≡ c → TellsAgainst c text (all_said a.refused.earlier) k (fields_in line) w
    → TellsEarlier text refusal k line w
tells-as text refusal k line w c a e t = record { refused = a.refused; tells = subst (λ (d : Code). TellsAgainst d text (all_said a.refused.earlier) k (fields_in line) w) (sym e) t }
