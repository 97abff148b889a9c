-- What is told of an encounter with one thing changed, and what answers `vary`.
use Rattle.std.proofs.Common.{◌≡◌, ℕ, ◌≤◌, List, Option, None, Result, Ok, Err, Vec, arith, inr, length, refl, subst, subst₂, sym}
use Rattle.std.specs.Global.{Global}
use Rattle.std.specs.List.{AllZip}
use Rattle.std.specs.Prelude.{IfOk, ◌↔◌}
use Rattle.acas_base.specs.Encounter.{Parts}
use Rattle.acas_base.specs.declared.craft.CraftSpec.{CraftSpec}
use Rattle.acas_base.specs.declared.entry.Entry.{Entry}
use Rattle.acas_lines.specs.Lines.{joined}
use Rattle.acas_top.proofs.ByChange.{by-item}
use Rattle.acas_top.specs.Answers.{AnswersPlain}
use Rattle.acas_top.specs.Given.{answer_status, answer_text}
use Rattle.acas_top.specs.Varying.{AnswersChanges, Base, Found, IsFound, IsGiven, IsPlayed, IsPlayedAs, TellsChanges, changes_of, unknown_in, varied_lines}
use Rattle.acas_top.specs.declared.answers.Answer.{Answer}
use Rattle.acas_top.specs.declared.status.Status.{Status}
use Rattle.acas_top.specs.declared.status.Status.TheVariants.{Done, Refused}
use Rattle.acas_top.specs.declared.words.Plain.TheVariants.{Vary}
use Rattle.air_journal.specs.Airs.{air_of}
use Rattle.air_journal.specs.States.{State}
use Rattle.air_rules.specs.Serial.{IsSerial}
use Rattle.enc_file.specs.Reading.{Says}
use Rattle.outcomes.specs.Crews.{HearTheSame}
use Rattle.outcomes.specs.Outcomes.{IsOutcome}
use Rattle.outcomes.specs.declared.crews.Heard.{Heard}
use Rattle.outcomes.specs.declared.crews.Heard.TheVariants.{Same}
use Rattle.outcomes.specs.declared.lines.Variant.{Variant}
use Rattle.outcomes.specs.declared.outcome.Outcome.{Outcome}
use Rattle.sweep.specs.Numbers.{numbers}
use Rattle.variants.specs.Variants.{HasSizesOf, IsVariant}
use Rattle.variants.specs.declared.change.Change.{Change}
use Rattle.variation_words.specs.declared.variation.Variation.{Variation}

-- ---- one change

-- Whether the crews of a played variant see and hear what those of a journal do, where these are as many in as many
-- cycles.
abbrev IsCompared : (List Entry → ℕ → ℕ → Type 0) → Heard → List Entry → Parts → Type 0
IsCompared AreOf heard played d = (journal : List Entry) → AreOf journal (length d.crafts) d.cycles → (heard ≡ Same) ↔ HearTheSame journal played (length d.crafts) d.cycles

pub played-as : (e : Parts) (journal : List Entry) (change : Change) (varied : Parts) (state : State) (AreOf : List Entry → ℕ → ℕ → Type 0) (outcome : Outcome) (heard : Heard)
    → IsVariant e change varied → HasSizesOf varied e → state.encounter ≡ varied → IsSerial (air_of varied) state.journal → IsOutcome state.encounter state.journal outcome
    → AreOf journal (length e.crafts) e.cycles → IsCompared AreOf heard state.journal state.encounter → IsPlayedAs e journal change (record { outcome = outcome; heard = heard })
played-as e journal change varied state AreOf outcome heard is sizes same serial told are compared =
    let as_many = subst (λ n. AreOf journal n e.cycles) (sym sizes.crafts) are in
    let as_long = subst (λ n. AreOf journal (length varied.crafts) n) (sym sizes.cycles) as_many in
    record {
      varied = varied;
      is = is;
      played = state.journal;
      serial = serial;
      outcome = subst (λ (d : Parts). IsOutcome d state.journal outcome) same told;
      heard = subst (IsCompared AreOf heard state.journal) same compared journal as_long;
    }

-- ---- all changes

-- What the job gives of all places is what is given of all changes.
pub all-played : {E : Type 0} (base : Base) (count : ℕ) (result : Result (Vec (Option Variant) Global) E) → count ≤ 4096 → count ≡ length base.changes
    → IfOk result (λ list. AllZip (IsGiven base) (numbers 0 count) list.items) → IfOk result (λ list. AllZip (IsPlayed base.encounter base.journal) base.changes list.items)
all-played base count (Ok list) few same h =
    by-item (IsPlayed base.encounter base.journal) base.changes list.items (omega (arith, few, same)) (subst (λ n. AllZip (IsGiven base) (numbers 0 n) list.items) same h)
all-played base count (Err error) few same h = h

-- ---- the answer

by-status : (variation : Variation) (e : Parts) (journal : List Entry) (bytes text : List ℕ) (status : Status) → Says bytes e → unknown_in variation e.crafts ≡ None → IsSerial (air_of e) journal
    → AnswersChanges e journal (changes_of variation e journal) status text → AnswersPlain (Vary variation) bytes status text
by-status variation e journal bytes text Done says known serial told = record { encounter = e; says = says; known = known; journal = journal; serial = serial; told = told }
by-status variation e journal bytes text Refused says known serial many = inr (inr (record { encounter = e; says = says; journal = journal; serial = serial; many = many }))
by-status variation e journal bytes text status says known serial told = absurd told

-- The answer for these changes of the encounter that a state has.
pub variation-answers : {E : Type 0} (variation : Variation) (e : Parts) (state : State) (changes : Parts → List Change) (result : Result Answer E) → state.encounter ≡ e → IsSerial (air_of e) state.journal
    → unknown_in variation e.crafts ≡ None → changes e ≡ changes_of variation e state.journal
    → IfOk result (λ answer. AnswersChanges state.encounter state.journal (changes state.encounter) (answer_status answer) (answer_text answer))
    → IfOk result (λ answer. (bytes : List ℕ) → Says bytes e → AnswersPlain (Vary variation) bytes (answer_status answer) (answer_text answer))
variation-answers variation e state changes (Ok answer) same serial known row told = λ bytes says.
    let of_encounter = subst (λ (d : Parts). AnswersChanges d state.journal (changes d) (answer_status answer) (answer_text answer)) same told in
    let of_variation = subst (λ (list : List Change). AnswersChanges e state.journal list (answer_status answer) (answer_text answer)) row of_encounter in
    by-status variation e state.journal bytes (answer_text answer) (answer_status answer) says known serial of_variation
variation-answers variation e state changes (Err error) same serial known row told = told

-- What was found tells the changes.
pub found-tells : (base : Base) (found : Found) → length base.changes ≤ 4096 → IsFound base found
    → TellsChanges base.encounter base.journal base.changes (joined (varied_lines found.crafts found.outcome found.changes found.list))
found-tells base found few is =
    subst₂ (λ (crafts : List CraftSpec) (changes : List Change). TellsChanges base.encounter base.journal base.changes (joined (varied_lines crafts found.outcome changes found.list))) (sym is.crafts) (sym is.changes)
    (record { few = few; outcome = found.outcome; is = is.outcome; list = found.list; played = is.played; text_is = refl })
