-- What crews see and hear, by what is kept of them.
use Rattle.std.proofs.Common.{◌≡◌, ◌↔◌, ℕ, ◌+◌, ◌-◌, Bool, true, false, IsTrue, List, sym, ap, ap₂, ◌∙◌, subst, arith, inl, inr}
use Rattle.acas_base.specs.declared.entry.Entry.{Entry}
use Rattle.advisory_report.specs.Composite.{word_of}
use Rattle.advisory_report.specs.Phrases.{aural_of}
use Rattle.advisory_report.specs.declared.composite.Composite.{Composite}
use Rattle.std.proofs.lemmas.Bool.{cases_eq, false≢true}
use Rattle.outcomes.specs.declared.crews.Heard.{Heard}
use Rattle.outcomes.specs.declared.crews.Heard.TheVariants.{Same, Other}
use Rattle.outcomes.specs.Crews.{AreAllHeard, AreCrews, AreHeard, HearTheSame, IsHeard}

pub heard-same : (one other : List Entry) (crafts cycles : ℕ) (list : List Composite) → AreCrews one crafts cycles list → AreAllHeard list other crafts cycles → HearTheSame one other crafts cycles
heard-same one other crafts cycles list crews heard own cycle h some run =
    let is = heard cycle some run own h in
    let now = crews.are own cycle h run in
    let before = crews.are own (cycle - 1) h (omega arith) in
    record { word = sym (ap word_of now) ∙ is.word; phrase = sym (ap₂ aural_of before now) ∙ is.phrase }

pub same-heard : (one other : List Entry) (crafts cycles : ℕ) (list : List Composite) → AreCrews one crafts cycles list → HearTheSame one other crafts cycles → AreAllHeard list other crafts cycles
same-heard one other crafts cycles list crews same cycle some run own h =
    let is = same own cycle h some run in
    let now = crews.are own cycle h run in
    let before = crews.are own (cycle - 1) h (omega arith) in
    record { word = ap word_of now ∙ is.word; phrase = ap₂ aural_of before now ∙ is.phrase }

-- ---- one by one

pub heard-more : (list : List Composite) (journal : List Entry) (own cycle : ℕ) (b : Bool) → (IsTrue b ↔ IsHeard list journal own cycle) → b ≡ true → AreHeard list journal own cycle → AreHeard list journal (own + 1) cycle
heard-more list journal own cycle b is met before k h = elim (cases_eq k own) [
  | inl same ↦ subst (λ n. IsHeard list journal n cycle) (sym same) (is.0 met)
  | inr apart ↦ before k (omega arith)
]

pub all-more : (list : List Composite) (journal : List Entry) (crafts earlier : ℕ) (b : Bool) → (IsTrue b ↔ AreHeard list journal crafts (earlier + 1)) → b ≡ true → AreAllHeard list journal crafts earlier → AreAllHeard list journal crafts (earlier + 1)
all-more list journal crafts earlier b is met before k some run = elim (cases_eq k (earlier + 1)) [
  | inl same ↦ subst (λ n. AreHeard list journal crafts n) (sym same) (is.0 met)
  | inr apart ↦ before k some (omega arith)
]

abbrev is_same : Heard → Bool
is_same Same = true
is_same Other = false

pub other≢same : Other ≡ Same → ⊥
other≢same q = false≢true (ap is_same q)
