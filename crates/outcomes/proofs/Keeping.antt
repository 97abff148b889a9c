-- What is kept in lists, place by place.
use Rattle.std.proofs.Common.{◌≡◌, ℕ, ◌+◌, ◌<◌, ◌≤◌, List, length, length-set, set, get_or, replicate, sym, ap, ◌∙◌, subst, arith, inl, inr}
use Rattle.std.proofs.lemmas.Bool.{cases_eq, cases_lt}
use Rattle.std.proofs.lemmas.List.{get_or-set_other, get_or-set_same, length-replicate}
use Rattle.acas_base.specs.declared.entry.Entry.{Entry}
use Rattle.advisory_report.specs.Composite.{clear}
use Rattle.advisory_report.specs.declared.composite.Composite.{Composite}
use Rattle.outcomes.specs.Advised.{shown_in}
use Rattle.outcomes.specs.Crews.{AreCrews, AreKeptBelow, kept_at}
use Rattle.outcomes.specs.Outcomes.{AreSenses}
use Rattle.outcomes.specs.declared.advised.Senses.{Senses}
use Rattle.outcomes.specs.declared.advised.Senses.TheVariants.{Neither}

-- ---- senses

pub no-senses : (each : ℕ → Senses) (list : List Senses) → list ≡ replicate 16 Neither → AreSenses each 0 list
no-senses each list is = record {
  size = ap length is ∙ length-replicate 16 Neither;
  are = λ own h. absurd (omega arith);
}

-- Those of one aircraft more.
pub senses-more : (each : ℕ → Senses) (own place : ℕ) (list : List Senses) (senses : Senses) → own < 16 → place ≡ own → senses ≡ each own → AreSenses each own list → AreSenses each (own + 1) (set list place senses)
senses-more each own place list senses within here is before = record {
  size = length-set list place senses ∙ before.size;
  are = λ k h. elim (cases_eq k place) [
    | inl same ↦
        subst (λ (n : ℕ). get_or (set list place senses) n Neither ≡ each n) (sym same) (get_or-set_same list place senses Neither (let s = before.size in omega arith) ∙ is ∙ ap each (sym here))
    | inr apart ↦ get_or-set_other list place k senses Neither (λ q. apart (omega arith)) ∙ before.are k (omega arith)
  ];
}

-- ---- what crews see

pub none-kept : (journal : List Entry) (crafts : ℕ) (list : List Composite) → list ≡ replicate 9616 clear → AreKeptBelow journal crafts 0 list
none-kept journal crafts list is = record {
  size = ap length is ∙ length-replicate 9616 clear;
  are = λ own cycle h below. absurd (omega arith);
}

-- What one aircraft more shows.
pub kept-more : (journal : List Entry) (crafts own cycle place : ℕ) (list : List Composite) (shown : Composite) → own < crafts → crafts ≤ 16 → cycle ≤ 600 → place ≡ kept_at own cycle → shown ≡ shown_in journal own cycle →
    AreKeptBelow journal crafts (kept_at own cycle) list → AreKeptBelow journal crafts (kept_at (own + 1) cycle) (set list place shown)
kept-more journal crafts own cycle place list shown within few run here is before = record {
  size = length-set list place shown ∙ before.size;
  are = λ a k h below. elim (cases_lt (kept_at a k) (kept_at own cycle)) [
    | inl earlier ↦ get_or-set_other list place (kept_at a k) shown clear (λ q. omega arith) ∙ before.are a k h earlier
    | inr later ↦
        (let at : kept_at a k ≡ place = omega arith in
        let craft : own ≡ a = omega arith in
        let moment : cycle ≡ k = omega arith in
        ap (λ (n : ℕ). get_or (set list place shown) n clear) at ∙ get_or-set_same list place shown clear (let s = before.size in omega arith) ∙ is
        ∙ ap (λ (n : ℕ). shown_in journal n cycle) craft ∙ ap (shown_in journal a) moment)
  ];
}

-- All aircraft are kept for a cycle.
pub cycle-kept : (journal : List Entry) (crafts cycle : ℕ) (list : List Composite) → crafts ≤ 16 → AreKeptBelow journal crafts (kept_at crafts cycle) list → AreKeptBelow journal crafts (kept_at 0 (cycle + 1)) list
cycle-kept journal crafts cycle list few before = record {
  size = before.size;
  are = λ own k h below. before.are own k h (elim (cases_lt cycle k) [
    | inl after ↦ absurd (omega arith)
    | inr upto ↦ omega arith
  ]);
}

-- All cycles are kept.
pub all-kept : (journal : List Entry) (crafts cycles : ℕ) (list : List Composite) → crafts ≤ 16 → AreKeptBelow journal crafts (kept_at 0 (cycles + 1)) list → AreCrews journal crafts cycles list
all-kept journal crafts cycles list few before = record { are = λ own cycle h run. before.are own cycle h (omega arith) }
