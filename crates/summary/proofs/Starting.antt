-- A stretch begins in a cycle of the run.
use Rattle.std.proofs.Common.{ℕ, zero, suc, ◌≤◌, true, false, cond, List, [], ◌∷◌, ◌++◌, sym, subst, arith, inl, inr}
use Rattle.std.specs.Prelude.{IfSome, slice_get}
use Rattle.std.proofs.lemmas.Bool.{cases_eq}
use Rattle.acas_base.specs.declared.advisory.Cells.{Cells}
use Rattle.acas_base.specs.declared.entry.Entry.{Entry}
use Rattle.acas_base.specs.declared.entry.Entry.TheVariants.{Commit, Send, Take}
use Rattle.air_rules.proofs.Legal.{allowed, earlier}
use Rattle.air_rules.specs.Air.{Air}
use Rattle.air_rules.specs.Journal.{cell_at, last_cell}
use Rattle.air_rules.specs.Rules.{IsLegal}
use Rattle.summary.specs.Stretches.{IsInRun, begins, start_of, starts_of, starts_with}
use Rattle.summary.specs.declared.rows.Start.{Start}
use Rattle.summary.proofs.Rowing.{starts-apart, starts-none, starts-own, starts-send, starts-take}

-- Each one of a list has a property, by its place.
abbrev Each : (Start → Type 0) → List Start → Type 0
Each P starts = (k : ℕ) → IfSome (slice_get starts k) P

each-more : (P : Start → Type 0) (xs ys : List Start) → Each P xs → Each P ys → Each P (xs ++ ys)
each-more P [] ys f g k = g k
each-more P (x ∷ xs) ys f g zero = f zero
each-more P (x ∷ xs) ys f g (suc k) = each-more P xs ys (λ n. f (suc n)) g k

each-none : (P : Start → Type 0) → Each P []
each-none P k = tt

each-one : (P : Start → Type 0) (x : Start) → P x → Each P (x ∷ [])
each-one P x p zero = p
each-one P x p (suc k) = tt

with-run : (air : Air) (K : List Entry) (own other cycle : ℕ) (cells : Cells) → 1 ≤ cycle → cycle ≤ air.cycles → Each (IsInRun air.cycles) (starts_with air K own other cycle cells)
with-run air K own other cycle cells low high =
    elim (begins (last_cell K own other) (cell_at cells other)) as (λ b. Each (IsInRun air.cycles) (cond b (start_of air K own other cycle ∷ []) [])) [
      | true ↦ each-one (IsInRun air.cycles) (start_of air K own other cycle) (record { begun = low; in_run = high })
      | false ↦ each-none (IsInRun air.cycles)
    ]

pub in-run : (air : Air) (K : List Entry) → IsLegal air K → (own other : ℕ) → Each (IsInRun air.cycles) (starts_of air K own other)
in-run air [] l own other = subst (Each (IsInRun air.cycles)) (sym (starts-none air own other)) (each-none (IsInRun air.cycles))
in-run air (Send craft target number word ∷ K) l own other = subst (Each (IsInRun air.cycles)) (sym (starts-send air K craft target number word own other)) (in-run air K (earlier l) own other)
in-run air (Take craft send copy good ∷ K) l own other = subst (Each (IsInRun air.cycles)) (sym (starts-take air K craft send copy good own other)) (in-run air K (earlier l) own other)
in-run air (Commit craft cycle cells ∷ K) l own other =
    let before = in-run air K (earlier l) own other in
    let may = allowed l in
    elim (cases_eq craft own) [
      | inl same ↦
          (let here = subst (Each (IsInRun air.cycles)) (sym (starts-own air K own cycle cells other))
          (each-more (IsInRun air.cycles) (starts_of air K own other) (starts_with air K own other cycle cells) before (with-run air K own other cycle cells (let n = may.cycle_is in omega arith) may.in_run)) in
          subst (λ (n : ℕ). Each (IsInRun air.cycles) (starts_of air (Commit n cycle cells ∷ K) own other)) (sym same) here)
      | inr apart ↦ subst (Each (IsInRun air.cycles)) (sym (starts-apart air K craft cycle cells own other apart)) before
    ]
