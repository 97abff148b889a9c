-- The next message.
use Rattle.std.proofs.Common.{◌≡◌, ℕ, ◌+◌, ◌<◌, ◌≤◌, ◌&&◌, true, false, List, [], ◌∷◌, length, Option, Some, None, unwrap_or, refl, ap, ◌∙◌, arith, inl, inr, lt-ltb, le-ltb}
use Rattle.std.specs.Prelude.{nat_lt}
use Rattle.std.proofs.lemmas.Bool.{and_from, and_left, and_right, cases_Bool, cond-false, cond-true}
use Rattle.acas_base.specs.declared.entry.Entry.{Entry}
use Rattle.air_rules.specs.Journal.{Begins, more, whole}
use Rattle.pair_watch.specs.Watching.{is_send_from, next_send}

pub next-none : (K : List Entry) (low high from : ℕ) → length K ≤ from + 1 → next_send K low high from ≡ None
next-none [] low high from few = refl
next-none (x ∷ K) low high from few =
    cond-false (nat_lt from (length K) && is_send_from x low high) (Some (unwrap_or (next_send K low high from) (length K))) (next_send K low high from) (and_left _ _ (le-ltb from (length K) (omega arith)))
    ∙ next-none K low high from (omega arith)

pub next-past : (x : Entry) (K : List Entry) (low high from : ℕ) → is_send_from x low high ≡ false → next_send (x ∷ K) low high from ≡ next_send K low high from
next-past x K low high from e = cond-false (nat_lt from (length K) && is_send_from x low high) (Some (unwrap_or (next_send K low high from) (length K))) (next_send K low high from) (and_right _ _ e)

pub next-here : (x : Entry) (K : List Entry) (low high from : ℕ) → is_send_from x low high ≡ true → from < length K → next_send K low high from ≡ None → next_send (x ∷ K) low high from ≡ Some (length K)
next-here x K low high from e within none =
    cond-true (nat_lt from (length K) && is_send_from x low high) (Some (unwrap_or (next_send K low high from) (length K))) (next_send K low high from) (and_from _ _ (lt-ltb from (length K) within) e)
    ∙ ap (λ (o : Option ℕ). Some (unwrap_or o (length K))) none

-- The first one stays the first one.
pub next-stays : (low high from at : ℕ) (K J : List Entry) → Begins K J → next_send K low high from ≡ Some at → next_send J low high from ≡ Some at
next-stays low high from at K J whole e = e
next-stays low high from at K J (more {entry = x} {journal = M} b) e =
    let ih = next-stays low high from at K M b e in
    elim (cases_Bool (nat_lt from (length M) && is_send_from x low high)) [
      | inl here ↦ cond-true (nat_lt from (length M) && is_send_from x low high) (Some (unwrap_or (next_send M low high from) (length M))) (next_send M low high from) here ∙ ap (λ (o : Option ℕ). Some (unwrap_or o (length M))) ih
      | inr other ↦ cond-false (nat_lt from (length M) && is_send_from x low high) (Some (unwrap_or (next_send M low high from) (length M))) (next_send M low high from) other ∙ ih
    ]
