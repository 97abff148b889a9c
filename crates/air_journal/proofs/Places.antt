-- A journal read in order.
use Rattle.std.proofs.Common.{◌≡◌, ℕ, zero, suc, ◌+◌, ◌<◌, ◌≤◌, eqb, List, [], ◌∷◌, ◌++◌, length, reverse, slice_get, Some, None, option_and_then, sym, refl, ap, ◌∙◌, arith, inl, inr, eq-eqb, ne_eqb}
use Rattle.std.proofs.lemmas.Bool.{cond-false, cond-true, cases_eq, cases_lt}
use Rattle.std.proofs.lemmas.List.{reverse-append, length-reverse}
use Rattle.acas_base.specs.declared.entry.Entry.{Entry}
use Rattle.air_rules.specs.Journal.{as_sent, sent_at}

length-back : (x : Entry) (xs : List Entry) → length (xs ++ x ∷ []) ≡ length xs + 1
length-back x [] = refl
length-back x (y ∷ xs) = let e : length (xs ++ x ∷ []) ≡ length xs + 1 = length-back x xs in omega arith

get-back : (xs : List Entry) (x : Entry) (p : ℕ) → p < length xs → slice_get (xs ++ x ∷ []) p ≡ slice_get xs p
get-back [] x p h = absurd (omega arith)
get-back (y ∷ xs) x zero h = refl
get-back (y ∷ xs) x (suc p) h = get-back xs x p (omega arith)

get-end : (xs : List Entry) (x : Entry) → slice_get (xs ++ x ∷ []) (length xs) ≡ Some x
get-end [] x = refl
get-end (y ∷ xs) x = get-end xs x

-- An induction that adds an entry at the end: journals K are reversed lists.
back : (K : List Entry) (x : Entry) → reverse (x ∷ K) ≡ reverse K ++ x ∷ []
back K x = reverse-append (x ∷ []) K

-- The Send at a position of a journal is the entry at that index.
past : (xs : List Entry) (p : ℕ) → length xs ≤ p → slice_get xs p ≡ None
past [] p h = refl
past (y ∷ xs) zero h = absurd (omega arith)
past (y ∷ xs) (suc p) h = past xs p (omega arith)

pub sent-at-index : (K : List Entry) (p : ℕ) → sent_at K p ≡ option_and_then as_sent (slice_get (reverse K) p)
sent-at-index [] p = refl
sent-at-index (x ∷ K) p = at (sent-at-index K p) ∙ ap (λ (L : List Entry). option_and_then as_sent (slice_get L p)) (sym (back K x))
  where
    n : length (reverse K) ≡ length K
    n = length-reverse K

    m : length (reverse K ++ x ∷ []) ≡ length (reverse K) + 1
    m = length-back x (reverse K)

    at : sent_at K p ≡ option_and_then as_sent (slice_get (reverse K) p) → sent_at (x ∷ K) p ≡ option_and_then as_sent (slice_get (reverse K ++ x ∷ []) p)
    at ih = elim (cases_eq p (length K)) [
      | inl e ↦ cond-true (eqb p (length K)) (as_sent x) (sent_at K p) (eq-eqb p _ e) ∙ sym (ap (option_and_then as_sent) (ap (slice_get (reverse K ++ x ∷ [])) (e ∙ sym n) ∙ get-end (reverse K) x))
      | inr ne ↦ cond-false (eqb p (length K)) (as_sent x) (sent_at K p) (ne_eqb p _ ne) ∙ ih ∙ ap (option_and_then as_sent) (elim (cases_lt p (length K)) [
        | inl h ↦ sym (get-back (reverse K) x p (let a = n in omega arith))
        | inr h ↦ past (reverse K) p (let a = n in omega arith) ∙ sym (past (reverse K ++ x ∷ []) p (let a = n in let b = m in omega arith))
      ])
    ]
