-- The serving words at the start, after a step on another word, and when the turn is given on.
use Rattle.std.proofs.Common.{◌≡◌, ℕ, zero, suc, ◌+◌, ◌%◌, ◌<◌, ◌≤◌, List, [], ◌∷◌, set, length, get_or, refl, sym, ap, ◌∙◌, arith, get_or-set_other, get_or-set_same, lt_of_not-le}
use mathlib.Core.Logic.{dite}
use native.Mathlib.Decide.{ℕ_discrete, dec_le}
use Rattle.acas_base.specs.declared.TheConstants.{CRAFTS}
use Rattle.atomic_table.proofs.Lists.{one_turn}
use Rattle.air_turn.specs.Rule.{IsServed, serving_word}
use Rattle.air_turn.specs.declared.view.TheConstants.{SERVING, WORDS}

abbrev zeros : ℕ → List ℕ
zeros zero = []
zeros (suc n) = 0 ∷ zeros n

zeros-at : (n i : ℕ) → get_or (zeros n) i 0 ≡ 0
zeros-at zero i = refl
zeros-at (suc n) zero = refl
zeros-at (suc n) (suc i) = zeros-at n i

-- The words of a table that is opened over a journal of this length.
abbrev pub first-words : ℕ → List ℕ
first-words count = 0 ∷ count ∷ zeros CRAFTS

first-none : (count i : ℕ) → SERVING ≤ i → get_or (first-words count) i 0 ≡ 0
first-none count zero low = absurd (omega arith)
first-none count (suc zero) low = absurd (omega arith)
first-none count (suc (suc i)) low = zeros-at CRAFTS i

pub served-first : (count : ℕ) → IsServed (first-words count) 0
served-first count = record {
  own = refl;
  next = λ later low high is. let none = first-none count (serving_word later) (omega arith) in absurd (omega arith);
}

-- A step on another word keeps them.
pub served-kept : (words : List ℕ) (i n ticket : ℕ) → i < SERVING → IsServed words ticket → IsServed (set words i n) ticket
served-kept words i n ticket low served = record {
  own = get_or-set_other words i (serving_word ticket) n 0 (λ z. omega arith) ∙ served.own;
  next = λ later above below is. served.next later above below (sym (get_or-set_other words i (serving_word later) n 0 (λ z. omega arith)) ∙ is);
}

-- A ticket that is out, and stands on its serving word, is the one that is served.
pub served-only : (words : List ℕ) (ticket k : ℕ) → IsServed words ticket → ticket ≤ k → k < ticket + CRAFTS → get_or words (serving_word k) 0 ≡ k % 18446744073709551616 → ticket ≡ k
served-only words ticket k served low high is = dite (ℕ_discrete ticket k) (λ e. e) (λ ne. absurd (served.next k (omega arith) high is))

-- The next ticket is served once it stands on its serving word.
pub served-next : (words : List ℕ) (ticket : ℕ) → length words ≡ WORDS → IsServed words ticket → IsServed (set words (serving_word (ticket + 1)) ((ticket + 1) % 18446744073709551616)) (ticket + 1)
served-next words ticket wide served =
    let i = serving_word (ticket + 1) in
    let x : ℕ = (ticket + 1) % 18446744073709551616 in
    record {
      own = get_or-set_same words i x 0 (omega arith);
      next = λ later low high is. dite (dec_le (ticket + CRAFTS) later)
          (λ last.
          let end : later ≡ ticket + CRAFTS = omega arith in
          let kept : get_or (set words i x) (serving_word later) 0 ≡ get_or words (serving_word later) 0 = get_or-set_other words i (serving_word later) x 0 (λ z. omega arith) in
          let same : serving_word later ≡ serving_word ticket = omega arith in
          let equal : ticket % 18446744073709551616 ≡ later % 18446744073709551616 = sym served.own ∙ (ap (λ j. get_or words j 0) (sym same) ∙ (sym kept ∙ is)) in
          let one = one_turn ticket later 18446744073709551616 (omega arith) (omega arith) equal in
          absurd (omega arith))
          (λ near. let below = lt_of_not-le near in served.next later (omega arith) below (sym (get_or-set_other words i (serving_word later) x 0 (λ z. omega arith)) ∙ is));
    }

-- The serving word of a ticket is that of the ticket modulo 2 ^ 64.
pub same-word : (ticket drawn : ℕ) → drawn ≡ ticket % 18446744073709551616 → serving_word drawn ≡ serving_word ticket
same-word ticket drawn is = omega arith
