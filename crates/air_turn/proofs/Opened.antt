-- The rule holds at the start.
use Rattle.std.proofs.Common.{◌≡◌, ℕ, false, zero, suc, ◌<◌, List, [], ◌∷◌, length, Option, Some, refl, sym, subst, arith, le_refl, true≢false}
use mathlib.Core.Option.{some, some-injective, some-ne-none}
use lib.ListN.{get_elem?}
use Rattle.acas_base.specs.declared.entry.Entry.{Entry}
use Rattle.air_journal.specs.States.{IsJournalOf, State}
use Rattle.air_rules.specs.Journal.{whole}
use Rattle.atomic_table.specs.Table.{opening}
use Rattle.air_turn.specs.declared.view.Claim.{Claim}
use Rattle.air_turn.specs.declared.view.Knowledge.{Knowledge}
use Rattle.air_turn.specs.Rule.{ClaimsFit, Fits, HoldsThroughout, active_of, at_start, claim, fresh}
use Rattle.air_turn.specs.Totals.{total, one}
use Rattle.air_turn.proofs.Actives.{some-active}
use Rattle.air_turn.proofs.Passing.{old-none}
use Rattle.air_turn.proofs.Serving.{first-words, served-first}
use Rattle.air_turn.proofs.Sums.{total-zero}

fresh-total : (f : Claim → ℕ) (g : ℕ → ℕ) (journal : List Entry) → ((x : ℕ) → f (claim x 0 journal 0) ≡ g x) → (xs : List ℕ) → total f (fresh journal xs) ≡ total g xs
fresh-total f g journal h [] = refl
fresh-total f g journal h (x ∷ xs) = let here = h x in let rest = fresh-total f g journal h xs in omega arith

pub opens : (t : State) → IsJournalOf t.encounter t.journal → length t.journal < 18446744073709551616 → HoldsThroughout t.encounter (opening (first-words (length t.journal)) (Some t ∷ []) (at_start t))
opens t state short =
    let e = t.encounter in
    let journal = t.journal in
    record {
      journal = journal;
      calls = 0;
      serving = 0;
      drawn = 0;
      away = false;
      holder = 0;
      reach = λ _. length journal;
      wide = refl;
      deep = refl;
      ticket_word = refl;
      length_word = omega arith;
      served = served-first (length journal);
      state = state;
      owned = λ h. let x = fresh-total (λ c. h c.own) h journal (λ x. refl) (active_of e) in omega arith;
      made_all = let x = fresh-total (λ c. c.made) (λ x. 0) journal (λ x. refl) (active_of e) in let y = total-zero (active_of e) in omega arith;
      queue = refl;
      out = λ t. omega arith;
      latest = let x = fresh-total (λ c. one 0 c.seen.count) (λ x. 1) journal (λ x. refl) (active_of e) in let y = some-active e state.valid in omega arith;
      rises = λ m n le. le_refl (length journal);
      reached = refl;
      each = at-first;
      in_table = λ _. refl;
      in_hands = λ not. absurd (true≢false (sym not));
    }
  where
    all-fit : (xs : List ℕ) → ClaimsFit t.journal 0 (λ _. length t.journal) (fresh t.journal xs)
    all-fit [] = tt
    all-fit (x ∷ xs) = (((whole, le_refl 0, refl), refl), all-fit xs)

    at-first : (j : ℕ) (v : Knowledge) → get_elem? (at_start t ∷ []) j ≡ some v → Fits t.journal 0 (λ _. length t.journal) t.encounter 0 false 0 j v
    at-first zero v is = subst (Fits t.journal 0 (λ _. length t.journal) t.encounter 0 false 0 0) (some-injective (at_start t) v is)
        record { encounter = λ _. refl; stage = tt; claims = all-fit (active_of t.encounter); notes = tt; old = old-none t.journal 0 (λ _. length t.journal) (fresh t.journal (active_of t.encounter)) }
    at-first (suc j) v is = absurd (some-ne-none v (sym is))

pub opens-as : (t t' : State) (n : ℕ) (slots : List (Option State)) → IsJournalOf t.encounter t.journal → n ≡ length t.journal → n < 18446744073709551616 → t' ≡ t → slots ≡ Some t ∷ [] → HoldsThroughout t'.encounter (opening (first-words n) slots (at_start t'))
opens-as t t' n slots state len short same is =
    let Q : State × ℕ × List (Option State) → Type 0 = λ x. HoldsThroughout x.0.encounter (opening (first-words x.1) x.2 (at_start x.0)) in
    subst Q (λ i. (sym same i, sym len i, sym is i)) (opens t state (omega arith))
