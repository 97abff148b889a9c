-- A row of cycles with one word, and the next cycle.
use Rattle.std.proofs.Common.{◌≡◌, ◌≢◌, ℕ, ◌+◌, ◌-◌, ◌≤◌, sym, ap, ◌∙◌, subst, arith, inl, inr, refl}
use Rattle.std.proofs.lemmas.Bool.{cases_lt}
use Rattle.advisory_report.specs.Composite.{word_of}
use Rattle.advisory_report.specs.Stretches.{IsStretch}
use Rattle.advisory_report.specs.declared.composite.Composite.{Composite}
use Rattle.advisory_report.specs.declared.stretches.Stretch.{Stretch}

pub goes-on : (all : ℕ → Composite) (row : Stretch) (next : Composite) → IsStretch all row → next ≡ all (row.last + 1) → word_of row.shown ≡ word_of next → IsStretch all (record { shown = next; first = row.first; last = row.last + 1 })
goes-on all row next is e same = record {
  begun = is.begun;
  in_order = (let order = is.in_order in omega arith);
  shown_is = e;
  same = λ cycle low high. elim (cases_lt cycle (row.last + 1)) [
    | inl h ↦ is.same cycle low (omega arith) ∙ word
    | inr h ↦ (let at : cycle ≡ row.last + 1 = omega arith in ap (λ k. word_of (all k)) at)
  ];
  starts = λ low f. is.starts low (f ∙ sym word);
}
  where
    word : word_of (all row.last) ≡ word_of (all (row.last + 1))
    word = sym (ap word_of is.shown_is) ∙ same ∙ ap word_of e

pub begins : (all : ℕ → Composite) (row : Stretch) (next : Composite) → IsStretch all row → next ≡ all (row.last + 1) → word_of row.shown ≢ word_of next → IsStretch all (record { shown = next; first = row.last + 1; last = row.last + 1 })
begins all row next is e other = record {
  begun = omega arith;
  in_order = omega arith;
  shown_is = e;
  same = λ cycle low high. (let at : cycle ≡ row.last + 1 = omega arith in ap (λ k. word_of (all k)) at);
  starts = λ low f. (let back : row.last ≡ row.last + 1 - 1 = omega arith in other (ap word_of is.shown_is ∙ ap (λ k. word_of (all k)) back ∙ f ∙ sym (ap word_of e)));
}
