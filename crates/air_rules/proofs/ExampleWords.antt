-- What the words of the examples read as.
use Rattle.std.proofs.Common.{◌≡◌, ◌⊎◌, ℕ, Bool, true, false, eqb, cond, Some, None, sym, refl, ap, ◌∙◌, subst, inl, inr}
use Rattle.std.proofs.lemmas.Bool.{cases_Bool}
use Rattle.acas_base.specs.declared.advisory.ResMsg.{ResMsg}
use Rattle.acas_base.specs.declared.advisory.Vrc.{Vrc}
use Rattle.acas_base.specs.declared.advisory.Vrc.TheVariants.{Nil, NotAbove, NotBelow}
use Rattle.air_rules.specs.Example.{flip, read_word, word_of}

-- A message from each of the three senders.
abbrev Reads : Bool → Vrc → Vrc → ℕ → Type 0
Reads many cancel vrc sender =
    read_word (word_of (record { many = many; cancel = cancel; vrc = vrc; sender = sender })) ≡ Some (record { many = many; cancel = cancel; vrc = vrc; sender = sender })

each : (many : Bool) (cancel vrc : Vrc) → Reads many cancel vrc 1 × Reads many cancel vrc 2 × Reads many cancel vrc 3
each false Nil Nil = (refl, refl, refl)
each false Nil NotBelow = (refl, refl, refl)
each false Nil NotAbove = (refl, refl, refl)
each false NotBelow Nil = (refl, refl, refl)
each false NotBelow NotBelow = (refl, refl, refl)
each false NotBelow NotAbove = (refl, refl, refl)
each false NotAbove Nil = (refl, refl, refl)
each false NotAbove NotBelow = (refl, refl, refl)
each false NotAbove NotAbove = (refl, refl, refl)
each true Nil Nil = (refl, refl, refl)
each true Nil NotBelow = (refl, refl, refl)
each true Nil NotAbove = (refl, refl, refl)
each true NotBelow Nil = (refl, refl, refl)
each true NotBelow NotBelow = (refl, refl, refl)
each true NotBelow NotAbove = (refl, refl, refl)
each true NotAbove Nil = (refl, refl, refl)
each true NotAbove NotBelow = (refl, refl, refl)
each true NotAbove NotAbove = (refl, refl, refl)

abbrev pub IsSender : ℕ → Type 0
IsSender sender = (sender ≡ 1) ⊎ ((sender ≡ 2) ⊎ (sender ≡ 3))

pub reads : (m : ResMsg) → IsSender m.sender → read_word (word_of m) ≡ Some m
reads m (inl e) = subst (λ (s : ℕ). Reads m.many m.cancel m.vrc s) (sym e) (each m.many m.cancel m.vrc).0
reads m (inr (inl e)) = subst (λ (s : ℕ). Reads m.many m.cancel m.vrc s) (sym e) (each m.many m.cancel m.vrc).1
reads m (inr (inr e)) = subst (λ (s : ℕ). Reads m.many m.cancel m.vrc s) (sym e) (each m.many m.cancel m.vrc).2

-- A word never reads as another message, whatever mask flips it.
pub apart : (m read : ResMsg) (mask : ℕ) → IsSender m.sender → read_word (flip (word_of m) mask) ≡ Some read → read ≡ m
apart m read mask s e = elim (cases_Bool (eqb mask 0)) [
  | inl y ↦ let f : Some read ≡ Some m = sym e ∙ ap (λ b. read_word (cond b (word_of m) 0)) y ∙ reads m s in let g : read ≡ m = cc in g
  | inr n ↦ absurd (let f : None ≡ Some read = sym (ap (λ b. read_word (cond b (word_of m) 0)) n) ∙ e in cc)
]
