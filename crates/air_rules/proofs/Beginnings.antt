-- Beginnings of a journal.
use Rattle.std.proofs.Common.{◌≡◌, ℕ, ◌≤◌, eqb, List, ◌∷◌, length, sym, refl, ap, subst, arith, inl, inr}
use Rattle.std.proofs.lemmas.Bool.{cond-false, cond-true, cases_Bool}
use Rattle.acas_base.specs.declared.entry.Entry.{Entry}
use Rattle.air_rules.specs.Journal.{Begins, entries_of, more, owner_of, whole}
use Rattle.air_rules.specs.Own.{StaysBetween}

pub begins-on : {L K J : List Entry} → Begins K J → Begins L K → Begins L J
begins-on whole c = c
begins-on (more b) c = more (begins-on b c)

pub begins-length : (K J : List Entry) → Begins K J → length K ≤ length J
begins-length K J whole = omega arith
begins-length K J (more {journal = L} b) = let h : length K ≤ length L = begins-length K L b in omega arith

pub begins-same : (K J : List Entry) → Begins K J → length K ≡ length J → K ≡ J
begins-same K J whole e = refl
begins-same K J (more {journal = L} b) e = absurd (let h : length K ≤ length L = begins-length K L b in omega arith)

-- Of two beginnings of a journal the longer one begins with the shorter one.
pub begins-nested : (K M J : List Entry) → Begins K J → Begins M J → length K ≤ length M → Begins K M
begins-nested K M J whole q h =
    let up : length M ≤ length J = begins-length M J q in
    subst (λ (L : List Entry). Begins J L) (sym (begins-same M J q (omega arith))) whole
begins-nested K M J (more p) whole h = more p
begins-nested K M J (more {journal = L} p) (more q) h = begins-nested K M L p q h

-- The entries of an aircraft in a beginning begin those in the whole.
pub entries-begin : (i : ℕ) (K J : List Entry) → Begins K J → Begins (entries_of K i) (entries_of J i)
entries-begin i K J whole = whole
entries-begin i K J (more {entry = x} {journal = L} b) =
    let ih = entries-begin i K L b in
    elim (cases_Bool (eqb (owner_of x) i)) [
      | inl y ↦ subst (λ (M : List Entry). Begins (entries_of K i) M) (sym (cond-true (eqb (owner_of x) i) (x ∷ entries_of L i) (entries_of L i) y)) (more ih)
      | inr n ↦ subst (λ (M : List Entry). Begins (entries_of K i) M) (sym (cond-false (eqb (owner_of x) i) (x ∷ entries_of L i) (entries_of L i) n)) ih
    ]

pub stays-between : StaysBetween
stays-between K M J i b c e =
    let one = entries-begin i K M b in
    let two = entries-begin i M J c in
    let low : length (entries_of K i) ≤ length (entries_of M i) = begins-length (entries_of K i) (entries_of M i) one in
    let high : length (entries_of M i) ≤ length (entries_of J i) = begins-length (entries_of M i) (entries_of J i) two in
    let ends : length (entries_of K i) ≡ length (entries_of J i) = ap (λ (L : List Entry). length L) e in
    begins-same (entries_of K i) (entries_of M i) one (omega arith)
