-- What most messages of a pair become.
use Rattle.std.proofs.Common.{◌≡◌, ◌≢◌, ◌⊎◌, ℕ, ◌<◌, true, false, List, length, Option, None, Some, get_or, sym, refl, ap, ◌∙◌, subst, arith, inl, inr, ne_eqb}
use Rattle.std.specs.Prelude.{◌==◌, ◌&&◌, find, unwrap_or}
use Rattle.std.specs.Option.{option_map_or}
use Rattle.std.proofs.lemmas.Bool.{and_left, and_right}
use Rattle.std.proofs.lemmas.Bool.Decides.{nat_tests}
use Rattle.std.proofs.lemmas.List.{get_or_default}
use Rattle.acas_base.proofs.Finding.{find-here, find-none}
use Rattle.acas_base.proofs.KeyOrder.{below-other, below-trans}
use Rattle.acas_base.proofs.Rising.{rising-pairs}
use Rattle.acas_base.specs.Encounter.{Parts}
use Rattle.acas_base.specs.Fates.{copies_of, fate_by, fate_of, is_fate_of, is_plan_of, plain_fate, usual_fate}
use Rattle.acas_base.specs.Order.{IsRising, fate_below, is_below}
use Rattle.acas_base.specs.declared.link.Fate.{Fate}
use Rattle.acas_base.specs.declared.link.LinkPlan.{LinkPlan}
use Rattle.air_journal.specs.Usual.{AreUnnamed, AreUsual, IsUnnamed, IsUsual, NoneNames, usual_at}

-- Where no record is of the pair, none is of its message.
not-named : (e : Parts) (s r n : ℕ) → NoneNames e.fates (length e.fates) s r → find (is_fate_of s r n) e.fates ≡ None
not-named e s r n none = find-none (is_fate_of s r n) e.fates (λ k d h. other (get_or e.fates k d) (none k h d))
  where
    other : (it : Fate) → (it.sender ≢ s) ⊎ (it.receiver ≢ r) → is_fate_of s r n it ≡ false
    other it (inl ne) = and_left _ _ (ne_eqb it.sender s ne)
    other it (inr ne) = and_right _ _ (and_left _ _ (ne_eqb it.receiver r ne))

-- The copies don't depend on the message's number.
any-number : (e : Parts) (s r n : ℕ) → copies_of (usual_fate e s r 0) ≡ copies_of (usual_fate e s r n)
any-number e s r n = by_plan (find (is_plan_of s r) e.plans)
  where
    by_plan : (o : Option LinkPlan) → copies_of (option_map_or (fate_by 0) o (plain_fate s r 0)) ≡ copies_of (option_map_or (fate_by n) o (plain_fate s r n))
    by_plan None = refl
    by_plan (Some plan) = refl

of-none : (e : Parts) (s r n : ℕ) → NoneNames e.fates (length e.fates) s r → fate_of e s r n ≡ usual_fate e s r n
of-none e s r n none = ap (λ (o : Option Fate). unwrap_or o (usual_fate e s r n)) (not-named e s r n none)

is-usual : (e : Parts) (s r : ℕ) (o : Option Fate) → IsUnnamed e (length e.fates) s r o → IsUsual e s r o
is-usual e s r None h = tt
is-usual e s r (Some fate) h = λ n. ap copies_of h.0 ∙ ap copies_of (of-none e s r 0 h.1) ∙ any-number e s r n ∙ sym (ap copies_of (of-none e s r n h.1))

pub are-usual : (e : Parts) (fates : List (Option Fate)) → AreUnnamed e (length e.fates) fates → AreUsual e fates
are-usual e fates h = record { size = h.size; each = λ s r hs hr. is-usual e s r (usual_at fates s r) (h.each s r hs hr) }

-- ---- the record of a message

fates-trans : (a b c : Fate) → fate_below a b ≡ true → fate_below b c ≡ true → fate_below a c ≡ true
fates-trans a b c one two = below-trans a.sender a.receiver a.number b.sender b.receiver b.number c.sender c.receiver c.number one two

other-key : (a b c d e f s r n : ℕ) → is_below (a, b, c) (d, e, f) ≡ true → d ≡ s → e ≡ r → f ≡ n → (a == s && (b == r && c == n)) ≡ false
other-key a b c d e f s r n below p q w = rw (← p, ← q, ← w) (below-other a b c d e f below)

same-key : (a b c s r n : ℕ) → a ≡ s → b ≡ r → c ≡ n → (a == s && (b == r && c == n)) ≡ true
same-key a b c s r n p q w = grind (arith, nat_tests)

-- A record of the message, wherever it stands, is what becomes of it.
pub of-record : (e : Parts) (s r n at : ℕ) (it d : Fate) → IsRising fate_below e.fates → at < length e.fates → it ≡ get_or e.fates at d
    → it.sender ≡ s → it.receiver ≡ r → it.number ≡ n → it ≡ fate_of e s r n
of-record e s r n at it d rising within here p q w = ap (λ (o : Option Fate). unwrap_or o (usual_fate e s r n)) (sym found)
  where
    there : (k : Fate) → get_or e.fates at k ≡ it
    there k = get_or_default e.fates at k d within ∙ sym here

    before : (k : ℕ) (g : Fate) → k < at → is_fate_of s r n (get_or e.fates k g) ≡ false
    before k g h =
        let a = get_or e.fates k g in
        let below = subst (λ b. fate_below a b ≡ true) (there g) (rising-pairs fate_below e.fates fates-trans rising k at g h within) in
        other-key a.sender a.receiver a.number it.sender it.receiver it.number s r n below p q w

    is : is_fate_of s r n (get_or e.fates at it) ≡ true
    is = ap (is_fate_of s r n) (there it) ∙ same-key it.sender it.receiver it.number s r n p q w

    found : find (is_fate_of s r n) e.fates ≡ Some it
    found = find-here (is_fate_of s r n) e.fates at it within is before ∙ ap Some (there it)
