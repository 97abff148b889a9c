-- Legs that are needed are determined by the rates that they give in each cycle.
use Rattle.std.proofs.Common.{◌≡◌, ◌≢◌, ℕ, zero, suc, ◌+◌, ◌-◌, ◌<◌, ◌≤◌, cond, List, [], ◌∷◌, ◌++◌, ◌&&◌, Option, Some, None, refl, sym, ap, ◌∙◌, arith, inl, inr, subst, add-one}
use Rattle.std.specs.Prelude.{IfSome, filter, fold, map, nat_le}
use Rattle.std.specs.List.{range_with_len}
use Rattle.std.specs.Ordering.{int_eq}
use Rattle.std.proofs.lemmas.Bool.{cases_Bool, cases_lt, le-leb, lt-leb, lt-ltb, true≢false}
use Rattle.std.specs.Bool.{Decides}
use Rattle.std.proofs.lemmas.Bool.Decides.{Decides-and, Decides-int_eq, Decides-like}
use Rattle.std.proofs.lemmas.List.{map-append}
use Rattle.std.proofs.lemmas.List.Elements.{filter-append}
use Rattle.acas_base.specs.declared.craft.Leg.{Leg}
use Rattle.flight.specs.Flight.{later, leg_in}
use Rattle.leg_rows.specs.Rows.{AreNeeded, at_rest, is_turn, leg_with, legs_by, rates_of, same_rates}
use Rattle.leg_rows.specs.declared.rates.Rates.{Rates}

-- The rates in force in a cycle, where `before` are those before the legs.
abbrev pub in_force : Rates → List Leg → ℕ → Rates
in_force before [] cycle = before
in_force before (leg ∷ legs) cycle = cond (nat_le leg.from cycle) (in_force (rates_of leg) legs cycle) before

-- Until the first leg begins.
pub force-before : (craft cycles : ℕ) (before : Rates) (after : ℕ) (legs : List Leg) (cycle : ℕ) → AreNeeded craft cycles before after legs → cycle ≤ after → in_force before legs cycle ≡ before
force-before craft cycles before after [] cycle needed early = refl
force-before craft cycles before after (leg ∷ legs) cycle needed early = rw (lt-leb leg.from cycle (omega (arith, needed.1, early))) refl

-- Once it has begun.
force-after : (before : Rates) (leg : Leg) (legs : List Leg) (cycle : ℕ) → leg.from ≤ cycle → in_force before (leg ∷ legs) cycle ≡ in_force (rates_of leg) legs cycle
force-after before leg legs cycle begun = rw (le-leb leg.from cycle begun) refl

force-first : (craft cycles : ℕ) (before : Rates) (after : ℕ) (leg : Leg) (legs : List Leg) → AreNeeded craft cycles before after (leg ∷ legs) → in_force before (leg ∷ legs) leg.from ≡ rates_of leg
force-first craft cycles before after leg legs needed =
    force-after before leg legs leg.from (omega arith) ∙ force-before craft cycles (rates_of leg) leg.from legs leg.from needed.4 (omega arith)

force-not-yet : (before : Rates) (leg : Leg) (legs : List Leg) (cycle : ℕ) → cycle < leg.from → in_force before (leg ∷ legs) cycle ≡ before
force-not-yet before leg legs cycle early = rw (lt-leb leg.from cycle early) refl

same-leg : (x y : Leg) → x.craft ≡ y.craft → x.from ≡ y.from → rates_of x ≡ rates_of y → x ≡ y
same-leg x y craft from rates = grind (arith, ap (λ (r : Rates). r.vx) rates, ap (λ (r : Rates). r.vy) rates, ap (λ (r : Rates). r.vz) rates)

-- Two lists of needed legs that give the same rates are the same list.
pub same-legs : (craft cycles : ℕ) (before : Rates) (after : ℕ) (xs ys : List Leg) → AreNeeded craft cycles before after xs → AreNeeded craft cycles before after ys
    → ((c : ℕ) → after < c → c < cycles → in_force before xs c ≡ in_force before ys c) → xs ≡ ys
same-legs craft cycles before after [] [] one two same = refl
same-legs craft cycles before after [] (y ∷ ys) one two same =
    absurd (two.3 (sym (force-first craft cycles before after y ys two) ∙ sym (same y.from two.1 two.2)))
same-legs craft cycles before after (x ∷ xs) [] one two same =
    absurd (one.3 (sym (force-first craft cycles before after x xs one) ∙ same x.from one.1 one.2))
same-legs craft cycles before after (x ∷ xs) (y ∷ ys) one two same = elim (cases_lt x.from y.from) [
  | inl h ↦ absurd (one.3 (sym (force-first craft cycles before after x xs one) ∙ same x.from one.1 one.2 ∙ force-not-yet before y ys x.from h))
  | inr h ↦ elim (cases_lt y.from x.from) [
    | inl g ↦ absurd (two.3 (sym (force-first craft cycles before after y ys two) ∙ sym (same y.from two.1 two.2) ∙ force-not-yet before x xs y.from g))
    | inr g ↦
        let from : x.from ≡ y.from = omega arith in
        let first : in_force before (y ∷ ys) x.from ≡ rates_of y = subst (λ c. in_force before (y ∷ ys) c ≡ rates_of y) (sym from) (force-first craft cycles before after y ys two) in
        let rates : rates_of x ≡ rates_of y = sym (force-first craft cycles before after x xs one) ∙ same x.from one.1 one.2 ∙ first in
        let leg : x ≡ y = same-leg x y (one.0 ∙ sym two.0) from rates in
        let other : AreNeeded craft cycles (rates_of x) x.from ys = subst (λ (l : Leg). AreNeeded craft cycles (rates_of l) l.from ys) (sym leg) two.4 in
        let rest : xs ≡ ys = same-legs craft cycles (rates_of x) x.from xs ys one.4 other
        (λ c h' g'. sym (force-after before x xs c (omega arith)) ∙ same c (omega (arith, one.1)) g' ∙ force-after before y ys c (omega (arith, from)) ∙ ap (λ r. in_force r ys c) (sym rates)) in
        ap (λ l. l ∷ xs) leg ∙ ap (λ l. y ∷ l) rest
  ]
]

-- The rates of a leg, or those at rest.
abbrev pub rates_or : Option Leg → Rates
rates_or None = at_rest
rates_or (Some leg) = rates_of leg

later-takes : (best : Option Leg) (leg : Leg) → IfSome best (λ b. b.from < leg.from) → later best leg ≡ Some leg
later-takes None leg h = refl
later-takes (Some best) leg h = rw (lt-ltb best.from leg.from h) refl

earlier-still : (best : Option Leg) (a b : ℕ) → a ≤ b → IfSome best (λ l. l.from ≤ a) → IfSome best (λ l. l.from ≤ b)
earlier-still None a b order h = tt
earlier-still (Some best) a b order h = omega (arith, order, h)

earlier-leg : (best : Option Leg) (a b : ℕ) → a < b → IfSome best (λ l. l.from ≤ a) → IfSome best (λ l. l.from < b)
earlier-leg None a b order h = tt
earlier-leg (Some best) a b order h = omega (arith, order, h)

-- The leg that begins last has the rates in force.
force-of-last : (craft cycles : ℕ) (before : Rates) (after cycle : ℕ) (best : Option Leg) (legs : List Leg) → AreNeeded craft cycles before after legs → IfSome best (λ l. l.from ≤ after)
    → rates_or (fold later best (filter (λ (leg : Leg). nat_le leg.from cycle) legs)) ≡ in_force (rates_or best) legs cycle
force-of-last craft cycles before after cycle best [] needed earlier = refl
force-of-last craft cycles before after cycle best (leg ∷ legs) needed earlier = elim (cases_lt cycle leg.from) [
  | inl h ↦
      rw (lt-leb leg.from cycle h)
      (force-of-last craft cycles (rates_of leg) leg.from cycle best legs needed.4 (earlier-still best after leg.from (omega (arith, needed.1)) earlier)
      ∙ force-before-any craft cycles (rates_of leg) (rates_or best) leg.from legs cycle needed.4 (omega arith))
  | inr h ↦
      rw (le-leb leg.from cycle h)
      (ap (λ b. rates_or (fold later b (filter (λ (leg : Leg). nat_le leg.from cycle) legs))) (later-takes best leg (earlier-leg best after leg.from needed.1 earlier))
      ∙ force-of-last craft cycles (rates_of leg) leg.from cycle (Some leg) legs needed.4 (omega arith))
] where
  force-before-any : (craft cycles : ℕ) (other before : Rates) (after : ℕ) (legs : List Leg) (cycle : ℕ) → AreNeeded craft cycles other after legs → cycle ≤ after → in_force before legs cycle ≡ before
  force-before-any craft cycles other before after [] cycle needed early = refl
  force-before-any craft cycles other before after (leg ∷ legs) cycle needed early = rw (lt-leb leg.from cycle (omega (arith, needed.1, early))) refl

pub force-of : (craft cycles cycle : ℕ) (legs : List Leg) → AreNeeded craft cycles at_rest 0 legs → rates_or (leg_in legs cycle) ≡ in_force at_rest legs cycle
unfolding leg_in
force-of craft cycles cycle legs needed = force-of-last craft cycles at_rest 0 cycle None legs needed tt

-- Legs that follow given rates after a cycle, until the run is over.
pub record Follow (craft cycles : ℕ) (rates : ℕ → Rates) (after : ℕ) (legs : List Leg) : Type 0 where
  pub needed : AreNeeded craft cycles (rates after) after legs
  pub force : (c : ℕ) → after < c → c < cycles → in_force (rates after) legs c ≡ rates c

follow-turn : (craft cycles : ℕ) (rates : ℕ → Rates) (after : ℕ) (legs : List Leg) → suc after < cycles → rates (suc after) ≢ rates after
    → Follow craft cycles rates (suc after) legs → Follow craft cycles rates after (leg_with craft (suc after) (rates (suc after)) ∷ legs)
follow-turn craft cycles rates after legs within turn follow = record {
  needed = (refl, omega arith, within, turn, follow.needed);
  force = λ c late early. force-after (rates after) (leg_with craft (suc after) (rates (suc after))) legs c (omega arith) ∙ rest c late early;
} where
  rest : (c : ℕ) → after < c → c < cycles → in_force (rates (suc after)) legs c ≡ rates c
  rest c late early = elim (cases_lt (suc after) c) [
    | inl h ↦ follow.force c h early
    | inr h ↦
        let same : c ≡ suc after = omega arith in
        rw same (force-before craft cycles (rates (suc after)) (suc after) legs (suc after) follow.needed (omega arith))
  ]

lower : (craft cycles : ℕ) (before : Rates) (a b : ℕ) (legs : List Leg) → a ≤ b → AreNeeded craft cycles before b legs → AreNeeded craft cycles before a legs
lower craft cycles before a b [] order needed = tt
lower craft cycles before a b (leg ∷ legs) order needed = (needed.0, omega (arith, order, needed.1), needed.2, needed.3, needed.4)

follow-on : (craft cycles : ℕ) (rates : ℕ → Rates) (after : ℕ) (legs : List Leg) → rates after ≡ rates (suc after)
    → Follow craft cycles rates (suc after) legs → Follow craft cycles rates after legs
follow-on craft cycles rates after legs same follow = record {
  needed = rw same (lower craft cycles (rates (suc after)) after (suc after) legs (omega arith) follow.needed);
  force = λ c late early. ap (λ r. in_force r legs c) same ∙ rest c late early;
} where
  rest : (c : ℕ) → after < c → c < cycles → in_force (rates (suc after)) legs c ≡ rates c
  rest c late early = elim (cases_lt (suc after) c) [
    | inl h ↦ follow.force c h early
    | inr h ↦
        let is : c ≡ suc after = omega arith in
        rw is (force-before craft cycles (rates (suc after)) (suc after) legs (suc after) follow.needed (omega arith))
  ]

same-rates-tested : (a b : Rates) → Decides (same_rates a b) (a ≡ b)
same-rates-tested a b =
    Decides-like (same_rates a b) (equal a b) (λ e. ((ap (λ (r : Rates). r.vx) e, ap (λ (r : Rates). r.vy) e), ap (λ (r : Rates). r.vz) e))
    (Decides-and (int_eq a.vx b.vx && int_eq a.vy b.vy) (int_eq a.vz b.vz) (Decides-and (int_eq a.vx b.vx) (int_eq a.vy b.vy) (Decides-int_eq a.vx b.vx) (Decides-int_eq a.vy b.vy)) (Decides-int_eq a.vz b.vz))
  where
    equal : (a b : Rates) → ((a.vx ≡ b.vx) × (a.vy ≡ b.vy)) × (a.vz ≡ b.vz) → a ≡ b
    equal a b h = let x = h.0.0 in let y = h.0.1 in let z = h.1 in grind (arith, x, y, z)

-- The legs that begin where given rates change follow these rates.
pub legs-follow : (craft cycles : ℕ) (rates : ℕ → Rates) (after count : ℕ) → suc after + count ≡ cycles → Follow craft cycles rates after (legs_by craft rates (suc after) count)
legs-follow craft cycles rates after zero end = record { needed = tt; force = λ c late early. absurd (omega arith) }
legs-follow craft cycles rates after (suc count) end =
    let back : suc after - 1 ≡ after = omega arith in
    let rest : Follow craft cycles rates (suc after) (legs_by craft rates (suc (suc after)) count) = legs-follow craft cycles rates (suc after) count (omega arith) in
    elim (cases_Bool (same_rates (rates after) (rates (suc after)))) [
      | inl h ↦ rw (back, h, add-one) (follow-on craft cycles rates after _ ((same-rates-tested (rates after) (rates (suc after))).0 h) rest)
      | inr h ↦ rw (back, h, add-one) (follow-turn craft cycles rates after _ (omega arith) (λ e. true≢false (sym ((same-rates-tested (rates after) (rates (suc after))).1 (sym e)) ∙ h)) rest)
    ]

range-more : (a n : ℕ) → range_with_len a (n + 1) ≡ range_with_len a n ++ (a + n) ∷ []
range-more a zero = ap (λ k. k ∷ []) (omega arith)
range-more a (suc n) =
    let next : suc n + 1 ≡ suc (n + 1) = omega arith in
    let end : (a + 1) + n ≡ a + suc n = omega arith in
    ap (range_with_len a) next ∙ ap (λ l. a ∷ l) (range-more (a + 1) n ∙ ap (λ k. range_with_len (a + 1) n ++ k ∷ []) end)

-- The legs of one more cycle.
pub legs-more : (craft : ℕ) (rates : ℕ → Rates) (first count : ℕ) → legs_by craft rates first (count + 1) ≡ legs_by craft rates first count ++ legs_by craft rates (first + count) 1
legs-more craft rates first count =
    ap (λ cycles. map (λ cycle. leg_with craft cycle (rates cycle)) (filter (is_turn rates) cycles)) (range-more first count)
    ∙ ap (map (λ cycle. leg_with craft cycle (rates cycle))) (filter-append (is_turn rates) (range_with_len first count) ((first + count) ∷ []))
    ∙ map-append (λ cycle. leg_with craft cycle (rates cycle)) (filter (is_turn rates) (range_with_len first count)) (filter (is_turn rates) ((first + count) ∷ []))
