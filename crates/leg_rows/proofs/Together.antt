-- The legs of all aircraft, one after the other.
use Rattle.std.proofs.Common.{◌≡◌, ℕ, zero, suc, ◌+◌, ◌-◌, ◌<◌, ◌≤◌, Bool, true, false, List, [], ◌∷◌, ◌++◌, length, get_or, refl, sym, ap, append_assoc, ◌∙◌, arith, subst}
use Rattle.std.specs.Prelude.{All, IsTrue, filter, ◌==◌}
use Rattle.std.specs.List.{range_with_len}
use Rattle.std.proofs.lemmas.Bool.{eq-eqb, ne_eqb}
use Rattle.std.proofs.lemmas.Bool.Decides.{nat_tests}
use Rattle.std.proofs.lemmas.List.{append-nil}
use Rattle.std.proofs.lemmas.List.Elements.{All-append, All-filter, All-map, All-nil, filter-append}
use Rattle.std.proofs.lemmas.List.FromFn.{get_or-range_with_len, length-range_with_len}
use Rattle.acas_base.specs.Encounter.{AreListed, IsLeg}
use Rattle.acas_base.specs.Order.{IsRising, is_below, leg_below}
use Rattle.acas_base.specs.declared.craft.Leg.{Leg}
use Rattle.flight.specs.declared.place.Place.{Place}
use Rattle.leg_rows.proofs.Through.{needed}
use Rattle.leg_rows.specs.Flights.{legs_from, legs_of_all}
use Rattle.leg_rows.specs.Rows.{AreFlyable, AreNeeded, at_rest, is_turn, leg_with, legs_through, rates_from, rates_of}
use Rattle.leg_rows.specs.declared.rates.Rates.{Rates}

-- What a filter keeps where all pass, and where none does.
pub filter-whole : {X : Type 0} (test : X → Bool) (xs : List X) → All (λ x. test x ≡ true) xs → filter test xs ≡ xs
filter-whole test [] all = refl
filter-whole test (x ∷ xs) all = rw (all 0 x (omega arith)) (ap (λ ys. x ∷ ys) (filter-whole test xs (λ k d h. all (suc k) d (omega arith))))

pub filter-nothing : {X : Type 0} (test : X → Bool) (xs : List X) → All (λ x. test x ≡ false) xs → filter test xs ≡ []
filter-nothing test [] all = refl
filter-nothing test (x ∷ xs) all = rw (all 0 x (omega arith)) (filter-nothing test xs (λ k d h. all (suc k) d (omega arith)))

-- Needed legs are of their aircraft.
needed-own : (craft cycles : ℕ) (before : Rates) (after : ℕ) (legs : List Leg) → AreNeeded craft cycles before after legs → All (λ (leg : Leg). leg.craft ≡ craft) legs
needed-own craft cycles before after [] each k d h = absurd (omega arith)
needed-own craft cycles before after (leg ∷ legs) each zero d h = each.0
needed-own craft cycles before after (leg ∷ legs) each (suc k) d h = needed-own craft cycles (rates_of leg) leg.from legs each.4 k d (omega arith)

pub through-own : (craft : ℕ) (places : List Place) → All (λ (leg : Leg). leg.craft ≡ craft) (legs_through craft places)
through-own craft places = needed-own craft (length places) at_rest 0 (legs_through craft places) (needed craft places)

from-own : (craft : ℕ) (rows : List (List Place)) → All (λ (leg : Leg). craft ≤ leg.craft) (legs_from craft rows)
from-own craft [] = All-nil (λ (leg : Leg). craft ≤ leg.craft)
from-own craft (places ∷ rows) =
    All-append (λ (leg : Leg). craft ≤ leg.craft) (legs_through craft places) (legs_from (craft + 1) rows)
    (λ k d h. omega (arith, through-own craft places k d h)) (λ k d h. omega (arith, from-own (craft + 1) rows k d h))

-- The legs of one aircraft among them.
pub from-there : (craft : ℕ) (rows : List (List Place)) (k n : ℕ) → n ≡ craft + k → k < length rows
    → filter (λ (leg : Leg). leg.craft == n) (legs_from craft rows) ≡ legs_through n (get_or rows k [])
from-there craft [] k n is within = absurd (omega arith)
from-there craft (places ∷ rows) zero n is within =
    let test : Leg → Bool = λ leg. leg.craft == n in
    let same : n ≡ craft = omega arith in
    let here : filter test (legs_through craft places) ≡ legs_through craft places =
    filter-whole test (legs_through craft places) (λ i d h. eq-eqb (get_or (legs_through craft places) i d).craft n (through-own craft places i d h ∙ sym same)) in
    let rest : filter test (legs_from (craft + 1) rows) ≡ [] =
    filter-nothing test (legs_from (craft + 1) rows) (λ i d h. ne_eqb (get_or (legs_from (craft + 1) rows) i d).craft n (λ e. omega (arith, e, is, from-own (craft + 1) rows i d h))) in
    filter-append test (legs_through craft places) (legs_from (craft + 1) rows) ∙ rw (here, rest) (append-nil (legs_through craft places) ∙ ap (λ c. legs_through c places) (sym same))
from-there craft (places ∷ rows) (suc k) n is within =
    let test : Leg → Bool = λ leg. leg.craft == n in
    let none : filter test (legs_through craft places) ≡ [] =
    filter-nothing test (legs_through craft places) (λ i d h. ne_eqb (get_or (legs_through craft places) i d).craft n (λ e. omega (arith, e, is, through-own craft places i d h))) in
    filter-append test (legs_through craft places) (legs_from (craft + 1) rows) ∙ rw none (from-there (craft + 1) rows k n (omega arith) (omega arith))

pub all-there : (rows : List (List Place)) (craft : ℕ) → craft < length rows → filter (λ (leg : Leg). leg.craft == craft) (legs_of_all rows) ≡ legs_through craft (get_or rows craft [])
unfolding legs_of_all
all-there rows craft within = from-there 0 rows craft craft (omega arith) within

-- Legs in their order, after the leg of an aircraft that begins in a cycle.
abbrev pub Rises : ℕ → ℕ → List Leg → Type 0
Rises craft from [] = Unit {0}
Rises craft from (leg ∷ legs) = IsTrue (is_below (craft, 0, from) (leg.craft, 0, leg.from)) × Rises leg.craft leg.from legs

pub later-cycle : (a b c d : ℕ) → a ≡ c → b < d → is_below (a, 0, b) (c, 0, d) ≡ true
later-cycle a b c d same h = grind (arith, nat_tests)

later-craft : (a b c d : ℕ) → a < c → is_below (a, 0, b) (c, 0, d) ≡ true
later-craft a b c d h = grind (arith, nat_tests)

pub rises-needed : (craft cycles : ℕ) (before : Rates) (after : ℕ) (legs : List Leg) → AreNeeded craft cycles before after legs → Rises craft after legs
rises-needed craft cycles before after [] each = tt
rises-needed craft cycles before after (leg ∷ legs) each = (
  later-cycle craft after leg.craft leg.from (sym each.0) each.1,
  subst (λ c. Rises c leg.from legs) (sym each.0) (rises-needed craft cycles (rates_of leg) leg.from legs each.4),
)

-- After the legs of one aircraft, those of aircraft behind it.
pub rises-append : (craft from : ℕ) (xs ys : List Leg) → All (λ (leg : Leg). leg.craft ≡ craft) xs → Rises craft from xs → ((f : ℕ) → Rises craft f ys) → Rises craft from (xs ++ ys)
rises-append craft from [] ys own rises rest = rest from
rises-append craft from (x ∷ xs) ys own rises rest =
    let same : x.craft ≡ craft = own 0 x (omega arith) in (
      rises.0,
      rises-append x.craft x.from xs ys (λ k d h. own (suc k) d (omega arith) ∙ sym same) rises.1 (λ f. subst (λ c. Rises c f ys) (sym same) (rest f)),
    )

pub rises-behind : (a b c d : ℕ) (legs : List Leg) → a < c → Rises c d legs → Rises a b legs
rises-behind a b c d [] order rises = tt
rises-behind a b c d (leg ∷ legs) order rises = (below-first a b c d leg.craft leg.from order rises.0, rises.1) where
  below-first : (a b c d e f : ℕ) → a < c → is_below (c, 0, d) (e, 0, f) ≡ true → is_below (a, 0, b) (e, 0, f) ≡ true
  below-first a b c d e f h g = grind (arith, nat_tests)

rises-from : (craft : ℕ) (rows : List (List Place)) → Rises craft 0 (legs_from craft rows)
rises-from craft [] = tt
rises-from craft (places ∷ rows) =
    rises-append craft 0 (legs_through craft places) (legs_from (craft + 1) rows) (through-own craft places)
    (rises-needed craft (length places) at_rest 0 (legs_through craft places) (needed craft places))
    (λ f. rises-behind craft f (craft + 1) 0 (legs_from (craft + 1) rows) (omega arith) (rises-from (craft + 1) rows))

pub rising : (craft from : ℕ) (legs : List Leg) → Rises craft from legs → IsRising leg_below legs
rising craft from [] rises k d h = absurd (omega arith)
rising craft from (x ∷ []) rises k d h = absurd (omega arith)
rising craft from (x ∷ y ∷ legs) rises zero d h = rises.1.0
rising craft from (x ∷ y ∷ legs) rises (suc k) d h = let next : suc k + 1 ≡ suc (k + 1) = omega arith in rw next (rising x.craft x.from (y ∷ legs) rises.1 k d (omega arith))

range-all : (P : ℕ → Type 0) (first count : ℕ) → ((k : ℕ) → first ≤ k → k < first + count → P k) → All P (range_with_len first count)
range-all P first count each k d h =
    let within : k < count = omega (arith, h, length-range_with_len first count) in
    subst P (sym (get_or-range_with_len first count k d within)) (each (first + k) (omega arith) (omega arith))

-- Each leg has rates that lead from a place to the next, and begins in the run.
pub through-fits : (count craft : ℕ) (places : List Place) → craft < count → length places ≤ 600 → AreFlyable places → All (IsLeg count) (legs_through craft places)
unfolding legs_through
through-fits count craft places few short flyable =
    All-map (IsLeg count) (λ cycle. leg_with craft cycle (rates_from places cycle)) (filter (is_turn (rates_from places)) (range_with_len 1 (length places - 1)))
    (All-filter (is_turn (rates_from places)) (λ cycle. IsLeg count (leg_with craft cycle (rates_from places cycle))) (range_with_len 1 (length places - 1))
    (range-all (λ cycle. IsLeg count (leg_with craft cycle (rates_from places cycle))) 1 (length places - 1)
    (λ cycle first last. let rates = flyable cycle first (omega arith) in record { craft = few; from = (first, omega arith); rates = record { vx = rates.vx; vy = rates.vy; vz = rates.vz } })))

from-fits : (count craft : ℕ) (rows : List (List Place)) → craft + length rows ≤ count → All (λ places. length places ≤ 600) rows → All AreFlyable rows → All (IsLeg count) (legs_from craft rows)
from-fits count craft [] few short flyable = All-nil (IsLeg count)
from-fits count craft (places ∷ rows) few short flyable =
    All-append (IsLeg count) (legs_through craft places) (legs_from (craft + 1) rows)
    (through-fits count craft places (omega arith) (short 0 places (omega arith)) (flyable 0 places (omega arith)))
    (from-fits count (craft + 1) rows (omega arith) (λ k d h. short (suc k) d (omega arith)) (λ k d h. flyable (suc k) d (omega arith)))

-- They are the legs of an encounter.
pub all-listed : (rows : List (List Place)) → All (λ places. length places ≤ 600) rows → All AreFlyable rows → AreListed IsLeg leg_below (length rows) (legs_of_all rows)
unfolding legs_of_all
all-listed rows short flyable = (from-fits (length rows) 0 rows (omega arith) short flyable, rising 0 0 (legs_from 0 rows) (rises-from 0 rows))

-- One more aircraft.
pub from-more : (craft last : ℕ) (rows : List (List Place)) (places : List Place) → last ≡ craft + length rows → legs_from craft (rows ++ places ∷ []) ≡ legs_from craft rows ++ legs_through last places
from-more craft last [] places is = let same : last ≡ craft = omega arith in append-nil (legs_through craft places) ∙ ap (λ c. legs_through c places) (sym same)
from-more craft last (row ∷ rows) places is =
    ap (λ l. legs_through craft row ++ l) (from-more (craft + 1) last rows places (omega arith))
    ∙ sym (append_assoc (legs_through craft row) (legs_from (craft + 1) rows) (legs_through last places))
