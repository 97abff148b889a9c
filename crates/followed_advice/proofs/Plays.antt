-- From one play to the next.
use Rattle.std.proofs.Common.{◌≡◌, ℕ, ◌+◌, ◌-◌, ◌<◌, ◌≤◌, false, List, [], length, get_or, sym, ap, ◌∙◌, subst, arith, inl, inr}
use Rattle.std.proofs.lemmas.Bool.{cases_Bool, cases_eq, cases_lt, cond-false}
use Rattle.acas_base.specs.Encounter.{Parts}
use Rattle.acas_base.specs.declared.craft.CraftSpec.{CraftSpec}
use Rattle.flight.specs.Flight.{legs_of, place_in, position, start_of}
use Rattle.flight.specs.declared.place.Place.{Place}
use Rattle.followed_advice.proofs.Causes.{AreSameTo, can-fly, same-aims}
use Rattle.followed_advice.proofs.Keeping.{aim-first, are-rows, begin-there, kept-is, place-at}
use Rattle.followed_advice.specs.Following.{CanGoOn, DiffersInLegs, Follows, FollowsTo, IsPlayed, Leaves, aim, followed, is_named}
use Rattle.followed_advice.specs.Keeping.{AreAimsAfter, AreRows, AreThere, BeginThere, FliesKept, GoesOn, IsFirstChange, IsFirstLeaving, IsRightTo}
use Rattle.leg_rows.proofs.OneFlight.{any-craft, position-at, starts-at}
use Rattle.leg_rows.specs.Rows.{place_of}

same-crafts : (read : Parts) (named : List ℕ) (e : Parts) → DiffersInLegs read named e → e.crafts ≡ read.crafts
same-crafts read named e differs = ap (λ (m : Parts). m.crafts) differs.only_legs

same-cycles : (read : Parts) (named : List ℕ) (e : Parts) → DiffersInLegs read named e → e.cycles ≡ read.cycles
same-cycles read named e differs = ap (λ (m : Parts). m.cycles) differs.only_legs

within-both : (read : Parts) (named : List ℕ) (e : Parts) → DiffersInLegs read named e → (own : ℕ) → own < length read.crafts → own < length e.crafts
within-both read named e differs own h = let same = ap length (same-crafts read named e differs) in omega (arith, h, same)

same-start : (read : Parts) (named : List ℕ) (e : Parts) → DiffersInLegs read named e → (own : ℕ) → own < length read.crafts → position e own 1 ≡ position read own 1
same-start read named e differs own h =
    sym (starts-at e own (within-both read named e differs own h))
    ∙ ap (λ (l : List CraftSpec). start_of (get_or l own any-craft)) (same-crafts read named e differs)
    ∙ starts-at read own h

-- An aircraft that isn't named flies as in the encounter that is read.
as-read : (read : Parts) (named : List ℕ) (e : Parts) → DiffersInLegs read named e → (own cycle : ℕ) → own < length read.crafts → is_named named own ≡ false → position e own cycle ≡ position read own cycle
as-read read named e differs own cycle h n =
    sym (position-at e own cycle (within-both read named e differs own h))
    ∙ ap (λ (l : List CraftSpec). place_in (start_of (get_or l own any-craft)) (legs_of e own) cycle) (same-crafts read named e differs)
    ∙ ap (λ l. place_in (start_of (get_or read.crafts own any-craft)) l cycle) (differs.others own h n)
    ∙ position-at read own cycle h

-- ---- rows

row-place : (read : Parts) (named : List ℕ) (flown : Parts) (rows : List (List Place)) (aims : AreAimsAfter read named flown rows) (own cycle : ℕ) → own < length read.crafts → 1 ≤ cycle → cycle ≤ read.cycles
    → place_of (get_or rows own []) cycle ≡ aim read named aims.journal own cycle
row-place read named flown rows aims own cycle h low high = ap (λ (r : List (List Place)). place_of (get_or r own []) cycle) aims.rows_are ∙ place-at read named aims.journal own cycle h low high

pub rows-of-read : (read : Parts) (named : List ℕ) (flown : Parts) (rows : List (List Place)) → AreAimsAfter read named flown rows → AreRows read rows
rows-of-read read named flown rows aims = subst (AreRows read) (sym aims.rows_are) (are-rows read named aims.journal)

pub rows-begin : (read : Parts) (named : List ℕ) (flown : Parts) (rows : List (List Place)) → 1 ≤ read.cycles → AreAimsAfter read named flown rows → BeginThere read rows
rows-begin read named flown rows some aims = subst (BeginThere read) (sym aims.rows_are) (begin-there read named aims.journal some)

pub rows-of-flown : (read : Parts) (named : List ℕ) (flown : Parts) (rows : List (List Place)) → DiffersInLegs read named flown → AreAimsAfter read named flown rows → AreRows flown rows
rows-of-flown read named flown rows differs aims =
    let are = rows-of-read read named flown rows aims in
    let crafts = ap length (same-crafts read named flown differs) in
    record {
      count = are.count ∙ sym crafts;
      long = λ own h. are.long own (omega (arith, h, crafts)) ∙ sym (same-cycles read named flown differs);
    }

-- ---- how far the places are right

played : (read : Parts) (named : List ℕ) (flown : Parts) (known : ℕ) (rows : List (List Place)) → IsRightTo read named flown known → (aims : AreAimsAfter read named flown rows) → IsPlayed read named flown aims.journal
played read named flown known rows right aims = record { valid = right.valid; inside = right.inside; differs = right.differs; serial = aims.serial }

-- Where all are at their places up to a cycle, they follow up to it.
follows-by : (read : Parts) (named : List ℕ) (flown : Parts) (rows : List (List Place)) (last : ℕ) → DiffersInLegs read named flown → (aims : AreAimsAfter read named flown rows) → last ≤ read.cycles
    → ((k : ℕ) → 1 ≤ k → k ≤ last → AreThere flown rows k) → FollowsTo read named flown aims.journal last
follows-by read named flown rows last differs aims within there own k h low high =
    there k low high own (within-both read named flown differs own h) ∙ row-place read named flown rows aims own k h low (omega (arith, high, within))

-- A change comes later than what is known to be right.
later : (read : Parts) (named : List ℕ) (flown : Parts) (known cycle : ℕ) (rows : List (List Place)) → IsRightTo read named flown known → AreAimsAfter read named flown rows → IsFirstChange flown rows cycle → known < cycle
later read named flown known cycle rows right aims change = elim (cases_lt known cycle) [
  | inl h ↦ h
  | inr h ↦
      let crafts = ap length (same-crafts read named flown right.differs) in
      let cycles = same-cycles read named flown right.differs in
      let first = change.begun in
      let last = change.in_run in
      absurd (change.not_there (λ own g.
      let w : own < length read.crafts = omega (arith, g, crafts) in
      right.places aims.journal aims.serial own cycle w change.begun (omega (arith, h)) ∙ sym (row-place read named flown rows aims own cycle w change.begun (omega (arith, last, cycles)))))
]

before-change : (read : Parts) (named : List ℕ) (flown : Parts) (cycle : ℕ) (rows : List (List Place)) → DiffersInLegs read named flown → (aims : AreAimsAfter read named flown rows) → IsFirstChange flown rows cycle
    → FollowsTo read named flown aims.journal (cycle - 1)
before-change read named flown cycle rows differs aims change =
    let cycles = same-cycles read named flown differs in
    let last = change.in_run in
    let first = change.begun in
    follows-by read named flown rows (cycle - 1) differs aims (omega (arith, last, cycles)) (λ k low high. change.before k low (omega (arith, high, first)))

pub begun-after : (read : Parts) (named : List ℕ) (flown : Parts) (known cycle : ℕ) (rows : List (List Place)) → 1 ≤ known → IsRightTo read named flown known → AreAimsAfter read named flown rows → IsFirstChange flown rows cycle → 2 ≤ cycle
begun-after read named flown known cycle rows some right aims change = let h = later read named flown known cycle rows right aims change in omega (arith, h, some)

pub leaves-there : (read : Parts) (named : List ℕ) (flown : Parts) (known cycle own : ℕ) (rows : List (List Place)) → 1 ≤ known → IsRightTo read named flown known → AreAimsAfter read named flown rows → IsFirstChange flown rows cycle
    → IsFirstLeaving flown rows cycle own → Leaves read named own cycle
leaves-there read named flown known cycle own rows some right aims change leaving =
    let cycles = same-cycles read named flown right.differs in
    let crafts = ap length (same-crafts read named flown right.differs) in
    let last = change.in_run in
    let here = leaving.craft in
    let at : (i : ℕ) → i < length read.crafts → place_of (get_or rows i []) cycle ≡ aim read named aims.journal i cycle =
    λ i h. row-place read named flown rows aims i cycle h change.begun (omega (arith, last, cycles)) in
    let craft : own < length read.crafts = omega (arith, here, crafts) in
    record {
      written = flown;
      journal = aims.journal;
      played = played read named flown known rows right aims;
      begun = begun-after read named flown known cycle rows some right aims change;
      in_run = omega (arith, last, cycles);
      places = before-change read named flown cycle rows right.differs aims change;
      craft = craft;
      leaves = λ can. leaving.leaves (subst (λ (p : Place). CanGoOn (position flown own (cycle - 1)) p) (sym (at own craft)) can);
      lower = λ i less. subst (λ (p : Place). CanGoOn (position flown i (cycle - 1)) p) (at i (omega (arith, less, craft))) (leaving.lower i less);
    }

pub follows-all : (read : Parts) (named : List ℕ) (flown : Parts) (known : ℕ) (rows : List (List Place)) → IsRightTo read named flown known → AreAimsAfter read named flown rows
    → ((k : ℕ) → 1 ≤ k → k ≤ flown.cycles → AreThere flown rows k) → Follows read named flown
follows-all read named flown known rows right aims there =
    let cycles = same-cycles read named flown right.differs in
    record {
      journal = aims.journal;
      played = played read named flown known rows right aims;
      places = follows-by read named flown rows read.cycles right.differs aims (omega arith) (λ k low high. there k low (omega (arith, high, cycles)));
    }

pub follows-known : (read : Parts) (named : List ℕ) (flown : Parts) (rows : List (List Place)) → IsRightTo read named flown read.cycles → AreAimsAfter read named flown rows → Follows read named flown
follows-known read named flown rows right aims = record {
  journal = aims.journal;
  played = played read named flown read.cycles rows right aims;
  places = right.places aims.journal aims.serial;
}

-- ---- the next encounter

-- In cycle 1 each aircraft is where it begins.
pub right-first : (read : Parts) (named : List ℕ) (rows : List (List Place)) (made : Parts) → 1 ≤ read.cycles → FliesKept read named rows made → IsRightTo read named made 1
right-first read named rows made some flies = record {
  valid = flies.valid;
  inside = flies.inside;
  differs = flies.differs;
  places = λ J serial own cycle h low high.
      let one : 1 ≡ cycle = omega (arith, low, high) in
      subst (λ k. position made own k ≡ aim read named J own k) one (same-start read named made flies.differs own h ∙ sym (aim-first read named J own some));
}

-- Up to the first change, and in it, an aircraft can go on to where it has to be.
goes-on-to : (read : Parts) (named : List ℕ) (flown : Parts) (known cycle own : ℕ) (rows : List (List Place)) → IsRightTo read named flown known → AreAimsAfter read named flown rows → IsFirstChange flown rows cycle
    → ((i : ℕ) → i < length flown.crafts → GoesOn flown rows i cycle) → own < length flown.crafts
    → (k : ℕ) → 2 ≤ k → k ≤ cycle → CanGoOn (place_of (get_or rows own []) (k - 1)) (place_of (get_or rows own []) k)
goes-on-to read named flown known cycle own rows right aims change can h k low high =
    let last = change.in_run in
    let before : position flown own (k - 1) ≡ place_of (get_or rows own []) (k - 1) = change.before (k - 1) (omega (arith, low)) (omega (arith, low, high)) own h in
    elim (cases_eq k cycle) [
      | inl e ↦
          let here : CanGoOn (position flown own (k - 1)) (place_of (get_or rows own []) k) = subst (λ c. CanGoOn (position flown own (c - 1)) (place_of (get_or rows own []) c)) (sym e) (can own h) in
          subst (λ (p : Place). CanGoOn p (place_of (get_or rows own []) k)) before here
      | inr ne ↦
          let less : k < cycle = strict k cycle high ne in
          let here : CanGoOn (position flown own (k - 1)) (position flown own k) = can-fly flown right.valid right.inside own k h low (omega (arith, high, last)) in
          subst (λ (p : Place). CanGoOn p (place_of (get_or rows own []) k)) before
          (subst (λ (p : Place). CanGoOn (position flown own (k - 1)) p) (change.before k (omega (arith, low)) less own h) here)
    ]
  where
    strict : (a b : ℕ) → a ≤ b → (a ≡ b → ⊥) → a < b
    strict a b le ne = elim (cases_lt a b) [ inl g ↦ g | inr g ↦ absurd (ne (omega (arith, le, g))) ]

made-place : (read : Parts) (named : List ℕ) (flown : Parts) (known cycle : ℕ) (rows : List (List Place)) (made : Parts) → IsRightTo read named flown known → (aims : AreAimsAfter read named flown rows) → IsFirstChange flown rows cycle
    → ((i : ℕ) → i < length flown.crafts → GoesOn flown rows i cycle) → FliesKept read named rows made → FollowsTo read named made aims.journal cycle
made-place read named flown known cycle rows made right aims change can flies own k h low high =
    let cycles = same-cycles read named flown right.differs in
    let last = change.in_run in
    let within : k ≤ read.cycles = omega (arith, high, last, cycles) in
    elim (cases_Bool (is_named named own)) [
      | inl y ↦
          flies.places own k h y low within
          ∙ kept-is (get_or rows own []) cycle (goes-on-to read named flown known cycle own rows right aims change can (within-both read named flown right.differs own h)) k low high
          ∙ row-place read named flown rows aims own k h low within
      | inr n ↦ as-read read named made flies.differs own k h n ∙ sym (cond-false (is_named named own) (followed read aims.journal own k) (position read own k) n)
    ]

-- The places of the next encounter are right for a cycle more.
pub right-next : (read : Parts) (named : List ℕ) (flown : Parts) (known cycle : ℕ) (rows : List (List Place)) (made : Parts) → IsRightTo read named flown known → AreAimsAfter read named flown rows → IsFirstChange flown rows cycle
    → ((i : ℕ) → i < length flown.crafts → GoesOn flown rows i cycle) → FliesKept read named rows made → IsRightTo read named made (known + 1)
right-next read named flown known cycle rows made right aims change can flies =
    let far = later read named flown known cycle rows right aims change in
    let cycles = same-cycles read named flown right.differs in
    let last = change.in_run in
    let first = change.begun in
    let p = played read named flown known rows right aims in
    let before = before-change read named flown cycle rows right.differs aims change in
    let now = made-place read named flown known cycle rows made right aims change can flies in
    let same : AreSameTo read flown made (cycle - 1) = λ own k h low high. before own k h low high ∙ sym (now own k h low (omega (arith, high))) in
    record {
      valid = flies.valid;
      inside = flies.inside;
      differs = flies.differs;
      places = λ K serial own k h low high.
          let q : IsPlayed read named made K = record { valid = flies.valid; inside = flies.inside; differs = flies.differs; serial = serial } in
          now own k h low (omega (arith, high, far))
          ∙ same-aims read named flown made aims.journal K (cycle - 1) p q same own k low (omega (arith, high, far)) (omega (arith, high, far, last, cycles));
    }
