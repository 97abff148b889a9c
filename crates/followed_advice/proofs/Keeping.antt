-- Rows of places, and what is kept of them.
use Rattle.std.proofs.Common.{◌≡◌, ℕ, zero, suc, ◌+◌, ◌-◌, ◌<◌, ◌≤◌, ℤ, pos, neg_ℤ, ◌-ℤ◌, Bool, ◌&&◌, false, List, [], Vec, Global, length, get_or, refl, sym, ap, ◌∙◌, subst, arith, rules, inl, inr}
use Rattle.std.specs.Prelude.{int_le, ◌≤ℤ◌, if◌then◌else◌, map}
use Rattle.std.specs.Bool.{Decides}
use Rattle.std.specs.List.{range_with_len}
use Rattle.std.proofs.lemmas.Bool.{cases_Bool, cond-false, cond-true, cond_both}
use Rattle.std.proofs.lemmas.Bool.Decides.{Decides-and, Decides-like}
use Rattle.std.proofs.lemmas.Int.{ints}
use Rattle.std.proofs.lemmas.List.{get_or-map, length-map}
use Rattle.std.proofs.lemmas.List.FromFn.{get_or-map-range_with_len, length-map-range_with_len}
use Rattle.acas_base.specs.Encounter.{Parts}
use Rattle.acas_base.specs.Ranges.{IsBetween}
use Rattle.acas_base.specs.declared.entry.Entry.{Entry}
use Rattle.flight.specs.Flight.{nowhere, position}
use Rattle.flight.specs.Inside.{IsInBox, IsInside, is_between, is_in_box}
use Rattle.flight.specs.declared.place.Place.{Place}
use Rattle.followed_advice.proofs.Flights.{planned-first}
use Rattle.followed_advice.specs.Following.{CanGoOn, aim, followed, is_named}
use Rattle.followed_advice.specs.Keeping.{AreRows, BeginThere, aims, all_aims, can_go_on, goes_on, kept, kept_row}
use Rattle.leg_rows.specs.Rows.{AreFlyable, AreLegRates, change, place_of}

-- ---- rows

pub aims-at : (read : Parts) (named : List ℕ) (J : List Entry) (own cycle : ℕ) → 1 ≤ cycle → cycle ≤ read.cycles → place_of (aims read named J own) cycle ≡ aim read named J own cycle
aims-at read named J own cycle low high = get_or-map-range_with_len (aim read named J own) 1 read.cycles (cycle - 1) cycle nowhere (omega arith) (omega arith)

pub row-at : (read : Parts) (named : List ℕ) (J : List Entry) (own : ℕ) → own < length read.crafts → get_or (all_aims read named J) own [] ≡ aims read named J own
row-at read named J own within = get_or-map-range_with_len (aims read named J) 0 (length read.crafts) own own [] within (omega arith)

pub place-at : (read : Parts) (named : List ℕ) (J : List Entry) (own cycle : ℕ) → own < length read.crafts → 1 ≤ cycle → cycle ≤ read.cycles → place_of (get_or (all_aims read named J) own []) cycle ≡ aim read named J own cycle
place-at read named J own cycle within low high = ap (λ r. place_of r cycle) (row-at read named J own within) ∙ aims-at read named J own cycle low high

pub are-rows : (read : Parts) (named : List ℕ) (J : List Entry) → AreRows read (all_aims read named J)
are-rows read named J = record {
  count = length-map-range_with_len (aims read named J) 0 (length read.crafts);
  long = λ own within. ap length (row-at read named J own within) ∙ length-map-range_with_len (aim read named J own) 1 read.cycles;
}

-- An aircraft that isn't named has to be where it is planned to be.
pub aims-planned : (read : Parts) (named : List ℕ) (J : List Entry) (own : ℕ) → is_named named own ≡ false → map (position read own) (range_with_len 1 read.cycles) ≡ aims read named J own
aims-planned read named J own other = ap (λ (b : Bool). map (λ cycle. if b then followed read J own cycle else position read own cycle) (range_with_len 1 read.cycles)) (sym other)

-- In the first cycle each aircraft has to be where it begins.
pub aim-first : (read : Parts) (named : List ℕ) (J : List Entry) (own : ℕ) → 1 ≤ read.cycles → aim read named J own 1 ≡ position read own 1
aim-first read named J own some = cond_both (is_named named own) _ (position read own 1) (λ p. p ≡ position read own 1) (λ _. rw (planned-first read J own some) refl) (λ _. refl)

pub begin-there : (read : Parts) (named : List ℕ) (J : List Entry) → 1 ≤ read.cycles → BeginThere read (all_aims read named J)
begin-there read named J some own within = place-at read named J own 1 within (omega arith) some ∙ aim-first read named J own some

-- ---- what is kept

order-tested : (a b : ℤ) → Decides (int_le a b) (a ≤ℤ b)
order-tested a b = search rules

between-tested : (low high n : ℤ) → Decides (is_between low high n) (IsBetween low high n)
between-tested low high n = Decides-and (int_le low n) (int_le n high) (order-tested low n) (order-tested n high)

box-tested : (p : Place) → Decides (is_in_box p) (IsInBox p)
box-tested p =
    let x = between-tested (neg_ℤ (pos 1000000)) (pos 1000000) p.x in
    let y = between-tested (neg_ℤ (pos 1000000)) (pos 1000000) p.y in
    let z = between-tested (neg_ℤ (pos 60000)) (pos 3600000) p.z in
    let in_y = is_between (neg_ℤ (pos 1000000)) (pos 1000000) p.y in
    let in_z = is_between (neg_ℤ (pos 60000)) (pos 3600000) p.z in
    Decides-like (is_in_box p) (λ all. record { x = all.0; y = all.1.0; z = all.1.1 }) (λ box. (box.x, (box.y, box.z)))
    (Decides-and (is_between (neg_ℤ (pos 1000000)) (pos 1000000) p.x) (in_y && in_z) x (Decides-and in_y in_z y z))

pub going-tested : (here there : Place) → Decides (can_go_on here there) (CanGoOn here there)
going-tested here there =
    let x = is_between (neg_ℤ (pos 2000)) (pos 2000) (there.x -ℤ here.x) in
    let y = is_between (neg_ℤ (pos 2000)) (pos 2000) (there.y -ℤ here.y) in
    let z = is_between (neg_ℤ (pos 10000)) (pos 10000) (there.z -ℤ here.z) in
    Decides-like (can_go_on here there) (λ all. record { boxed = all.0; rates = record { vx = all.1.0; vy = all.1.1.0; vz = all.1.1.1 } }) (λ can. (can.boxed, (can.rates.vx, (can.rates.vy, can.rates.vz))))
    (Decides-and (is_in_box there) (x && (y && z)) (box-tested there)
    (Decides-and x (y && z) (between-tested (neg_ℤ (pos 2000)) (pos 2000) (there.x -ℤ here.x))
    (Decides-and y z (between-tested (neg_ℤ (pos 2000)) (pos 2000) (there.y -ℤ here.y)) (between-tested (neg_ℤ (pos 10000)) (pos 10000) (there.z -ℤ here.z)))))

goes-boxed : (here there : Place) → IsInBox here → IsInBox (goes_on here there)
goes-boxed here there box = cond_both (can_go_on here there) there here IsInBox (λ y. ((going-tested here there).0 y).boxed) (λ _. box)

pub kept-boxed : (row : List Place) (n : ℕ) → IsInBox (place_of row 1) → IsInBox (kept row n)
kept-boxed row zero box = box
kept-boxed row (suc n) box = goes-boxed (kept row n) (place_of row (suc n)) (kept-boxed row n box)

stays-slow : (p : Place) → AreLegRates (change p p)
stays-slow p = record { vx = none p.x 2000; vy = none p.y 2000; vz = none p.z 10000 } where
  none : (a : ℤ) (size : ℕ) → IsBetween (neg_ℤ (pos size)) (pos size) (a -ℤ a)
  none a size = (omega (arith, ints), omega (arith, ints))

goes-slow : (here there : Place) → AreLegRates (change here (goes_on here there))
goes-slow here there = cond_both (can_go_on here there) there here (λ p. AreLegRates (change here p)) (λ y. ((going-tested here there).0 y).rates) (λ _. stays-slow here)

pub goes-there : (here there : Place) → CanGoOn here there → goes_on here there ≡ there
goes-there here there can = cond-true (can_go_on here there) there here ((going-tested here there).1 can)

pub kept-first : (row : List Place) → kept row 1 ≡ place_of row 1
kept-first row = cond_both (can_go_on (place_of row 1) (place_of row 1)) (place_of row 1) (place_of row 1) (λ p. p ≡ place_of row 1) (λ _. refl) (λ _. refl)

-- As far as an aircraft can go on, it is at the places of its row.
pub kept-is : (row : List Place) (last : ℕ) → ((k : ℕ) → 2 ≤ k → k ≤ last → CanGoOn (place_of row (k - 1)) (place_of row k)) → (k : ℕ) → 1 ≤ k → k ≤ last → kept row k ≡ place_of row k
kept-is row last can zero low high = absurd (omega arith)
kept-is row last can (suc zero) low high = kept-first row
kept-is row last can (suc (suc n)) low high =
    let back : suc (suc n) - 1 ≡ suc n = omega arith in
    let before = kept-is row last can (suc n) (omega arith) (omega arith) in
    let go : CanGoOn (place_of row (suc n)) (place_of row (suc (suc n))) = subst (λ k. CanGoOn (place_of row k) (place_of row (suc (suc n)))) back (can (suc (suc n)) (omega arith) high) in
    ap (λ p. goes_on p (place_of row (suc (suc n)))) before ∙ goes-there (place_of row (suc n)) (place_of row (suc (suc n))) go

pub kept-at : (row : List Place) (cycle : ℕ) → 1 ≤ cycle → cycle ≤ length row → place_of (kept_row row) cycle ≡ kept row cycle
kept-at row cycle low high = get_or-map-range_with_len (kept row) 1 (length row) (cycle - 1) cycle nowhere (omega arith) (omega arith)

pub kept-long : (row : List Place) → length (kept_row row) ≡ length row
kept-long row = length-map-range_with_len (kept row) 1 (length row)

pub kept-flyable : (row : List Place) → AreFlyable (kept_row row)
kept-flyable row zero first within = absurd (omega arith)
kept-flyable row (suc n) first within =
    let long = kept-long row in
    let here : get_or (kept_row row) n nowhere ≡ kept row (suc n) = get_or-map-range_with_len (kept row) 1 (length row) n (suc n) nowhere (omega arith) (omega (arith, within, long)) in
    let there : get_or (kept_row row) (suc n) nowhere ≡ kept row (suc (suc n)) = get_or-map-range_with_len (kept row) 1 (length row) (suc n) (suc (suc n)) nowhere (omega arith) (omega (arith, within, long)) in
    rw (here, there) (goes-slow (kept row (suc n)) (place_of row (suc (suc n))))

-- One place more.
pub kept-more : (row : List Place) (n : ℕ) (here there : Place) → here ≡ kept row n → there ≡ get_or row n nowhere → goes_on here there ≡ kept row (n + 1)
kept-more row n here there e f =
    let back : n ≡ suc n - 1 = omega arith in
    let up : suc n ≡ n + 1 = omega arith in
    ap (λ h. goes_on h there) e ∙ ap (goes_on (kept row n)) (f ∙ ap (λ k. get_or row k nowhere) back) ∙ ap (kept row) up

-- An aircraft that can't go on stays.
pub goes-not : (here there : Place) → (CanGoOn here there → ⊥) → goes_on here there ≡ here
goes-not here there never = elim (cases_Bool (can_go_on here there)) [
  | inl y ↦ absurd (never ((going-tested here there).0 y))
  | inr n ↦ cond-false (can_go_on here there) there here n
]

-- A row among all rows, as it is kept.
pub row-items : (rows : List (Vec Place Global)) (own : ℕ) (row : Vec Place Global) → own < length rows → row ≡ get_or rows own row → get_or (map (λ (r : Vec Place Global). r.items) rows) own [] ≡ row.items
row-items rows own row within is = get_or-map (λ (r : Vec Place Global). r.items) rows own row [] within ∙ sym (ap (λ (r : Vec Place Global). r.items) is)

pub row-start : (e : Parts) (rows : List (Vec Place Global)) (own : ℕ) (row : Vec Place Global) → AreRows e (map (λ (r : Vec Place Global). r.items) rows) → BeginThere e (map (λ (r : Vec Place Global). r.items) rows) → IsInside e → 1 ≤ e.cycles
    → own < length e.crafts → row ≡ get_or rows own row → IsInBox (place_of row.items 1)
row-start e rows own row are start inside some within is =
    let long = length-map rows (λ (r : Vec Place Global). r.items) in
    let here : place_of row.items 1 ≡ position e own 1 = ap (λ r. place_of r 1) (sym (row-items rows own row (omega (arith, within, are.count, long)) is)) ∙ start own within in
    subst IsInBox (sym here) (inside own 1 within (omega arith) some)

pub row-long : (e : Parts) (rows : List (Vec Place Global)) (own : ℕ) (row : Vec Place Global) → AreRows e (map (λ (r : Vec Place Global). r.items) rows) → own < length e.crafts → row ≡ get_or rows own row → length row.items ≡ e.cycles
row-long e rows own row are within is =
    let long = length-map rows (λ (r : Vec Place Global). r.items) in
    ap length (sym (row-items rows own row (omega (arith, within, are.count, long)) is)) ∙ are.long own within
