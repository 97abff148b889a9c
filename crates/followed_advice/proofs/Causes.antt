-- Of encounters in which aircraft follow their advice up to a cycle, the places are the same up to it.
use Rattle.std.proofs.Common.{◌≡◌, ℕ, zero, suc, ◌+◌, ◌-◌, ◌<◌, ◌≤◌, ℤ, pos, ◌+ℤ◌, ◌-ℤ◌, List, [], length, get_or, Option, Some, None, refl, sym, ap, ◌∙◌, subst, arith, inl, inr}
use Rattle.std.specs.Prelude.{All, IfSome, filter, option_map, slice_get, ◌==◌}
use Rattle.std.proofs.lemmas.Bool.{cases_Bool, cases_lt, ne_eqb}
use Rattle.std.specs.Option.{option_map_or}
use Rattle.std.proofs.lemmas.Int.{ints}
use Rattle.std.proofs.lemmas.List.Elements.{All-filter}
use Rattle.acas_base.specs.Encounter.{AreRates, IsEncounter, Parts}
use Rattle.acas_base.specs.Ranges.{IsWithin}
use Rattle.acas_base.specs.declared.craft.CraftSpec.{CraftSpec}
use Rattle.acas_base.specs.declared.craft.Leg.{Leg}
use Rattle.acas_base.specs.declared.entry.Entry.{Entry}
use Rattle.air_journal.proofs.Soundness.{sound-of}
use Rattle.air_journal.proofs.UpTo.{alike-up-to}
use Rattle.air_journal.specs.Airs.{air_of}
use Rattle.air_journal.specs.Alike.{FlyAlikeUpTo, without_place}
use Rattle.air_rules.proofs.SameRounds.{the-same-to}
use Rattle.air_rules.specs.Rounds.{AreTheSameTo}
use Rattle.flight.proofs.Placing.{position-past}
use Rattle.flight.proofs.Latest.{leg-has}
use Rattle.flight.specs.Flight.{carried, leg_in, legs_of, place_in, position, rate_in, start_of}
use Rattle.flight.specs.Inside.{IsInside}
use Rattle.flight.specs.declared.place.Place.{Place}
use Rattle.followed_advice.proofs.Flights.{same-flown}
use Rattle.followed_advice.proofs.Journals.{same-cells}
use Rattle.followed_advice.specs.Following.{CanGoOn, FollowsTo, Follows, IsPlayed, Leaves, aim, is_named}
use Rattle.leg_rows.proofs.OneFlight.{any-craft, legs-determined, places-at, places-long, position-at, same-legs}
use Rattle.leg_rows.proofs.Together.{filter-nothing}
use Rattle.leg_rows.specs.Rows.{AreLegRates, AreNeeded, at_rest, change, places_of}

crafts-of : (read : Parts) (named : List ℕ) (d : Parts) (J : List Entry) → IsPlayed read named d J → d.crafts ≡ read.crafts
crafts-of read named d J p = ap (λ (m : Parts). m.crafts) p.differs.only_legs

cycles-of : (read : Parts) (named : List ℕ) (d : Parts) (J : List Entry) → IsPlayed read named d J → d.cycles ≡ read.cycles
cycles-of read named d J p = ap (λ (m : Parts). m.cycles) p.differs.only_legs

-- All aircraft are at the same places in the cycles up to one.
abbrev pub AreSameTo : Parts → Parts → Parts → ℕ → Type 0
AreSameTo read d e last = (own k : ℕ) → own < length read.crafts → 1 ≤ k → k ≤ last → position d own k ≡ position e own k

fly-alike : (read : Parts) (named : List ℕ) (d e : Parts) (J L : List Entry) (last : ℕ) → IsPlayed read named d J → IsPlayed read named e L → AreSameTo read d e last → FlyAlikeUpTo d e last
fly-alike read named d e J L last p q same =
    let one = p.differs.only_legs in
    let two = q.differs.only_legs in
    let crafts : d.crafts ≡ e.crafts = crafts-of read named d J p ∙ sym (crafts-of read named e L q) in
    record {
      profile = ap (λ (m : Parts). m.profile) one ∙ sym (ap (λ (m : Parts). m.profile) two);
      cycles = ap (λ (m : Parts). m.cycles) one ∙ sym (ap (λ (m : Parts). m.cycles) two);
      elevation = ap (λ (m : Parts). m.elevation) one ∙ sym (ap (λ (m : Parts). m.elevation) two);
      range = ap (λ (m : Parts). m.range) one ∙ sym (ap (λ (m : Parts). m.range) two);
      altitude = ap (λ (m : Parts). m.altitude) one ∙ sym (ap (λ (m : Parts). m.altitude) two);
      count = ap length crafts;
      crafts = λ index. ap (λ (l : List CraftSpec). option_map without_place (slice_get l index)) crafts;
      places = λ index k low high. elim (cases_lt index (length read.crafts)) [
        | inl h ↦ same index k h low high
        | inr h ↦
            sym (position-past d index k (omega (arith, h, ap length (crafts-of read named d J p))))
            ∙ position-past e index k (omega (arith, h, ap length (crafts-of read named e L q)))
      ];
      misses = ap (λ (m : Parts). m.misses) one ∙ sym (ap (λ (m : Parts). m.misses) two);
      plans = ap (λ (m : Parts). m.plans) one ∙ sym (ap (λ (m : Parts). m.plans) two);
      fates = ap (λ (m : Parts). m.fates) one ∙ sym (ap (λ (m : Parts). m.fates) two);
    }

same-rounds : (read : Parts) (named : List ℕ) (d e : Parts) (J L : List Entry) (last : ℕ) → IsPlayed read named d J → IsPlayed read named e L → AreSameTo read d e last → AreTheSameTo J L last
same-rounds read named d e J L last p q same =
    the-same-to (air_of d) (air_of e) last J L (sound-of d p.valid) (sound-of e q.valid) (alike-up-to d e last (fly-alike read named d e J L last p q same)) p.serial q.serial

-- Where the places are the same up to a cycle, the aircraft have to be at the same places up to the next one.
pub same-aims : (read : Parts) (named : List ℕ) (d e : Parts) (J L : List Entry) (last : ℕ) → IsPlayed read named d J → IsPlayed read named e L → AreSameTo read d e last
    → (own cycle : ℕ) → 1 ≤ cycle → cycle ≤ last + 1 → cycle ≤ read.cycles → aim read named J own cycle ≡ aim read named L own cycle
same-aims read named d e J L last p q same own cycle low high within =
    let one = same-rounds read named d e J L last p q same in
    let two = same-rounds read named e d L J last q p (λ i k h a b. sym (same i k h a b)) in
    let z = same-flown read J L own last cycle (λ k le. same-cells J L last own k one two le) low high within in
    rw z refl

pub same-to : (read : Parts) (named : List ℕ) (d e : Parts) (J L : List Entry) (last : ℕ) → IsPlayed read named d J → IsPlayed read named e L → FollowsTo read named d J last → FollowsTo read named e L last → last ≤ read.cycles
    → AreSameTo read d e last
same-to read named d e J L zero p q one two within own k h low high = absurd (omega arith)
same-to read named d e J L (suc n) p q one two within own k h low high =
    one own k h low high
    ∙ same-aims read named d e J L n p q (same-to read named d e J L n p q (λ i c g a b. one i c g a (omega arith)) (λ i c g a b. two i c g a (omega arith)) (omega arith)) own k low (omega arith) (omega arith)
    ∙ sym (two own k h low high)

-- ---- there is one at most

none-past : (legs : List Leg) (n count : ℕ) → count ≤ n → All (λ (leg : Leg). leg.craft < count) legs → filter (λ (leg : Leg). leg.craft == n) legs ≡ []
none-past legs n count past all = filter-nothing (λ (leg : Leg). leg.craft == n) legs (λ k d h. ne_eqb (get_or legs k d).craft n (λ e. omega (arith, e, past, all k d h)))

same-legs-of : (read : Parts) (named : List ℕ) (d e : Parts) (J L : List Entry) → IsPlayed read named d J → IsPlayed read named e L → AreSameTo read d e read.cycles → (own : ℕ) → legs_of d own ≡ legs_of e own
same-legs-of read named d e J L p q same own = elim (cases_lt own (length read.crafts)) [
  | inl h ↦ elim (cases_Bool (is_named named own)) [
    | inl y ↦
        let places = places_of e own in
        let one = ap length (crafts-of read named d J p) in
        let two = ap length (crafts-of read named e L q) in
        let some = p.valid.run.length.0 in
        let more = q.valid.run.length.0 in
        let cd = cycles-of read named d J p in
        let ce = cycles-of read named e L q in
        legs-determined d own places (omega (arith, h, one)) some (places-long e own ∙ ce ∙ sym cd)
        (λ k low high. same own k h low (omega (arith, high, cd)) ∙ places-at e own k low (omega (arith, high, cd, ce)))
        (subst (λ c. AreNeeded own c at_rest 0 (legs_of d own)) (sym cd) (p.differs.needed own h y))
        ∙ sym (legs-determined e own places (omega (arith, h, two)) more (places-long e own) (places-at e own) (subst (λ c. AreNeeded own c at_rest 0 (legs_of e own)) (sym ce) (q.differs.needed own h y)))
    | inr n ↦ p.differs.others own h n ∙ sym (q.differs.others own h n)
  ]
  | inr h ↦
      let one = ap length (crafts-of read named d J p) in
      let two = ap length (crafts-of read named e L q) in
      none-past d.legs own (length d.crafts) (omega (arith, h, one)) (λ k l g. (p.valid.records.legs.0 k l g).craft)
      ∙ sym (none-past e.legs own (length e.crafts) (omega (arith, h, two)) (λ k l g. (q.valid.records.legs.0 k l g).craft))
]

pub one-at-most : (read : Parts) (named : List ℕ) (d e : Parts) → Follows read named d → Follows read named e → d ≡ e
one-at-most read named d e one two =
    let p = one.played in
    let q = two.played in
    let same = same-to read named d e one.journal two.journal read.cycles p q one.places two.places (omega arith) in
    let legs : d.legs ≡ e.legs =
    same-legs d.legs e.legs p.valid.records.legs.1 q.valid.records.legs.1 (same-legs-of read named d e one.journal two.journal p q same) in
    let from : (l : List Leg) → Parts = λ l. record read { legs = l } in
    p.differs.only_legs ∙ ap from legs ∙ sym q.differs.only_legs

-- ---- within the limits

carries : (rate : Leg → ℤ) (legs : List Leg) (start : ℤ) (n : ℕ) → (start +ℤ carried rate legs (suc n)) -ℤ (start +ℤ carried rate legs n) ≡ rate_in rate legs (suc n)
unfolding carried
carries rate legs start n = step start (carried rate legs n) (rate_in rate legs (suc n)) where
  step : (from earlier more : ℤ) → (from +ℤ (earlier +ℤ more)) -ℤ (from +ℤ earlier) ≡ more
  step from earlier more = omega (arith, ints)

within-some : (rate : Leg → ℤ) (size : ℕ) (leg : Option Leg) → IfSome leg (λ l. IsWithin size (rate l)) → IsWithin size (option_map_or rate leg (pos 0))
within-some rate size None h = (omega (arith, ints), omega (arith, ints))
within-some rate size (Some leg) h = h

rate-within : (rate : Leg → ℤ) (size : ℕ) (legs : List Leg) (cycle : ℕ) → All (λ l. IsWithin size (rate l)) legs → IsWithin size (rate_in rate legs cycle)
unfolding rate_in
rate-within rate size legs cycle all = within-some rate size (leg_in legs cycle) (leg-has (λ (leg : Leg). IsWithin size (rate leg)) legs cycle all)

moves-within : (rate : Leg → ℤ) (size : ℕ) (legs : List Leg) (start : ℤ) (n : ℕ) → All (λ l. IsWithin size (rate l)) legs → IsWithin size ((start +ℤ carried rate legs (suc n)) -ℤ (start +ℤ carried rate legs n))
moves-within rate size legs start n all = subst (IsWithin size) (sym (carries rate legs start n)) (rate-within rate size legs (suc n) all)

own-rates : (e : Parts) (own : ℕ) → IsEncounter e → All AreRates (legs_of e own)
own-rates e own is = All-filter (λ (leg : Leg). leg.craft == own) AreRates e.legs (λ k d h. (is.records.legs.0 k d h).rates)

course-rates : (start : Place) (legs : List Leg) (n : ℕ) → All AreRates legs → AreLegRates (change (place_in start legs (suc n)) (place_in start legs (suc (suc n))))
course-rates start legs n all =
    let back : suc n - 1 ≡ n = omega arith in
    let next : suc (suc n) - 1 ≡ suc n = omega arith in
    rw (back, next) (record {
      vx = moves-within (λ (leg : Leg). leg.vx) 2000 legs start.x n (λ k d h. (all k d h).vx);
      vy = moves-within (λ (leg : Leg). leg.vy) 2000 legs start.y n (λ k d h. (all k d h).vy);
      vz = moves-within (λ (leg : Leg). leg.vz) 10000 legs start.z n (λ k d h. (all k d h).vz);
    })

-- An encounter inside the box goes on within the limits.
pub can-fly : (e : Parts) → IsEncounter e → IsInside e → (own cycle : ℕ) → own < length e.crafts → 2 ≤ cycle → cycle ≤ e.cycles → CanGoOn (position e own (cycle - 1)) (position e own cycle)
can-fly e is inside own zero h begun within = absurd (omega arith)
can-fly e is inside own (suc zero) h begun within = absurd (omega arith)
can-fly e is inside own (suc (suc n)) h begun within =
    let back : suc (suc n) - 1 ≡ suc n = omega arith in
    let start = start_of (get_or e.crafts own any-craft) in
    let rates : AreLegRates (change (position e own (suc n)) (position e own (suc (suc n)))) =
    rw (← position-at e own (suc n) h, ← position-at e own (suc (suc n)) h) (course-rates start (legs_of e own) n (own-rates e own is)) in
    rw back (record { boxed = inside own (suc (suc n)) h (omega arith) within; rates = rates })

-- ---- where there is none

-- Where an aircraft of one can go on, so can that of the other.
can-carry : (read : Parts) (named : List ℕ) (d e : Parts) (J L : List Entry) (cycle : ℕ) → IsPlayed read named d J → IsPlayed read named e L → FollowsTo read named d J (cycle - 1) → FollowsTo read named e L (cycle - 1)
    → 2 ≤ cycle → cycle ≤ read.cycles → (own : ℕ) → own < length read.crafts
    → CanGoOn (position e own (cycle - 1)) (aim read named L own cycle) → CanGoOn (position d own (cycle - 1)) (aim read named J own cycle)
can-carry read named d e J L cycle p q one two begun within own h can =
    let same = same-to read named d e J L (cycle - 1) p q one two (omega arith) in
    let here = same own (cycle - 1) h (omega arith) (omega arith) in
    let there = same-aims read named d e J L (cycle - 1) p q same own cycle (omega arith) (omega arith) within in
    subst (λ (t : Place). CanGoOn t (aim read named J own cycle)) (sym here) (subst (λ (t : Place). CanGoOn (position e own (cycle - 1)) t) (sym there) can)

-- An encounter that follows up to a cycle gets there within the limits.
can-go : (read : Parts) (named : List ℕ) (d e : Parts) (J L : List Entry) (cycle last : ℕ) → IsPlayed read named d J → IsPlayed read named e L → FollowsTo read named d J (cycle - 1) → FollowsTo read named e L last
    → 2 ≤ cycle → cycle ≤ last → last ≤ read.cycles → (own : ℕ) → own < length read.crafts → CanGoOn (position d own (cycle - 1)) (aim read named J own cycle)
can-go read named d e J L cycle last p q one two begun within all own h =
    let long = ap length (crafts-of read named e L q) in
    let cycles = cycles-of read named e L q in
    can-carry read named d e J L cycle p q one (λ i k g a b. two i k g a (omega (arith, b, within, begun))) begun (omega arith) own h
    (subst (λ (t : Place). CanGoOn (position e own (cycle - 1)) t) (two own cycle h (omega arith) within) (can-fly e q.valid q.inside own cycle (omega (arith, h, long)) begun (omega (arith, within, all, cycles))))

pub none-there : (read : Parts) (named : List ℕ) (own cycle : ℕ) (w : Parts) → Leaves read named own cycle → Follows read named w → ⊥
none-there read named own cycle w l f =
    l.leaves (can-go read named l.written w l.journal f.journal cycle read.cycles l.played f.played l.places f.places l.begun l.in_run (omega arith) own l.craft)

not-earlier : (read : Parts) (named : List ℕ) (own cycle other later : ℕ) → Leaves read named own cycle → Leaves read named other later → cycle < later → ⊥
not-earlier read named own cycle other later l m less =
    let within = m.in_run in
    l.leaves (can-go read named l.written m.written l.journal m.journal cycle (later - 1) l.played m.played l.places m.places l.begun (omega arith) (omega arith) own l.craft)

not-lower : (read : Parts) (named : List ℕ) (own other cycle : ℕ) → Leaves read named own cycle → Leaves read named other cycle → own < other → ⊥
not-lower read named own other cycle l m less =
    l.leaves (can-carry read named l.written m.written l.journal m.journal cycle l.played m.played l.places m.places l.begun l.in_run own l.craft (m.lower own less))

neither-less : (a b : ℕ) → (a < b → ⊥) → (b < a → ⊥) → a ≡ b
neither-less a b f g = elim (cases_lt a b) [
  | inl h ↦ absurd (f h)
  | inr h ↦ elim (cases_lt b a) [ inl k ↦ absurd (g k) | inr k ↦ omega arith ]
]

pub once-only : (read : Parts) (named : List ℕ) (own cycle other later : ℕ) → Leaves read named own cycle → Leaves read named other later → (own ≡ other) × (cycle ≡ later)
once-only read named own cycle other later l m =
    let same : cycle ≡ later = neither-less cycle later (not-earlier read named own cycle other later l m) (not-earlier read named other later own cycle m l) in
    let n : Leaves read named other cycle = subst (λ c. Leaves read named other c) (sym same) m in
    (neither-less own other (not-lower read named own other cycle l n) (not-lower read named other own cycle n l), same)
