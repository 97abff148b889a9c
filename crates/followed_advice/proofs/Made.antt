-- An encounter whose named aircraft fly through what is kept of their rows.
use Rattle.std.proofs.Common.{◌≡◌, ℕ, zero, suc, ◌+◌, ◌<◌, ◌≤◌, Bool, true, false, List, [], ◌∷◌, ◌++◌, length, get_or, refl, sym, ap, ◌∙◌, subst, arith, inl, inr, eqb-true, add-one, append_assoc}
use Rattle.std.specs.Prelude.{All, filter, ◌==◌}
use Rattle.std.specs.List.{flat_map, range_with_len}
use Rattle.std.proofs.lemmas.Bool.{cases_Bool, cases_eq, cond-false, cond-true, cond_both, eq-eqb, ne_eqb}
use Rattle.std.proofs.lemmas.List.{append-nil}
use Rattle.std.proofs.lemmas.List.Elements.{All-append, All-filter, All-nil, filter-append, filter_passes}
use Rattle.acas_base.specs.Encounter.{AreListed, IsEncounter, IsLeg, Parts, encounter_of, setting_of}
use Rattle.acas_base.specs.Order.{leg_below}
use Rattle.acas_base.specs.declared.craft.CraftSpec.{CraftSpec}
use Rattle.acas_base.specs.declared.craft.Leg.{Leg}
use Rattle.acas_base.specs.declared.craft.Miss.{Miss}
use Rattle.acas_base.specs.declared.label.Call.{Call}
use Rattle.acas_base.specs.declared.link.Fate.{Fate}
use Rattle.acas_base.specs.declared.link.LinkPlan.{LinkPlan}
use Rattle.acas_base.specs.declared.setting.Setting.{Setting}
use Rattle.flight.proofs.Courses.{course-of}
use Rattle.flight.specs.Flight.{legs_of, place_in, position, start_of}
use Rattle.flight.specs.Inside.{IsInBox, IsInside}
use Rattle.flight.specs.declared.place.Place.{Place}
use Rattle.followed_advice.proofs.Keeping.{kept-at, kept-boxed, kept-first, kept-flyable, kept-long}
use Rattle.followed_advice.specs.Following.{is_named}
use Rattle.followed_advice.specs.Keeping.{AreRows, BeginThere, FliesKept, all_legs, kept, kept_row, legs_along}
use Rattle.leg_rows.proofs.OneFlight.{any-craft, position-at, starts-at}
use Rattle.leg_rows.proofs.Through.{needed, through}
use Rattle.leg_rows.proofs.Together.{Rises, filter-nothing, filter-whole, later-cycle, rises-append, rises-behind, rises-needed, rising, through-fits, through-own}
use Rattle.leg_rows.specs.Rows.{AreNeeded, at_rest, legs_through, place_of}

-- ---- legs of all aircraft, one after the other

abbrev AreOf : ℕ → List Leg → Type 0
AreOf own legs = All (λ (leg : Leg). leg.craft ≡ own) legs

abbrev pub all-of : (ℕ → List Leg) → ℕ → ℕ → List Leg
all-of f first n = flat_map f (range_with_len first n)

-- Those of one aircraft more.
pub all-more : (f : ℕ → List Leg) (first n last : ℕ) → first + n ≡ last → all-of f first (n + 1) ≡ all-of f first n ++ f last
all-more f first n last is = ap (λ (k : ℕ). all-of f first k) (add-one n) ∙ by_suc f first n ∙ ap (λ k. all-of f first n ++ f k) is
  where
    by_suc : (f : ℕ → List Leg) (first n : ℕ) → all-of f first (suc n) ≡ all-of f first n ++ f (first + n)
    by_suc f first zero = append-nil (f first) ∙ ap f (omega arith)
    by_suc f first (suc n) =
        let next : (first + 1) + n ≡ first + suc n = omega arith in
        ap (λ xs. f first ++ xs) (by_suc f (first + 1) n ∙ ap (λ k. all-of f (first + 1) n ++ f k) next) ∙ sym (append_assoc (f first) (all-of f (first + 1) n) (f (first + suc n)))

all-behind : (f : ℕ → List Leg) (first n : ℕ) → ((own : ℕ) → own < first + n → AreOf own (f own)) → All (λ (leg : Leg). first ≤ leg.craft) (all-of f first n)
all-behind f first zero each = All-nil (λ (leg : Leg). first ≤ leg.craft)
all-behind f first (suc n) each =
    let rest = all-behind f (first + 1) n (λ own h. each own (omega arith)) in
    All-append (λ (leg : Leg). first ≤ leg.craft) (f first) (all-of f (first + 1) n)
    (λ k d h. omega (arith, each first (omega arith) k d h)) (λ k d h. omega (arith, rest k d h))

all-rises : (f : ℕ → List Leg) (first n : ℕ) → ((own : ℕ) → own < first + n → AreOf own (f own)) → ((own : ℕ) → own < first + n → Rises own 0 (f own)) → Rises first 0 (all-of f first n)
all-rises f first zero each rises = tt
all-rises f first (suc n) each rises =
    let rest = all-rises f (first + 1) n (λ own h. each own (omega arith)) (λ own h. rises own (omega arith)) in
    rises-append first 0 (f first) (all-of f (first + 1) n) (each first (omega arith)) (rises first (omega arith))
    (λ from. rises-behind first from (first + 1) 0 (all-of f (first + 1) n) (omega arith) rest)

all-fit : (P : Leg → Type 0) (f : ℕ → List Leg) (first n : ℕ) → ((own : ℕ) → own < first + n → All P (f own)) → All P (all-of f first n)
all-fit P f first zero each = All-nil P
all-fit P f first (suc n) each = All-append P (f first) (all-of f (first + 1) n) (each first (omega arith)) (all-fit P f (first + 1) n (λ own h. each own (omega arith)))

none-other : (own other : ℕ) (legs : List Leg) → AreOf other legs → own < other → filter (λ (leg : Leg). leg.craft == own) legs ≡ []
none-other own other legs are less = filter-nothing (λ (leg : Leg). leg.craft == own) legs (λ k d h. ne_eqb (get_or legs k d).craft own (λ e. omega (arith, e, less, are k d h)))

of-one : (f : ℕ → List Leg) (first n own : ℕ) → ((i : ℕ) → i < first + n → AreOf i (f i)) → first ≤ own → own < first + n → filter (λ (leg : Leg). leg.craft == own) (all-of f first n) ≡ f own
of-one f first zero own each low high = absurd (omega arith)
of-one f first (suc n) own each low high =
    let test : Leg → Bool = λ leg. leg.craft == own in
    let rest = all-of f (first + 1) n in
    filter-append test (f first) rest ∙ elim (cases_eq first own) [
      | inl e ↦
          let here : filter test (f first) ≡ f first = filter-whole test (f first) (λ k d h. eq-eqb (get_or (f first) k d).craft own (each first (omega arith) k d h ∙ e)) in
          let behind = all-behind f (first + 1) n (λ i h. each i (omega arith)) in
          let none : filter test rest ≡ [] = filter-nothing test rest (λ k d h. ne_eqb (get_or rest k d).craft own (λ g. omega (arith, g, e, behind k d h))) in
          rw (here, none) (append-nil (f first) ∙ ap f e)
      | inr ne ↦
          let none : filter test (f first) ≡ [] = filter-nothing test (f first) (λ k d h. ne_eqb (get_or (f first) k d).craft own (λ g. ne (sym (each first (omega arith) k d h) ∙ g))) in
          rw none (of-one f (first + 1) n own (λ i h. each i (omega arith)) (differs first own low ne) (omega arith))
    ]
  where
    differs : (a b : ℕ) → a ≤ b → (a ≡ b → ⊥) → a + 1 ≤ b
    differs a b low ne = elim (cases_eq a b) [ inl e ↦ absurd (ne e) | inr g ↦ omega (arith, low, g) ]

-- ---- the legs of one aircraft

own-legs : (legs : List Leg) (own : ℕ) → AreOf own (filter (λ (leg : Leg). leg.craft == own) legs)
own-legs legs own k d h = eqb-true (get_or (filter (λ (leg : Leg). leg.craft == own) legs) k d).craft own (filter_passes (λ (leg : Leg). leg.craft == own) legs k d h)

course-rises : (own after : ℕ) (legs : List Leg) → AreOf own legs → ((i j : ℕ) (d : Leg) → i < j → j < length legs → (get_or legs i d).from < (get_or legs j d).from)
    → ((d : Leg) → 0 < length legs → after < (get_or legs 0 d).from) → Rises own after legs
course-rises own after [] are rise first = tt
course-rises own after (x ∷ xs) are rise first =
    let same : x.craft ≡ own = are 0 x (omega arith) in (
      later-cycle own after x.craft x.from (sym same) (first x (omega arith)),
      subst (λ c. Rises c x.from xs) (sym same) (course-rises own x.from xs (λ k d h. are (suc k) d (omega arith)) (λ i j d a b. rise (suc i) (suc j) d (omega arith) (omega arith)) (λ d h. rise 0 1 d (omega arith) (omega arith))),
    )

-- What all that follows is given.
record IsGiven (read : Parts) (rows : List (List Place)) : Type 0 where
  pub valid : IsEncounter read
  pub inside : IsInside read
  pub are : AreRows read rows
  pub start : BeginThere read rows

abbrev row-of : List (List Place) → ℕ → List Place
row-of rows own = get_or rows own []

-- By whether it is named.
by-named : (read : Parts) (named : List ℕ) (rows : List (List Place)) (own : ℕ) (P : List Leg → Type 0) → P (legs_through own (kept_row (row-of rows own))) → P (legs_of read own) → P (legs_along read named rows own)
by-named read named rows own P one two = cond_both (is_named named own) (legs_through own (kept_row (row-of rows own))) (legs_of read own) P (λ _. one) (λ _. two)

along-own : (read : Parts) (named : List ℕ) (rows : List (List Place)) (own : ℕ) → AreOf own (legs_along read named rows own)
along-own read named rows own = by-named read named rows own (AreOf own) (through-own own (kept_row (row-of rows own))) (own-legs read.legs own)

along-rises : (read : Parts) (named : List ℕ) (rows : List (List Place)) (own : ℕ) → IsGiven read rows → Rises own 0 (legs_along read named rows own)
along-rises read named rows own given =
    let row = kept_row (row-of rows own) in
    let course = course-of read.legs (length read.crafts) own given.valid.records.legs.1 given.valid.records.legs.0 in
    by-named read named rows own (Rises own 0) (rises-needed own (length row) at_rest 0 (legs_through own row) (needed own row))
    (course-rises own 0 (legs_of read own) (own-legs read.legs own) course.rising (λ d h. let from = course.from 0 d h in omega (arith, from.0)))

along-fits : (read : Parts) (named : List ℕ) (rows : List (List Place)) (own : ℕ) → IsGiven read rows → own < length read.crafts → All (IsLeg (length read.crafts)) (legs_along read named rows own)
along-fits read named rows own given within =
    let row = row-of rows own in
    let long = given.are.long own within in
    let kept_long = kept-long row in
    let most = given.valid.run.length.1 in
    by-named read named rows own (All (IsLeg (length read.crafts))) (through-fits (length read.crafts) own (kept_row row) within (omega (arith, long, kept_long, most)) (kept-flyable row))
    (All-filter (λ (leg : Leg). leg.craft == own) (IsLeg (length read.crafts)) read.legs given.valid.records.legs.0)

-- ---- the encounter

abbrev pub made-of : Parts → List ℕ → List (List Place) → Parts
made-of read named rows = record read { legs = all_legs read named rows }

listed : (read : Parts) (named : List ℕ) (rows : List (List Place)) → IsGiven read rows → AreListed IsLeg leg_below (length read.crafts) (all_legs read named rows)
unfolding all_legs
listed read named rows given =
    let f = legs_along read named rows in (
      all-fit (IsLeg (length read.crafts)) f 0 (length read.crafts) (λ own h. along-fits read named rows own given (omega (arith, h))),
      rising 0 0 (all-of f 0 (length read.crafts)) (all-rises f 0 (length read.crafts) (λ own h. along-own read named rows own) (λ own h. along-rises read named rows own given)),
    )

made-legs : (read : Parts) (named : List ℕ) (rows : List (List Place)) (own : ℕ) → own < length read.crafts → legs_of (made-of read named rows) own ≡ legs_along read named rows own
unfolding all_legs
made-legs read named rows own within = of-one (legs_along read named rows) 0 (length read.crafts) own (λ i h. along-own read named rows i) (omega arith) (omega arith)

pub made-valid : (read : Parts) (named : List ℕ) (rows : List (List Place)) → IsEncounter read → IsInside read → AreRows read rows → BeginThere read rows → IsEncounter (made-of read named rows)
made-valid read named rows valid inside are start = record {
  run = valid.run;
  range = valid.range;
  altitude = valid.altitude;
  crafts = valid.crafts;
  format = valid.format;
  older = λ early. let h = valid.older early in record { profile = h.profile; name = h.name; clock = h.clock; calls = h.calls };
  labels = valid.labels;
  records = record {
    legs = listed read named rows (record { valid = valid; inside = inside; are = are; start = start });
    misses = valid.records.misses;
    plans = valid.records.plans;
    fates = valid.records.fates;
  };
}

legs-named : (read : Parts) (named : List ℕ) (rows : List (List Place)) (own : ℕ) → own < length read.crafts → is_named named own ≡ true → legs_of (made-of read named rows) own ≡ legs_through own (kept_row (row-of rows own))
legs-named read named rows own within y = made-legs read named rows own within ∙ cond-true (is_named named own) (legs_through own (kept_row (row-of rows own))) (legs_of read own) y

legs-other : (read : Parts) (named : List ℕ) (rows : List (List Place)) (own : ℕ) → own < length read.crafts → is_named named own ≡ false → legs_of (made-of read named rows) own ≡ legs_of read own
legs-other read named rows own within n = made-legs read named rows own within ∙ cond-false (is_named named own) (legs_through own (kept_row (row-of rows own))) (legs_of read own) n

place-named : (read : Parts) (named : List ℕ) (rows : List (List Place)) (own cycle : ℕ) → IsGiven read rows → own < length read.crafts → is_named named own ≡ true → 1 ≤ cycle → cycle ≤ read.cycles
    → position (made-of read named rows) own cycle ≡ kept (row-of rows own) cycle
place-named read named rows own cycle given within y low high =
    let made = made-of read named rows in
    let row = row-of rows own in
    let long : length row ≡ read.cycles = given.are.long own within in
    let kept_long = kept-long row in
    let start : start_of (get_or read.crafts own any-craft) ≡ place_of (kept_row row) 1 =
    starts-at read own within ∙ sym (given.start own within) ∙ sym (kept-first row) ∙ sym (kept-at row 1 (omega arith) (omega (arith, long, low, high))) in
    sym (position-at made own cycle within)
    ∙ ap (λ s. place_in s (legs_of made own) cycle) start
    ∙ ap (λ l. place_in (place_of (kept_row row) 1) l cycle) (legs-named read named rows own within y)
    ∙ through own (kept_row row) cycle low (omega (arith, high, long, kept_long))
    ∙ kept-at row cycle low (omega (arith, high, long))

place-other : (read : Parts) (named : List ℕ) (rows : List (List Place)) (own cycle : ℕ) → own < length read.crafts → is_named named own ≡ false → position (made-of read named rows) own cycle ≡ position read own cycle
place-other read named rows own cycle within n =
    sym (position-at (made-of read named rows) own cycle within)
    ∙ ap (λ l. place_in (start_of (get_or read.crafts own any-craft)) l cycle) (legs-other read named rows own within n)
    ∙ position-at read own cycle within

pub flies-kept : (read : Parts) (named : List ℕ) (rows : List (List Place)) → IsEncounter read → IsInside read → AreRows read rows → BeginThere read rows → FliesKept read named rows (made-of read named rows)
flies-kept read named rows valid inside are start =
    let given : IsGiven read rows = record { valid = valid; inside = inside; are = are; start = start } in
    record {
      valid = made-valid read named rows valid inside are start;
      inside = λ own cycle within low high. elim (cases_Bool (is_named named own)) [
        | inl y ↦
            let box : IsInBox (place_of (row-of rows own) 1) = subst IsInBox (sym (start own within)) (inside own 1 within (omega arith) valid.run.length.0) in
            subst IsInBox (sym (place-named read named rows own cycle given within y low high)) (kept-boxed (row-of rows own) cycle box)
        | inr n ↦ subst IsInBox (sym (place-other read named rows own cycle within n)) (inside own cycle within low high)
      ];
      differs = record {
        only_legs = refl;
        others = λ own within n. legs-other read named rows own within n;
        needed = λ own within y.
            let row = kept_row (row-of rows own) in
            let long : length row ≡ read.cycles = kept-long (row-of rows own) ∙ are.long own within in
            subst (λ l. AreNeeded own read.cycles at_rest 0 l) (sym (legs-named read named rows own within y)) (subst (λ c. AreNeeded own c at_rest 0 (legs_through own row)) long (needed own row));
      };
      places = λ own cycle within y low high. place-named read named rows own cycle given within y low high;
    }

-- The parts of which the encounter is made.
pub parts-are : (e : Parts) (named : List ℕ) (rows : List (List Place)) (setting : Setting) (calls : List Call) (crafts : List CraftSpec) (legs : List Leg)
    (misses : List Miss) (plans : List LinkPlan) (fates : List Fate)
    → setting ≡ setting_of e → calls ≡ e.calls → crafts ≡ e.crafts → legs ≡ all_legs e named rows → misses ≡ e.misses → plans ≡ e.plans → fates ≡ e.fates
    → encounter_of setting calls crafts legs misses plans fates ≡ made-of e named rows
parts-are e named rows setting calls crafts legs misses plans fates a b c d f g h = rw (a, b, c, d, f, g, h) refl
