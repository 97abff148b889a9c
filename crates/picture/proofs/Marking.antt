-- Which marks of the labels are drawn, and how many.
use Rattle.std.proofs.Common.{◌≡◌, ◌≢◌, ℕ, zero, suc, ◌+◌, ◌-◌, ◌*◌, ◌<◌, ◌≤◌, Bool, true, false, not, ◌||◌, eqb, List, [], ◌∷◌, ◌++◌, Option, Some, None, add-one, eq-eqb, length, length-append, ne_eqb, refl, sym, ap, ◌∙◌, subst, arith, inl, inr}
use Rattle.std.proofs.lemmas.Bool.{and_from, and_parts, cases_Bool, cases_eq, cond-false, cond-true, le-leb, leb-true, ltb-false}
use Rattle.std.proofs.lemmas.Grind.{flat_map-append}
use Rattle.std.proofs.lemmas.List.Elements.{filter-append}
use Rattle.std.specs.Prelude.{filter, nat_le, nat_lt, option_to_list}
use Rattle.std.specs.List.{AllByRecursion, flat_map}
use Rattle.labels.specs.Labels.{LabelWords}
use Rattle.page_marks.proofs.Bounded.{all-append}
use Rattle.picture.specs.Laws.{AreBeside, AreMarked, ArePlaced, is_at}
use Rattle.picture.specs.Marked.{IsMarked, all_marked, count_among, counted, is_from, mark_cycle, marked, marked_among, marked_at}
use Rattle.picture.specs.MarkedDrawn.{are_beside, has_letter, is_over, is_over_some, letter_of, letter_x}
use Rattle.picture.specs.declared.marked.Marked.{Marked}
use Rattle.plot_axes.specs.Time.{begin_of}
use Rattle.svg_text.specs.Marks.{Mark}

-- ---- one place more

pub among-none : (it : LabelWords) (cycles : ℕ) → marked_among it cycles 0 ≡ []
unfolding marked_among
among-none it cycles = refl

among-suc : (it : LabelWords) (cycles n : ℕ) → marked_among it cycles (suc n) ≡ marked_among it cycles n ++ option_to_list (marked_at it cycles n)
unfolding marked_among
among-suc it cycles n = refl

-- What is drawn for the marks of one place more.
pub drawn-none : (f : Marked → List Mark) (it : LabelWords) (cycles : ℕ) → flat_map f (marked_among it cycles 0) ≡ []
drawn-none f it cycles = ap (flat_map f) (among-none it cycles)

pub drawn-more : (f : Marked → List Mark) (it : LabelWords) (cycles n : ℕ) → flat_map f (marked_among it cycles n) ++ flat_map f (option_to_list (marked_at it cycles n)) ≡ flat_map f (marked_among it cycles (n + 1))
drawn-more f it cycles n =
    sym (ap (λ (k : ℕ). flat_map f (marked_among it cycles k)) (add-one n) ∙ ap (flat_map f) (among-suc it cycles n) ∙ flat_map-append f (marked_among it cycles n) (option_to_list (marked_at it cycles n)))

pub count-none : (it : LabelWords) (first last : ℕ) → count_among it first last 0 ≡ 0
unfolding count_among
count-none it first last = refl

count-suc : (it : LabelWords) (first last n : ℕ) → count_among it first last (suc n) ≡ counted (is_from first last (mark_cycle it n)) (count_among it first last n)
unfolding count_among
count-suc it first last n = refl

pub count-more : (it : LabelWords) (first last n : ℕ) → count_among it first last (n + 1) ≡ counted (is_from first last (mark_cycle it n)) (count_among it first last n)
count-more it first last n = ap (count_among it first last) (add-one n) ∙ count-suc it first last n

-- ---- how many there are

counted-most : (more : Bool) (count : ℕ) → counted more count ≤ count + 1
counted-most true count = omega arith
counted-most false count = omega arith

counted-least : (more : Bool) (count : ℕ) → count ≤ counted more count
counted-least true count = omega arith
counted-least false count = omega arith

pub count-most : (it : LabelWords) (first last n : ℕ) → count_among it first last n ≤ n
count-most it first last zero = subst (λ (k : ℕ). k ≤ 0) (sym (count-none it first last)) (omega arith)
count-most it first last (suc n) =
    let most = counted-most (is_from first last (mark_cycle it n)) (count_among it first last n) in
    let before = count-most it first last n in
    subst (λ (k : ℕ). k ≤ suc n) (sym (count-suc it first last n)) (omega (arith, most, before))

-- A mark that is counted stands after fewer than all.
pub count-below : (it : LabelWords) (first last place n : ℕ) → place < n → is_from first last (mark_cycle it place) ≡ true → count_among it first last place + 1 ≤ count_among it first last n
count-below it first last place zero within met = absurd (omega arith)
count-below it first last place (suc n) within met =
    let here = count_among it first last place in
    let step = sym (count-suc it first last n) in
    elim (cases_eq place n) [
      | inl same ↦
          (let next : counted (is_from first last (mark_cycle it n)) (count_among it first last n) ≡ here + 1 =
          (ap (λ (k : ℕ). counted (is_from first last (mark_cycle it k)) (count_among it first last k)) (sym same) ∙ ap (λ (b : Bool). counted b here) met) in
          subst (λ (k : ℕ). here + 1 ≤ k) step (omega (arith, next)))
      | inr other ↦
          (let before = count-below it first last place n (omega (arith, other)) met in
          let least = counted-least (is_from first last (mark_cycle it n)) (count_among it first last n) in
          subst (λ (k : ℕ). here + 1 ≤ k) step (omega (arith, before, least)))
    ]

-- ---- which ones there are

marked-is : (it : LabelWords) (cycles n : ℕ) → is_from 1 cycles (mark_cycle it n) ≡ true → marked_at it cycles n ≡ Some (marked n (mark_cycle it n))
unfolding marked_at
marked-is it cycles n met = cond-true (is_from 1 cycles (mark_cycle it n)) (Some (marked n (mark_cycle it n))) None met

marked-no : (it : LabelWords) (cycles n : ℕ) → is_from 1 cycles (mark_cycle it n) ≡ false → marked_at it cycles n ≡ None
unfolding marked_at
marked-no it cycles n unmet = cond-false (is_from 1 cycles (mark_cycle it n)) (Some (marked n (mark_cycle it n))) None unmet

-- What holds of the mark at a place, where it is drawn.
at-place : (P : Marked → Type 0) (it : LabelWords) (cycles n : ℕ) → (is_from 1 cycles (mark_cycle it n) ≡ true → P (marked n (mark_cycle it n))) → AllByRecursion P (option_to_list (marked_at it cycles n))
at-place P it cycles n holds = elim (cases_Bool (is_from 1 cycles (mark_cycle it n))) [
  | inl met ↦ subst (λ (o : Option Marked). AllByRecursion P (option_to_list o)) (sym (marked-is it cycles n met)) (holds met, tt)
  | inr unmet ↦ subst (λ (o : Option Marked). AllByRecursion P (option_to_list o)) (sym (marked-no it cycles n unmet)) tt
]

pub is-marked : (it : LabelWords) (cycles n : ℕ) → n < length it.marks → is_from 1 cycles (mark_cycle it n) ≡ true → IsMarked it cycles (marked n (mark_cycle it n))
is-marked it cycles n there met =
    let both = and_parts (nat_le 1 (mark_cycle it n)) (nat_le (mark_cycle it n) cycles) met in
    record { there = there; cycle = refl; begun = leb-true 1 (mark_cycle it n) both.0; in_run = leb-true (mark_cycle it n) cycles both.1 }

pub each-marked : (it : LabelWords) (cycles n : ℕ) → n ≤ length it.marks → AllByRecursion (IsMarked it cycles) (marked_among it cycles n)
each-marked it cycles zero few = subst (AllByRecursion (IsMarked it cycles)) (sym (among-none it cycles)) tt
each-marked it cycles (suc n) few =
    subst (AllByRecursion (IsMarked it cycles)) (sym (among-suc it cycles n))
    (all-append (IsMarked it cycles) (marked_among it cycles n) (option_to_list (marked_at it cycles n)) (each-marked it cycles n (omega arith)) (at-place (IsMarked it cycles) it cycles n (is-marked it cycles n (omega arith))))

-- A mark that is drawn is counted.
pub is-counted : (it : LabelWords) (cycles : ℕ) (m : Marked) → IsMarked it cycles m → is_from 1 cycles (mark_cycle it m.place) ≡ true
is-counted it cycles m is =
    let begun = le-leb 1 m.cycle is.begun in
    let run = le-leb m.cycle cycles is.in_run in
    subst (λ (k : ℕ). is_from 1 cycles k ≡ true) is.cycle (and_from (nat_le 1 m.cycle) (nat_le m.cycle cycles) begun run)

-- ---- in which order

abbrev IsBelow : ℕ → Marked → Type 0
IsBelow n m = m.place < n

still-below : (n : ℕ) (xs : List Marked) → AllByRecursion (IsBelow n) xs → AllByRecursion (IsBelow (suc n)) xs
still-below n [] below = tt
still-below n (m ∷ xs) below = ((let one = below.0 in omega (arith, one)), still-below n xs below.1)

places-below : (it : LabelWords) (cycles n : ℕ) → AllByRecursion (IsBelow n) (marked_among it cycles n)
places-below it cycles zero = subst (AllByRecursion (IsBelow 0)) (sym (among-none it cycles)) tt
places-below it cycles (suc n) =
    subst (AllByRecursion (IsBelow (suc n))) (sym (among-suc it cycles n))
    (all-append (IsBelow (suc n)) (marked_among it cycles n) (option_to_list (marked_at it cycles n)) (still-below n (marked_among it cycles n) (places-below it cycles n)) (at-place (IsBelow (suc n)) it cycles n (λ met. omega arith)))

placed-at : (it : LabelWords) (cycles from n : ℕ) → from ≤ n → ArePlaced from (option_to_list (marked_at it cycles n))
placed-at it cycles from n low = elim (cases_Bool (is_from 1 cycles (mark_cycle it n))) [
  | inl met ↦ subst (λ (o : Option Marked). ArePlaced from (option_to_list o)) (sym (marked-is it cycles n met)) (low, tt)
  | inr unmet ↦ subst (λ (o : Option Marked). ArePlaced from (option_to_list o)) (sym (marked-no it cycles n unmet)) tt
]

placed-more : (it : LabelWords) (cycles from n : ℕ) (xs : List Marked) → ArePlaced from xs → AllByRecursion (IsBelow n) xs → from ≤ n → ArePlaced from (xs ++ option_to_list (marked_at it cycles n))
placed-more it cycles from n [] placed below low = placed-at it cycles from n low
placed-more it cycles from n (m ∷ xs) placed below low = (placed.0, placed-more it cycles (m.place + 1) n xs placed.1 below.1 (let one = below.0 in omega (arith, one)))

are-placed : (it : LabelWords) (cycles n : ℕ) → ArePlaced 0 (marked_among it cycles n)
are-placed it cycles zero = subst (ArePlaced 0) (sym (among-none it cycles)) tt
are-placed it cycles (suc n) = subst (ArePlaced 0) (sym (among-suc it cycles n)) (placed-more it cycles 0 n (marked_among it cycles n) (are-placed it cycles n) (places-below it cycles n) (omega arith))

-- ---- how often

abbrev times_at : ℕ → List Marked → ℕ
times_at place marks = length (filter (is_at place) marks)

times-suc : (it : LabelWords) (cycles place n : ℕ) → times_at place (marked_among it cycles (suc n)) ≡ times_at place (marked_among it cycles n) + times_at place (option_to_list (marked_at it cycles n))
times-suc it cycles place n =
    let before = marked_among it cycles n in
    let last = option_to_list (marked_at it cycles n) in
    ap (times_at place) (among-suc it cycles n) ∙ ap length (filter-append (is_at place) before last) ∙ length-append (filter (is_at place) before) (filter (is_at place) last)

times-other : (it : LabelWords) (cycles place n : ℕ) → n ≢ place → times_at place (option_to_list (marked_at it cycles n)) ≡ 0
times-other it cycles place n other =
    let m = marked n (mark_cycle it n) in
    elim (cases_Bool (is_from 1 cycles (mark_cycle it n))) [
      | inl met ↦ ap (λ (o : Option Marked). times_at place (option_to_list o)) (marked-is it cycles n met) ∙ ap length (cond-false (eqb n place) (m ∷ []) [] (ne_eqb n place other))
      | inr unmet ↦ ap (λ (o : Option Marked). times_at place (option_to_list o)) (marked-no it cycles n unmet)
    ]

times-same : (it : LabelWords) (cycles n : ℕ) → is_from 1 cycles (mark_cycle it n) ≡ true → times_at n (option_to_list (marked_at it cycles n)) ≡ 1
times-same it cycles n met =
    let m = marked n (mark_cycle it n) in
    ap (λ (o : Option Marked). times_at n (option_to_list o)) (marked-is it cycles n met) ∙ ap length (cond-true (eqb n n) (m ∷ []) [] (eq-eqb n n refl))

never-yet : (it : LabelWords) (cycles place n : ℕ) → n ≤ place → times_at place (marked_among it cycles n) ≡ 0
never-yet it cycles place zero low = ap (times_at place) (among-none it cycles)
never-yet it cycles place (suc n) low =
    let step = times-suc it cycles place n in
    let before = never-yet it cycles place n (omega arith) in
    let last = times-other it cycles place n (λ same. absurd (omega (arith, same))) in
    step ∙ (omega (arith, before, last))

once-then : (it : LabelWords) (cycles place n : ℕ) → place < n → is_from 1 cycles (mark_cycle it place) ≡ true → times_at place (marked_among it cycles n) ≡ 1
once-then it cycles place zero within met = absurd (omega arith)
once-then it cycles place (suc n) within met =
    let step = times-suc it cycles place n in
    elim (cases_eq place n) [
      | inl same ↦
          (let before = never-yet it cycles place n (omega (arith, same)) in
          let last = subst (λ (k : ℕ). times_at place (option_to_list (marked_at it cycles k)) ≡ 1) same (times-same it cycles place met) in
          step ∙ (omega (arith, before, last)))
      | inr other ↦
          (let before = once-then it cycles place n (omega (arith, other)) met in
          let last = times-other it cycles place n (λ is. other (sym is)) in
          step ∙ (omega (arith, before, last)))
    ]

-- ---- where the letters stand

letters-apart : (x less more : ℕ) → more ≤ 26 → less + 1 ≤ more → AreBeside (letter_x x less) (letter_x x more)
unfolding letter_x
letters-apart x less more few order = elim (cases_Bool (nat_lt x 9900)) [
  | inl met ↦
      (let one = cond-true (nat_lt x 9900) (x + 180 * less) (x - 180 * less) met in
      let other = cond-true (nat_lt x 9900) (x + 180 * more) (x - 180 * more) met in
      inl (omega (arith, one, other)))
  | inr unmet ↦
      (let right = ltb-false x 9900 unmet in
      let one = cond-false (nat_lt x 9900) (x + 180 * less) (x - 180 * less) unmet in
      let other = cond-false (nat_lt x 9900) (x + 180 * more) (x - 180 * more) unmet in
      inr (omega (arith, right, one, other)))
]

are-beside : (it : LabelWords) (cycles : ℕ) (one other : Marked) → IsMarked it cycles one → IsMarked it cycles other → length it.marks ≤ 26 → one.cycle ≡ other.cycle → one.place < other.place → AreBeside (letter_of it cycles one) (letter_of it cycles other)
are-beside it cycles one other is also few same before =
    let c = one.cycle in
    let here = le-leb c c (omega arith) in
    let counts = subst (λ (k : ℕ). is_from c c k ≡ true) is.cycle (and_from (nat_le c c) (nat_le c c) here here) in
    let order = count-below it c c one.place other.place before counts in
    let most = count-most it c c other.place in
    let there = also.there in
    subst (λ (k : ℕ). AreBeside (letter_of it cycles one) (letter_x (begin_of cycles k) (count_among it k k other.place))) same
    (letters-apart (begin_of cycles c) (count_among it c c one.place) (count_among it c c other.place) (omega (arith, most, there, few)) order)

-- A letter that lies over none of the first marks stands beside each of them.
both-false : (a b : Bool) → a || b ≡ false → (a ≡ false) × (b ≡ false)
both-false true b h = absurd (cc h)
both-false false b h = (refl, h)

not-true : (b : Bool) → not b ≡ true → b ≡ false
not-true true h = absurd (cc h)
not-true false h = refl

not-false : (b : Bool) → not b ≡ false → b ≡ true
not-false true h = refl
not-false false h = absurd (cc h)

either-beside : (one other : ℕ) → are_beside one other ≡ true → AreBeside one other
either-beside one other h = elim (cases_Bool (nat_le (one + 180) other)) [
  | inl met ↦ inl (leb-true (one + 180) other met)
  | inr unmet ↦ inr (leb-true (other + 180) one (sym (ap (λ (b : Bool). b || nat_le (other + 180) one) unmet) ∙ h))
]

stands-beside : (it : LabelWords) (cycles at n : ℕ) (one : Marked) → is_over_some it cycles at n ≡ false → marked_at it cycles one.place ≡ Some one → one.place < n → AreBeside (letter_of it cycles one) at
stands-beside it cycles at zero one none there within = absurd (omega arith)
stands-beside it cycles at (suc n) one none there within =
    let both = both-false (is_over_some it cycles at n) (is_over it cycles at (marked_at it cycles n)) none in
    elim (cases_eq one.place n) [
      | inl same ↦
          (let here : marked_at it cycles n ≡ Some one = ap (marked_at it cycles) (sym same) ∙ there in
          let apart : is_over it cycles at (Some one) ≡ false = ap (is_over it cycles at) (sym here) ∙ both.1 in
          either-beside (letter_of it cycles one) at (not-false (are_beside (letter_of it cycles one) at) apart))
      | inr other ↦ stands-beside it cycles at n one both.0 there (omega (arith, other))
    ]

drawn-beside : (it : LabelWords) (cycles : ℕ) (one other : Marked) → IsMarked it cycles one → one.place < other.place → has_letter it cycles other ≡ true → AreBeside (letter_of it cycles one) (letter_of it cycles other)
drawn-beside it cycles one other is before there =
    let at = letter_of it cycles other in
    let found : marked_at it cycles one.place ≡ Some one = marked-is it cycles one.place (is-counted it cycles one is) ∙ ap (λ (k : ℕ). Some (marked one.place k)) (sym is.cycle) in
    stands-beside it cycles at other.place one (not-true (is_over_some it cycles at other.place) there) found before

pub are-marked : (it : LabelWords) (cycles : ℕ) → AreMarked it cycles (all_marked it cycles)
are-marked it cycles = record {
  each = each-marked it cycles (length it.marks) (omega arith);
  in_order = are-placed it cycles (length it.marks);
  once = λ place there begun run. once-then it cycles place (length it.marks) there
      (and_from (nat_le 1 (mark_cycle it place)) (nat_le (mark_cycle it place) cycles) (le-leb 1 (mark_cycle it place) begun) (le-leb (mark_cycle it place) cycles run));
  apart = λ one other is also few same before. are-beside it cycles one other is also few same before;
  drawn = λ one other is before there. drawn-beside it cycles one other is before there;
}
