-- Each commit with equal senses lies in one interval.
use Rattle.std.proofs.Common.{◌≡◌, ◌≢◌, ◌⊎◌, ℕ, zero, suc, ◌+◌, ◌<◌, ◌≤◌, ◌&&◌, Bool, true, false, List, [], ◌∷◌, length, Option, Some, None, is_some, unwrap_or, refl, sym, ap, ◌∙◌, subst, arith, inl, inr, eqb-true}
use Rattle.std.proofs.lemmas.Bool.{and_from, cases_Bool, cases_lt, cond-true}
use Rattle.acas_base.specs.Senses.{has_sense}
use Rattle.acas_base.specs.declared.advisory.Cell.{Cell}
use Rattle.acas_base.specs.declared.advisory.Sense.{Sense}
use Rattle.acas_base.specs.declared.entry.Entry.{Entry}
use Rattle.air_rules.proofs.Beginnings.{begins-length, begins-nested, begins-on, begins-same}
use Rattle.air_rules.proofs.Positions.{chosen}
use Rattle.air_rules.specs.Journal.{Begins, more, whole}
use Rattle.pair_watch.specs.Intervals.{HasAllIntervals, HasCommit, IsCutIntoIntervals, IsInterval, LiesInInterval, NoCommitBetween}
use Rattle.pair_watch.specs.Watching.{begun_sense, equal_sense, is_at, is_pair_commit, last_of, pair_cell, row_began}
use Rattle.pair_watch.proofs.Lasting.{at-is, cell-none, last-skips, moves}
use Rattle.pair_watch.proofs.Steps.{at-true, begun, equal-stays, row-ends, row-goes, row-stays, row-there, row-within}

some-is : {T : Type 0} (o : Option T) → is_some o ≡ true → (s : T) × (o ≡ Some s)
some-is None e = absurd (cc)
some-is (Some s) e = (s, refl)

none-is : {T : Type 0} (o : Option T) → is_some o ≡ false → o ≡ None
none-is None e = refl
none-is (Some s) e = absurd (cc)

-- ---- beginnings of a length

pub record Front (K : List Entry) (n : ℕ) : Type 0 where
  pub list : List Entry
  pub there : Begins list K
  pub size : length list ≡ n

front : (K : List Entry) (n : ℕ) → n ≤ length K → Front K n
front [] n few = record { list = []; there = whole; size = omega arith }
front (x ∷ K) n few =
    let ih = front K n in
    elim (cases_lt n (length (x ∷ K))) [
      | inl h ↦ (let f = ih (omega arith) in record { list = f.list; there = more f.there; size = f.size })
      | inr h ↦ record { list = x ∷ K; there = whole; size = omega arith }
    ]

-- Two beginnings of one length are the same.
same-front : (L M J : List Entry) → Begins L J → Begins M J → length L ≡ length M → L ≡ M
same-front L M J b c e = begins-same L M (begins-nested L M J b c (omega arith)) e

-- ---- a row and its beginnings

-- A commit of the two after a row that lasts.
on-commit : (x : Entry) (K : List Entry) (low high from : ℕ) → from < length K → is_pair_commit low high x ≡ true → row_began (x ∷ K) low high ≡ Some from → row_began K low high ≡ Some from
on-commit x K low high from within commit row = elim (cases_Bool (is_some (equal_sense (x ∷ K) low high))) [
  | inl equal ↦ go (row_began K low high) refl (sym (row-goes x K low high commit equal) ∙ row)
  | inr apart ↦ absurd (let f : None ≡ Some from = sym (row-ends x K low high commit apart) ∙ row in cc)
]
  where
    go : (o : Option ℕ) → row_began K low high ≡ o → Some (unwrap_or o (length K)) ≡ Some from → row_began K low high ≡ Some from
    go None e f = absurd (let g : length K ≡ from = cc in omega arith)
    go (Some a) e f = let g : a ≡ from = cc in e ∙ ap Some g

row-before : (x : Entry) (K : List Entry) (low high from : ℕ) → from < length K → row_began (x ∷ K) low high ≡ Some from → row_began K low high ≡ Some from
row-before x K low high from within row = elim (cases_Bool (is_pair_commit low high x)) [
  | inl commit ↦ on-commit x K low high from within commit row
  | inr other ↦ sym (row-stays x K low high other) ∙ row
]

-- A commit keeps the sense of a row that goes on.
sense-on : (x : Entry) (K : List Entry) (low high : ℕ) (sense : Sense) → low ≢ high → is_pair_commit low high x ≡ true → equal_sense K low high ≡ Some sense → is_some (equal_sense (x ∷ K) low high) ≡ true → equal_sense (x ∷ K) low high ≡ Some sense
sense-on x K low high sense ne commit equal some = go (pair_cell x low high) refl
  where
    go : (o : Option Cell) → pair_cell x low high ≡ o → equal_sense (x ∷ K) low high ≡ Some sense
    go None e = absurd (let f : false ≡ true = sym (cell-none x low high e) ∙ commit in cc)
    go (Some cell) e =
        let m = moves x K low high cell sense ne e equal in
        elim (cases_Bool (has_sense cell sense)) [
          | inl has ↦ m.goes has
          | inr not ↦ absurd (let f : false ≡ true = sym (m.ends not) ∙ some in cc)
        ]

sense-before : (x : Entry) (K : List Entry) (low high from : ℕ) → low ≢ high → from < length K → row_began (x ∷ K) low high ≡ Some from → equal_sense (x ∷ K) low high ≡ equal_sense K low high
sense-before x K low high from ne within row = elim (cases_Bool (is_pair_commit low high x)) [
  | inl commit ↦
      (let was = some-is (equal_sense K low high) (sym (row-there K low high) ∙ ap is_some (on-commit x K low high from within commit row)) in
      sense-on x K low high was.0 ne commit was.1 (sym (row-there (x ∷ K) low high) ∙ ap is_some row) ∙ sym was.1)
  | inr other ↦ equal-stays x K low high other
]

-- In each beginning past its first commit the row and its sense are the same.
pub record SameRow (L : List Entry) (low high from : ℕ) (sense : Option Sense) : Type 0 where
  pub row : row_began L low high ≡ Some from
  pub sense_is : equal_sense L low high ≡ sense

back : (low high from : ℕ) → low ≢ high → (L K : List Entry) → Begins L K → from < length L → row_began K low high ≡ Some from → SameRow L low high from (equal_sense K low high)
back low high from ne L K whole within row = record { row = row; sense_is = refl }
back low high from ne L K (more {entry = x} {journal = M} b) within row =
    let longer : length L ≤ length M = begins-length L M b in
    let inside : from < length M = omega arith in
    let ih = back low high from ne L M b within (row-before x M low high from inside row) in
    record { row = ih.row; sense_is = ih.sense_is ∙ sym (sense-before x M low high from ne inside row) }

-- Where no commit of the two follows, the senses and the row stay.
pub record Unmoved (L K : List Entry) (low high : ℕ) : Type 0 where
  pub row : row_began K low high ≡ row_began L low high
  pub sense_is : equal_sense K low high ≡ equal_sense L low high

unmoved : (low high : ℕ) (L K J : List Entry) → Begins L K → Begins K J → (at : ℕ) → at < length L → (to : ℕ) → length K ≤ to → NoCommitBetween J low high at to → Unmoved L K low high
unmoved low high L K J whole c at within to past none = record { row = refl; sense_is = refl }
unmoved low high L K J (more {entry = x} {journal = M} b) c at within to past none =
    let longer : length L ≤ length M = begins-length L M b in
    let ih = unmoved low high L M J b (begins-on c (more whole)) at within to (omega arith) none in
    let other = none M x c (omega arith) (omega arith) in
    record { row = row-stays x M low high other ∙ ih.row; sense_is = equal-stays x M low high other ∙ ih.sense_is }

-- ---- the last commit of a row

-- The beginning up to the last commit of a row.
pub record Ends (K : List Entry) (low high from to : ℕ) : Type 0 where
  pub before : List Entry
  pub entry : Entry
  pub there : Begins (entry ∷ before) K
  pub position : length before ≡ to
  pub of_pair : is_pair_commit low high entry ≡ true
  pub row : row_began (entry ∷ before) low high ≡ Some from

ends-more : (x : Entry) (K : List Entry) (low high from to : ℕ) → Ends K low high from to → Ends (x ∷ K) low high from to
ends-more x K low high from to is = record { before = is.before; entry = is.entry; there = more is.there; position = is.position; of_pair = is.of_pair; row = is.row }

ends : (K : List Entry) (low high from to : ℕ) → last_of K low high from ≡ Some to → Ends K low high from to
ends [] low high from to e = absurd (cc)
ends (x ∷ K) low high from to e =
    let ih = ends K low high from to in
    elim (chosen (is_pair_commit low high x && is_at from (row_began (x ∷ K) low high)) (Some (length K)) (last_of K low high from) (Some to) e) [
      | inl h ↦ (let parts = both _ _ h.0 in record { before = K; entry = x; there = whole; position = (let f = h.1 in cc); of_pair = parts.0; row = at-true from (row_began (x ∷ K) low high) parts.1 })
      | inr h ↦ ends-more x K low high from to (ih h.1)
    ]
  where
    both : (a b : Bool) → (a && b) ≡ true → (a ≡ true) × (b ≡ true)
    both true b e = (refl, e)
    both false b e = absurd (cc)

-- It comes no earlier than any commit of the row.
pub record Later (K : List Entry) (low high from at : ℕ) : Type 0 where
  pub to : ℕ
  pub is : last_of K low high from ≡ Some to
  pub past : at ≤ to

later : (low high from : ℕ) (x : Entry) (L K : List Entry) → Begins (x ∷ L) K → is_pair_commit low high x ≡ true → row_began (x ∷ L) low high ≡ Some from → Later K low high from (length L)
later low high from x L K whole commit row = record {
  to = length L;
  is = cond-true (is_pair_commit low high x && is_at from (row_began (x ∷ L) low high)) (Some (length L)) (last_of L low high from) (and_from _ _ commit (at-is from (row_began (x ∷ L) low high) row));
  past = omega arith;
}
later low high from x L K (more {entry = y} {journal = M} b) commit row =
    let ih = later low high from x L M b commit row in
    let longer : length (x ∷ L) ≤ length M = begins-length (x ∷ L) M b in
    elim (cases_Bool (is_pair_commit low high y && is_at from (row_began (y ∷ M) low high))) [
      | inl here ↦ record { to = length M; is = cond-true (is_pair_commit low high y && is_at from (row_began (y ∷ M) low high)) (Some (length M)) (last_of M low high from) here; past = omega arith }
      | inr past ↦ record { to = ih.to; is = last-skips y M low high from past ∙ ih.is; past = ih.past }
    ]

-- ---- intervals

-- A row that begins with the last entry began with a commit of the two, before which there was none.
pub record Starts (K : List Entry) (low high from : ℕ) (sense : Sense) : Type 0 where
  pub before : List Entry
  pub entry : Entry
  pub same : entry ∷ before ≡ K
  pub position : length before ≡ from
  pub of_pair : is_pair_commit low high entry ≡ true
  pub none : row_began before low high ≡ None

starts : (K : List Entry) (low high from : ℕ) (sense : Sense) → length K ≡ from + 1 → row_began K low high ≡ Some from → Starts K low high from sense
starts [] low high from sense size row = absurd (omega arith)
starts (x ∷ K) low high from sense size row = elim (cases_Bool (is_pair_commit low high x)) [
  | inl commit ↦ record {
    before = K;
    entry = x;
    same = refl;
    position = omega arith;
    of_pair = commit;
    none = elim (cases_Bool (is_some (row_began K low high))) [
      | inl some ↦ absurd (let b = some-is (row_began K low high) some in go b.0 b.1 commit)
      | inr not ↦ none-is (row_began K low high) not
    ];
  }
  | inr other ↦ absurd (let within : from < length K = row-within K low high from (sym (row-stays x K low high other) ∙ row) in omega arith)
]
  where
    go : (b : ℕ) → row_began K low high ≡ Some b → is_pair_commit low high x ≡ true → ⊥
    go b e commit =
        let within : b < length K = row-within K low high b e in
        elim (cases_Bool (is_some (equal_sense (x ∷ K) low high))) [
          | inl equal ↦
              (let f : Some b ≡ Some from = sym (ap (λ (o : Option ℕ). Some (unwrap_or o (length K))) e) ∙ sym (row-goes x K low high commit equal) ∙ row in
              let g : b ≡ from = cc in
              omega arith)
          | inr apart ↦ (let f : None ≡ Some from = sym (row-ends x K low high commit apart) ∙ row in cc)
        ]

-- What an interval is, by its first and its last commit.
pub record Spans (J : List Entry) (low high : ℕ) (sense : Sense) (from to : ℕ) : Type 0 where
  pub begun : List Entry
  pub there : Begins begun J
  pub size : length begun ≡ from + 1
  pub row : row_began begun low high ≡ Some from
  pub sense_is : equal_sense begun low high ≡ Some sense
  pub start : Starts begun low high from sense
  pub last_is : last_of J low high from ≡ Some to
  pub end : Ends J low high from to
  pub in_order : from ≤ to

spans : (J : List Entry) (low high : ℕ) (sense : Sense) (from to : ℕ) → IsInterval J low high sense from to → Spans J low high sense from to
spans J low high sense from to is =
    let b = begun is.begun low high from sense is.begins in
    let s = starts is.begun low high from sense is.size b.row in
    let there : Begins (s.entry ∷ s.before) J = subst (λ (L : List Entry). Begins L J) (sym s.same) is.there in
    let l = later low high from s.entry s.before J there s.of_pair (subst (λ (L : List Entry). row_began L low high ≡ Some from) (sym s.same) b.row) in
    let same : l.to ≡ to = sym (ap (λ (o : Option ℕ). unwrap_or o from) l.is) ∙ is.ends in
    let last : last_of J low high from ≡ Some to = l.is ∙ ap Some same in
    record {
      begun = is.begun;
      there = is.there;
      size = is.size;
      row = b.row;
      sense_is = b.sense_is;
      start = s;
      last_is = last;
      end = ends J low high from to last;
      in_order = (let a = l.past in let q = s.position in omega arith);
    }

-- The beginning of a length, in an interval.
inside : (J : List Entry) (low high : ℕ) → low ≢ high → (sense : Sense) (from to : ℕ) → Spans J low high sense from to → (L : List Entry) → Begins L J → from < length L → length L ≤ to + 1 → SameRow L low high from (Some sense)
inside J low high ne sense from to is L b low_enough high_enough =
    let e = is.end in
    let within : Begins L (e.entry ∷ e.before) = begins-nested L (e.entry ∷ e.before) J b e.there (let p = e.position in omega arith) in
    let here = back low high from ne L (e.entry ∷ e.before) within low_enough e.row in
    let size = is.size in
    let first : Begins is.begun L = begins-nested is.begun L J is.there b (omega arith) in
    let start = back low high from ne is.begun L first (omega arith) here.row in
    record { row = here.row; sense_is = sym start.sense_is ∙ is.sense_is }

module _ (J : List Entry) (low high : ℕ) (ne : low ≢ high) where
  lies : (at : ℕ) (sense : Sense) → HasCommit J low high at (Some sense) → LiesInInterval J low high sense at
  lies at sense c = go (row_began L low high) refl (row-there L low high ∙ ap is_some c.sense_is)
    where
      L : List Entry
      L = c.entry ∷ c.before

      go : (o : Option ℕ) → row_began L low high ≡ o → is_some o ≡ true → LiesInInterval J low high sense at
      go None e some = absurd (cc)
      go (Some from) e some =
          let within : from < length L = row-within L low high from e in
          let f = front L (from + 1) (omega arith) in
          let size = f.size in
          let first = back low high from ne f.list L f.there (omega arith) e in
          let l = later low high from c.entry c.before J c.there c.of_pair e in
          record {
            from = from;
            to = l.to;
            interval = record {
              begun = f.list;
              there = begins-on c.there f.there;
              size = f.size;
              begins = cond-true (is_at from (row_began f.list low high)) (equal_sense f.list low high) None (at-is from (row_began f.list low high) first.row) ∙ first.sense_is ∙ c.sense_is;
              ends = ap (λ (o : Option ℕ). unwrap_or o from) l.is;
            };
            begun = (let p = c.position in omega arith);
            lasting = (let p = c.position in let q = l.past in omega arith);
          }

  alone : (one two : Sense) (at from to other_from other_to : ℕ) → IsInterval J low high one from to → IsInterval J low high two other_from other_to →
      from ≤ at → at ≤ to → other_from ≤ at → at ≤ other_to → (from ≡ other_from) × (to ≡ other_to) × (one ≡ two)
  alone one two at from to other_from other_to a b f t g u =
      let p = spans J low high one from to a in
      let q = spans J low high two other_from other_to b in
      let e = p.end in
      let place = e.position in
      let long : length (e.entry ∷ e.before) ≤ length J = begins-length (e.entry ∷ e.before) J e.there in
      let cut = front J (at + 1) (omega arith) in
      let size = cut.size in
      let x = inside J low high ne one from to p cut.list cut.there (omega arith) (omega arith) in
      let y = inside J low high ne two other_from other_to q cut.list cut.there (omega arith) (omega arith) in
      let same : Some from ≡ Some other_from = sym x.row ∙ y.row in
      let from_is : from ≡ other_from = cc in
      let senses : Some one ≡ Some two = sym x.sense_is ∙ y.sense_is in
      let ends : Some to ≡ Some other_to = sym p.last_is ∙ ap (last_of J low high) from_is ∙ q.last_is in
      (from_is, cc, cc)

  starting : (sense : Sense) (from to : ℕ) → IsInterval J low high sense from to → HasCommit J low high from (Some sense)
  starting sense from to a =
      let p = spans J low high sense from to a in
      let s = p.start in
      record {
        before = s.before;
        entry = s.entry;
        there = subst (λ (L : List Entry). Begins L J) (sym s.same) p.there;
        position = s.position;
        of_pair = s.of_pair;
        sense_is = subst (λ (L : List Entry). equal_sense L low high ≡ Some sense) (sym s.same) p.sense_is;
      }

  ending : (sense : Sense) (from to : ℕ) → IsInterval J low high sense from to → HasCommit J low high to (Some sense)
  ending sense from to a =
      let p = spans J low high sense from to a in
      let e = p.end in
      let place = e.position in
      let order = p.in_order in
      let here = inside J low high ne sense from to p (e.entry ∷ e.before) e.there (omega arith) (omega arith) in
      record { before = e.before; entry = e.entry; there = e.there; position = e.position; of_pair = e.of_pair; sense_is = here.sense_is }

  equal-in : (sense : Sense) (from to at : ℕ) (found : Option Sense) → IsInterval J low high sense from to → HasCommit J low high at found → from ≤ at → at ≤ to → found ≡ Some sense
  equal-in sense from to at found a c f t =
      let p = spans J low high sense from to a in
      let place = c.position in
      let here = inside J low high ne sense from to p (c.entry ∷ c.before) c.there (omega arith) (omega arith) in
      sym c.sense_is ∙ here.sense_is

  none-before : (sense : Sense) (from to at : ℕ) (found : Option Sense) → IsInterval J low high sense from to → HasCommit J low high at found → at < from → NoCommitBetween J low high at from → found ≡ None
  none-before sense from to at found a c f none =
      let p = spans J low high sense from to a in
      let s = p.start in
      let place = c.position in
      let size = s.position in
      let there : Begins (s.entry ∷ s.before) J = subst (λ (L : List Entry). Begins L J) (sym s.same) p.there in
      let in_J : Begins s.before J = begins-on there (more whole) in
      let L = c.entry ∷ c.before in
      let in_K : Begins L s.before = begins-nested L s.before J c.there in_J (omega arith) in
      let still = unmoved low high L s.before J in_K in_J at (omega arith) from (omega arith) none in
      sym c.sense_is ∙ sym still.sense_is ∙ none-is (equal_sense s.before low high) (sym (row-there s.before low high) ∙ ap is_some s.none)

  none-after : (sense : Sense) (from to at : ℕ) (found : Option Sense) → IsInterval J low high sense from to → HasCommit J low high at found → to < at → NoCommitBetween J low high to at → found ≡ None
  none-after sense from to at found a c t none = sym c.sense_is ∙ none-is (equal_sense (c.entry ∷ c.before) low high) (elim (cases_Bool (is_some (equal_sense (c.entry ∷ c.before) low high))) [ inl some ↦ absurd (go some) | inr not ↦ not ])
    where
      go : is_some (equal_sense (c.entry ∷ c.before) low high) ≡ true → ⊥
      go some =
          let p = spans J low high sense from to a in
          let e = p.end in
          let place = c.position in
          let end = e.position in
          let L = e.entry ∷ e.before in
          let in_J : Begins c.before J = begins-on c.there (more whole) in
          let in_K : Begins L c.before = begins-nested L c.before J e.there in_J (omega arith) in
          let still = unmoved low high L c.before J in_K in_J to (omega arith) at (omega arith) none in
          let row : row_began (c.entry ∷ c.before) low high ≡ Some from = row-goes c.entry c.before low high c.of_pair some ∙ ap (λ (o : Option ℕ). Some (unwrap_or o (length c.before))) (still.row ∙ e.row) in
          let l = later low high from c.entry c.before J c.there c.of_pair row in
          let same : Some l.to ≡ Some to = sym l.is ∙ p.last_is in
          let is : l.to ≡ to = cc in
          let past = l.past in
          omega arith

pub cut-into-intervals : (J : List Entry) → IsCutIntoIntervals J
cut-into-intervals J low high ne = record {
  covered = lies J low high ne;
  once = alone J low high ne;
  first = starting J low high ne;
  last = ending J low high ne;
  equal = equal-in J low high ne;
  before = none-before J low high ne;
  after = none-after J low high ne;
}
