-- The maximal rows of messages that were lost or spoilt.
use Rattle.std.proofs.Common.{◌≡◌, ℕ, ◌+◌, ◌<◌, ◌≤◌, Bool, true, false, ◌&&◌, eqb, eqb-true, eq-eqb, ne_eqb, List, [], ◌∷◌, ◌++◌, Option, Some, None, length, length-append, option_map, refl, sym, ap, ◌∙◌, subst, arith, inl, inr}
use Rattle.std.specs.Prelude.{filter, option_and_then, option_to_list, reverse, slice_get}
use Rattle.std.specs.List.{AllByRecursion, flat_map}
use Rattle.std.proofs.lemmas.Bool.{and_from, and_left, and_right, cases_Bool, cases_eq, cases_lt, cond-false, cond-true}
use Rattle.std.proofs.lemmas.Grind.{flat_map-append}
use Rattle.std.proofs.lemmas.List.{append-nil}
use Rattle.std.proofs.lemmas.List.Elements.{filter-append}
use Rattle.std.proofs.lemmas.List.FromFn.{length-map-range_with_len}
use Rattle.acas_base.specs.Encounter.{IsEncounter, Parts}
use Rattle.acas_base.specs.declared.entry.Entry.{Entry}
use Rattle.acas_base.specs.declared.entry.Entry.TheVariants.{Commit, Send, Take}
use Rattle.air_journal.specs.Airs.{air_of}
use Rattle.air_journal.specs.Ranges.{IsEntry}
use Rattle.air_journal.specs.States.{State}
use Rattle.air_rules.proofs.Beginnings.{begins-on}
use Rattle.air_rules.proofs.Legal.{allowed, earlier}
use Rattle.air_rules.proofs.Pace.{count-no, count-yes}
use Rattle.air_rules.proofs.Waiting.{commits-within}
use Rattle.air_rules.specs.Journal.{Begins, commits, is_send_of, more, sends, whole}
use Rattle.air_rules.specs.Rules.{IsLegal}
use Rattle.deliveries.proofs.Marking.{are-rows}
use Rattle.deliveries.specs.Laws.{IsRow}
use Rattle.deliveries.specs.Mishaps.{befallen_of, befalls}
use Rattle.deliveries.specs.Rows.{row_at}
use Rattle.deliveries.specs.declared.mishap.Mishap.{Mishap}
use Rattle.deliveries.specs.declared.rows.Row.{Row}
use Rattle.journal_reader.proofs.Prefixes.{follows, read-all, read-more, read-past}
use Rattle.journal_reader.specs.Reading.{read_of}
use Rattle.page_marks.proofs.Bounded.{all-append}
use Rattle.picture.specs.Laws.{AreSentRows, IsSentRowOf, is_for}
use Rattle.picture.specs.Mishaps.{mishap_of, row_of, row_sent_at, rows_in, sent_row, sent_rows}
use Rattle.picture.specs.MishapsDrawn.{drawn_row}
use Rattle.picture.specs.declared.mishaps.SentRow.{SentRow}
use Rattle.picture.specs.declared.mishaps.Sign.{Sign}

-- ---- entries

-- The entry at a position is well formed.
pub fits-at : (d s : State) (at : ℕ) (x : Entry) → s ≡ d → IsEncounter s.encounter → IsLegal (air_of s.encounter) s.journal → slice_get (reverse d.journal) at ≡ Some x → IsEntry (length d.encounter.crafts) x
fits-at d s at x same valid legal here =
    (follows d.encounter d.journal at x (subst (λ (t : State). IsEncounter t.encounter) same valid) (subst (λ (t : State). IsLegal (air_of t.encounter) t.journal) same legal) here).fits

-- ---- the rows of one entry more

pub rows-none : (e : Parts) (J : List Entry) (sign : Sign) → rows_in e J sign [] ≡ []
unfolding rows_in
rows-none e J sign = refl

pub rows-more : (e : Parts) (J : List Entry) (sign : Sign) (K : List Entry) (x : Entry) → rows_in e J sign (x ∷ K) ≡ rows_in e J sign K ++ option_to_list (row_of e J sign K x)
unfolding rows_in
rows-more e J sign K x = refl

-- Those of one position more.
pub rows-at : (e : Parts) (J : List Entry) (sign : Sign) (at : ℕ) → rows_in e J sign (read_of J (at + 1)) ≡ rows_in e J sign (read_of J at) ++ option_to_list (row_sent_at e J sign at)
rows-at e J sign at = go (slice_get (reverse J) at) refl
  where
    go : (o : Option Entry) → slice_get (reverse J) at ≡ o → rows_in e J sign (read_of J (at + 1)) ≡ rows_in e J sign (read_of J at) ++ option_to_list (option_and_then (row_of e J sign (read_of J at)) (slice_get (reverse J) at))
    go None none =
        let past = read-past J at none in
        ap (rows_in e J sign) (read-all J (at + 1) (omega (arith, past)) ∙ sym (read-all J at past)) ∙ sym (append-nil (rows_in e J sign (read_of J at)))
        ∙ ap (λ (o : Option Entry). rows_in e J sign (read_of J at) ++ option_to_list (option_and_then (row_of e J sign (read_of J at)) o)) (sym none)
    go (Some x) is =
        ap (rows_in e J sign) (read-more J at x is) ∙ rows-more e J sign (read_of J at) x
        ∙ ap (λ (o : Option Entry). rows_in e J sign (read_of J at) ++ option_to_list (option_and_then (row_of e J sign (read_of J at)) o)) (sym is)

-- Their marks.
pub signs-more : (e : Parts) (J : List Entry) (sign : Sign) (at : ℕ) →
    flat_map (drawn_row e sign) (rows_in e J sign (read_of J at)) ++ flat_map (drawn_row e sign) (option_to_list (row_sent_at e J sign at)) ≡ flat_map (drawn_row e sign) (rows_in e J sign (read_of J (at + 1)))
signs-more e J sign at = sym (ap (flat_map (drawn_row e sign)) (rows-at e J sign at) ∙ flat_map-append (drawn_row e sign) (rows_in e J sign (read_of J at)) (option_to_list (row_sent_at e J sign at)))

-- ---- their cycles are those of the run

abbrev pub IsInRun : Parts → SentRow → Type 0
IsInRun e sent = sent.sent_after ≤ e.cycles

found-in-run : (e : Parts) (sender receiver after : ℕ) (found : Option Row) → after ≤ e.cycles → AllByRecursion (IsInRun e) (option_to_list (option_map (sent_row sender receiver after) found))
found-in-run e sender receiver after None few = tt
found-in-run e sender receiver after (Some row) few = (few, tt)

last-in-run : (e : Parts) (J : List Entry) (sign : Sign) (K : List Entry) (x : Entry) → IsLegal (air_of e) K → AllByRecursion (IsInRun e) (option_to_list (row_of e J sign K x))
last-in-run e J sign K (Commit own cycle cells) l = tt
last-in-run e J sign K (Send own target number word) l =
    found-in-run e own target (commits K own) (row_at (befallen_of e J (mishap_of sign) own target) number) (commits-within (air_of e) K l own)
last-in-run e J sign K (Take own send copy good) l = tt

pub rows-in-run : (e : Parts) (J : List Entry) (sign : Sign) (K : List Entry) → IsLegal (air_of e) K → AllByRecursion (IsInRun e) (rows_in e J sign K)
rows-in-run e J sign [] l = subst (AllByRecursion (IsInRun e)) (sym (rows-none e J sign)) tt
rows-in-run e J sign (x ∷ K) l =
    subst (AllByRecursion (IsInRun e)) (sym (rows-more e J sign K x))
    (all-append (IsInRun e) (rows_in e J sign K) (option_to_list (row_of e J sign K x)) (rows-in-run e J sign K (earlier l)) (last-in-run e J sign K x (earlier l)))

-- ---- each is a maximal row

found-is : (e : Parts) (J : List Entry) (m : Mishap) (K : List Entry) (own target number word : ℕ) (found : Option Row) → 1 ≤ number → Begins (Send own target number word ∷ K) J →
    row_at (befallen_of e J m own target) number ≡ found → AllByRecursion (IsSentRowOf e J m) (option_to_list (option_map (sent_row own target (commits K own)) found))
found-is e J m K own target number word None one begins is = tt
found-is e J m K own target number word (Some row) one begins is =
    let it = (are-rows (befallen_of e J m own target)).told number row one is in
    (record { maximal = it.is; earlier = K; word = word; there = subst (λ (n : ℕ). Begins (Send own target n word ∷ K) J) (sym it.first) begins; sent_after = refl }, tt)

last-is : (e : Parts) (J : List Entry) (sign : Sign) (K : List Entry) (x : Entry) → IsLegal (air_of e) (x ∷ K) → Begins (x ∷ K) J → AllByRecursion (IsSentRowOf e J (mishap_of sign)) (option_to_list (row_of e J sign K x))
last-is e J sign K (Commit own cycle cells) l begins = tt
last-is e J sign K (Send own target number word) l begins =
    let next : number ≡ sends K own target + 1 = (allowed l).number_is in
    found-is e J (mishap_of sign) K own target number word (row_at (befallen_of e J (mishap_of sign) own target) number) (omega arith) begins refl
last-is e J sign K (Take own send copy good) l begins = tt

each-is : (e : Parts) (J : List Entry) (sign : Sign) (K : List Entry) → IsLegal (air_of e) K → Begins K J → AllByRecursion (IsSentRowOf e J (mishap_of sign)) (rows_in e J sign K)
each-is e J sign [] l begins = subst (AllByRecursion (IsSentRowOf e J (mishap_of sign))) (sym (rows-none e J sign)) tt
each-is e J sign (x ∷ K) l begins =
    subst (AllByRecursion (IsSentRowOf e J (mishap_of sign))) (sym (rows-more e J sign K x))
    (all-append (IsSentRowOf e J (mishap_of sign)) (rows_in e J sign K) (option_to_list (row_of e J sign K x)) (each-is e J sign K (earlier l) (begins-on begins (more whole))) (last-is e J sign K x l begins))

-- ---- each maximal row is one of them

pair-apart : (p q z : Bool) → p && q ≡ false → p && (q && z) ≡ false
pair-apart true true z e = absurd cc
pair-apart true false z e = refl
pair-apart false q z e = refl

pair-same : (p q : Bool) → p && q ≡ true → (p ≡ true) × (q ≡ true)
pair-same true true e = (refl, refl)
pair-same true false e = absurd cc
pair-same false q e = absurd cc

module _ (s r : ℕ) (row : Row) where
  -- How many of some rows are this one.
  abbrev many : List SentRow → ℕ
  many rows = length (filter (is_for s r row) rows)

  many-more : (e : Parts) (J : List Entry) (sign : Sign) (K : List Entry) (x : Entry) → many (rows_in e J sign (x ∷ K)) ≡ many (rows_in e J sign K) + many (option_to_list (row_of e J sign K x))
  many-more e J sign K x =
      let old = rows_in e J sign K in
      let last = option_to_list (row_of e J sign K x) in
      ap many (rows-more e J sign K x) ∙ ap length (filter-append (is_for s r row) old last) ∙ length-append (filter (is_for s r row) old) (filter (is_for s r row) last)

  no-other : (own target after : ℕ) (found : Option Row) → ((other : Row) → found ≡ Some other → is_for s r row (sent_row own target after other) ≡ false) → many (option_to_list (option_map (sent_row own target after) found)) ≡ 0
  no-other own target after None apart = refl
  no-other own target after (Some other) apart = ap length (cond-false (is_for s r row (sent_row own target after other)) (sent_row own target after other ∷ []) [] (apart other refl))

  this-one : (own target after : ℕ) → own ≡ s → target ≡ r → many (sent_row own target after row ∷ []) ≡ 1
  this-one own target after a b =
      ap length (cond-true (is_for s r row (sent_row own target after row)) (sent_row own target after row ∷ []) []
      (and_from (eqb own s) _ (eq-eqb own s a) (and_from (eqb target r) _ (eq-eqb target r b) (and_from (eqb row.first row.first) _ (eq-eqb row.first row.first refl) (eq-eqb row.last row.last refl)))))

  -- None before the first message was sent, and one after it.
  record IsCounted (n sent : ℕ) : Type 0 where
    none : sent < row.first → n ≡ 0
    one : row.first ≤ sent → n ≡ 1

  counted-send : (e : Parts) (J : List Entry) (sign : Sign) (K : List Entry) (own target number word : ℕ) → IsRow (befallen_of e J (mishap_of sign) s r) row → number ≡ sends K own target + 1 →
      IsCounted (many (rows_in e J sign K)) (sends K s r) → IsCounted (many (rows_in e J sign (Send own target number word ∷ K))) (sends (Send own target number word ∷ K) s r)
  counted-send e J sign K own target number word is next old =
      let x = Send own target number word in
      let m = mishap_of sign in
      let after = commits K own in
      let found = row_at (befallen_of e J m own target) number in
      let grown : many (rows_in e J sign (x ∷ K)) ≡ many (rows_in e J sign K) + many (option_to_list (row_of e J sign K x)) = many-more e J sign K x in
      elim (cases_Bool (is_send_of s r x)) [
        | inl pair ↦
            (let both = pair-same (eqb own s) (eqb target r) pair in
            let a : own ≡ s = eqb-true own s both.0 in
            let b : target ≡ r = eqb-true target r both.1 in
            let sent : sends (x ∷ K) s r ≡ sends K s r + 1 = count-yes (is_send_of s r) x K pair in
            let here : sends K own target ≡ sends K s r = (λ j. sends K (a j) (b j)) in
            elim (cases_eq number row.first) [
              | inl same ↦
                  (let at : found ≡ Some row = (λ j. row_at (befallen_of e J m (a j) (b j)) (same j)) ∙ (are-rows (befallen_of e J m s r)).whole row is in
                  let added : many (option_to_list (row_of e J sign K x)) ≡ 1 = ap (λ (o : Option Row). many (option_to_list (option_map (sent_row own target after) o))) at ∙ this-one own target after a b in
                  let before : many (rows_in e J sign K) ≡ 0 = old.none (omega (arith, next, here, same)) in
                  record { none = λ less. absurd (omega (arith, less, sent, next, here, same)); one = λ there. omega (arith, grown, added, before) })
              | inr differ ↦
                  (let first_is : (other : Row) → found ≡ Some other → other.first ≡ number = λ other told. ((are-rows (befallen_of e J m own target)).told number other (omega (arith, next)) told).first in
                  let added : many (option_to_list (row_of e J sign K x)) ≡ 0 = no-other own target after found
                  (λ other told. and_right (eqb own s) _ (and_right (eqb target r) _ (and_left (eqb other.first row.first) _ (ne_eqb other.first row.first (λ f. differ (sym (first_is other told) ∙ f)))))) in
                  let first : number ≡ row.first → ⊥ = differ in
                  elim (cases_lt number row.first) [
                    | inl less ↦ record {
                      none = λ h. (let before : many (rows_in e J sign K) ≡ 0 = old.none (omega (arith, next, here, less)) in omega (arith, grown, added, before));
                      one = λ h. absurd (omega (arith, h, sent, next, here, less));
                    }
                    | inr past ↦ record {
                      none = λ h. absurd (omega (arith, h, sent, next, here, past));
                      one = λ h. (let before : many (rows_in e J sign K) ≡ 1 = old.one (apart-below number row.first (sends K s r) past differ (next ∙ ap (λ (n : ℕ). n + 1) here)) in omega (arith, grown, added, before));
                    }
                  ])
            ])
        | inr pair ↦
            (let sent : sends (x ∷ K) s r ≡ sends K s r = count-no (is_send_of s r) x K pair in
            let added : many (option_to_list (row_of e J sign K x)) ≡ 0 = no-other own target after found (λ other told. pair-apart (eqb own s) (eqb target r) _ pair) in
            record {
              none = λ h. (let before : many (rows_in e J sign K) ≡ 0 = old.none (omega (arith, h, sent)) in omega (arith, grown, added, before));
              one = λ h. (let before : many (rows_in e J sign K) ≡ 1 = old.one (omega (arith, h, sent)) in omega (arith, grown, added, before));
            })
      ]
    where
      apart-below : (n first sent : ℕ) → first ≤ n → (n ≡ first → ⊥) → n ≡ sent + 1 → first ≤ sent
      apart-below n first sent low differ next = elim (cases_eq first n) [
        | inl same ↦ absurd (differ (sym same))
        | inr other ↦ omega (arith, low, next, other)
      ]

  counted : (e : Parts) (J : List Entry) (sign : Sign) (K : List Entry) → IsRow (befallen_of e J (mishap_of sign) s r) row → IsLegal (air_of e) K → IsCounted (many (rows_in e J sign K)) (sends K s r)
  counted e J sign [] is l =
      let begun = is.begun in
      let none = ap many (rows-none e J sign) in
      record { none = λ h. none; one = λ h. absurd (omega (arith, h, begun)) }
  counted e J sign (Commit own cycle cells ∷ K) is l =
      let old = counted e J sign K is (earlier l) in
      let grown : many (rows_in e J sign (Commit own cycle cells ∷ K)) ≡ many (rows_in e J sign K) + 0 = many-more e J sign K (Commit own cycle cells) in
      record { none = λ h. (let before = old.none h in omega (arith, grown, before)); one = λ h. (let before = old.one h in omega (arith, grown, before)) }
  counted e J sign (Take own send copy good ∷ K) is l =
      let old = counted e J sign K is (earlier l) in
      let grown : many (rows_in e J sign (Take own send copy good ∷ K)) ≡ many (rows_in e J sign K) + 0 = many-more e J sign K (Take own send copy good) in
      record { none = λ h. (let before = old.none h in omega (arith, grown, before)); one = λ h. (let before = old.one h in omega (arith, grown, before)) }
  counted e J sign (Send own target number word ∷ K) is l = counted-send e J sign K own target number word is (allowed l).number_is (counted e J sign K is (earlier l))

  -- The whole journal sent the first message of each maximal row.
  once : (e : Parts) (J : List Entry) (sign : Sign) → IsRow (befallen_of e J (mishap_of sign) s r) row → IsLegal (air_of e) J → many (rows_in e J sign J) ≡ 1
  once e J sign is l =
      let order = is.order in
      let within = is.within in
      let size = length-map-range_with_len (befalls e J (mishap_of sign) s r) 1 (sends J s r) in
      (counted e J sign J is l).one (omega (arith, order, within, size))

pub are-sent-rows : (e : Parts) (J : List Entry) (sign : Sign) → IsLegal (air_of e) J → AreSentRows e J (mishap_of sign) (sent_rows e J sign)
are-sent-rows e J sign l = record {
  each = each-is e J sign J l whole;
  once = λ sender receiver row is. once sender receiver row e J sign is l;
}
