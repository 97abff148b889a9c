-- Which calls have a line of the list.
use Rattle.std.proofs.Common.{◌≡◌, ℕ, zero, suc, ◌+◌, ◌<◌, ◌≤◌, Bool, true, false, ◌&&◌, List, Option, Some, None, cond, eq-eqb, eqb-true, refl, sym, ap, ap₂, ◌∙◌, arith, inl, inr}
use Rattle.std.proofs.lemmas.Bool.{cases_Bool, cases_eq, cases_lt, cond-false, cond-true, le-leb, lt-leb}
use Rattle.std.specs.Cmp.Lexicographic.{nat_list_eq_equiv, pointwise, same_text}
use Rattle.std.specs.Prelude.{◌==◌, nat_le}
use Rattle.acas_base.specs.declared.entry.Entry.{Entry}
use Rattle.advisory_report.specs.Composite.{word_of}
use Rattle.advisory_report.specs.Phrases.{phrase_text}
use Rattle.advisory_report.specs.Report.{is_same_word}
use Rattle.picture.proofs.Hearing.{are-reported}
use Rattle.picture.specs.Calls.{call_in}
use Rattle.picture.specs.Gathered.{count_equal, has_equal, is_equal, is_heard_as, is_same_phrase, line_for, line_in, line_of, own_line, shared_line}
use Rattle.picture.specs.HeardLaws.{AreLines, IsLineOf, IsTold}
use Rattle.picture.specs.declared.call.Call.{Call}
use Rattle.picture.specs.declared.gathered.CallLine.{CallLine}

-- ---- equal calls

both-true : (a b : Bool) → a && b ≡ true → (a ≡ true) × (b ≡ true)
both-true true true h = (refl, refl)
both-true true false h = absurd (cc)
both-true false b h = absurd (cc)

same-phrase : (one other : Call) → is_equal one other ≡ true → phrase_text one.heard ≡ phrase_text other.heard
unfolding is_equal
same-phrase one other h = same_text (phrase_text one.heard) (phrase_text other.heard) (sym (both-true (is_same_phrase one.heard other.heard) (is_same_word one.shown other.shown) h).0)

same-word : (one other : Call) → is_equal one other ≡ true → word_of one.shown ≡ word_of other.shown
unfolding is_equal
same-word one other h = same_text (word_of one.shown) (word_of other.shown) (sym (both-true (is_same_phrase one.heard other.heard) (is_same_word one.shown other.shown) h).1)

-- What is equal to one of two equal calls is equal to the other one.
same-as : (one other call : Call) → is_equal one other ≡ true → is_equal one call ≡ is_equal other call
unfolding is_equal
same-as one other call h =
    ap₂ ◌&&◌
    (ap (λ (t : List ℕ). pointwise ◌==◌ t (phrase_text call.heard)) (same-phrase one other h))
    (ap (λ (t : List ℕ). pointwise ◌==◌ t (word_of call.shown)) (same-word one other h))

itself : (call : Call) → is_equal call call ≡ true
unfolding is_equal
itself call =
    ap₂ ◌&&◌ (nat_list_eq_equiv.refl (phrase_text call.heard)) (nat_list_eq_equiv.refl (word_of call.shown))

heard-as : (one other : Call) → is_equal one other ≡ true → (call : Option Call) → is_heard_as one call ≡ is_heard_as other call
heard-as one other h None = refl
heard-as one other h (Some call) = same-as one other call h

-- Equal calls of a cycle have as many equal ones.
count-same : (J : List Entry) (one other : Call) → is_equal one other ≡ true → one.cycle ≡ other.cycle → (n : ℕ) → count_equal J one n ≡ count_equal J other n
count-same J one other h cycle zero = refl
count-same J one other h cycle (suc n) =
    let ih = count-same J one other h cycle n in
    let has : has_equal J one n ≡ has_equal J other n = heard-as one other h (call_in J one.cycle n) ∙ ap (λ (k : ℕ). is_heard_as other (call_in J k n)) cycle in
    ap₂ (λ (b : Bool) (k : ℕ). cond b (k + 1) k) has ih

-- ---- the first one of equal calls

more : (J : List Entry) (call : Call) (n : ℕ) → has_equal J call n ≡ true → count_equal J call (suc n) ≡ count_equal J call n + 1
more J call n h = cond-true (has_equal J call n) (count_equal J call n + 1) (count_equal J call n) h

same-count : (J : List Entry) (call : Call) (n : ℕ) → has_equal J call n ≡ false → count_equal J call (suc n) ≡ count_equal J call n
same-count J call n h = cond-false (has_equal J call n) (count_equal J call n + 1) (count_equal J call n) h

-- Where none of the first aircraft has an equal call, each of them has none.
none-before : (J : List Entry) (call : Call) (n : ℕ) → count_equal J call n ≡ 0 → (other : ℕ) → other < n → has_equal J call other ≡ false
none-before J call zero none other within = absurd (omega arith)
none-before J call (suc n) none other within = elim (cases_Bool (has_equal J call n)) [
  | inl met ↦ (let count = more J call n met in absurd (omega arith))
  | inr unmet ↦
      (let count = same-count J call n unmet in
      let ih = none-before J call n (sym count ∙ none) in
      elim (cases_eq other n) [
        | inl is ↦ ap (has_equal J call) is ∙ unmet
        | inr isnt ↦ ih other (omega arith)
      ])
]

-- Some of the first aircraft has an equal call, and none before it.
record IsFirst (J : List Entry) (call : Call) (n : ℕ) : Type 0 where
  other : ℕ
  within : other < n
  met : has_equal J call other ≡ true
  none : count_equal J call other ≡ 0

first-of : (J : List Entry) (call : Call) (n : ℕ) → 0 < count_equal J call n → IsFirst J call n
first-of J call zero some = absurd (omega arith)
first-of J call (suc n) some = elim (cases_eq (count_equal J call n) 0) [
  | inl none ↦ elim (cases_Bool (has_equal J call n)) [
    | inl met ↦ record { other = n; within = omega arith; met = met; none = none }
    | inr unmet ↦ (let count = same-count J call n unmet in absurd (omega arith))
  ]
  | inr before ↦
      (let it = first-of J call n (omega arith) in
      let within = it.within in
      record { other = it.other; within = omega arith; met = it.met; none = it.none })
]

-- ---- lines

few-lines : (J : List Entry) (count : ℕ) (call : Call) → count ≤ 4 → line_for J count call ≡ Some (own_line call)
unfolding line_for
few-lines J count call few = cond-true (nat_le count 4) (Some (own_line call)) (shared_line J count call) (le-leb count 4 few)

many-lines : (J : List Entry) (count : ℕ) (call : Call) → 4 < count → line_for J count call ≡ shared_line J count call
unfolding line_for
many-lines J count call many = cond-false (nat_le count 4) (Some (own_line call)) (shared_line J count call) (lt-leb count 4 many)

some≢none : (line : CallLine) → Some line ≡ None → ⊥
some≢none line same = cc same

line-is : (J : List Entry) (count cycle own : ℕ) (call : Call) (line : CallLine) → call_in J cycle own ≡ Some call → call.own ≡ own → line_for J count call ≡ Some line → IsLineOf J count cycle own line
line-is J count cycle own call line there own_is line_is = elim (cases_lt 4 count) [
  | inl many ↦
      (let shared : CallLine = record { call = call; calls = count_equal J call count } in
      let is : shared_line J count call ≡ Some line = sym (many-lines J count call (omega arith)) ∙ line_is in
      elim (cases_Bool (count_equal J call call.own == 0)) [
        | inl none ↦
            (let same : shared ≡ line = cc (sym (cond-true (count_equal J call call.own == 0) (Some shared) None none) ∙ is) in
            let called : call ≡ line.call = ap (λ (l : CallLine). l.call) same in
            let zero_is = eqb-true (count_equal J call call.own) 0 none in
            record {
              call_is = there ∙ ap Some called;
              alone = λ h. absurd (omega arith);
              first = λ h other within. ap (λ (k : Call). has_equal J k other) (sym called) ∙ none-before J call call.own zero_is other (omega arith);
              all = λ h. sym (ap (λ (l : CallLine). l.calls) same) ∙ ap (λ (k : Call). count_equal J k count) called;
            })
        | inr some ↦ absurd (some≢none line (sym (sym (cond-false (count_equal J call call.own == 0) (Some shared) None some) ∙ is)))
      ])
  | inr few ↦
      (let same : own_line call ≡ line = cc (sym (few-lines J count call few) ∙ line_is) in
      let called : call ≡ line.call = ap (λ (l : CallLine). l.call) same in
      record {
        call_is = there ∙ ap Some called;
        alone = λ h. sym (ap (λ (l : CallLine). l.calls) same);
        first = λ h other within. absurd (omega arith);
        all = λ h. absurd (omega arith);
      })
]

lines-is : (J : List Entry) (count cycle own : ℕ) (line : CallLine) (call : Option Call) → call_in J cycle own ≡ call → line_of J count call ≡ Some line → IsLineOf J count cycle own line
lines-is J count cycle own line None there is = absurd (some≢none line (sym is))
lines-is J count cycle own line (Some call) there is = line-is J count cycle own call line there ((are-reported J).call_is cycle own call there).own_is is

-- The line of the first one of equal calls.
first-line : (J : List Entry) (count cycle own : ℕ) (call : Call) → 4 < count → call_in J cycle own ≡ Some call → count_equal J call call.own ≡ 0 →
    line_in J count cycle own ≡ Some (record { call = call; calls = count_equal J call count })
first-line J count cycle own call many there none =
    let shared : CallLine = record { call = call; calls = count_equal J call count } in
    ap (line_of J count) there ∙ many-lines J count call many ∙ cond-true (count_equal J call call.own == 0) (Some shared) None (eq-eqb (count_equal J call call.own) 0 none)

told-by : (J : List Entry) (count cycle own other : ℕ) (call : Call) (its : Option Call) → 4 < count → other < own → call.cycle ≡ cycle → call_in J cycle other ≡ its → is_heard_as call its ≡ true → count_equal J call other ≡ 0 →
    IsTold J count cycle own call
told-by J count cycle own other call None many within cycle_is there met none = absurd (cc met)
told-by J count cycle own other call (Some its) many within cycle_is there met none =
    let r = (are-reported J).call_is cycle other its there in
    let zero_is : count_equal J its its.own ≡ 0 = ap (count_equal J its) r.own_is ∙ sym (count-same J call its met (cycle_is ∙ sym r.cycle_is) other) ∙ none in
    record { other = other; line = record { call = its; calls = count_equal J its count }; no_higher = omega arith; line_is = first-line J count cycle other its many there zero_is; equal = met }

told : (J : List Entry) (count cycle own : ℕ) (call : Call) → call_in J cycle own ≡ Some call → IsTold J count cycle own call
told J count cycle own call there =
    let r = (are-reported J).call_is cycle own call there in
    let own_is = r.own_is in
    elim (cases_lt 4 count) [
      | inl many ↦ elim (cases_eq (count_equal J call call.own) 0) [
        | inl none ↦ record { other = own; line = record { call = call; calls = count_equal J call count }; no_higher = omega arith; line_is = first-line J count cycle own call (omega arith) there none; equal = itself call }
        | inr some ↦
            (let it = first-of J call call.own (omega arith) in
            let within = it.within in
            let met : is_heard_as call (call_in J cycle it.other) ≡ true = ap (λ (k : ℕ). is_heard_as call (call_in J k it.other)) (sym r.cycle_is) ∙ it.met in
            told-by J count cycle own it.other call (call_in J cycle it.other) (omega arith) (omega arith) r.cycle_is refl met it.none)
      ]
      | inr few ↦ record { other = own; line = own_line call; no_higher = omega arith; line_is = ap (line_of J count) there ∙ few-lines J count call few; equal = itself call }
    ]

pub are-lines : (J : List Entry) (count : ℕ) → AreLines J count
are-lines J count = record {
  each = λ cycle own line is. lines-is J count cycle own line (call_in J cycle own) refl is;
  told = λ cycle own call there. told J count cycle own call there;
}
