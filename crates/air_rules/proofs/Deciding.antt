-- Tests that decide what may come next in a journal over a sound air, and so decide a whole journal by computation.
use Rattle.std.proofs.Common.{◌≡◌, ◌⊎◌, ℕ, zero, suc, ◌+◌, ◌<◌, ◌≤◌, Bool, true, false, eqb, not, ◌&&◌, ◌||◌, List, [], ◌∷◌, length, Option, Some, None, is_some, nat_le, nat_lt, sym, refl, ap, ◌∙◌, subst, arith, inl, inr, ltb-true, leb-false, ltb-false, eqb-true, eq-eqb}
use Rattle.std.proofs.lemmas.Bool.{and_parts, and_right, and_left, cases_Bool, cases_lt, cases_eq, not-true, or_cases}
use Rattle.std.proofs.lemmas.Option.{slice_get_past}
use Rattle.acas_base.specs.declared.advisory.ResMsg.{ResMsg}
use Rattle.acas_base.specs.declared.entry.Entry.{Entry}
use Rattle.acas_base.specs.declared.entry.Entry.TheVariants.{Commit, Send, Take}
use Rattle.air_rules.proofs.Beginnings.{begins-length}
use Rattle.air_rules.proofs.Positions.{sent-within}
use Rattle.air_rules.proofs.Searching.{some-or-none}
use Rattle.air_rules.proofs.Waiting.{nobody-owes, owed-within}
use Rattle.air_rules.specs.Air.{Air, IsSound, copy_plan, is_active}
use Rattle.air_rules.specs.Due.{NothingDue, is_copy_due, is_due, is_free}
use Rattle.air_rules.specs.Journal.{Begins, Sent, commits, entries_after, is_take_of, more, sends, sent_at, was_taken, whole}
use Rattle.air_rules.specs.Owed.{NobodyOwes, OwesNothing, owed}
use Rattle.air_rules.specs.Rules.{IsAllowed, IsLegal, MaySend, MayTake, cells_for, empty, extended}
use Rattle.air_rules.specs.Serial.{ComesNext, IsInOrder, IsSerial, IsTimeToCommit, IsUneven, followed, started}
use Rattle.air_rules.specs.Settled.{TakesInOrder}
use Rattle.air_rules.specs.Takes.{read_copy}

-- ---- numbers below a bound

-- No number below n passes.
abbrev pub none_below : (ℕ → Bool) → ℕ → Bool
none_below test zero = true
none_below test (suc n) = not (test n) && none_below test n

pub below-none : (test : ℕ → Bool) (n : ℕ) → none_below test n ≡ true → (k : ℕ) → k < n → test k ≡ false
below-none test zero e k h = absurd (omega arith)
below-none test (suc n) e k h =
    let parts = and_parts (not (test n)) (none_below test n) e in
    let ih = below-none test n parts.1 k in
    elim (cases_eq k n) [
      | inl q ↦ ap test q ∙ not-true (test n) parts.0
      | inr ne ↦ ih (omega arith)
    ]

-- A number below n that passes.
record Passes (test : ℕ → Bool) (n : ℕ) : Type 0 where
  at : ℕ
  within : at < n
  passes : test at ≡ true

below-some : (test : ℕ → Bool) (n : ℕ) → none_below test n ≡ false → Passes test n
below-some test zero e = absurd (cc)
below-some test (suc n) e =
    let ih = below-some test n in
    elim (cases_Bool (test n)) [
      | inl t ↦ record { at = n; within = omega arith; passes = t }
      | inr f ↦
          let rest = ih (sym (ap (λ b. not b && none_below test n) f) ∙ e) in
          let h : rest.at < n = rest.within in
          record { at = rest.at; within = omega arith; passes = rest.passes }
    ]

both-not : (a b : Bool) → (a && b) ≡ false → a ≡ true → b ≡ false
both-not true b e h = e
both-not false b e h = absurd (cc)

not-not : (b : Bool) → not b ≡ false → b ≡ true
not-not true e = refl
not-not false e = absurd (cc)

-- ---- messages that are owed

abbrev owes_nobody : Air → List Entry → ℕ → Bool
owes_nobody air K own = none_below (λ other. is_some (owed air K own other)) air.count

abbrev no_message : Air → List Entry → ℕ → Bool
no_message air K n = none_below (λ own. not (owes_nobody air K own)) n

none-where : {X : Type 0} (o : Option X) → is_some o ≡ false → o ≡ None
none-where None e = refl
none-where (Some x) e = absurd (cc)

some-where : {X : Type 0} (o : Option X) → is_some o ≡ true → (x : X) × (o ≡ Some x)
some-where None e = absurd (cc)
some-where (Some x) e = (x, refl)

pub owes-nothing : (air : Air) → IsSound air → (K : List Entry) (own : ℕ) → owes_nobody air K own ≡ true → OwesNothing air K own
owes-nothing air sound K own e other = elim (some-or-none (owed air K own other)) [
  | inl (m, o) ↦ absurd (let f : true ≡ false = sym (ap is_some o) ∙ below-none (λ j. is_some (owed air K own j)) air.count e other (owed-within air sound K own other m o).receiver in cc)
  | inr n ↦ n
]

owing-none : (air : Air) → IsSound air → (K : List Entry) (n : ℕ) → no_message air K n ≡ true → (own : ℕ) → own < n → OwesNothing air K own
owing-none air sound K n e own h = owes-nothing air sound K own (not-not _ (below-none (λ i. not (owes_nobody air K i)) n e own h))

nobody-owing : (air : Air) → IsSound air → (K : List Entry) → no_message air K air.count ≡ true → NobodyOwes air K
nobody-owing air sound K e = nobody-owes air sound K (owing-none air sound K air.count e)

-- ---- copies that are due

abbrev no_copy_of : Air → List Entry → Option Sent → ℕ → ℕ → Bool
no_copy_of air K None own p = true
no_copy_of air K (Some S) own p = none_below (λ c. is_copy_due air K (Some S) own p c) 3

-- No copy of what was sent before the position n is due.
abbrev no_copy_before : Air → List Entry → ℕ → ℕ → Bool
no_copy_before air K own n = none_below (λ p. not (no_copy_of air K (sent_at K p) own p)) n

-- No copy is due to the active aircraft before the index n.
abbrev no_copy_to : Air → List Entry → ℕ → Bool
no_copy_to air K n = none_below (λ own. is_active air own && not (no_copy_before air K own (length K))) n

no-copy : (air : Air) → IsSound air → (K : List Entry) (o : Option Sent) (own p : ℕ) → no_copy_of air K o own p ≡ true → (c : ℕ) → is_copy_due air K o own p c ≡ false
no-copy air sound K None own p e c = refl
no-copy air sound K (Some S) own p e c = elim (cases_lt c 3) [
  | inl h ↦ below-none (λ c. is_copy_due air K (Some S) own p c) 3 e c h
  | inr h ↦
      let copies = air.copies S.sender S.receiver S.number in
      let few : length copies ≤ 3 = sound.few S.sender S.receiver S.number in
      let none : copy_plan air S c ≡ None = slice_get_past copies c (omega arith) in
      and_right (eqb S.receiver own) _ (and_left (is_free (copy_plan air S c) (commits (entries_after K p) own)) _ (ap (λ o. is_free o (commits (entries_after K p) own)) none))
]

none-due-before : (air : Air) → IsSound air → (K : List Entry) (own n : ℕ) → no_copy_before air K own n ≡ true → (p : ℕ) → p < n → (c : ℕ) → is_due air K own p c ≡ false
none-due-before air sound K own n e p h = no-copy air sound K (sent_at K p) own p (not-not _ (below-none (λ p. not (no_copy_of air K (sent_at K p) own p)) n e p h))

nothing-due : (air : Air) → IsSound air → (K : List Entry) (own : ℕ) → no_copy_before air K own (length K) ≡ true → NothingDue air K own
nothing-due air sound K own e p c = elim (cases_lt p (length K)) [
  | inl h ↦ none-due-before air sound K own (length K) e p h c
  | inr h ↦ elim (some-or-none (sent_at K p)) [
    | inl (S, f) ↦ absurd (let x : p < length K = sent-within K p S f in omega arith)
    | inr n ↦ ap (λ o. is_copy_due air K o own p c) n
  ]
]

none-due-to : (air : Air) → IsSound air → (K : List Entry) (n : ℕ) → no_copy_to air K n ≡ true → (own : ℕ) → own < n → is_active air own ≡ true → NothingDue air K own
none-due-to air sound K n e own h a =
    nothing-due air sound K own (not-not _ (both-not (is_active air own) _ (below-none (λ own. is_active air own && not (no_copy_before air K own (length K))) n e own h) a))

-- ---- who has committed

-- No active aircraft before the index n has fewer commits than own, or not more.
abbrev none_fewer : Air → List Entry → ℕ → ℕ → Bool
none_fewer air K own n = none_below (λ other. is_active air other && nat_lt (commits K other) (commits K own)) n

abbrev none_as_few : Air → List Entry → ℕ → ℕ → Bool
none_as_few air K own n = none_below (λ other. is_active air other && nat_le (commits K other) (commits K own)) n

-- No active aircraft has more commits than own.
abbrev none_more : Air → List Entry → ℕ → Bool
none_more air K own = none_below (λ other. is_active air other && nat_lt (commits K own) (commits K other)) air.count

abbrev is_even : Air → List Entry → Bool
is_even air K = none_below (λ own. is_active air own && not (none_more air K own)) air.count

fewest : (air : Air) → IsSound air → (K : List Entry) (own : ℕ) → none_fewer air K own air.count ≡ true → (other : ℕ) → is_active air other ≡ true → commits K own ≤ commits K other
fewest air sound K own e other a = ltb-false (commits K other) (commits K own) (both-not (is_active air other) _ (below-none _ air.count e other (sound.counted other a)) a)

first-of-fewest : (air : Air) (K : List Entry) (own : ℕ) → none_as_few air K own own ≡ true → (other : ℕ) → is_active air other ≡ true → other < own → commits K own < commits K other
first-of-fewest air K own e other a h = leb-false (commits K other) (commits K own) (both-not (is_active air other) _ (below-none _ own e other h) a)

not-uneven : (air : Air) → IsSound air → (K : List Entry) → is_even air K ≡ true → IsUneven air K → ⊥
not-uneven air sound K e u =
    let few = not-not _ (both-not (is_active air u.fewer) _ (below-none _ air.count e u.fewer (sound.counted u.fewer u.active_fewer)) u.active_fewer) in
    let more : commits K u.more ≤ commits K u.fewer = ltb-false (commits K u.fewer) (commits K u.more) (both-not (is_active air u.more) _ (below-none _ air.count few u.more (sound.counted u.more u.active_more)) u.active_more) in
    let below : commits K u.fewer < commits K u.more = u.below in
    omega arith

-- ---- what may come next, and what comes next

-- The entry as it has to be, of its kind and by its aircraft.
abbrev word_of : Air → Option ResMsg → ℕ
word_of air None = 0
word_of air (Some message) = air.word message

abbrev corrected : Air → List Entry → Entry → Entry
corrected air K (Commit own cycle cells) = Commit own (commits K own + 1) (cells_for air K own)
corrected air K (Send own target number word) = Send own target (sends K own target + 1) (word_of air (owed air K own target))
corrected air K (Take own send copy good) = Take own send copy (is_some (read_copy air (sent_at K send) copy))

abbrev may_come : Air → List Entry → Entry → Bool
may_come air K (Commit own cycle cells) =
    is_active air own && (nat_lt (commits K own) air.cycles && (owes_nobody air K own && (no_copy_before air K own (length K) && none_fewer air K own air.count)))
may_come air K (Send own target number word) = is_active air own && (is_some (owed air K own target) && none_below (λ before. is_some (owed air K own before)) target)
may_come air K (Take own send copy good) = is_active air own && is_due air K own send copy

abbrev is_time : Air → List Entry → ℕ → Bool
is_time air K own = not (none_more air K own) || (no_message air K air.count && (no_copy_to air K air.count && nat_lt (commits K own) air.cycles))

abbrev comes : Air → List Entry → Entry → Bool
comes air K (Commit own cycle cells) = is_active air own && (none_fewer air K own air.count && (none_as_few air K own own && is_time air K own))
comes air K (Send own target number word) = may_come air K (Send own target number word) && (is_even air K && no_message air K own)
comes air K (Take own send copy good) =
    may_come air K (Take own send copy good) && (is_even air K && (no_message air K air.count && (no_copy_to air K own && (no_copy_before air K own send && none_below (λ before. is_due air K own send before) copy))))

may-send : (air : Air) (K : List Entry) (own target number word : ℕ) → may_come air K (Send own target number word) ≡ true → corrected air K (Send own target number word) ≡ Send own target number word → MaySend air K own target number word
may-send air K own target number word e f =
    let parts = and_parts (is_active air own) _ e in
    let rest = and_parts (is_some (owed air K own target)) _ parts.1 in
    let some = some-where (owed air K own target) rest.0 in
    record {
      active = parts.0;
      message = some.0;
      first_owed = record { owes = some.1; first = λ before h. none-where _ (below-none (λ before. is_some (owed air K own before)) target rest.1 before h) };
      number_is = let g : sends K own target + 1 ≡ number = cc in sym g;
      word_is = let g : word_of air (owed air K own target) ≡ word = cc in sym g ∙ ap (word_of air) some.1;
    }

may-take : (air : Air) (K : List Entry) (own send copy : ℕ) (good : Bool) → may_come air K (Take own send copy good) ≡ true → corrected air K (Take own send copy good) ≡ Take own send copy good → MayTake air K own send copy good
may-take air K own send copy good e f =
    let parts = and_parts (is_active air own) _ e in
    record { active = parts.0; due = parts.1; good_is = let g : is_some (read_copy air (sent_at K send) copy) ≡ good = cc in sym g }

pub allowed-by : (air : Air) → IsSound air → (K : List Entry) (x : Entry) → may_come air K x ≡ true → corrected air K x ≡ x → IsAllowed air K x
allowed-by air sound K (Commit own cycle cells) e f =
    let active = and_parts (is_active air own) _ e in
    let left = and_parts (nat_lt (commits K own) air.cycles) _ active.1 in
    let owes = and_parts (owes_nobody air K own) _ left.1 in
    let due = and_parts (no_copy_before air K own (length K)) _ owes.1 in
    let next : commits K own + 1 ≡ cycle = cc in
    let same : cells_for air K own ≡ cells = cc in
    let h : commits K own < air.cycles = ltb-true (commits K own) air.cycles left.0 in
    record {
      active = active.0;
      cycle_is = sym next;
      in_run = omega arith;
      owes_nothing = owes-nothing air sound K own owes.0;
      nothing_due = nothing-due air sound K own due.0;
      not_ahead = fewest air sound K own due.1;
      cells_are = sym same;
    }
allowed-by air sound K (Send own target number word) e f = may-send air K own target number word e f
allowed-by air sound K (Take own send copy good) e f = may-take air K own send copy good e f

time-to-commit : (air : Air) → IsSound air → (K : List Entry) (own : ℕ) → is_active air own ≡ true → is_time air K own ≡ true → IsTimeToCommit air K own
time-to-commit air sound K own a e = elim (cases_Bool (none_more air K own)) [
  | inl y ↦
      let idle = and_parts (no_message air K air.count) _ (sym (ap (λ b. not b || (no_message air K air.count && (no_copy_to air K air.count && nat_lt (commits K own) air.cycles))) y) ∙ e) in
      let rest = and_parts (no_copy_to air K air.count) _ idle.1 in
      inr (
        record { nobody_owes = nobody-owing air sound K idle.0; nobody_is_due = λ i b. none-due-to air sound K air.count rest.0 i (sound.counted i b) b },
        ltb-true (commits K own) air.cycles rest.1,
      )
  | inr n ↦
      let some = below-some _ air.count n in
      let parts = and_parts (is_active air some.at) _ some.passes in
      inl (record { fewer = own; more = some.at; active_fewer = a; active_more = parts.0; below = ltb-true (commits K own) (commits K some.at) parts.1 })
]

pub next-by : (air : Air) → IsSound air → (K : List Entry) (x : Entry) → comes air K x ≡ true → corrected air K x ≡ x → ComesNext air K x
next-by air sound K (Commit own cycle cells) e f =
    let active = and_parts (is_active air own) _ e in
    let few = and_parts (none_fewer air K own air.count) _ active.1 in
    let first = and_parts (none_as_few air K own own) _ few.1 in
    let next : commits K own + 1 ≡ cycle = cc in
    let same : cells_for air K own ≡ cells = cc in
    record {
      slowest = record { active = active.0; fewest = fewest air sound K own few.0; first = first-of-fewest air K own first.0 };
      time = time-to-commit air sound K own active.0 first.1;
      cycle_is = sym next;
      cells_are = sym same;
    }
next-by air sound K (Send own target number word) e f =
    let may = and_parts (may_come air K (Send own target number word)) _ e in
    let even = and_parts (is_even air K) _ may.1 in
    record { even = not-uneven air sound K even.0; allowed = may-send air K own target number word may.0 f; first = owing-none air sound K own even.1 }
next-by air sound K (Take own send copy good) e f =
    let may = and_parts (may_come air K (Take own send copy good)) _ e in
    let even = and_parts (is_even air K) _ may.1 in
    let owes = and_parts (no_message air K air.count) _ even.1 in
    let others = and_parts (no_copy_to air K own) _ owes.1 in
    let sends = and_parts (no_copy_before air K own send) _ others.1 in
    record {
      even = not-uneven air sound K even.0;
      nobody_owes = nobody-owing air sound K owes.0;
      allowed = may-take air K own send copy good may.0 f;
      first = λ before h a. none-due-to air sound K own others.0 before h a;
      first_due = record {
        due = (may-take air K own send copy good may.0 f).due;
        first_send = λ before h. none-due-before air sound K own send sends.0 before h;
        first_copy = below-none (λ before. is_due air K own send before) copy sends.1;
      };
    }

-- ---- whole journals

abbrev pub all_corrected : Air → List Entry → List Entry
all_corrected air [] = []
all_corrected air (x ∷ K) = corrected air K x ∷ all_corrected air K

abbrev pub all_may_come : Air → List Entry → Bool
all_may_come air [] = true
all_may_come air (x ∷ K) = may_come air K x && all_may_come air K

abbrev pub all_come : Air → List Entry → Bool
all_come air [] = true
all_come air (x ∷ K) = comes air K x && all_come air K

pub legal-by : (air : Air) → IsSound air → (J : List Entry) → all_may_come air J ≡ true → all_corrected air J ≡ J → IsLegal air J
legal-by air sound [] e f = empty
legal-by air sound (x ∷ K) e f =
    let parts = and_parts (may_come air K x) (all_may_come air K) e in
    let same : corrected air K x ≡ x = cc in
    let rest : all_corrected air K ≡ K = cc in
    extended (legal-by air sound K parts.1 rest) (allowed-by air sound K x parts.0 same)

pub in-order-by : (air : Air) → IsSound air → (J : List Entry) → all_come air J ≡ true → all_corrected air J ≡ J → IsInOrder air J
in-order-by air sound [] e f = started
in-order-by air sound (x ∷ K) e f =
    let parts = and_parts (comes air K x) (all_come air K) e in
    let same : corrected air K x ≡ x = cc in
    let rest : all_corrected air K ≡ K = cc in
    followed (in-order-by air sound K parts.1 rest) (next-by air sound K x parts.0 same)

-- Nothing comes after it.
abbrev pub is_over : Air → List Entry → Bool
is_over air J = is_even air J && (no_message air J air.count && (no_copy_to air J air.count && none_below (λ own. is_active air own && nat_lt (commits J own) air.cycles) air.count))

over-by : (air : Air) → IsSound air → (J : List Entry) → is_over air J ≡ true → (x : Entry) → ComesNext air J x → ⊥
over-by air sound J e (Commit own cycle cells) n = at n.time
  where
    left : own < air.count
    left = sound.counted own n.slowest.active

    at : IsTimeToCommit air J own → ⊥
    at (inl u) = not-uneven air sound J (and_parts (is_even air J) _ e).0 u
    at (inr (i, h)) =
        let parts = and_parts (no_copy_to air J air.count) _ (and_parts (no_message air J air.count) _ (and_parts (is_even air J) _ e).1).1 in
        let all : air.cycles ≤ commits J own = ltb-false (commits J own) air.cycles (both-not (is_active air own) _ (below-none _ air.count parts.1 own left) n.slowest.active) in
        omega arith
over-by air sound J e (Send own target number word) n =
    let owes = and_parts (no_message air J air.count) _ (and_parts (is_even air J) _ e).1 in
    let f : None ≡ Some n.allowed.message = sym (nobody-owing air sound J owes.0 own target) ∙ n.allowed.first_owed.owes in
    cc
over-by air sound J e (Take own send copy good) n =
    let due = and_parts (no_copy_to air J air.count) _ (and_parts (no_message air J air.count) _ (and_parts (is_even air J) _ e).1).1 in
    let none = none-due-to air sound J air.count due.0 own (sound.counted own n.allowed.active) n.allowed.active in
    let f : false ≡ true = sym (none send copy) ∙ n.allowed.due in
    cc

pub serial-by : (air : Air) → IsSound air → (J : List Entry) → all_come air J ≡ true → all_corrected air J ≡ J → is_over air J ≡ true → IsSerial air J
serial-by air sound J e f o = record { in_order = in-order-by air sound J e f; ended = over-by air sound J o }

-- ---- takes in order

abbrev takes_below : List Entry → ℕ → ℕ → Bool
takes_below [] own n = true
takes_below (Commit who cycle cells ∷ K) own n = takes_below K own n
takes_below (Send who target number word ∷ K) own n = takes_below K own n
takes_below (Take who send copy good ∷ K) own n = (not (eqb who own) || nat_lt send n) && takes_below K own n

abbrev pub takes_rise : List Entry → ℕ → Bool
takes_rise [] own = true
takes_rise (Commit who cycle cells ∷ K) own = takes_rise K own
takes_rise (Send who target number word ∷ K) own = takes_rise K own
takes_rise (Take who send copy good ∷ K) own = (not (eqb who own) || takes_below K own send) && takes_rise K own

not-or : (a b : Bool) → (not a || b) ≡ true → a ≡ true → b ≡ true
not-or true b e h = e
not-or false b e h = absurd (cc)

taken-below : (K : List Entry) (own n s c : ℕ) → takes_below K own n ≡ true → was_taken K own s c ≡ true → s < n
taken-below [] own n s c e t = absurd (cc)
taken-below (Commit who cycle cells ∷ K) own n s c e t = taken-below K own n s c e t
taken-below (Send who target number word ∷ K) own n s c e t = taken-below K own n s c e t
taken-below (Take who send copy good ∷ K) own n s c e t =
    let parts = and_parts (not (eqb who own) || nat_lt send n) (takes_below K own n) e in
    let ih = taken-below K own n s c parts.1 in
    elim (or_cases (is_take_of own s c (Take who send copy good)) (was_taken K own s c) t) [
      | inl y ↦
          let same = and_parts (eqb who own) _ y in
          let sends = and_parts (eqb send s) _ same.1 in
          let q : send ≡ s = eqb-true send s sends.0 in
          let h : send < n = ltb-true send n (not-or (eqb who own) _ parts.0 same.0) in
          omega arith
      | inr k ↦ ih k
    ]

take-in : {x : Entry} {K : List Entry} (own s c : ℕ) (g : Bool) (L : List Entry) → Begins (Take own s c g ∷ L) (x ∷ K) → (Take own s c g ∷ L ≡ x ∷ K) ⊎ Begins (Take own s c g ∷ L) K
take-in own s c g L whole = inl refl
take-in own s c g L (more b) = inr b

rises : (J : List Entry) (own : ℕ) → takes_rise J own ≡ true → (L : List Entry) (s c : ℕ) (g : Bool) (p d : ℕ) → Begins (Take own s c g ∷ L) J → was_taken L own p d ≡ true → p < s
rises [] own e L s c g p d b t = absurd (no_begin b)
  where
    no_begin : Begins (Take own s c g ∷ L) [] → ⊥
    no_begin b = let h : length (Take own s c g ∷ L) ≤ 0 = begins-length (Take own s c g ∷ L) [] b in omega arith
rises (Commit who cycle cells ∷ K) own e L s c g p d b t = elim (take-in own s c g L b) [ inl f ↦ absurd (cc) | inr in_K ↦ rises K own e L s c g p d in_K t ]
rises (Send who target number word ∷ K) own e L s c g p d b t = elim (take-in own s c g L b) [ inl f ↦ absurd (cc) | inr in_K ↦ rises K own e L s c g p d in_K t ]
rises (Take who send copy good ∷ K) own e L s c g p d b t =
    let parts = and_parts (not (eqb who own) || takes_below K own send) (takes_rise K own) e in
    let ih = rises K own parts.1 L s c g p d in
    elim (take-in own s c g L b) [
      | inl f ↦
          let o : own ≡ who = cc in
          let q : s ≡ send = cc in
          let l : L ≡ K = cc in
          let h : p < send = taken-below K own send p d (not-or (eqb who own) _ parts.0 (eq-eqb who own (sym o))) (subst (λ (M : List Entry). was_taken M own p d ≡ true) l t) in
          omega arith
      | inr in_K ↦ ih in_K t
    ]

pub in-order-of-takes : (J : List Entry) (own other : ℕ) → takes_rise J own ≡ true → TakesInOrder J own other
in-order-of-takes J own other e L s c g p d b of t from = rises J own e L s c g p d b t
