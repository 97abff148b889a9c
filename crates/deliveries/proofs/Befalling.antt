-- What befalls a message.
use Rattle.std.proofs.Common.{◌≡◌, ℕ, zero, suc, ◌+◌, ◌<◌, ◌≤◌, Bool, true, false, not, ◌&&◌, ◌||◌, cond, eqb, List, [], ◌∷◌, length, take, Option, refl, sym, ap, ap₂, ◌∙◌, arith, inl, inr, lt-ltb, le-leb, eqb-true, eq-eqb, ne_eqb}
use Rattle.std.specs.Prelude.{All, Some, nat_le, nat_lt, reverse, slice_get}
use Rattle.std.specs.List.{list_any, range_with_len}
use Rattle.std.proofs.lemmas.Bool.{and_from, cases_Bool, cases_eq, or_left, or_right}
use Rattle.std.proofs.lemmas.List.{take_all}
use Rattle.std.proofs.lemmas.List.Elements.{All-head, All-tail}
use Rattle.acas_base.specs.Encounter.{IsEncounter, Parts}
use Rattle.acas_base.specs.declared.entry.Entry.{Entry}
use Rattle.acas_base.specs.declared.entry.Entry.TheVariants.{Commit, Send, Take}
use Rattle.acas_base.specs.declared.link.CopyPlan.{CopyPlan}
use Rattle.air_journal.specs.Airs.{air_of}
use Rattle.air_journal.specs.Ranges.{IsEntry}
use Rattle.air_rules.proofs.Legal.{allowed, earlier}
use Rattle.air_rules.proofs.Pace.{count-no, count-yes}
use Rattle.air_rules.specs.Air.{Air}
use Rattle.air_rules.specs.Journal.{Begins, Sent, as_sent, is_send_of, more, sends, sent_at, whole}
use Rattle.air_rules.specs.Rules.{IsLegal}
use Rattle.deliveries.proofs.Reading.{follows}
use Rattle.deliveries.proofs.Slots.{matches}
use Rattle.deliveries.specs.Laws.{AreNumbered}
use Rattle.deliveries.specs.Mishaps.{TakeTest, is_held_back, is_lost, is_message, is_repeated, is_spoilt, is_take_by, is_untaken, was_copy_taken, was_sent}
use Rattle.deliveries.specs.Noted.{IsEntryOf, no_takes, read_of, some_copy, some_left, takes_by, with_take}
use Rattle.deliveries.specs.declared.takes.Takes.{Takes}

-- ---- the numbers of messages

pub are-numbered : (air : Air) (J : List Entry) → IsLegal air J → AreNumbered J
are-numbered air [] legal s r n = (λ sent. absurd cc, λ within. absurd (let low = within.0 in let high = within.1 in omega arith))
are-numbered air (Commit own cycle cells ∷ K) legal s r n = are-numbered air K (earlier legal) s r n
are-numbered air (Take own send copy good ∷ K) legal s r n = are-numbered air K (earlier legal) s r n
are-numbered air (Send own target number word ∷ K) legal s r n =
    let x = Send own target number word in
    let ih = are-numbered air K (earlier legal) s r n in
    let next : number ≡ sends K own target + 1 = (allowed legal).number_is in
    elim (matches own target number s r n) [
      | inl same ↦
          (let here : sends K own target ≡ sends K s r = (λ j. sends K (same.0 j) (same.1 j)) in
          let pair : is_send_of s r x ≡ true = front (eqb own s) (eqb target r) (eqb number n) same.3 in
          let more : sends (x ∷ K) s r ≡ sends K s r + 1 = count-yes (is_send_of s r) x K pair in
          let is = same.2 in
          (λ sent. (omega arith, omega arith), λ within. or_left (eqb own s && (eqb target r && eqb number n)) (was_sent K s r n) same.3))
      | inr apart ↦
          elim (cases_Bool (is_send_of s r x)) [
            | inl pair ↦
                (let more : sends (x ∷ K) s r ≡ sends K s r + 1 = count-yes (is_send_of s r) x K pair in
                let places = both (eqb own s) (eqb target r) pair in
                let a : own ≡ s = eqb-true own s places.0 in
                let b : target ≡ r = eqb-true target r places.1 in
                let here : sends K own target ≡ sends K s r = (λ j. sends K (a j) (b j)) in
                let other : number ≡ n → ⊥ = λ d. apart.1 (a, b, d) in (
                  λ sent. (let within = ih.0 (sym (skip apart.0) ∙ sent) in (within.0, let high = within.1 in omega arith)),
                  λ within. skip apart.0 ∙ ih.1 (within.0, let high = within.1 in elim (cases_eq n number) [ inl same ↦ absurd (other (sym same)) | inr ne ↦ omega arith ]),
                ))
            | inr pair ↦
                (let same : sends (x ∷ K) s r ≡ sends K s r = count-no (is_send_of s r) x K pair in (
                  λ sent. (let within = ih.0 (sym (skip apart.0) ∙ sent) in (within.0, let high = within.1 in omega arith)),
                  λ within. skip apart.0 ∙ ih.1 (within.0, let high = within.1 in omega arith),
                ))
          ]
    ]
  where
    front : (a b d : Bool) → (a && (b && d)) ≡ true → (a && b) ≡ true
    front true true d e = refl
    front true false d e = absurd cc
    front false b d e = absurd cc

    both : (a b : Bool) → (a && b) ≡ true → (a ≡ true) × (b ≡ true)
    both true true e = (refl, refl)
    both true false e = absurd cc
    both false b e = absurd cc

    skip : (eqb own s && (eqb target r && eqb number n)) ≡ false → ((eqb own s && (eqb target r && eqb number n)) || was_sent K s r n) ≡ was_sent K s r n
    skip differ = ap (λ (b : Bool). b || was_sent K s r n) differ

-- ---- what the takes say

module _ (at : ℕ → Option Sent) (s r n : ℕ) where
  -- What one field of the takes says, and the test that it stands for.
  field-is : (field : Takes → Bool) (test : TakeTest) → field no_takes ≡ false → ((it : Takes) (copy : ℕ) (good : Bool) → field (with_take it copy good) ≡ (test copy good || field it)) →
      (K : List Entry) → field (takes_by at K s r n) ≡ list_any (is_take_by at s r n test) K
  field-is field test none step [] = none
  field-is field test none step (Commit own cycle cells ∷ K) = field-is field test none step K
  field-is field test none step (Send own target number word ∷ K) = field-is field test none step K
  field-is field test none step (Take own send copy good ∷ K) =
      let ih = field-is field test none step K in
      let it = takes_by at K s r n in
      elim (is_message (at send) s r n) as (λ b. field (cond b (with_take it copy good) it) ≡ ((b && test copy good) || list_any (is_take_by at s r n test) K)) [
        | true ↦ step it copy good ∙ ap (λ (b : Bool). test copy good || b) ih
        | false ↦ ih
      ]

  pub first-is : (K : List Entry) → (takes_by at K s r n).first ≡ list_any (is_take_by at s r n (λ copy good. eqb copy 0)) K
  first-is = field-is (λ it. it.first) (λ copy good. eqb copy 0) refl (λ it copy good. refl)

  pub second-is : (K : List Entry) → (takes_by at K s r n).second ≡ list_any (is_take_by at s r n (λ copy good. eqb copy 1)) K
  second-is = field-is (λ it. it.second) (λ copy good. eqb copy 1) refl (λ it copy good. refl)

  pub third-is : (K : List Entry) → (takes_by at K s r n).third ≡ list_any (is_take_by at s r n (λ copy good. eqb copy 2)) K
  third-is = field-is (λ it. it.third) (λ copy good. eqb copy 2) refl (λ it copy good. refl)

  pub good-is : (K : List Entry) → (takes_by at K s r n).good ≡ list_any (is_take_by at s r n (λ copy good. good)) K
  good-is = field-is (λ it. it.good) (λ copy good. good) refl (λ it copy good. refl)

some-more : (it : Takes) (copy : ℕ) (good : Bool) → copy ≤ 2 → some_copy (with_take it copy good) ≡ true
some-more it zero good few = refl
some-more it (suc zero) good few = or_right it.first _ refl
some-more it (suc (suc zero)) good few = or_right it.first _ (or_right it.second _ refl)
some-more it (suc (suc (suc copy))) good few = absurd (omega arith)

some-is : (count : ℕ) (at : ℕ → Option Sent) (s r n : ℕ) (K : List Entry) → All (IsEntry count) K → some_copy (takes_by at K s r n) ≡ list_any (is_take_by at s r n (λ copy good. true)) K
some-is count at s r n [] fit = refl
some-is count at s r n (Commit own cycle cells ∷ K) fit = some-is count at s r n K (All-tail (IsEntry count) (Commit own cycle cells) K fit)
some-is count at s r n (Send own target number word ∷ K) fit = some-is count at s r n K (All-tail (IsEntry count) (Send own target number word) K fit)
some-is count at s r n (Take own send copy good ∷ K) fit =
    let ih = some-is count at s r n K (All-tail (IsEntry count) (Take own send copy good) K fit) in
    let few = (All-head (IsEntry count) (Take own send copy good) K fit).2 in
    let it = takes_by at K s r n in
    elim (is_message (at send) s r n) as (λ b. some_copy (cond b (with_take it copy good) it) ≡ ((b && true) || list_any (is_take_by at s r n (λ copy good. true)) K)) [
      | true ↦ some-more it copy good few
      | false ↦ ih
    ]

pub spoilt-is : (count : ℕ) (J : List Entry) (s r n : ℕ) → All (IsEntry count) J → (some_copy (takes_by (sent_at J) J s r n) && not (takes_by (sent_at J) J s r n).good) ≡ is_spoilt J s r n
spoilt-is count J s r n fit = ap₂ (λ (a b : Bool). a && not b) (some-is count (sent_at J) s r n J fit) (good-is (sent_at J) s r n J)

-- ---- copies that are left

left-is : (it : Takes) (taken : ℕ → Bool) (n : ℕ) (a b d : CopyPlan) → it.first ≡ taken 0 → it.second ≡ taken 1 → it.third ≡ taken 2 →
    some_left it n ≡ list_any (λ copy. not (taken copy)) (range_with_len 0 (length (take n (a ∷ b ∷ d ∷ []))))
left-is it taken zero a b d one two three = refl
left-is it taken (suc zero) a b d one two three = ap (λ (x : Bool). not x || false) one
left-is it taken (suc (suc zero)) a b d one two three = ap₂ (λ (x y : Bool). not x || (not y || false)) one two
left-is it taken (suc (suc (suc n))) a b d one two three =
    let copies = suc (suc (suc n)) in
    let first : nat_le 1 copies ≡ true = le-leb 1 copies (omega arith) in
    let second : nat_le 2 copies ≡ true = le-leb 2 copies (omega arith) in
    let third : nat_le 3 copies ≡ true = le-leb 3 copies (omega arith) in
    let all : length (take copies (a ∷ b ∷ d ∷ [])) ≡ 3 = ap length (take_all copies (a ∷ b ∷ d ∷ []) (omega arith)) in
    (λ t. (first t && not it.first) || ((second t && not it.second) || (third t && not it.third)))
    ∙ (λ t. not (one t) || (not (two t) || not (three t)))
    ∙ ap (λ (x : Bool). not (taken 0) || (not (taken 1) || x)) (sym (or-none (not (taken 2))))
    ∙ ap (λ (m : ℕ). list_any (λ copy. not (taken copy)) (range_with_len 0 m)) (sym all)
  where
    or-none : (x : Bool) → (x || false) ≡ x
    or-none true = refl
    or-none false = refl

pub untaken-is : (J : List Entry) (s r n copies : ℕ) (a b d : CopyPlan) → some_left (takes_by (sent_at J) J s r n) copies ≡ is_untaken J (take copies (a ∷ b ∷ d ∷ [])) s r n
untaken-is J s r n copies a b d =
    left-is (takes_by (sent_at J) J s r n) (was_copy_taken J s r n) copies a b d (first-is (sent_at J) s r n J) (second-is (sent_at J) s r n J) (third-is (sent_at J) s r n J)

-- ---- how many copies there are

pub lost-is : (n : ℕ) (a b d : CopyPlan) → eqb n 0 ≡ is_lost (take n (a ∷ b ∷ d ∷ []))
lost-is zero a b d = refl
lost-is (suc n) a b d = ne_eqb (suc n) 0 (λ e. omega arith) ∙ sym (ne_eqb (length (take (suc n) (a ∷ b ∷ d ∷ []))) 0 (λ e. omega arith))

pub repeated-is : (n : ℕ) (a b d : CopyPlan) → nat_lt 1 n ≡ is_repeated (take n (a ∷ b ∷ d ∷ []))
repeated-is zero a b d = refl
repeated-is (suc zero) a b d = refl
repeated-is (suc (suc n)) a b d = lt-ltb 1 (suc (suc n)) (omega arith) ∙ sym (lt-ltb 1 (length (take (suc (suc n)) (a ∷ b ∷ d ∷ []))) (omega arith))

-- ---- copies that are held back

pub second-held : (n : ℕ) (a b d : CopyPlan) → 2 ≤ n → 0 < b.hold → true ≡ is_held_back (take n (a ∷ b ∷ d ∷ []))
second-held zero a b d few held = absurd (omega arith)
second-held (suc zero) a b d few held = absurd (omega arith)
second-held (suc (suc n)) a b d few held = sym (or_right (nat_lt 0 a.hold) _ (or_left (nat_lt 0 b.hold) _ (lt-ltb 0 b.hold held)))

-- ---- the messages of a journal

-- What an entry of a journal sends was sent.
there : (test : Entry → Bool) (x : Entry) (K J : List Entry) → Begins (x ∷ K) J → test x ≡ true → list_any test J ≡ true
there test x K J whole is = or_left (test x) (list_any test K) is
there test x K J (more {entry = y} {journal = L} b) is = or_right (test y) (list_any test L) (there test x K L b is)

pub entry-of : (e : Parts) (J : List Entry) (at : ℕ) (x : Entry) → IsEncounter e → IsLegal (air_of e) J → slice_get (reverse J) at ≡ Some x → IsEntryOf e J x
entry-of e J at (Commit own cycle cells) valid legal is = tt
entry-of e J at (Take own send copy good) valid legal is = tt
entry-of e J at (Send own target number word) valid legal is =
    let f = follows e J at (Send own target number word) valid legal is in
    let here : is_message (as_sent (Send own target number word)) own target number ≡ true = and_from (eqb own own) _ (eq-eqb own own refl) (and_from (eqb target target) _ (eq-eqb target target refl) (eq-eqb number number refl)) in
    let sent = there (λ (entry : Entry). is_message (as_sent entry) own target number) (Send own target number word) (read_of J at) J f.begins here in
    (f.fits.0, f.fits.1, f.fits.2.0, ((are-numbered (air_of e) J legal own target number).0 sent).1)
