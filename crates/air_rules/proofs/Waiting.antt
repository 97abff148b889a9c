-- Who owes, who has a due copy, and how many commits are left: each can be found out.
use Rattle.std.proofs.Common.{◌≡◌, ◌⊎◌, ℕ, ◌+◌, ◌<◌, ◌≤◌, true, false, eqb, List, [], ◌∷◌, length, Option, Some, None, sym, ap, ◌∙◌, arith, inl, inr, refl, eqb-true, zero-le}
use Rattle.std.proofs.lemmas.Bool.{and_parts, and_left, and_right, cases_Bool, cases_lt}
use Rattle.std.proofs.lemmas.Option.{slice_get_past}
use Rattle.acas_base.specs.declared.advisory.ResMsg.{ResMsg}
use Rattle.acas_base.specs.declared.entry.Entry.{Entry}
use Rattle.acas_base.specs.declared.entry.Entry.TheVariants.{Commit, Send, Take}
use Rattle.acas_base.specs.declared.link.CopyPlan.{CopyPlan}
use Rattle.air_rules.proofs.Legal.{allowed, earlier}
use Rattle.air_rules.proofs.Pace.{active-ra, count-no, count-yes}
use Rattle.air_rules.proofs.Positions.{sent-within}
use Rattle.air_rules.proofs.Running.{owed-message}
use Rattle.air_rules.proofs.Searching.{AllBelow, IsFirst, IsLeast, first-of-all, least-of, some-or-none}
use Rattle.air_rules.specs.Air.{Air, IsSound, copy_plan, is_active, is_ra}
use Rattle.air_rules.specs.Due.{IsFirstDue, NobodyIsDue, NothingDue, is_copy_due, is_due, is_free}
use Rattle.air_rules.specs.Journal.{Sent, commits, entries_after, is_commit_of, sent_at}
use Rattle.air_rules.specs.Owed.{IsFirstOwed, NobodyOwes, OwesNothing, owed}
use Rattle.air_rules.specs.Rules.{IsLegal}
use Rattle.air_rules.specs.Serial.{IsSlowest}

-- Who owes a message, and to whom, is an aircraft of the air.
pub record IsOwedWithin (air : Air) (i j : ℕ) : Type 0 where
  pub sender : i < air.count
  pub receiver : j < air.count
  pub active : is_active air i ≡ true

pub owed-within : (air : Air) → IsSound air → (J : List Entry) (i j : ℕ) (m : ResMsg) → owed air J i j ≡ Some m → IsOwedWithin air i j
owed-within air sound J i j m e =
    let parts = and_parts (is_ra air i) _ (owed-message air J i j m e).0 in
    let ai = active-ra air i parts.0 in
    let aj = active-ra air j (and_parts (is_ra air j) _ parts.1).0 in
    record { sender = sound.counted i ai; receiver = sound.counted j aj; active = ai }

-- The first message that an aircraft owes.
pub record Owing (air : Air) (J : List Entry) (i : ℕ) : Type 0 where
  pub target : ℕ
  pub message : ResMsg
  pub first : IsFirstOwed air J i target message

pub owing : (air : Air) → IsSound air → (J : List Entry) (i : ℕ) → Owing air J i ⊎ OwesNothing air J i
owing air sound J i = go (first-of-all (λ j. (m : ResMsg) × (owed air J i j ≡ Some m)) (λ j. owed air J i j ≡ None) (λ j. some-or-none (owed air J i j)) air.count)
  where
    go : ((k : ℕ) × IsFirst (λ j. (m : ResMsg) × (owed air J i j ≡ Some m)) (λ j. owed air J i j ≡ None) k) ⊎ AllBelow (λ j. owed air J i j ≡ None) air.count → Owing air J i ⊎ OwesNothing air J i
    go (inl (k, f)) = inl (record { target = k; message = f.holds.0; first = record { owes = f.holds.1; first = f.before } })
    go (inr none) = inr (λ j. elim (cases_lt j air.count) [
      | inl h ↦ none j h
      | inr h ↦ elim (some-or-none (owed air J i j)) [
        | inl (m, e) ↦ absurd (let x : j < air.count = (owed-within air sound J i j m e).receiver in omega arith)
        | inr n ↦ n
      ]
    ])

-- The first aircraft that owes a message, where somebody does.
pub nobody-owes : (air : Air) → IsSound air → (J : List Entry) → AllBelow (λ i. OwesNothing air J i) air.count → NobodyOwes air J
nobody-owes air sound J none i j = elim (some-or-none (owed air J i j)) [
  | inl (m, e) ↦ none i (owed-within air sound J i j m e).sender j
  | inr n ↦ n
]

abbrev pub FirstOwing : Air → List Entry → ℕ → Type 0
FirstOwing air J i = IsFirst (λ i. Owing air J i) (λ i. OwesNothing air J i) i

pub first-owing : (air : Air) → IsSound air → (J : List Entry) → ((i : ℕ) × FirstOwing air J i) ⊎ NobodyOwes air J
first-owing air sound J = go (first-of-all (λ i. Owing air J i) (λ i. OwesNothing air J i) (λ i. owing air sound J i) air.count)
  where
    go : ((i : ℕ) × FirstOwing air J i) ⊎ AllBelow (λ i. OwesNothing air J i) air.count → ((i : ℕ) × FirstOwing air J i) ⊎ NobodyOwes air J
    go (inl f) = inl f
    go (inr none) = inr (nobody-owes air sound J none)

-- Some copy is due to an aircraft, and this is the first.
pub record HasDue (air : Air) (J : List Entry) (i : ℕ) : Type 0 where
  pub send : ℕ
  pub copy : ℕ
  pub first : IsFirstDue air J i send copy

abbrev FirstCopy : Air → List Entry → Option Sent → ℕ → ℕ → ℕ → Type 0
FirstCopy air J o i p c = IsFirst (λ c. is_copy_due air J o i p c ≡ true) (λ c. is_copy_due air J o i p c ≡ false) c

due-copies : (air : Air) (J : List Entry) (i p : ℕ) (o : Option Sent) → ((c : ℕ) × FirstCopy air J o i p c) ⊎ ((c : ℕ) → is_copy_due air J o i p c ≡ false)
due-copies air J i p None = inr (λ c. refl)
due-copies air J i p (Some S) = go (first-of-all (λ c. is_copy_due air J (Some S) i p c ≡ true) (λ c. is_copy_due air J (Some S) i p c ≡ false) (λ c. cases_Bool (is_copy_due air J (Some S) i p c)) (length copies))
  where
    copies : List CopyPlan
    copies = air.copies S.sender S.receiver S.number

    past : (c : ℕ) → length copies ≤ c → is_copy_due air J (Some S) i p c ≡ false
    past c h =
        let e : copy_plan air S c ≡ None = slice_get_past copies c h in
        and_right (eqb S.receiver i) _ (and_left (is_free (copy_plan air S c) (commits (entries_after J p) i)) _ (ap (λ o. is_free o (commits (entries_after J p) i)) e))

    go : ((c : ℕ) × FirstCopy air J (Some S) i p c) ⊎ AllBelow (λ c. is_copy_due air J (Some S) i p c ≡ false) (length copies) →
        ((c : ℕ) × FirstCopy air J (Some S) i p c) ⊎ ((c : ℕ) → is_copy_due air J (Some S) i p c ≡ false)
    go (inl f) = inl f
    go (inr none) = inr (λ c. elim (cases_lt c (length copies)) [ inl h ↦ none c h | inr h ↦ past c h ])

abbrev DueAt : Air → List Entry → ℕ → ℕ → Type 0
DueAt air J i p = (c : ℕ) × FirstCopy air J (sent_at J p) i p c

abbrev NoneDueAt : Air → List Entry → ℕ → ℕ → Type 0
NoneDueAt air J i p = (c : ℕ) → is_due air J i p c ≡ false

pub due-to : (air : Air) (J : List Entry) (i : ℕ) → HasDue air J i ⊎ NothingDue air J i
due-to air J i = go (first-of-all (λ p. DueAt air J i p) (λ p. NoneDueAt air J i p) (λ p. due-copies air J i p (sent_at J p)) (length J))
  where
    past : (p : ℕ) → length J ≤ p → NoneDueAt air J i p
    past p h c = elim (some-or-none (sent_at J p)) [
      | inl (S, e) ↦ absurd (let x : p < length J = sent-within J p S e in omega arith)
      | inr n ↦ ap (λ o. is_copy_due air J o i p c) n
    ]

    go : ((p : ℕ) × IsFirst (λ p. DueAt air J i p) (λ p. NoneDueAt air J i p) p) ⊎ AllBelow (λ p. NoneDueAt air J i p) (length J) → HasDue air J i ⊎ NothingDue air J i
    go (inl (p, f)) = inl (record { send = p; copy = f.holds.0; first = record { due = f.holds.1.holds; first_send = f.before; first_copy = f.holds.1.before } })
    go (inr none) = inr (λ p c. elim (cases_lt p (length J)) [ inl h ↦ none p h c | inr h ↦ past p h c ])

-- An active aircraft to which a copy is due, while nothing is due to those before it.
pub record IsDueTo (air : Air) (J : List Entry) (i : ℕ) : Type 0 where
  pub active : is_active air i ≡ true
  pub due : HasDue air J i

abbrev NoneDueTo : Air → List Entry → ℕ → Type 0
NoneDueTo air J i = is_active air i ≡ true → NothingDue air J i

abbrev pub FirstDueTo : Air → List Entry → ℕ → Type 0
FirstDueTo air J i = IsFirst (λ i. IsDueTo air J i) (λ i. is_active air i ≡ true → NothingDue air J i) i

pub first-due-to : (air : Air) → IsSound air → (J : List Entry) → ((i : ℕ) × FirstDueTo air J i) ⊎ NobodyIsDue air J
first-due-to air sound J = go (first-of-all (λ i. IsDueTo air J i) (λ i. NoneDueTo air J i) of air.count)
  where
    of : (i : ℕ) → IsDueTo air J i ⊎ NoneDueTo air J i
    of i = elim (cases_Bool (is_active air i)) [
      | inr n ↦ inr (λ a. absurd (let x : false ≡ true = sym n ∙ a in cc))
      | inl a ↦ elim (due-to air J i) [ inl d ↦ inl (record { active = a; due = d }) | inr n ↦ inr (λ _. n) ]
    ]

    go : ((i : ℕ) × FirstDueTo air J i) ⊎ AllBelow (λ i. NoneDueTo air J i) air.count → ((i : ℕ) × FirstDueTo air J i) ⊎ NobodyIsDue air J
    go (inl f) = inl f
    go (inr none) = inr (λ i a. none i (sound.counted i a) a)

-- No aircraft commits more cycles than there are.
pub commits-within : (air : Air) (J : List Entry) → IsLegal air J → (i : ℕ) → commits J i ≤ air.cycles
commits-within air [] l i = zero-le
commits-within air (Commit own cycle cells ∷ K) l i =
    let x = Commit own cycle cells in
    let ih : commits K i ≤ air.cycles = commits-within air K (earlier l) i in
    elim (cases_Bool (eqb own i)) [
      | inl y ↦
          let e : commits (x ∷ K) i ≡ commits K i + 1 = count-yes (is_commit_of i) x K y in
          let f : cycle ≡ commits K i + 1 = (allowed l).cycle_is ∙ ap (λ k. commits K k + 1) (eqb-true own i y) in
          let g : cycle ≤ air.cycles = (allowed l).in_run in
          omega arith
      | inr n ↦ let e : commits (x ∷ K) i ≡ commits K i = count-no (is_commit_of i) x K n in omega arith
    ]
commits-within air (Send own target number word ∷ K) l i = commits-within air K (earlier l) i
commits-within air (Take own p c good ∷ K) l i = commits-within air K (earlier l) i

-- The first of the aircraft with the fewest commits.
pub slowest : (air : Air) → IsSound air → (J : List Entry) → ((k : ℕ) × IsSlowest air J k) ⊎ ((i : ℕ) → is_active air i ≡ true → ⊥)
slowest air sound J = go (least-of (λ i. commits J i) (λ i. is_active air i) air.count)
  where
    go : ((k : ℕ) × IsLeast (λ i. commits J i) (λ i. is_active air i) air.count k) ⊎ AllBelow (λ m. is_active air m ≡ false) air.count → ((k : ℕ) × IsSlowest air J k) ⊎ ((i : ℕ) → is_active air i ≡ true → ⊥)
    go (inl (k, l)) = inl (k, record { active = l.passes; fewest = λ j a. l.least j (sound.counted j a) a; first = λ j a h. l.first j h a })
    go (inr none) = inr (λ i a. let x : false ≡ true = sym (none i (sound.counted i a)) ∙ a in cc)
