-- There is one serial journal at most.
use Rattle.std.proofs.Common.{◌≡◌, ℕ, ◌+◌, ◌<◌, ◌≤◌, Bool, true, false, List, [], ◌∷◌, length, Some, None, is_some, sym, refl, ap, ap₂, ◌∙◌, subst, arith, inl, inr}
use Rattle.std.proofs.lemmas.Bool.{cases_lt, cases_eq}
use Rattle.acas_base.specs.declared.advisory.Cells.{Cells}
use Rattle.acas_base.specs.declared.entry.Entry.{Entry}
use Rattle.acas_base.specs.declared.entry.Entry.TheVariants.{Commit, Send, Take}
use Rattle.air_rules.specs.Air.{Air, is_active}
use Rattle.air_rules.specs.Due.{IsFirstDue, NothingDue, is_due}
use Rattle.air_rules.specs.Journal.{Begins, commits, more, sends, sent_at, whole}
use Rattle.air_rules.specs.Owed.{OwesNothing, owed}
use Rattle.air_rules.specs.Rules.{MaySend, MayTake, cells_for}
use Rattle.air_rules.specs.Serial.{ComesNext, CommitsNext, IsInOrder, IsSerial, IsSlowest, IsTimeToCommit, SendsNext, TakesNext, followed}
use Rattle.air_rules.specs.Takes.{read_copy}

-- ---- at most one entry comes next

-- Of two numbers neither of which is below the other.
pub neither : (a b : ℕ) → (a < b → ⊥) → (b < a → ⊥) → a ≡ b
neither a b f g = elim (cases_lt a b) [ inl h ↦ absurd (f h) | inr h ↦ elim (cases_lt b a) [ inl k ↦ absurd (g k) | inr k ↦ omega arith ] ]

slower : (air : Air) (K : List Entry) (i j : ℕ) → IsSlowest air K i → IsSlowest air K j → i < j → ⊥
slower air K i j one two h =
    let a : commits K j < commits K i = two.first i one.active h in
    let b : commits K i ≤ commits K j = one.fewest j two.active in
    omega arith

pub owes-then : (air : Air) (K : List Entry) (i j number word : ℕ) → MaySend air K i j number word → owed air K i j ≡ None → ⊥
owes-then air K i j number word may none = let e : None ≡ Some may.message = sym none ∙ may.first_owed.owes in cc

due-then : (air : Air) (K : List Entry) (i p c : ℕ) (good : Bool) → MayTake air K i p c good → is_due air K i p c ≡ false → ⊥
due-then air K i p c good may none = let e : false ≡ true = sym none ∙ may.due in cc

commit-send : (air : Air) (K : List Entry) (a b : ℕ) (cells : Cells) (i j number word : ℕ) → CommitsNext air K a b cells → SendsNext air K i j number word → ⊥
commit-send air K a b cells i j number word one two = go one.time
  where
    go : IsTimeToCommit air K a → ⊥
    go (inl u) = two.even u
    go (inr (idle, left)) = owes-then air K i j number word two.allowed (idle.nobody_owes i j)

commit-take : (air : Air) (K : List Entry) (a b : ℕ) (cells : Cells) (i p c : ℕ) (good : Bool) → CommitsNext air K a b cells → TakesNext air K i p c good → ⊥
commit-take air K a b cells i p c good one two = go one.time
  where
    go : IsTimeToCommit air K a → ⊥
    go (inl u) = two.even u
    go (inr (idle, left)) = due-then air K i p c good two.allowed (idle.nobody_is_due i two.allowed.active p c)

send-take : (air : Air) (K : List Entry) (i j number word a p c : ℕ) (good : Bool) → SendsNext air K i j number word → TakesNext air K a p c good → ⊥
send-take air K i j number word a p c good one two = owes-then air K i j number word one.allowed (two.nobody_owes i j)

commit-once : (air : Air) (K : List Entry) (i j b d : ℕ) (cells others : Cells) → CommitsNext air K i b cells → CommitsNext air K j d others → Commit i b cells ≡ Commit j d others
commit-once air K i j b d cells others one two =
    let own : i ≡ j = neither i j (slower air K i j one.slowest two.slowest) (slower air K j i two.slowest one.slowest) in
    let cycle : b ≡ d = one.cycle_is ∙ ap (λ (k : ℕ). commits K k + 1) own ∙ sym two.cycle_is in
    let same : cells ≡ others = one.cells_are ∙ ap (cells_for air K) own ∙ sym two.cells_are in
    λ t. Commit (own t) (cycle t) (same t)

-- Nobody before this aircraft owes a message.
abbrev NoneOwesBefore : Air → List Entry → ℕ → Type 0
NoneOwesBefore air K i = (before : ℕ) → before < i → OwesNothing air K before

-- Nothing is due to an active aircraft before this one.
abbrev NoneDueBefore : Air → List Entry → ℕ → Type 0
NoneDueBefore air K i = (before : ℕ) → before < i → is_active air before ≡ true → NothingDue air K before

-- At most one message is the first that is owed, by sender and receiver.
pub first-send-once : (air : Air) (K : List Entry) (i j n w k l m v : ℕ) → MaySend air K i j n w → NoneOwesBefore air K i → MaySend air K k l m v → NoneOwesBefore air K k → Send i j n w ≡ Send k l m v
first-send-once air K i j n w k l m v one first two second =
    let own : i ≡ k = neither i k (λ h. owes-then air K i j n w one (second i h j)) (λ h. owes-then air K k l m v two (first k h l)) in
    let f = one.first_owed in
    let g = two.first_owed in
    let to : j ≡ l = neither j l
    (λ h. owes-then air K i j n w one (subst (λ (x : ℕ). owed air K x j ≡ None) (sym own) (g.first j h)))
    (λ h. owes-then air K k l m v two (subst (λ (x : ℕ). owed air K x l ≡ None) own (f.first l h))) in
    let message : Some one.message ≡ Some two.message = sym f.owes ∙ ap₂ (λ (x y : ℕ). owed air K x y) own to ∙ g.owes in
    let what : one.message ≡ two.message = cc in
    let number : n ≡ m = one.number_is ∙ ap₂ (λ (x y : ℕ). sends K x y + 1) own to ∙ sym two.number_is in
    let word : w ≡ v = one.word_is ∙ ap air.word what ∙ sym two.word_is in
    λ t. Send (own t) (to t) (number t) (word t)

-- At most one copy is the first that is due, by receiver, position and copy.
pub first-take-once : (air : Air) (K : List Entry) (i p c k q d : ℕ) (good fine : Bool)
    → MayTake air K i p c good → NoneDueBefore air K i → IsFirstDue air K i p c
    → MayTake air K k q d fine → NoneDueBefore air K k → IsFirstDue air K k q d
    → Take i p c good ≡ Take k q d fine
first-take-once air K i p c k q d good fine one none_one first_one two none_two first_two =
    let own : i ≡ k = neither i k (λ h. due-then air K i p c good one (none_two i h one.active p c)) (λ h. due-then air K k q d fine two (none_one k h two.active q d)) in
    let send : p ≡ q = neither p q
    (λ h. due-then air K i p c good one (subst (λ (x : ℕ). is_due air K x p c ≡ false) (sym own) (first_two.first_send p h c)))
    (λ h. due-then air K k q d fine two (subst (λ (x : ℕ). is_due air K x q d ≡ false) own (first_one.first_send q h d))) in
    let copy : c ≡ d = neither c d
    (λ h. due-then air K i p c good one (ap₂ (λ (x y : ℕ). is_due air K x y c) own send ∙ first_two.first_copy c h))
    (λ h. due-then air K k q d fine two (ap₂ (λ (x y : ℕ). is_due air K x y d) (sym own) (sym send) ∙ first_one.first_copy d h)) in
    let is : good ≡ fine = one.good_is ∙ ap₂ (λ (x y : ℕ). is_some (read_copy air (sent_at K x) y)) send copy ∙ sym two.good_is in
    λ t. Take (own t) (send t) (copy t) (is t)

pub comes-once : (air : Air) (K : List Entry) (x y : Entry) → ComesNext air K x → ComesNext air K y → x ≡ y
comes-once air K (Commit i b cells) (Commit j d others) one two = commit-once air K i j b d cells others one two
comes-once air K (Commit a b cells) (Send i j n w) one two = absurd (commit-send air K a b cells i j n w one two)
comes-once air K (Commit a b cells) (Take i p c good) one two = absurd (commit-take air K a b cells i p c good one two)
comes-once air K (Send i j n w) (Commit a b cells) one two = absurd (commit-send air K a b cells i j n w two one)
comes-once air K (Send i j n w) (Send k l m v) one two = first-send-once air K i j n w k l m v one.allowed one.first two.allowed two.first
comes-once air K (Send i j n w) (Take a p c good) one two = absurd (send-take air K i j n w a p c good one two)
comes-once air K (Take i p c good) (Commit a b cells) one two = absurd (commit-take air K a b cells i p c good two one)
comes-once air K (Take i p c good) (Send k l m v) one two = absurd (send-take air K k l m v i p c good two one)
comes-once air K (Take i p c good) (Take k q d fine) one two =
    first-take-once air K i p c k q d good fine one.allowed one.first one.first_due two.allowed two.first two.first_due

-- ---- so journals in order differ by their length alone

pub in-order-before : (air : Air) (x : Entry) (K : List Entry) → IsInOrder air (x ∷ K) → IsInOrder air K
in-order-before air x K (followed o n) = o

pub in-order-next : (air : Air) (x : Entry) (K : List Entry) → IsInOrder air (x ∷ K) → ComesNext air K x
in-order-next air x K (followed o n) = n

pub in-order-begins : (air : Air) (K J : List Entry) → Begins K J → IsInOrder air J → IsInOrder air K
in-order-begins air K J whole o = o
in-order-begins air K J (more {entry = x} {journal = L} b) o = in-order-begins air K L b (in-order-before air x L o)

pub same-length : (air : Air) (J L : List Entry) → IsInOrder air J → IsInOrder air L → length J ≡ length L → J ≡ L
same-length air [] [] o p e = refl
same-length air [] (y ∷ L) o p e = absurd (omega arith)
same-length air (x ∷ J) [] o p e = absurd (omega arith)
same-length air (x ∷ J) (y ∷ L) o p e =
    let rest : J ≡ L = same-length air J L (in-order-before air x J o) (in-order-before air y L p) (omega arith) in
    let first : x ≡ y = comes-once air J x y (in-order-next air x J o) (subst (λ (K : List Entry). ComesNext air K y) (sym rest) (in-order-next air y L p)) in
    λ t. first t ∷ rest t

-- The entry at a position, with the journal before it.
pub record Placed (L : List Entry) (n : ℕ) : Type 0 where
  pub entry : Entry
  pub before : List Entry
  pub there : Begins (entry ∷ before) L
  pub position : length before ≡ n

pub placed : (L : List Entry) (n : ℕ) → n < length L → Placed L n
placed [] n h = absurd (omega arith)
placed (x ∷ L) n h =
    let ih = placed L n in
    elim (cases_eq n (length L)) [
      | inl e ↦ record { entry = x; before = L; there = whole; position = sym e }
      | inr ne ↦ let p = ih (omega arith) in record { entry = p.entry; before = p.before; there = more p.there; position = p.position }
    ]

no-longer : (air : Air) (J L : List Entry) → IsSerial air J → IsSerial air L → length J < length L → ⊥
no-longer air J L one two h =
    let p = placed L (length J) h in
    let o = in-order-begins air (p.entry ∷ p.before) L p.there two.in_order in
    let same : p.before ≡ J = same-length air p.before J (in-order-before air p.entry p.before o) one.in_order p.position in
    one.ended p.entry (subst (λ (K : List Entry). ComesNext air K p.entry) same (in-order-next air p.entry p.before o))

pub only-serial : (air : Air) (J L : List Entry) → IsSerial air J → IsSerial air L → J ≡ L
only-serial air J L one two =
    same-length air J L one.in_order two.in_order (neither (length J) (length L) (no-longer air J L one two) (no-longer air L J two one))
