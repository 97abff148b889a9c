-- How many commits and sends there are: no more sends to an aircraft than commits.
use Rattle.std.proofs.Common.{◌≡◌, ◌⊎◌, ℕ, ◌+◌, ◌≤◌, Bool, true, false, not, ◌&&◌, eqb, List, [], ◌∷◌, Some, None, sym, refl, ap₂, ◌∙◌, subst₂, arith, inl, inr, eqb-true, eq-eqb, zero-le}
use Rattle.std.proofs.lemmas.Bool.{cond-false, cond-true, and_parts, and_from, cases_Bool, not-true}
use Rattle.acas_base.specs.Messages.{message_for}
use Rattle.acas_base.specs.declared.advisory.Cell.{Cell}
use Rattle.acas_base.specs.declared.advisory.Cells.{Cells}
use Rattle.acas_base.specs.declared.advisory.ResMsg.{ResMsg}
use Rattle.acas_base.specs.declared.advisory.Vrc.{Vrc}
use Rattle.acas_base.specs.declared.advisory.Vrc.TheVariants.{Nil}
use Rattle.acas_base.specs.declared.entry.Entry.{Entry}
use Rattle.acas_base.specs.declared.entry.Entry.TheVariants.{Commit, Send, Take}
use Rattle.air_rules.proofs.EntryKinds.{is_commit, is_send}
use Rattle.air_rules.proofs.Legal.{allowed, earlier}
use Rattle.air_rules.proofs.Pace.{count-no, count-rises, count-yes}
use Rattle.air_rules.proofs.Running.{owed-message}
use Rattle.air_rules.proofs.SameWorlds.{none-yet}
use Rattle.air_rules.proofs.Sums.{total, total-le, total-more}
use Rattle.air_rules.proofs.Waiting.{owed-within}
use Rattle.air_rules.specs.Air.{Air, IsSound, is_ra}
use Rattle.air_rules.specs.Journal.{commits, count_of, has_sent, is_commit_of, is_send_of, last_cell, sends}
use Rattle.air_rules.specs.Owed.{has_many_threats, owed, said}
use Rattle.air_rules.specs.Rules.{IsLegal, MaySend}

pub commits-total : (air : Air) → IsSound air → (J : List Entry) → IsLegal air J → count_of is_commit J ≤ total (λ i. commits J i) air.count
commits-total air sound [] l = zero-le
commits-total air sound (Commit own cycle cells ∷ K) l =
    let x = Commit own cycle cells in
    let ih : count_of is_commit K ≤ total (λ i. commits K i) air.count = commits-total air sound K (earlier l) in
    let one : commits (x ∷ K) own ≡ commits K own + 1 = count-yes (is_commit_of own) x K (eq-eqb own own refl) in
    let m : total (λ i. commits K i) air.count + 1 ≤ total (λ i. commits (x ∷ K) i) air.count =
    total-more (λ i. commits K i) (λ i. commits (x ∷ K) i) air.count own (sound.counted own (allowed l).active) (omega arith) (λ k h. count-rises (is_commit_of k) x K) in
    omega arith
commits-total air sound (Send own target number word ∷ K) l = commits-total air sound K (earlier l)
commits-total air sound (Take own p c good ∷ K) l = commits-total air sound K (earlier l)

pub sends-total : (air : Air) → IsSound air → (J : List Entry) → IsLegal air J → count_of is_send J ≤ total (λ i. total (λ j. sends J i j) air.count) air.count
sends-total air sound [] l = zero-le
sends-total air sound (Commit own cycle cells ∷ K) l = sends-total air sound K (earlier l)
sends-total air sound (Send own target number word ∷ K) l =
    let x = Send own target number word in
    let n = air.count in
    let ih : count_of is_send K ≤ total (λ i. total (λ j. sends K i j) n) n = sends-total air sound K (earlier l) in
    let w = owed-within air sound K own target (allowed l).message (allowed l).first_owed.owes in
    let one : sends (x ∷ K) own target ≡ sends K own target + 1 = count-yes (is_send_of own target) x K (and_from _ _ (eq-eqb own own refl) (eq-eqb target target refl)) in
    let inner : total (λ j. sends K own j) n + 1 ≤ total (λ j. sends (x ∷ K) own j) n =
    total-more (λ j. sends K own j) (λ j. sends (x ∷ K) own j) n target w.receiver (omega arith) (λ k h. count-rises (is_send_of own k) x K) in
    let m : total (λ i. total (λ j. sends K i j) n) n + 1 ≤ total (λ i. total (λ j. sends (x ∷ K) i j) n) n =
    total-more (λ i. total (λ j. sends K i j) n) (λ i. total (λ j. sends (x ∷ K) i j) n) n own w.sender inner
    (λ i h. total-le (λ j. sends K i j) (λ j. sends (x ∷ K) i j) n (λ k g. count-rises (is_send_of i k) x K)) in
    omega arith
sends-total air sound (Take own p c good ∷ K) l = sends-total air sound K (earlier l)

-- ---- no more than one send for a commit

data Even (air : Air) (K : List Entry) (i j : ℕ) : Type 0 where
  fresh : commits K i ≡ 0 → sends K i j ≡ 0 → said air K i j ≡ Nil → Even air K i j
  free : has_sent K i j ≡ false → sends K i j + 1 ≤ commits K i → Even air K i j
  done : has_sent K i j ≡ true → sends K i j ≤ commits K i → Even air K i j

-- After a commit of i.
even-commit : (air : Air) (own cycle : ℕ) (cells : Cells) (K : List Entry) (i j : ℕ) → Even air K i j → Even air (Commit own cycle cells ∷ K) i j
even-commit air own cycle cells K i j before = go (cases_Bool (eqb own i)) before
  where
    yes : eqb own i ≡ true → sends K i j ≤ commits K i → Even air (Commit own cycle cells ∷ K) i j
    yes y few = free (cond-true (eqb own i) false _ y) (let e : commits (Commit own cycle cells ∷ K) i ≡ commits K i + 1 = count-yes (is_commit_of i) (Commit own cycle cells) K y in omega arith)

    go : (eqb own i ≡ true) ⊎ (eqb own i ≡ false) → Even air K i j → Even air (Commit own cycle cells ∷ K) i j
    go (inl y) (fresh c s v) = yes y (omega arith)
    go (inl y) (free h s) = yes y (omega arith)
    go (inl y) (done h s) = yes y s
    go (inr n) (fresh c s v) = fresh (count-no (is_commit_of i) (Commit own cycle cells) K n ∙ c) s v
    go (inr n) (free h s) = free (cond-false (eqb own i) false _ n ∙ h) (let e : commits (Commit own cycle cells ∷ K) i ≡ commits K i = count-no (is_commit_of i) (Commit own cycle cells) K n in omega arith)
    go (inr n) (done h s) = done (cond-false (eqb own i) false _ n ∙ h) (let e : commits (Commit own cycle cells ∷ K) i ≡ commits K i = count-no (is_commit_of i) (Commit own cycle cells) K n in omega arith)

-- Nothing is owed to whom something was sent since the last commit.
pub sent-owes-none : (air : Air) (K : List Entry) (i j : ℕ) (m : ResMsg) → owed air K i j ≡ Some m → has_sent K i j ≡ false
sent-owes-none air K i j m e =
    let a = and_parts (is_ra air i) _ (owed-message air K i j m e).0 in
    let b = and_parts (is_ra air j) _ a.1 in
    let c = and_parts (not (eqb i j)) (not (has_sent K i j)) b.1 in
    not-true (has_sent K i j) c.1

-- Nor where nothing was committed yet.
pub fresh-owes-none : (air : Air) (K : List Entry) (i j : ℕ) (m : ResMsg) → commits K i ≡ 0 → said air K i j ≡ Nil → owed air K i j ≡ Some m → ⊥
fresh-owes-none air K i j m c v e =
    let none : message_for (last_cell K i j) (said air K i j) (has_many_threats K i) (air.address i) ≡ None =
    ap₂ (λ (cell : Cell) (w : Vrc). message_for cell w (has_many_threats K i) (air.address i)) (none-yet K i j c) v in
    let f : None ≡ Some m = sym none ∙ (owed-message air K i j m e).1 in
    cc

even-send : (air : Air) (own target number word : ℕ) (K : List Entry) → MaySend air K own target number word → (i j : ℕ) → Even air K i j → Even air (Send own target number word ∷ K) i j
even-send air own target number word K may i j before = go (cases_Bool (eqb own i && eqb target j)) before
  where
    owes : eqb own i && eqb target j ≡ true → owed air K i j ≡ Some may.message
    owes y =
        let q = and_parts (eqb own i) (eqb target j) y in
        subst₂ (λ (a b : ℕ). owed air K a b ≡ Some may.message) (eqb-true own i q.0) (eqb-true target j q.1) may.first_owed.owes

    go : (eqb own i && eqb target j ≡ true) ⊎ (eqb own i && eqb target j ≡ false) → Even air K i j → Even air (Send own target number word ∷ K) i j
    go (inl y) (fresh c s v) = absurd (fresh-owes-none air K i j may.message c v (owes y))
    go (inl y) (free h s) = done (cond-true (eqb own i && eqb target j) true _ y) (let e : sends (Send own target number word ∷ K) i j ≡ sends K i j + 1 = count-yes (is_send_of i j) (Send own target number word) K y in omega arith)
    go (inl y) (done h s) = absurd (let g : true ≡ false = sym h ∙ sent-owes-none air K i j may.message (owes y) in cc)
    go (inr n) (fresh c s v) = fresh c (count-no (is_send_of i j) (Send own target number word) K n ∙ s) (cond-false (eqb own i && eqb target j) _ _ n ∙ v)
    go (inr n) (free h s) = free (cond-false (eqb own i && eqb target j) true _ n ∙ h) (let e : sends (Send own target number word ∷ K) i j ≡ sends K i j = count-no (is_send_of i j) (Send own target number word) K n in omega arith)
    go (inr n) (done h s) = done (cond-false (eqb own i && eqb target j) true _ n ∙ h) (let e : sends (Send own target number word ∷ K) i j ≡ sends K i j = count-no (is_send_of i j) (Send own target number word) K n in omega arith)

even-take : (air : Air) (own send copy : ℕ) (good : Bool) (K : List Entry) (i j : ℕ) → Even air K i j → Even air (Take own send copy good ∷ K) i j
even-take air own send copy good K i j (fresh a b d) = fresh a b d
even-take air own send copy good K i j (free a b) = free a b
even-take air own send copy good K i j (done a b) = done a b

even : (air : Air) (K : List Entry) → IsLegal air K → (i j : ℕ) → Even air K i j
even air [] l i j = fresh refl refl refl
even air (Commit own cycle cells ∷ K) l i j = even-commit air own cycle cells K i j (even air K (earlier l) i j)
even air (Send own target number word ∷ K) l i j = even-send air own target number word K (allowed l) i j (even air K (earlier l) i j)
even air (Take own send copy good ∷ K) l i j = even-take air own send copy good K i j (even air K (earlier l) i j)

pub sends-few : (air : Air) (K : List Entry) → IsLegal air K → (i j : ℕ) → sends K i j ≤ commits K i
sends-few air K l i j = go (even air K l i j)
  where
    go : Even air K i j → sends K i j ≤ commits K i
    go (fresh c s v) = omega arith
    go (free h s) = omega arith
    go (done h s) = s
