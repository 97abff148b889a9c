-- The longest that a legal journal can be.
use Rattle.std.proofs.Common.{◌≡◌, ℕ, zero, suc, ◌+◌, ◌*◌, ◌-◌, ◌<◌, ◌≤◌, Bool, true, false, not, ◌&&◌, cond, eqb, List, [], ◌∷◌, length, sym, refl, ap, ap₂, ◌∙◌, subst, arith, inl, inr, eqb-true, le_trans}
use Rattle.std.proofs.Math.Nat.{mul_assoc, mul_comm}
use Rattle.std.proofs.lemmas.Bool.{cond_both, and_parts, and_from, cases_Bool}
use Rattle.acas_base.specs.declared.entry.Entry.{Entry}
use Rattle.acas_base.specs.declared.entry.Entry.TheVariants.{Commit, Send, Take}
use Rattle.air_rules.proofs.EntryKinds.{is_commit, is_send, is_take, parts}
use Rattle.air_rules.proofs.Legal.{allowed, earlier}
use Rattle.air_rules.proofs.Pace.{count-no}
use Rattle.air_rules.proofs.Running.{owed-message}
use Rattle.air_rules.proofs.FewSends.{commits-total, sends-few, sends-total}
use Rattle.air_rules.proofs.Sums.{count-but, total, total-each, total-le}
use Rattle.air_rules.proofs.FewTakes.{named-few, places, takes_from, takes-total, three}
use Rattle.air_rules.proofs.Waiting.{commits-within}
use Rattle.air_rules.specs.Air.{Air, IsSound, is_active, is_ra}
use Rattle.air_rules.specs.Journal.{commits, count_of, is_commit_of, is_send_of, sends, sent_at}
use Rattle.air_rules.specs.Length.{IsBounded, active_count, count_below, ra_count}
use Rattle.air_rules.specs.Owed.{may_owe}
use Rattle.air_rules.specs.Rules.{IsLegal}

-- ---- who makes no entries

inactive-none : (air : Air) (J : List Entry) → IsLegal air J → (i : ℕ) → is_active air i ≡ false → commits J i ≡ 0
inactive-none air [] l i n = refl
inactive-none air (Commit own cycle cells ∷ K) l i n =
    let ih : commits K i ≡ 0 = inactive-none air K (earlier l) i n in
    elim (cases_Bool (eqb own i)) [
      | inl y ↦ absurd (let f : false ≡ true = sym n ∙ subst (λ (k : ℕ). is_active air k ≡ true) (eqb-true own i y) (allowed l).active in cc)
      | inr m ↦ count-no (is_commit_of i) (Commit own cycle cells) K m ∙ ih
    ]
inactive-none air (Send own target number word ∷ K) l i n = inactive-none air K (earlier l) i n
inactive-none air (Take own p c good ∷ K) l i n = inactive-none air K (earlier l) i n

commits-few : (air : Air) (J : List Entry) → IsLegal air J → (i : ℕ) → commits J i ≤ cond (is_active air i) air.cycles 0
commits-few air J l i =
    cond_both (is_active air i) air.cycles 0 (λ n. commits J i ≤ n)
    (λ _. commits-within air J l i)
    (λ n. let z : commits J i ≡ 0 = inactive-none air J l i n in omega arith)

-- Two aircraft that coordinate.
abbrev are_pair : Air → ℕ → ℕ → Bool
are_pair air i j = is_ra air i && (is_ra air j && not (eqb i j))

pair-of : (air : Air) (K : List Entry) (i j : ℕ) → may_owe air K i j ≡ true → are_pair air i j ≡ true
pair-of air K i j m =
    let a = and_parts (is_ra air i) _ m in
    let b = and_parts (is_ra air j) _ a.1 in
    let c = and_parts (not (eqb i j)) _ b.1 in
    and_from (is_ra air i) _ a.0 (and_from (is_ra air j) _ b.0 c.0)

apart-none : (air : Air) (J : List Entry) → IsLegal air J → (i j : ℕ) → are_pair air i j ≡ false → sends J i j ≡ 0
apart-none air [] l i j n = refl
apart-none air (Commit own cycle cells ∷ K) l i j n = apart-none air K (earlier l) i j n
apart-none air (Send own target number word ∷ K) l i j n =
    let ih : sends K i j ≡ 0 = apart-none air K (earlier l) i j n in
    let may = allowed l in
    elim (cases_Bool (eqb own i && eqb target j)) [
      | inl y ↦
          let parts = and_parts (eqb own i) (eqb target j) y in
          let pair : are_pair air own target ≡ true = pair-of air K own target (owed-message air K own target may.message may.first_owed.owes).0 in
          let same : are_pair air own target ≡ are_pair air i j = ap₂ (λ (x y : ℕ). are_pair air x y) (eqb-true own i parts.0) (eqb-true target j parts.1) in
          absurd (let f : false ≡ true = sym n ∙ sym same ∙ pair in cc)
      | inr m ↦ count-no (is_send_of i j) (Send own target number word) K m ∙ ih
    ]
apart-none air (Take own p c good ∷ K) l i j n = apart-none air K (earlier l) i j n

sends-each : (air : Air) (J : List Entry) → IsLegal air J → (i j : ℕ) → sends J i j ≤ cond (are_pair air i j) air.cycles 0
sends-each air J l i j =
    cond_both (are_pair air i j) air.cycles 0 (λ n. sends J i j ≤ n)
    (λ _. le_trans (sends-few air J l i j) (commits-within air J l i))
    (λ n. let z : sends J i j ≡ 0 = apart-none air J l i j n in omega arith)

-- ---- how many pairs there are

-- Those with which i coordinates.
others-of : (air : Air) (i : ℕ) → i < air.count → is_ra air i ≡ true → count_below (are_pair air i) air.count ≡ ra_count air - 1
others-of air i h r =
    let but : count_below (λ j. is_ra air j && not (eqb i j)) air.count + 1 ≡ ra_count air = count-but (is_ra air) air.count i h r in
    let same : count_below (are_pair air i) air.count ≡ count_below (λ j. is_ra air j && not (eqb i j)) air.count =
    ap (λ (b : Bool). count_below (λ j. b && (is_ra air j && not (eqb i j))) air.count) r in
    omega arith

sends-of : (air : Air) (J : List Entry) → IsLegal air J → (i : ℕ) → i < air.count → total (λ j. sends J i j) air.count ≤ cond (is_ra air i) ((ra_count air - 1) * air.cycles) 0
sends-of air J l i h =
    let n = air.count in
    let up : total (λ j. sends J i j) n ≤ total (λ j. cond (are_pair air i j) air.cycles 0) n = total-le (λ j. sends J i j) (λ j. cond (are_pair air i j) air.cycles 0) n (λ k _. sends-each air J l i k) in
    let is : total (λ j. cond (are_pair air i j) air.cycles 0) n ≡ count_below (are_pair air i) n * air.cycles = total-each (are_pair air i) air.cycles n in
    cond_both (is_ra air i) ((ra_count air - 1) * air.cycles) 0 (λ m. total (λ j. sends J i j) n ≤ m)
    (λ r. let few : count_below (are_pair air i) n * air.cycles ≡ (ra_count air - 1) * air.cycles = ap (λ (m : ℕ). m * air.cycles) (others-of air i h r) in omega arith)
    (λ r.
    let none : count_below (are_pair air i) n ≡ 0 = ap (λ (b : Bool). count_below (λ j. b && (is_ra air j && not (eqb i j))) n) r ∙ count_none n in
    let zero_is : count_below (are_pair air i) n * air.cycles ≡ 0 * air.cycles = ap (λ (m : ℕ). m * air.cycles) none in
    omega arith)
  where
    count_none : (n : ℕ) → count_below (λ j. false) n ≡ 0
    count_none zero = refl
    count_none (suc n) = count_none n

pub bounded : (air : Air) (J : List Entry) → IsSound air → IsLegal air J → IsBounded air J
bounded air J sound l =
    let n = air.count in
    let r = ra_count air in
    let split : length J ≡ count_of is_commit J + (count_of is_send J + count_of is_take J) = parts J in
    let c : count_of is_commit J ≤ total (λ i. commits J i) n = commits-total air sound J l in
    let c2 : total (λ i. commits J i) n ≤ total (λ i. cond (is_active air i) air.cycles 0) n = total-le (λ i. commits J i) (λ i. cond (is_active air i) air.cycles 0) n (λ k _. commits-few air J l k) in
    let c3 : total (λ i. cond (is_active air i) air.cycles 0) n ≡ air.cycles * active_count air = total-each (is_active air) air.cycles n ∙ mul_comm (active_count air) air.cycles in
    let s : count_of is_send J ≤ total (λ i. total (λ j. sends J i j) n) n = sends-total air sound J l in
    let s2 : total (λ i. total (λ j. sends J i j) n) n ≤ total (λ i. cond (is_ra air i) ((r - 1) * air.cycles) 0) n =
    total-le (λ i. total (λ j. sends J i j) n) (λ i. cond (is_ra air i) ((r - 1) * air.cycles) 0) n (λ k h. sends-of air J l k h) in
    let s3 : total (λ i. cond (is_ra air i) ((r - 1) * air.cycles) 0) n ≡ r * ((r - 1) * air.cycles) = total-each (is_ra air) ((r - 1) * air.cycles) n in
    let s4 : r * ((r - 1) * air.cycles) ≡ air.cycles * (r * (r - 1)) = sym (mul_assoc r (r - 1) air.cycles) ∙ mul_comm (r * (r - 1)) air.cycles in
    let t : count_of is_take J ≤ total (λ p. count_of (takes_from p) J) (length J) = takes-total air sound J l in
    let t2 : total (λ p. count_of (takes_from p) J) (length J) ≤ total (λ p. three (sent_at J p)) (length J) =
    total-le (λ p. count_of (takes_from p) J) (λ p. three (sent_at J p)) (length J) (λ k h. named-few air sound J l k) in
    let t3 : total (λ p. three (sent_at J p)) (length J) ≤ 3 * count_of is_send J = places J in
    omega arith
