-- Single entries, wherever the journal stands.
use Rattle.std.proofs.Common.{◌≡◌, ℕ, ◌+◌, ◌<◌, ◌≤◌, Bool, true, false, List, Some, None, sym, refl, ◌∙◌, subst, arith, inl, below_more}
use Rattle.std.specs.Prelude.{MatchBool}
use Rattle.acas_base.specs.declared.entry.Entry.{Entry}
use Rattle.acas_base.specs.declared.entry.Entry.TheVariants as kinds
use Rattle.air_journal.specs.Calls.{Committed, Hinders, IsFree}
use Rattle.air_journal.specs.declared.answers.Commit.{Commit}
use Rattle.air_journal.specs.declared.answers.Commit.TheVariants as commit
use Rattle.air_rules.proofs.Waiting.{commits-within}
use Rattle.air_rules.specs.Air.{Air, IsSound, is_active}
use Rattle.air_rules.specs.Due.{NobodyIsDue, is_due}
use Rattle.air_rules.specs.Journal.{commits}
use Rattle.air_rules.specs.Owed.{NobodyOwes, owed}
use Rattle.air_rules.specs.Rules.{IsLegal, MayCommit, cells_for}
use Rattle.air_rules.specs.Serial.{IsSlowest, IsUneven}
use Rattle.resume.specs.Filling.{IsHeldUp, by_send, by_take, in_order}
use Rattle.resume.specs.Steps.{HasToWait, IsAtRest, IsSlowestOf, IsSomeAhead, MayGo, NobodyAhead, NoneActive, SentOne, Stepped, TookOne, is_even, is_held}

pub slowest-of-all : (air : Air) → IsSound air → (K : List Entry) (own : ℕ) → IsSlowestOf air K air.count own → IsSlowest air K own
slowest-of-all air sound K own s = record { active = s.active; fewest = λ j a. s.fewest j (sound.counted j a) a; first = s.first }

-- ---- who is slower

pub none-more : (air : Air) (n : ℕ) → NoneActive air n → is_active air n ≡ false → NoneActive air (n + 1)
none-more air n none f = below_more (λ k. is_active air k ≡ true → ⊥) n none (λ a. let z : false ≡ true = sym f ∙ a in cc)

pub slowest-kept : (air : Air) (K : List Entry) (n own : ℕ) → IsSlowestOf air K n own → (is_active air n ≡ true → commits K own ≤ commits K n) → IsSlowestOf air K (n + 1) own
slowest-kept air K n own s h = record {
  active = s.active;
  below = let b : own < n = s.below in omega arith;
  fewest = below_more (λ k. is_active air k ≡ true → commits K own ≤ commits K k) n s.fewest h;
  first = s.first;
}

pub slowest-first : (air : Air) (K : List Entry) (n : ℕ) → NoneActive air n → is_active air n ≡ true → IsSlowestOf air K (n + 1) n
slowest-first air K n none a = record {
  active = a;
  below = omega arith;
  fewest = below_more (λ k. is_active air k ≡ true → commits K n ≤ commits K k) n (λ k h b. absurd (none k h b)) (λ b. omega arith);
  first = λ k b h. absurd (none k h b);
}

pub slowest-new : (air : Air) (K : List Entry) (n own : ℕ) → IsSlowestOf air K n own → is_active air n ≡ true → commits K n < commits K own → IsSlowestOf air K (n + 1) n
slowest-new air K n own s a h = record {
  active = a;
  below = omega arith;
  fewest = below_more (λ k. is_active air k ≡ true → commits K n ≤ commits K k) n (λ k l b. let z = s.fewest k l b in omega arith) (λ b. omega arith);
  first = λ k b l. let z = s.fewest k l b in omega arith;
}

-- ---- whether it may go

pub goes : (air : Air) (K : List Entry) (own : ℕ) → is_active air own ≡ true → IsSomeAhead air K (commits K own) → IsFree air K own → MayGo air K own
goes air K own a s f = record { uneven = record { fewer = own; more = s.own; active_fewer = a; active_more = s.active; below = s.more }; free = f }

pub level-waits : (air : Air) → IsSound air → (K : List Entry) (own : ℕ) → IsSlowestOf air K air.count own → NobodyAhead air K (commits K own) air.count → HasToWait air K own
level-waits air sound K own s none = is_even (λ u.
    let low : commits K own ≤ commits K u.fewer = s.fewest u.fewer (sound.counted u.fewer u.active_fewer) u.active_fewer in
    let high : commits K u.more ≤ commits K own = none u.more (sound.counted u.more u.active_more) u.active_more in
    let b : commits K u.fewer < commits K u.more = u.below in omega arith)

pub held-waits : (air : Air) (K : List Entry) (own : ℕ) → is_active air own ≡ true → IsSomeAhead air K (commits K own) → (answer : Commit) → Hinders air K own answer → HasToWait air K own
held-waits air K own a s answer h = is_held (record { fewer = own; more = s.own; active_fewer = a; active_more = s.active; below = s.more }) answer h

-- ---- what comes next

hindered : (air : Air) (K : List Entry) (own cycle : ℕ) (answer : Commit) → Hinders air K own answer → MayCommit air K own cycle (cells_for air K own) → ⊥
hindered air K own cycle commit.Over h may = let a : commits K own ≡ air.cycles = h in let b : cycle ≤ air.cycles = may.in_run in let c : cycle ≡ commits K own + 1 = may.cycle_is in omega arith
hindered air K own cycle (commit.Owed j) h may = let a = h.first_owed.owes in let b : owed air K own j ≡ None = may.owes_nothing j in let z : None ≡ Some h.message = sym b ∙ a in cc
hindered air K own cycle (commit.Due p c) h may = let a = h.first_due.due in let b : is_due air K own p c ≡ false = may.nothing_due p c in let z : false ≡ true = sym b ∙ a in cc
hindered air K own cycle (commit.Ahead l n) h may = let a : commits K l < commits K own = h.first_behind.fewer in let b : commits K own ≤ commits K l = may.not_ahead l h.first_behind.active in omega arith
hindered air K own cycle (commit.Done position) h may = h

held-up : (air : Air) (K : List Entry) (own : ℕ) → IsSlowest air K own → IsUneven air K → (answer : Commit) → Hinders air K own answer → IsHeldUp air K
held-up air K own slow u answer h = record {
  entry = kinds.Commit own (commits K own + 1) (cells_for air K own);
  next = record { slowest = slow; time = inl u; cycle_is = refl; cells_are = refl };
  not_yet = λ may. hindered air K own (commits K own + 1) answer h may;
}

pub go-step : (air : Air) → IsSound air → (K J : List Entry) (own position : ℕ) → IsSlowestOf air K air.count own → MayGo air K own → Committed air K own J position → Stepped air K J
go-step air sound K J own position s g c = record {
  entry = kinds.Commit own c.cycle c.cells;
  next = in_order {entry = kinds.Commit own c.cycle c.cells} (record { slowest = slowest-of-all air sound K own s; time = inl g.uneven; cycle_is = c.allowed.cycle_is; cells_are = c.allowed.cells_are }) c.allowed;
  new_is = c.new_is;
}

pub send-step : (air : Air) → IsSound air → (K J : List Entry) (own : ℕ) → IsSlowestOf air K air.count own → HasToWait air K own → SentOne air K J → Stepped air K J
send-step air sound K J own s (is_even even) f = record {
  entry = kinds.Send f.own f.target f.number f.word;
  next = in_order {entry = kinds.Send f.own f.target f.number f.word} (record { even = even; allowed = f.first.allowed; first = f.first.first }) f.first.allowed;
  new_is = f.new_is;
}
send-step air sound K J own s (is_held u answer h) f = record {
  entry = kinds.Send f.own f.target f.number f.word;
  next = by_send (held-up air K own (slowest-of-all air sound K own s) u answer h) f.first;
  new_is = f.new_is;
}

pub take-step : (air : Air) → IsSound air → (K J : List Entry) (own : ℕ) → IsSlowestOf air K air.count own → HasToWait air K own → TookOne air K J → Stepped air K J
take-step air sound K J own s (is_even even) f = record {
  entry = kinds.Take f.own f.send f.copy f.good;
  next = in_order {entry = kinds.Take f.own f.send f.copy f.good} (record {
    even = even;
    nobody_owes = f.first.nobody_owes;
    allowed = f.first.allowed;
    first = f.first.first;
    first_due = f.first.first_due;
  }) f.first.allowed;
  new_is = f.new_is;
}
take-step air sound K J own s (is_held u answer h) f = record {
  entry = kinds.Take f.own f.send f.copy f.good;
  next = by_take (held-up air K own (slowest-of-all air sound K own s) u answer h) f.first;
  new_is = f.new_is;
}

-- Nothing is left to do before the next round.
pub at-rest : (air : Air) (K : List Entry) (own : ℕ) → IsLegal air K → IsSound air → IsSlowestOf air K air.count own → HasToWait air K own → NobodyOwes air K → NobodyIsDue air K → IsAtRest air K
at-rest air K own l sound s (is_even even) o d = record { even = even; idle = record { nobody_owes = o; nobody_is_due = d } }
at-rest air K own l sound s (is_held u answer h) o d = record { even = λ v. none answer h; idle = record { nobody_owes = o; nobody_is_due = d } }
  where
    none : (answer : Commit) → Hinders air K own answer → ⊥
    none commit.Over h =
        let a : commits K own ≡ air.cycles = h in
        let b : commits K u.more ≤ air.cycles = commits-within air K l u.more in
        let c : commits K own ≤ commits K u.fewer = s.fewest u.fewer (sound.counted u.fewer u.active_fewer) u.active_fewer in
        let e : commits K u.fewer < commits K u.more = u.below in omega arith
    none (commit.Owed j) h = let a = h.first_owed.owes in let b : owed air K own j ≡ None = o own j in let z : None ≡ Some h.message = sym b ∙ a in cc
    none (commit.Due p c) h = let a = h.first_due.due in let b : is_due air K own p c ≡ false = d own s.active p c in let z : false ≡ true = sym b ∙ a in cc
    none (commit.Ahead k n) h = let a : commits K k < commits K own = h.first_behind.fewer in let b : commits K own ≤ commits K k = s.fewest k (sound.counted k h.first_behind.active) h.first_behind.active in omega arith
    none (commit.Done position) h = h

-- What the last part of a step leaves.
pub last-step : (air : Air) → IsSound air → (K L J : List Entry) (own : ℕ) → IsLegal air K → IsSlowestOf air K air.count own → HasToWait air K own → NobodyOwes air K → L ≡ K → (b : Bool) →
    MatchBool b (TookOne air L J) (NobodyIsDue air L × (J ≡ L)) → MatchBool b (Stepped air K J) (IsAtRest air J × (J ≡ K))
last-step air sound K L J own l s h o e true m = take-step air sound K J own s h (subst (λ (x : List Entry). TookOne air x J) e m)
last-step air sound K L J own l s h o e false m =
    let same : J ≡ K = m.1 ∙ e in
    (subst (IsAtRest air) (sym same) (at-rest air K own l sound s h o (subst (NobodyIsDue air) e m.0)), same)
