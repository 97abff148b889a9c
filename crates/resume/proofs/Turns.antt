-- The parts of a round.
use Rattle.std.proofs.Common.{◌≡◌, ◌≢◌, ◌⊎◌, ℕ, ◌+◌, ◌<◌, ◌≤◌, Bool, true, false, zero-le, List, ◌∷◌, length, Some, None, sym, refl, ap, ◌∙◌, subst, arith, inl, inr, below_more, eq-eqb, ne_eqb}
use Rattle.std.proofs.lemmas.Bool.{cases_eq, cases_lt, cases_Bool}
use Rattle.acas_base.specs.declared.advisory.Cells.{Cells}
use Rattle.acas_base.specs.declared.entry.Entry.{Entry}
use Rattle.acas_base.specs.declared.entry.Entry.TheVariants as kinds
use Rattle.air_journal.specs.Calls.{Commits, Committed, IsFree, Sends, Takes}
use Rattle.air_journal.specs.declared.answers.Commit.{Commit}
use Rattle.air_journal.specs.declared.answers.Commit.TheVariants as commit
use Rattle.air_journal.specs.declared.answers.Sent.TheVariants as sent
use Rattle.air_journal.specs.declared.answers.Took.TheVariants as took
use Rattle.air_rules.proofs.Pace.{count-no, count-yes}
use Rattle.air_rules.specs.Air.{Air, IsSound, is_active}
use Rattle.air_rules.specs.Due.{NothingDue}
use Rattle.air_rules.specs.Journal.{commits, is_commit_of}
use Rattle.air_rules.specs.Owed.{OwesNothing, owed}
use Rattle.air_rules.specs.Rules.{MayCommit}
use Rattle.air_rules.specs.Serial.{ComesNext, IsIdle, IsSlowest, IsUneven}
use Rattle.resume.proofs.Stable.{due-commit, due-take, inactive-owes, owed-other}
use Rattle.resume.specs.Filling.{Fills, FillsNext, filled_by, in_order, unfilled}
use Rattle.resume.specs.Phases.{AreLevel, BeforeCommit, BeforeSends, BeforeTakes, HasOne}

fills-both : {air : Air} {one two three : List Entry} → Fills air one two → Fills air two three → Fills air one three
fills-both a unfilled = a
fills-both a (filled_by b n) = filled_by (fills-both a b) n

pub fills-on : (air : Air) (one two three : List Entry) → Fills air one two → Fills air two three → Fills air one three
fills-on air one two three a b = fills-both a b

pub one-step : {air : Air} {K : List Entry} {entry : Entry} → FillsNext air K entry → Fills air K (entry ∷ K)
one-step n = filled_by unfilled n

pub not-uneven : (air : Air) (K : List Entry) (n : ℕ) → AreLevel air K n → IsUneven air K → ⊥
not-uneven air K n level u =
    let a : commits K u.fewer ≡ n = level u.fewer u.active_fewer in
    let b : commits K u.more ≡ n = level u.more u.active_more in
    let c : commits K u.fewer < commits K u.more = u.below in
    omega arith

-- What a part of a round leaves.
pub record Goes (air : Air) (old new : List Entry) (After : List Entry → Type 0) : Type 0 where
  pub fills : Fills air old new
  pub after : After new

-- ---- sends

pub sent-one : (air : Air) (K J : List Entry) (own n position : ℕ) → BeforeSends air K own n → Sends air K own J (sent.Done position) → Goes air K J (λ L. BeforeSends air L own n)
sent-one air K J own n position b s =
    let x = kinds.Send own s.target s.number s.word in
    subst (λ L. Goes air K L (λ L. BeforeSends air L own n)) (sym s.new_is) (record {
      fills = one-step (in_order {entry = x} (record { even = not-uneven air K n b.level; allowed = s.allowed; first = b.sent }) s.allowed);
      after = record {
        level = b.level;
        sent = λ h lt k. owed-other air x K h k (λ e. let z : h < own = lt in omega arith) ∙ b.sent h lt k;
      };
    })

pub sent-all : (air : Air) (K J : List Entry) (own n : ℕ) → BeforeSends air K own n → Sends air K own J sent.Nothing → Goes air K J (λ L. BeforeSends air L (own + 1) n)
sent-all air K J own n b s = subst (λ L. Goes air K L (λ L. BeforeSends air L (own + 1) n)) (sym s.1) (record {
  fills = unfilled;
  after = record {
    level = b.level;
    sent = below_more (λ h. OwesNothing air K h) own b.sent s.0;
  };
})

-- ---- takes

pub taken-one : (air : Air) (K J : List Entry) (own n position : ℕ) (good : Bool) → BeforeTakes air K own n → Takes air K own J (took.Done position good) → Goes air K J (λ L. BeforeTakes air L own n)
taken-one air K J own n position good b s =
    let x = kinds.Take own s.send s.copy good in
    subst (λ L. Goes air K L (λ L. BeforeTakes air L own n)) (sym s.took.new_is) (record {
      fills = one-step (in_order {entry = x} (record {
        even = not-uneven air K n b.level;
        nobody_owes = b.sent;
        allowed = s.took.allowed;
        first = b.taken;
        first_due = s.first;
      }) s.took.allowed);
      after = record {
        level = b.level;
        sent = b.sent;
        taken = λ h lt a q d. due-take air K own s.send s.copy good h q d (λ e. let z : h < own = lt in omega arith) ∙ b.taken h lt a q d;
      };
    })

pub taken-all : (air : Air) (K J : List Entry) (own n : ℕ) → BeforeTakes air K own n → Takes air K own J took.Nothing → Goes air K J (λ L. BeforeTakes air L (own + 1) n)
taken-all air K J own n b s = subst (λ L. Goes air K L (λ L. BeforeTakes air L (own + 1) n)) (sym s.1) (record {
  fills = unfilled;
  after = record {
    level = b.level;
    sent = b.sent;
    taken = below_more (λ h. is_active air h ≡ true → NothingDue air K h) own b.taken (λ _. s.0);
  };
})

-- ---- commits

slowest-is : (air : Air) (K : List Entry) (own n : ℕ) → BeforeCommit air K own n → is_active air own ≡ true → IsSlowest air K own
slowest-is air K own n b active = record {
  active = active;
  fewest = λ j a. elim (cases_lt j own) [
    | inl lt ↦ (let x : commits K j ≡ n + 1 = b.committed j a lt in let y : commits K own ≡ n = mine in omega arith)
    | inr ge ↦ (let x : commits K j ≡ n = b.others j a ge in let y : commits K own ≡ n = mine in omega arith)
  ];
  first = λ j a lt. let x : commits K j ≡ n + 1 = b.committed j a lt in let y : commits K own ≡ n = mine in omega arith;
}
  where
    mine : commits K own ≡ n
    mine = b.others own active (omega arith)

after-commit : (air : Air) (K : List Entry) (own n cycle : ℕ) (cells : Cells) → BeforeCommit air K own n → is_active air own ≡ true → n < air.cycles → MayCommit air K own cycle cells →
    Goes air K (kinds.Commit own cycle cells ∷ K) (λ L. BeforeCommit air L (own + 1) n)
after-commit air K own n cycle cells b active left may = record {
  fills = one-step (in_order {entry = x} (record { slowest = slowest-is air K own n b active; time = time b.begun; cycle_is = may.cycle_is; cells_are = may.cells_are }) may);
  after = record {
    committed = λ j a lt. elim (cases_eq j own) [
      | inl e ↦ subst (λ (k : ℕ). commits (x ∷ K) k ≡ n + 1) (sym e) (one_more ∙ ap (λ m. m + 1) mine)
      | inr ne ↦ same j (λ e. ne (sym e)) ∙ b.committed j a (omega arith)
    ];
    others = λ j a ge. same j (λ e. let z : own + 1 ≤ j = ge in omega arith) ∙ b.others j a (omega arith);
    owe_nothing = λ j ge k. owed-other air x K j k (λ e. let z : own + 1 ≤ j = ge in omega arith) ∙ b.owe_nothing j (omega arith) k;
    have_nothing = λ j ge a p c. due-commit air K own cycle cells j p c (λ e. let z : own + 1 ≤ j = ge in omega arith) ∙ b.have_nothing j (omega arith) a p c;
    begun = inl (record { own = own; active = active; made_is = one_more ∙ ap (λ m. m + 1) mine });
  };
}
  where
    x : Entry
    x = kinds.Commit own cycle cells

    mine : commits K own ≡ n
    mine = b.others own active (omega arith)

    one_more : commits (x ∷ K) own ≡ commits K own + 1
    one_more = count-yes (is_commit_of own) x K (eq-eqb own own refl)

    same : (j : ℕ) → own ≢ j → commits (x ∷ K) j ≡ commits K j
    same j ne = count-no (is_commit_of j) x K (ne_eqb own j ne)

    time : HasOne air K (n + 1) ⊎ IsIdle air K → IsUneven air K ⊎ (IsIdle air K × (commits K own < air.cycles))
    time (inl g) = inl (record { fewer = own; more = g.own; active_fewer = active; active_more = g.active; below = (let a = mine in let c = g.made_is in omega arith) })
    time (inr i) = inr (i, let a = mine in omega arith)

pub free-before : (air : Air) (K : List Entry) (own n : ℕ) → BeforeCommit air K own n → is_active air own ≡ true → n < air.cycles → IsFree air K own
free-before air K own n b active left = record {
  left = let a : commits K own ≡ n = b.others own active (omega arith) in omega arith;
  owes_nothing = b.owe_nothing own (omega arith);
  nothing_due = b.have_nothing own (omega arith) active;
  not_ahead = (slowest-is air K own n b active).fewest;
}

-- A commit that nothing hinders is done.
pub commit-done : (air : Air) (K J : List Entry) (own : ℕ) (answer : Commit) → IsFree air K own → Commits air K own J answer → Committed air K own J (length K)
commit-done air K J own commit.Over f s = absurd (let a : commits K own ≡ air.cycles = s.0 in let b : commits K own < air.cycles = f.left in omega arith)
commit-done air K J own (commit.Owed j) f s = absurd (let a : owed air K own j ≡ None = f.owes_nothing j in let c = s.0.first_owed.owes in let z : None ≡ Some s.0.message = sym a ∙ c in cc)
commit-done air K J own (commit.Due p c) f s = absurd (let a = f.nothing_due p c in let d = s.0.first_due.due in let z : false ≡ true = sym a ∙ d in cc)
commit-done air K J own (commit.Ahead l m) f s = absurd (let a : commits K own ≤ commits K l = f.not_ahead l s.0.first_behind.active in let b : commits K l < commits K own = s.0.first_behind.fewer in omega arith)
commit-done air K J own (commit.Done position) f s = subst (Committed air K own J) s.position_is s

pub commit-one : (air : Air) (K J : List Entry) (own n : ℕ) (answer : Commit) → BeforeCommit air K own n → is_active air own ≡ true → n < air.cycles → Commits air K own J answer → Goes air K J (λ L. BeforeCommit air L (own + 1) n)
commit-one air K J own n commit.Over b active left s = absurd (let a : commits K own ≡ air.cycles = s.0 in let c : commits K own ≡ n = b.others own active (omega arith) in omega arith)
commit-one air K J own n (commit.Owed j) b active left s = absurd (let a : owed air K own j ≡ None = b.owe_nothing own (omega arith) j in let c = s.0.first_owed.owes in let z : None ≡ Some s.0.message = sym a ∙ c in cc)
commit-one air K J own n (commit.Due p c) b active left s = absurd (let a = b.have_nothing own (omega arith) active p c in let d = s.0.first_due.due in let z : false ≡ true = sym a ∙ d in cc)
commit-one air K J own n (commit.Ahead l m) b active left s =
    let f = s.0.first_behind in
    let g : commits K l < commits K own = f.fewer in
    let c : commits K own ≡ n = b.others own active (omega arith) in
    absurd (elim (cases_lt l own) [
      | inl lt ↦ (let x : commits K l ≡ n + 1 = b.committed l f.active lt in omega arith)
      | inr ge ↦ (let x : commits K l ≡ n = b.others l f.active ge in omega arith)
    ])
commit-one air K J own n (commit.Done position) b active left s = subst (λ L. Goes air K L (λ L. BeforeCommit air L (own + 1) n)) (sym s.new_is) (after-commit air K own n s.cycle s.cells b active left s.allowed)

-- ---- an aircraft that isn't active

skip : (air : Air) (own j : ℕ) → is_active air own ≡ false → is_active air j ≡ true → own ≢ j
skip air own j a b e = let x : is_active air j ≡ false = subst (λ (k : ℕ). is_active air k ≡ false) e a in let z : false ≡ true = sym x ∙ b in absurd (cc)

pub commit-skip : (air : Air) (K : List Entry) (own n : ℕ) → is_active air own ≡ false → BeforeCommit air K own n → BeforeCommit air K (own + 1) n
commit-skip air K own n i b = record {
  committed = λ j a lt. b.committed j a (let ne : own ≢ j = skip air own j i a in omega arith);
  others = λ j a ge. b.others j a (omega arith);
  owe_nothing = λ j ge. b.owe_nothing j (omega arith);
  have_nothing = λ j ge. b.have_nothing j (omega arith);
  begun = b.begun;
}

pub sends-skip : (air : Air) (K : List Entry) (own n : ℕ) → is_active air own ≡ false → BeforeSends air K own n → BeforeSends air K (own + 1) n
sends-skip air K own n i b = record {
  level = b.level;
  sent = below_more (λ h. OwesNothing air K h) own b.sent (inactive-owes air K own i);
}

pub takes-skip : (air : Air) (K : List Entry) (own n : ℕ) → is_active air own ≡ false → BeforeTakes air K own n → BeforeTakes air K (own + 1) n
takes-skip air K own n i b = record {
  level = b.level;
  sent = b.sent;
  taken = below_more (λ h. is_active air h ≡ true → NothingDue air K h) own b.taken (λ a. absurd (let z : false ≡ true = sym i ∙ a in cc));
}

-- ---- from one part of a round to the next

pub to-sends : (air : Air) (K : List Entry) (n : ℕ) → IsSound air → BeforeCommit air K air.count n → BeforeSends air K 0 (n + 1)
to-sends air K n sound b = record {
  level = λ j a. b.committed j a (sound.counted j a);
  sent = λ h lt. absurd (omega arith);
}

pub to-takes : (air : Air) (K : List Entry) (n : ℕ) → IsSound air → BeforeSends air K air.count n → BeforeTakes air K 0 n
to-takes air K n sound b = record {
  level = b.level;
  sent = λ i. elim (cases_Bool (is_active air i)) [ inl a ↦ b.sent i (sound.counted i a) | inr a ↦ inactive-owes air K i a ];
  taken = λ h lt. absurd (omega arith);
}

-- All are level, nobody owes and nothing is due: a round may begin.
pub from-idle : (air : Air) (K : List Entry) (n : ℕ) → AreLevel air K n → IsIdle air K → BeforeCommit air K 0 n
from-idle air K n level idle = record {
  committed = λ j a lt. absurd (omega arith);
  others = λ j a ge. level j a;
  owe_nothing = λ j ge. idle.nobody_owes j;
  have_nothing = λ j ge a. idle.nobody_is_due j a;
  begun = inr idle;
}

pub to-commits : (air : Air) (K : List Entry) (n : ℕ) → IsSound air → BeforeTakes air K air.count n → BeforeCommit air K 0 n
to-commits air K n sound b = from-idle air K n b.level (record { nobody_owes = b.sent; nobody_is_due = λ j a. b.taken j (sound.counted j a) a })

-- After the last round nothing comes next.
pub over : (air : Air) (K : List Entry) → BeforeCommit air K 0 air.cycles → (entry : Entry) → ComesNext air K entry → ⊥
over air K b (kinds.Commit i cycle cells) s = go s.time
  where
    go : IsUneven air K ⊎ (IsIdle air K × (commits K i < air.cycles)) → ⊥
    go (inl u) = not-uneven air K air.cycles (λ j a. b.others j a zero-le) u
    go (inr (idle, left)) = let d : commits K i ≡ air.cycles = b.others i s.slowest.active zero-le in omega arith
over air K b (kinds.Send i j number word) s = let a : owed air K i j ≡ None = b.owe_nothing i zero-le j in let c = s.allowed.first_owed.owes in let z : None ≡ Some s.allowed.message = sym a ∙ c in cc
over air K b (kinds.Take i p c good) s = let a = b.have_nothing i zero-le s.allowed.active p c in let d = s.allowed.due in let z : false ≡ true = sym a ∙ d in cc
