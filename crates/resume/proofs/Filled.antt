-- What a journal is filled to.
use Rattle.std.proofs.Common.{◌≡◌, ◌⊎◌, ℕ, ◌+◌, ◌<◌, ◌≤◌, true, List, [], ◌∷◌, length, is_some, sym, refl, ap, subst, arith, inl, inr}
use Rattle.std.proofs.lemmas.Bool.{cases_lt}
use Rattle.acas_base.specs.declared.entry.Entry.{Entry}
use Rattle.acas_base.specs.declared.entry.Entry.TheVariants.{Commit, Send, Take}
use Rattle.air_rules.proofs.InOrder.{in-order-legal}
use Rattle.air_rules.proofs.Legal.{allowed}
use Rattle.air_rules.proofs.OnlySerial.{only-serial}
use Rattle.air_rules.proofs.Waiting.{FirstDueTo, FirstOwing, commits-within, first-due-to, first-owing, owed-within, slowest}
use Rattle.air_rules.specs.Air.{Air, IsSound, is_active}
use Rattle.air_rules.specs.Due.{NobodyIsDue}
use Rattle.air_rules.specs.Journal.{Begins, commits, more, sends, sent_at, whole}
use Rattle.air_rules.specs.Owed.{NobodyOwes}
use Rattle.air_rules.specs.Rules.{IsAllowed, IsComplete, IsLegal, cells_for, extended}
use Rattle.air_rules.specs.Serial.{ComesNext, IsIdle, IsInOrder, IsSerial, IsSlowest, IsTimeToCommit, IsUneven, followed, started}
use Rattle.air_rules.specs.Takes.{read_copy}
use Rattle.resume.specs.Phases.{AreLevel}
use Rattle.resume.specs.Steps.{IsAtRest, IsSlowestOf, Stepped}
use Rattle.resume.specs.Filling.{Fills, FillsNext, IsFilled, by_send, by_take, filled_by, in_order, unfilled}

allowed-next : (air : Air) (K : List Entry) (entry : Entry) → FillsNext air K entry → IsAllowed air K entry
allowed-next air K entry (in_order n a) = a
allowed-next air K (Send own target number word) (by_send held f) = f.allowed
allowed-next air K (Take own send copy good) (by_take held f) = f.allowed

legal-on : {air : Air} {first J : List Entry} → IsLegal air first → Fills air first J → IsLegal air J
legal-on l unfilled = l
legal-on l (filled_by f n) = extended (legal-on l f) (allowed-next _ _ _ n)

pub fills-legal : (air : Air) (first J : List Entry) → IsLegal air first → Fills air first J → IsLegal air J
fills-legal air first J l f = legal-on l f

begins-on : {air : Air} {first J : List Entry} → Fills air first J → Begins first J
begins-on unfilled = whole
begins-on (filled_by f n) = more (begins-on f)

pub fills-begins : (air : Air) (first J : List Entry) → Fills air first J → Begins first J
fills-begins air first J f = begins-on f

-- ---- from the empty journal on

next-in-order : (air : Air) → IsSound air → (K : List Entry) → IsInOrder air K → (entry : Entry) → FillsNext air K entry → ComesNext air K entry
next-in-order air sound K o entry (in_order n a) = n
next-in-order air sound K o (Send own target number word) (by_send held f) = absurd (held.not_yet (allowed (in-order-legal air (held.entry ∷ K) sound (followed o held.next))))
next-in-order air sound K o (Take own send copy good) (by_take held f) = absurd (held.not_yet (allowed (in-order-legal air (held.entry ∷ K) sound (followed o held.next))))

in-order-on : {air : Air} {first J : List Entry} → IsSound air → IsInOrder air first → Fills air first J → IsInOrder air J
in-order-on sound o unfilled = o
in-order-on sound o (filled_by f n) = let so = in-order-on sound o f in followed so (next-in-order _ sound _ so _ n)

pub filled-serial : (air : Air) (J : List Entry) → IsSound air → IsFilled air [] J → IsSerial air J
filled-serial air J sound f = record { in_order = in-order-on sound started f.steps; ended = f.ended }

-- ---- from a beginning of the serial journal on

begun-in-order : {air : Air} {first J : List Entry} → Begins first J → IsInOrder air J → IsInOrder air first
begun-in-order whole o = o
begun-in-order (more b) (followed o n) = begun-in-order b o

pub filled-begun : (air : Air) (first S J : List Entry) → IsSound air → IsSerial air S → Begins first S → IsFilled air first J → J ≡ S
filled-begun air first S J sound s b f = only-serial air J S (record { in_order = in-order-on sound (begun-in-order b s.in_order) f.steps; ended = f.ended }) s

-- ---- where nothing comes next, the journal is complete

pub ended-complete : (air : Air) (J : List Entry) → IsSound air → IsLegal air J → ((entry : Entry) → ComesNext air J entry → ⊥) → IsComplete air J
ended-complete air J sound l ended = at_slowest (slowest air sound J)
  where
    commit : (k : ℕ) → IsSlowest air J k → IsTimeToCommit air J k → ⊥
    commit k slow time = ended (Commit k (commits J k + 1) (cells_for air J k)) (record { slowest = slow; time = time; cycle_is = refl; cells_are = refl })

    at_idle : (k : ℕ) → IsSlowest air J k → IsIdle air J → IsComplete air J
    at_idle k slow idle i ai = elim (cases_lt (commits J k) air.cycles) [
      | inl h ↦ absurd (commit k slow (inr (idle, h)))
      | inr h ↦
          let up : commits J i ≤ air.cycles = commits-within air J l i in
          let down : commits J k ≤ commits J i = slow.fewest i ai in
          record { all_cycles = omega arith; owes_nothing = idle.nobody_owes i }
    ]

    at_takes : (k : ℕ) → IsSlowest air J k → (IsUneven air J → ⊥) → NobodyOwes air J → ((i : ℕ) × FirstDueTo air J i) ⊎ NobodyIsDue air J → IsComplete air J
    at_takes k slow even owes (inl (i, f)) =
        let d = f.holds.due in
        absurd (ended (Take i d.send d.copy (is_some (read_copy air (sent_at J d.send) d.copy))) (record {
          even = even;
          nobody_owes = owes;
          allowed = record { active = f.holds.active; due = d.first.due; good_is = refl };
          first = f.before;
          first_due = d.first;
        }))
    at_takes k slow even owes (inr none) = at_idle k slow (record { nobody_owes = owes; nobody_is_due = none })

    at_sends : (k : ℕ) → IsSlowest air J k → (IsUneven air J → ⊥) → ((i : ℕ) × FirstOwing air J i) ⊎ NobodyOwes air J → IsComplete air J
    at_sends k slow even (inl (i, f)) =
        let o = f.holds in
        absurd (ended (Send i o.target (sends J i o.target + 1) (air.word o.message)) (record {
          even = even;
          allowed = record {
            active = (owed-within air sound J i o.target o.message o.first.owes).active;
            message = o.message;
            first_owed = o.first;
            number_is = refl;
            word_is = refl;
          };
          first = f.before;
        }))
    at_sends k slow even (inr none) = at_takes k slow even none (first-due-to air sound J)

    at_slowest : ((k : ℕ) × IsSlowest air J k) ⊎ ((i : ℕ) → is_active air i ≡ true → ⊥) → IsComplete air J
    at_slowest (inr none) = λ i a. absurd (none i a)
    at_slowest (inl (k, slow)) = at_sends k slow (λ u. commit k slow (inl u)) (first-owing air sound J)

-- Where nobody is active nothing comes next.
pub none-next : (air : Air) (J : List Entry) → IsSound air → ((own : ℕ) → own < air.count → is_active air own ≡ true → ⊥) → (entry : Entry) → ComesNext air J entry → ⊥
none-next air J sound none (Commit own cycle cells) n = none own (sound.counted own n.slowest.active) n.slowest.active
none-next air J sound none (Send own target number word) n = none own (sound.counted own n.allowed.active) n.allowed.active
none-next air J sound none (Take own send copy good) n = none own (sound.counted own n.allowed.active) n.allowed.active

-- At rest all are level.
pub level-at-rest : (air : Air) (J : List Entry) (own : ℕ) → IsSound air → IsAtRest air J → IsSlowestOf air J air.count own → AreLevel air J (commits J own)
level-at-rest air J own sound rest s j a = elim (cases_lt (commits J own) (commits J j)) [
  | inl h ↦ absurd (rest.even (record { fewer = own; more = j; active_fewer = s.active; active_more = a; below = h }))
  | inr h ↦ let low : commits J own ≤ commits J j = s.fewest j (sound.counted j a) a in omega arith
]

pub legal-step : (air : Air) (K J : List Entry) → IsLegal air K → Stepped air K J → IsLegal air J
legal-step air K J l s = subst (IsLegal air) (sym s.new_is) (extended l (allowed-next air K s.entry s.next))

pub fills-step : (air : Air) (first K J : List Entry) → Fills air first K → Stepped air K J → Fills air first J
fills-step air first K J f s = subst (Fills air first) (sym s.new_is) (filled_by f s.next)

pub longer-step : (air : Air) (K J : List Entry) → Stepped air K J → length J ≡ length K + 1
longer-step air K J s = let n = ap length s.new_is in omega arith
