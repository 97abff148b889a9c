-- The copies of a message: how many there are, and which of them wait.
use Rattle.std.proofs.Common.{◌≡◌, ℕ, zero, suc, ◌+◌, ◌-◌, ◌<◌, ◌≤◌, Bool, true, false, List, [], ◌∷◌, length, Option, Some, None, get_or, sym, refl, ap, ap₂, ◌∙◌, subst, arith, inl, inr, length-take, zero-le, le-leb}
use Rattle.std.specs.Prelude.{All, find, slice_get, unwrap_or, cond}
use Rattle.std.specs.Option.{option_map_or}
use Rattle.std.proofs.lemmas.Bool.{cases_Bool, cases_lt}
use Rattle.std.proofs.lemmas.List.Elements.{All-head, All-tail}
use Rattle.acas_base.specs.Encounter.{IsEncounter, IsFate, IsPlan, Parts}
use Rattle.acas_base.specs.Fates.{fate_by, fate_of, is_fate_of, is_plan_of, plain_fate, usual_fate}
use Rattle.acas_base.specs.declared.entry.Entry.{Entry}
use Rattle.acas_base.specs.declared.link.CopyPlan.{CopyPlan}
use Rattle.acas_base.specs.declared.link.Fate.{Fate}
use Rattle.acas_base.specs.declared.link.LinkPlan.{LinkPlan}
use Rattle.air_journal.proofs.Dues.{waits-due}
use Rattle.air_journal.proofs.Soundness.{sound-of}
use Rattle.air_journal.specs.Airs.{air_of}
use Rattle.air_journal.specs.Kept.{read_as}
use Rattle.air_journal.specs.Queues.{IsIn, IsQueue, IsWaiting}
use Rattle.air_journal.specs.declared.kept.Waiting.{Waiting}
use Rattle.air_rules.proofs.Pace.{active-ra, count-no, count-yes, later-more, later-none, send-shows}
use Rattle.air_rules.specs.Air.{Air, is_active}
use Rattle.air_rules.specs.Due.{is_due}
use Rattle.air_rules.specs.Journal.{Sent, WasSent, commits, count_of, entries_after, is_commit_of, sent_at, was_taken}
use Rattle.air_rules.specs.Rules.{IsLegal}
use Rattle.verdict_text.specs.Causes.{IsHeldBack, MayTakeNow, copies_of}
use Rattle.verdict_text.specs.Searches.{NoneWaits, Receives, WaitsUntil}

-- ---- how many copies

found : {X : Type 0} (P : X → Type 0) (test : X → Bool) (xs : List X) (x : X) → All P xs → find test xs ≡ Some x → P x
found P test [] x all is = absurd (cc)
found P test (y ∷ ys) x all is = elim (cases_Bool (test y)) [
  | inl passes ↦ let same : Some y ≡ Some x = sym (ap (λ t. cond t (Some y) (find test ys)) passes) ∙ is in let e : y ≡ x = cc in subst P e (All-head P y ys all)
  | inr fails ↦ found P test ys x (All-tail P y ys all) (sym (ap (λ t. cond t (Some y) (find test ys)) fails) ∙ is)
]

usual-few : (e : Parts) → IsEncounter e → (s r n : ℕ) → (usual_fate e s r n).copies ≤ 3
usual-few e is s r n = by_plan (find (is_plan_of s r) e.plans) refl
  where
    by_plan : (o : Option LinkPlan) → find (is_plan_of s r) e.plans ≡ o → (option_map_or (fate_by n) o (plain_fate s r n)).copies ≤ 3
    by_plan None f = omega arith
    by_plan (Some plan) f = (found (IsPlan (length e.crafts)) (is_plan_of s r) e.plans plan is.records.plans.0 f).copies.few

few : (e : Parts) → IsEncounter e → (s r n : ℕ) → (fate_of e s r n).copies ≤ 3
few e is s r n = by_record (find (is_fate_of s r n) e.fates) refl
  where
    by_record : (o : Option Fate) → find (is_fate_of s r n) e.fates ≡ o → (unwrap_or o (usual_fate e s r n)).copies ≤ 3
    by_record None f = usual-few e is s r n
    by_record (Some fate) f = (found (IsFate (length e.crafts)) (is_fate_of s r n) e.fates fate is.records.fates.0 f).copies.few

copies-are : (e : Parts) → IsEncounter e → (s r n : ℕ) → (fate_of e s r n).copies ≡ length ((air_of e).copies s r n)
copies-are e is s r n =
    let fate = fate_of e s r n in
    let short = few e is s r n in
    omega (arith, length-take fate.copies (fate.first ∷ fate.second ∷ fate.third ∷ []))

pub copies-told : (e : Parts) → IsEncounter e → (sent : Sent) (s r n : ℕ) → sent.sender ≡ s → sent.receiver ≡ r → sent.number ≡ n → (fate_of e s r n).copies ≡ copies_of (air_of e) sent
copies-told e is sent s r n a b f = copies-are e is s r n ∙ sym (ap (λ x. length ((air_of e).copies x sent.receiver sent.number)) a ∙ ap (λ x. length ((air_of e).copies s x sent.number)) b ∙ ap (λ x. length ((air_of e).copies s r x)) f)

-- Its sender is one of the aircraft.
pub sender-there : (e : Parts) (J : List Entry) → IsEncounter e → IsLegal (air_of e) J → (own p s n : ℕ) → Receives J own p s n → s < length e.crafts
sender-there e J is legal own p s n m =
    let from : WasSent J p s own m.sent = record { here = m.here; sender = m.sender_is; receiver = m.receiver } in
    (sound-of e is).counted s (active-ra (air_of e) s (send-shows (air_of e) J legal p s own m.sent from).sender_ra)

-- ---- which of them wait

few-after : (f : Entry → Bool) (K : List Entry) (p : ℕ) → count_of f (entries_after K p) ≤ count_of f K
few-after f [] p = zero-le
few-after f (x ∷ K) p = elim (cases_lt p (length K)) [
  | inl h ↦ subst (λ L. count_of f L ≤ count_of f (x ∷ K)) (sym (later-more x K p h)) (let ih = few-after f K p in elim (cases_Bool (f x)) [
    | inl y ↦ (let a = count-yes f x K y in let b = count-yes f x (entries_after K p) y in omega arith)
    | inr n ↦ (let a = count-no f x K n in let b = count-no f x (entries_after K p) n in omega arith)
  ])
  | inr h ↦ subst (λ L. count_of f L ≤ count_of f (x ∷ K)) (sym (later-none x K p h)) zero-le
]

plan-there : (ps : List CopyPlan) (k : ℕ) → k < length ps → (plan : CopyPlan) × (slice_get ps k ≡ Some plan)
plan-there [] k h = absurd (omega arith)
plan-there (x ∷ xs) zero h = (x, refl)
plan-there (x ∷ xs) (suc k) h = plan-there xs k (omega arith)

-- A copy that wasn't taken waits.
pub waits-there : (air : Air) (J : List Entry) (own p k s n : ℕ) (queue : List Waiting) (m : Receives J own p s n) → was_taken J own p k ≡ false → k < copies_of air m.sent → IsQueue air J s own queue → NoneWaits queue p k → ⊥
waits-there air J own p k s n queue m untaken low q none =
    let there = plan-there (air.copies m.sent.sender m.sent.receiver m.sent.number) k low in
    let plan = there.0 in
    let after = few-after (is_commit_of own) J p in
    let w : Waiting = record { send = p; copy = k; due = commits J own + plan.hold - commits (entries_after J p) own; reads = read_as air.flip air.read m.sent.word plan } in
    let waits : IsWaiting air J s own w = record {
      sent = m.sent;
      from = record { here = m.here; sender = m.sender_is; receiver = m.receiver };
      plan = plan;
      planned = there.1;
      reads_is = refl;
      due_is = omega (arith, after);
      untaken = untaken;
    } in
    none w (q.whole w waits) refl refl

-- A copy that waits is due, or is held back.
pub due-now : (air : Air) (J : List Entry) (own p k s due made : ℕ) (queue : List Waiting) → is_active air own ≡ true → IsQueue air J s own queue → WaitsUntil queue p k due → made ≡ commits J own → due ≤ made → MayTakeNow air J own p k
due-now air J own p k s due made queue active q w made_is le =
    let h = q.holds w.waiting w.is_in in
    let now : is_due air J own w.waiting.send w.waiting.copy ≡ true = waits-due air J s own w.waiting h ∙ le-leb w.waiting.due (commits J own) (omega (arith, w.due_is, made_is, le)) in
    record { active = active; due = ap₂ (λ a b. is_due air J own a b) (sym w.send_is) (sym w.copy_is) ∙ now; good_is = refl }

pub held-back : (air : Air) (J : List Entry) (own p k s due made : ℕ) (queue : List Waiting) → is_active air own ≡ true → IsQueue air J s own queue → WaitsUntil queue p k due → made ≡ commits J own → made < due → IsHeldBack air J own p k (due - made)
held-back air J own p k s due made queue active q w made_is lt =
    let h = q.holds w.waiting w.is_in in
    let later : commits (entries_after J p) own ≡ commits (entries_after J w.waiting.send) own = ap (λ x. commits (entries_after J x) own) (sym w.send_is) in
    record {
      sent = h.sent;
      to_own = record { active = active; here = ap (sent_at J) (sym w.send_is) ∙ h.from.here; receiver = h.from.receiver };
      untaken = ap₂ (λ a b. was_taken J own a b) (sym w.send_is) (sym w.copy_is) ∙ h.untaken;
      plan = h.plan;
      planned = ap (λ x. slice_get (air.copies h.sent.sender h.sent.receiver h.sent.number) x) (sym w.copy_is) ∙ h.planned;
      hold_is = omega (arith, h.due_is, w.due_is, made_is, later, lt);
      some = omega (arith, lt);
    }

pub in-get : (ws : List Waiting) (k : ℕ) (d : Waiting) → k < length ws → IsIn (get_or ws k d) ws
in-get [] k d h = absurd (omega arith)
in-get (x ∷ xs) zero d h = inl refl
in-get (x ∷ xs) (suc k) d h = inr (in-get xs k d (omega arith))
