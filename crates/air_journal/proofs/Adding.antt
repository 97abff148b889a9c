-- The state after one entry more.
use Rattle.std.proofs.Common.{◌≡◌, ◌≢◌, ◌⊎◌, ℕ, ◌+◌, ◌*◌, ◌<◌, ◌≤◌, Bool, true, not, ◌&&◌, eqb, List, [], ◌∷◌, length, Option, Some, None, is_some, sym, refl, ap, ◌∙◌, subst, arith, inl, inr, eq-eqb, ne_eqb, le-leb}
use Rattle.std.specs.Prelude.{option_and_then}
use Rattle.std.proofs.lemmas.Bool.{and_from, and_parts, and_left, and_right, cond-false, cond-true, cases_eq}
use Rattle.std.proofs.Math.Nat.{mul-le-mul_right}
use Rattle.std.proofs.lemmas.Option.{slice_get_within}
use Rattle.acas_base.specs.Encounter.{Parts}
use Rattle.acas_base.specs.Messages.{has_many}
use Rattle.acas_base.specs.declared.TheConstants.{CRAFTS}
use Rattle.acas_base.specs.declared.advisory.Cells.{Cells}
use Rattle.acas_base.specs.declared.advisory.ResMsg.{ResMsg}
use Rattle.acas_base.specs.declared.entry.Entry.{Entry}
use Rattle.acas_base.specs.declared.entry.Entry.TheVariants.{Commit, Send, Take}
use Rattle.acas_base.specs.declared.link.CopyPlan.{CopyPlan}
use Rattle.air_journal.proofs.Bounds.{below, below-all, entry-fits, few-commits, few-crafts, most-few}
use Rattle.air_journal.proofs.Dues.{in-at, remove-is, waiting-few, waits-due}
use Rattle.air_journal.proofs.Queued.{is-queue}
use Rattle.air_journal.proofs.Soundness.{sound-of}
use Rattle.air_journal.proofs.Steps.{kept-commit, kept-send, kept-take}
use Rattle.air_journal.proofs.Telling.{cells-are, count-is, first-owed}
use Rattle.air_journal.specs.Airs.{air_of}
use Rattle.air_journal.specs.Calls.{IsFree}
use Rattle.air_journal.specs.Cells.{commit_cells}
use Rattle.air_journal.specs.Found.{AreNext, IsFirstOwedBy, WaitsAt}
use Rattle.air_journal.specs.Kept.{AfterCommit, AfterSend, AfterTake, IsKept, Kept, copies_from, link_at, made_at, queue_at, read_as, room_at, room_of, vrc_of, waiting}
use Rattle.air_journal.specs.Queues.{IsWaiting}
use Rattle.air_journal.specs.States.{IsWhole}
use Rattle.air_journal.specs.Written.{Written}
use Rattle.air_journal.specs.declared.due.Found.{Found}
use Rattle.air_journal.specs.declared.kept.Link.{Link}
use Rattle.air_journal.specs.declared.kept.Waiting.{Waiting}
use Rattle.air_rules.proofs.FewSends.{sends-few}
use Rattle.air_rules.proofs.Legal.{allowed, earlier}
use Rattle.air_rules.proofs.Pace.{count-no, count-yes}
use Rattle.air_rules.proofs.Running.{owed-message, owed-own}
use Rattle.air_rules.proofs.Waiting.{commits-within}
use Rattle.air_rules.specs.Air.{Air, is_active, is_ra}
use Rattle.air_rules.specs.Journal.{Sent, commits, has_sent, is_commit_of, is_send_of, sends, sent_at}
use Rattle.air_rules.specs.Length.{most_entries}
use Rattle.air_rules.specs.Owed.{owed}
use Rattle.air_rules.specs.Rules.{IsLegal, MayCommit, MaySend, MayTake, extended}
use Rattle.air_rules.specs.Takes.{complement_read, read_copy}
use Rattle.res_message.specs.Words.{flip_word, read_word, word_of}

-- An entry was written, and the memory stays.
pub record WritesOn (old new : Written) (entry : Entry) : Type 0 where
  pub entries : new.entries ≡ entry ∷ old.entries
  pub room : new.room ≡ old.room
  pub crafts : new.crafts ≡ old.crafts
  pub places : new.places ≡ old.places

-- ---- a send

pub may-send : {e : Parts} {w : Written} {t : Kept} → IsWhole e w t → (i j number : ℕ) (m : ResMsg) → is_active (air_of e) i ≡ true → IsFirstOwedBy (air_of e) t i j m → number ≡ (link_at t i j).sends + 1 → MaySend (air_of e) w.entries i j number (word_of m)
may-send {e} h i j number m active f n =
    let hi = below-all e h.is_journal.valid i active in
    let few = few-crafts e h.is_journal.valid in
    let b : j < length e.crafts = f.below in
    record {
      active = active;
      message = m;
      first_owed = first-owed h i j m hi f;
      number_is = n ∙ ap (λ (l : Link). l.sends + 1) (h.kept.link i j hi (omega arith));
      word_is = refl;
    }

pub record SendFits (e : Parts) (w : Written) (t : Kept) (i j : ℕ) : Type 0 where
  pub own : i < CRAFTS
  pub target : j < CRAFTS
  pub position : length w.entries < 585600
  pub room : length w.entries < w.room
  pub sends : (link_at t i j).sends < 600
  pub commits : (made_at t j).commits ≤ 600
  pub copies : length (queue_at t i j) + 3 ≤ room_at t i j

-- The queue of a pair in which a message is owed has room for all its messages.
room-is : (air : Air) (K : List Entry) (i j : ℕ) (m : ResMsg) → owed air K i j ≡ Some m → room_of air i j ≡ 3 * air.cycles
room-is air K i j m e =
    let a = and_parts (is_ra air i) _ (owed-message air K i j m e).0 in
    let b = and_parts (is_ra air j) _ a.1 in
    let c = and_parts (not (eqb i j)) (not (has_sent K i j)) b.1 in
    cond-true (is_ra air i && (is_ra air j && not (eqb i j))) (3 * air.cycles) 0 (and_from _ _ a.0 (and_from _ _ b.0 c.0))

pub send-fits : {e : Parts} {w : Written} {t : Kept} → IsWhole e w t → (i j : ℕ) (m : ResMsg) → is_active (air_of e) i ≡ true → IsFirstOwedBy (air_of e) t i j m → SendFits e w t i j
send-fits {e} {w} {t} h i j m active f =
    let K = w.entries in
    let number = (link_at t i j).sends + 1 in
    let x = Send i j number (word_of m) in
    let may = may-send h i j number m active f refl in
    let hi : i < CRAFTS = below-all e h.is_journal.valid i active in
    let few = few-crafts e h.is_journal.valid in
    let b : j < length e.crafts = f.below in
    let hj : j < CRAFTS = omega arith in
    let a : length K + 1 ≤ most_entries (air_of e) = entry-fits e K x h.is_journal.valid h.is_journal.legal may in
    let most = most-few e h.is_journal.valid in
    let room = h.room in
    let legal : IsLegal (air_of e) (x ∷ K) = extended h.is_journal.legal may in
    let s : sends (x ∷ K) i j ≤ commits (x ∷ K) i = sends-few (air_of e) (x ∷ K) legal i j in
    let one : sends (x ∷ K) i j ≡ sends K i j + 1 = count-yes (is_send_of i j) x K (and_from _ _ (eq-eqb i i refl) (eq-eqb j j refl)) in
    let c : commits K i ≤ 600 = few-commits e K h.is_journal.valid h.is_journal.legal i in
    let d : commits K j ≤ 600 = few-commits e K h.is_journal.valid h.is_journal.legal j in
    let within : commits K i ≤ e.cycles = commits-within (air_of e) K h.is_journal.legal i in
    let space : 3 * e.cycles ≤ room_at t i j = subst (λ (r : ℕ). r ≤ room_at t i j) (room-is (air_of e) K i j m (first-owed h i j m hi f).owes) (h.queues i j hi hj) in
    let q : length (waiting (air_of e) K i j) ≤ 3 * sends K i j = waiting-few (air_of e) (sound-of e h.is_journal.valid) K i j in
    let l : (link_at t i j).sends ≡ sends K i j = ap (λ (y : Link). y.sends) (h.kept.link i j hi hj) in
    let g : length (queue_at t i j) ≡ length (waiting (air_of e) K i j) = ap length (h.kept.queue i j hi hj) in
    let n : (made_at t j).commits ≡ commits K j = count-is h j hj in
    record { own = hi; target = hj; position = omega arith; room = omega arith; sends = omega arith; commits = omega arith; copies = omega arith }

-- A message that is owed is read as it was sent, where it isn't spoilt.
pub reads-back : {e : Parts} {w : Written} {t : Kept} → IsWhole e w t → (i j : ℕ) (m : ResMsg) → is_active (air_of e) i ≡ true → IsFirstOwedBy (air_of e) t i j m → vrc_of (read_word (word_of m)) ≡ Some m.vrc
reads-back {e} {w} {t} h i j m active f =
    let owes = (first-owed h i j m (below-all e h.is_journal.valid i active) f).owes in
    ap vrc_of ((sound-of e h.is_journal.valid).reads i m (owed-own (air_of e) w.entries i j m owes))

pub sent-whole : {e : Parts} {w v : Written} {t u : Kept} → IsWhole e w t → (i j number position : ℕ) (m : ResMsg) (plans : List CopyPlan) → is_active (air_of e) i ≡ true → IsFirstOwedBy (air_of e) t i j m →
    number ≡ (link_at t i j).sends + 1 → position ≡ length w.entries → plans ≡ (air_of e).copies i j number →
    WritesOn w v (Send i j number (word_of m)) → AfterSend t u i j m.vrc (copies_from (read_as flip_word read_word (word_of m)) position (made_at t j).commits 0 plans) → IsWhole e v u
sent-whole {e} {w} {v} {t} {u} h i j number position m plans active f n p q written after =
    let fit = send-fits h i j m active f in
    let owes = (first-owed h i j m fit.own f).owes in
    let may = may-send h i j number m active f n in
    let vrc : m.vrc ≡ complement_read ((air_of e).read (word_of m)) = sym (ap complement_read ((sound-of e h.is_journal.valid).reads i m (owed-own (air_of e) w.entries i j m owes))) in
    record {
      is_journal = record { valid = h.is_journal.valid; inside = h.is_journal.inside; legal = subst (IsLegal (air_of e)) (sym written.entries) (extended h.is_journal.legal may) };
      kept = subst (λ (J : List Entry). IsKept (air_of e) J u) (sym written.entries) (kept-send (air_of e) w.entries t u h.kept i j number (word_of m) position m.vrc plans fit.own fit.target vrc p q after);
      queues = λ a b ha hb. subst (λ (r : ℕ). room_of (air_of e) a b ≤ r) (sym (after.room a b ha hb)) (h.queues a b ha hb);
      room = subst (λ (k : ℕ). most_entries (air_of e) ≤ k) (sym written.room) h.room;
      crafts = written.crafts ∙ h.crafts;
      places = written.places ∙ h.places;
    }

-- ---- a take

pub wait : {e : Parts} {w : Written} {t : Kept} → IsWhole e w t → (i : ℕ) (f : Found) → WaitsAt (air_of e) w.entries i f → IsWaiting (air_of e) w.entries f.sender i f.waiting
wait {e} {w} h i f a = (is-queue (air_of e) (sound-of e h.is_journal.valid) w.entries h.is_journal.legal f.sender i).holds f.waiting (in-at (waiting (air_of e) w.entries f.sender i) f.place f.waiting a.here)

-- What is kept of a copy is what its taker reads.
reads-is : (air : Air) (K : List Entry) (j i : ℕ) (w : Waiting) → IsWaiting air K j i w → w.reads ≡ vrc_of (read_copy air (sent_at K w.send) w.copy)
reads-is air K j i w h =
    h.reads_is ∙ ap (λ (o : Option CopyPlan). vrc_of (option_and_then (λ (plan : CopyPlan). air.read (air.flip h.sent.word plan.mask)) o)) (sym h.planned)
    ∙ ap (λ (o : Option Sent). vrc_of (read_copy air o w.copy)) (sym h.from.here)

some-vrc : (o : Option ResMsg) → is_some (vrc_of o) ≡ is_some o
some-vrc None = refl
some-vrc (Some m) = refl

pub may-take : {e : Parts} {w : Written} {t : Kept} → IsWhole e w t → (i : ℕ) (f : Found) → is_active (air_of e) i ≡ true → WaitsAt (air_of e) w.entries i f → MayTake (air_of e) w.entries i f.waiting.send f.waiting.copy (is_some f.waiting.reads)
may-take {e} {w} h i f active a =
    let it = wait h i f a in
    record {
      active = active;
      due = waits-due (air_of e) w.entries f.sender i f.waiting it ∙ le-leb _ _ a.in_time;
      good_is = ap is_some (reads-is (air_of e) w.entries f.sender i f.waiting it) ∙ some-vrc _;
    }

pub record TakeFits (e : Parts) (w : Written) (t : Kept) (i : ℕ) (f : Found) : Type 0 where
  pub own : i < CRAFTS
  pub sender : f.sender < CRAFTS
  pub position : length w.entries < 585600
  pub room : length w.entries < w.room
  pub place : f.place < length (queue_at t f.sender i)

pub take-fits : {e : Parts} {w : Written} {t : Kept} → IsWhole e w t → (i : ℕ) (f : Found) → is_active (air_of e) i ≡ true → WaitsAt (air_of e) w.entries i f → TakeFits e w t i f
take-fits {e} {w} {t} h i f active a =
    let K = w.entries in
    let x : length K + 1 ≤ most_entries (air_of e) = entry-fits e K (Take i f.waiting.send f.waiting.copy (is_some f.waiting.reads)) h.is_journal.valid h.is_journal.legal (may-take h i f active a) in
    let most = most-few e h.is_journal.valid in
    let room = h.room in
    let hi : i < CRAFTS = below-all e h.is_journal.valid i active in
    let few = few-crafts e h.is_journal.valid in
    let b : f.sender < length e.crafts = a.sender in
    let hj : f.sender < CRAFTS = omega arith in
    let p : f.place < length (waiting (air_of e) K f.sender i) = slice_get_within _ _ _ a.here in
    let g : length (queue_at t f.sender i) ≡ length (waiting (air_of e) K f.sender i) = ap length (h.kept.queue f.sender i hj hi) in
    record { own = hi; sender = hj; position = omega arith; room = omega arith; place = omega arith }

pub taken-whole : {e : Parts} {w v : Written} {t u : Kept} → IsWhole e w t → (i : ℕ) (f : Found) → is_active (air_of e) i ≡ true → WaitsAt (air_of e) w.entries i f →
    WritesOn w v (Take i f.waiting.send f.waiting.copy (is_some f.waiting.reads)) → AfterTake t u i f.sender f.place f.waiting.reads → IsWhole e v u
taken-whole {e} {w} {v} {t} {u} h i f active a written after =
    let fit = take-fits h i f active a in
    let it = wait h i f a in
    let m = read_copy (air_of e) (sent_at w.entries f.waiting.send) f.waiting.copy in
    let r : f.waiting.reads ≡ vrc_of m = reads-is (air_of e) w.entries f.sender i f.waiting it in
    let kept : IsKept (air_of e) (Take i f.waiting.send f.waiting.copy (is_some m) ∷ w.entries) u =
    kept-take (air_of e) w.entries t u h.kept i f.waiting.send f.waiting.copy f.sender f.place m it.sent fit.own fit.sender refl it.from.here it.from.sender
    (remove-is (waiting (air_of e) w.entries f.sender i) f.place f.waiting (is-queue (air_of e) (sound-of e h.is_journal.valid) w.entries h.is_journal.legal f.sender i).ordered a.here)
    (subst (AfterTake t u i f.sender f.place) r after) in
    record {
      is_journal = record { valid = h.is_journal.valid; inside = h.is_journal.inside; legal = subst (IsLegal (air_of e)) (sym written.entries) (extended h.is_journal.legal (may-take h i f active a)) };
      kept = subst (λ (J : List Entry). IsKept (air_of e) J u) (sym written.entries)
          (subst (λ (g : Bool). IsKept (air_of e) (Take i f.waiting.send f.waiting.copy g ∷ w.entries) u) (sym (ap is_some r ∙ some-vrc m)) kept);
      queues = λ a b ha hb. subst (λ (r : ℕ). room_of (air_of e) a b ≤ r) (sym (after.room a b ha hb)) (h.queues a b ha hb);
      room = subst (λ (k : ℕ). most_entries (air_of e) ≤ k) (sym written.room) h.room;
      crafts = written.crafts ∙ h.crafts;
      places = written.places ∙ h.places;
    }

-- ---- a commit

pub no-cells : (air : Air) (K : List Entry) → IsLegal air K → (i k : ℕ) → (k ≡ 0) ⊎ (commits K i < k) → commit_cells K i k ≡ None
no-cells air [] l i k h = refl
no-cells air (Commit own cycle cells ∷ K) l i k h = elim (cases_eq own i) [
  | inl e ↦
      let c : commits (Commit own cycle cells ∷ K) i ≡ commits K i + 1 = count-yes (is_commit_of i) (Commit own cycle cells) K (eq-eqb own i e) in
      let f : cycle ≡ commits K i + 1 = (allowed l).cycle_is ∙ ap (λ j. commits K j + 1) e in
      cond-false (eqb own i && eqb cycle k) (Some cells) (commit_cells K i k) (and_right (eqb own i) _ (ne_eqb cycle k (differs cycle k (commits K i) (commits (Commit own cycle cells ∷ K) i) c f h)))
      ∙ no-cells air K (earlier l) i k (still k (commits K i) (commits (Commit own cycle cells ∷ K) i) c h)
  | inr ne ↦
      let c : commits (Commit own cycle cells ∷ K) i ≡ commits K i = count-no (is_commit_of i) (Commit own cycle cells) K (ne_eqb own i ne) in
      cond-false (eqb own i && eqb cycle k) (Some cells) (commit_cells K i k) (and_left _ _ (ne_eqb own i ne)) ∙ no-cells air K (earlier l) i k (subst (λ (m : ℕ). (k ≡ 0) ⊎ (m < k)) c h)
]
  where
    differs : (cycle k n m : ℕ) → m ≡ n + 1 → cycle ≡ n + 1 → (k ≡ 0) ⊎ (m < k) → cycle ≢ k
    differs cycle k n m a b (inl z) e = omega arith
    differs cycle k n m a b (inr z) e = omega arith

    still : (k n m : ℕ) → m ≡ n + 1 → (k ≡ 0) ⊎ (m < k) → (k ≡ 0) ⊎ (n < k)
    still k n m a (inl z) = inl z
    still k n m a (inr z) = inr (omega arith)
no-cells air (Send own target number word ∷ K) l i k h = no-cells air K (earlier l) i k h
no-cells air (Take own p c good ∷ K) l i k h = no-cells air K (earlier l) i k h

-- Each commit has its cells.
pub some-cells : (air : Air) (K : List Entry) → IsLegal air K → (i k : ℕ) → 1 ≤ k → k ≤ commits K i → (cells : Cells) × (commit_cells K i k ≡ Some cells)
some-cells air [] l i k h few = absurd (omega arith)
some-cells air (Commit own cycle cells ∷ K) l i k h few = elim (cases_eq own i) [
  | inl e ↦
      let c : commits (Commit own cycle cells ∷ K) i ≡ commits K i + 1 = count-yes (is_commit_of i) (Commit own cycle cells) K (eq-eqb own i e) in
      let f : cycle ≡ commits K i + 1 = (allowed l).cycle_is ∙ ap (λ j. commits K j + 1) e in
      elim (cases_eq cycle k) [
        | inl q ↦ (cells, cond-true (eqb own i && eqb cycle k) (Some cells) (commit_cells K i k) (and_from _ _ (eq-eqb own i e) (eq-eqb cycle k q)))
        | inr ne ↦ let r = some-cells air K (earlier l) i k h (omega arith) in (r.0, cond-false (eqb own i && eqb cycle k) (Some cells) (commit_cells K i k) (and_right (eqb own i) _ (ne_eqb cycle k ne)) ∙ r.1)
      ]
  | inr ne ↦
      let c : commits (Commit own cycle cells ∷ K) i ≡ commits K i = count-no (is_commit_of i) (Commit own cycle cells) K (ne_eqb own i ne) in
      let r = some-cells air K (earlier l) i k h (omega arith) in (r.0, cond-false (eqb own i && eqb cycle k) (Some cells) (commit_cells K i k) (and_left _ _ (ne_eqb own i ne)) ∙ r.1)
]
some-cells air (Send own target number word ∷ K) l i k h few = some-cells air K (earlier l) i k h few
some-cells air (Take own p c good ∷ K) l i k h few = some-cells air K (earlier l) i k h few

pub may-commit : {e : Parts} {w : Written} {t : Kept} → IsWhole e w t → (i cycle : ℕ) (cells : Cells) → is_active (air_of e) i ≡ true → IsFree (air_of e) w.entries i → cycle ≡ (made_at t i).commits + 1 → AreNext (air_of e) t i cells → MayCommit (air_of e) w.entries i cycle cells
may-commit {e} h i cycle cells active free c next =
    let hi = below-all e h.is_journal.valid i active in
    let n = count-is h i hi in
    let left = free.left in
    record {
      active = active;
      cycle_is = omega arith;
      in_run = omega arith;
      owes_nothing = free.owes_nothing;
      nothing_due = free.nothing_due;
      not_ahead = free.not_ahead;
      cells_are = cells-are h i cells hi next;
    }

pub record CommitFits (e : Parts) (w : Written) (t : Kept) (i : ℕ) : Type 0 where
  pub own : i < CRAFTS
  pub position : length w.entries < 585600
  pub room : length w.entries < w.room
  pub commits : (made_at t i).commits < 600
  pub seat : i < w.crafts
  pub places : ((made_at t i).commits + 1) * w.crafts ≤ w.places
  pub new : commit_cells w.entries i ((made_at t i).commits + 1) ≡ None

pub commit-fits : {e : Parts} {w : Written} {t : Kept} → IsWhole e w t → (i : ℕ) (cells : Cells) → is_active (air_of e) i ≡ true → IsFree (air_of e) w.entries i → AreNext (air_of e) t i cells → CommitFits e w t i
commit-fits {e} {w} {t} h i cells active free are_next =
    let K = w.entries in
    let hi = below-all e h.is_journal.valid i active in
    let n = count-is h i hi in
    let left : commits K i < e.cycles = free.left in
    let k : e.cycles ≤ 600 = h.is_journal.valid.run.length.1 in
    let x : length K + 1 ≤ most_entries (air_of e) = entry-fits e K (Commit i ((made_at t i).commits + 1) cells) h.is_journal.valid h.is_journal.legal (may-commit h i ((made_at t i).commits + 1) cells active free refl are_next) in
    let most = most-few e h.is_journal.valid in
    let room = h.room in
    let within : i < length e.crafts = below e h.is_journal.valid i active in
    let next : (made_at t i).commits + 1 ≤ e.cycles = omega arith in
    record { own = hi; position = omega arith; room = omega arith; commits = omega arith; seat = rw h.crafts within; places = rw (h.crafts, h.places) (mul-le-mul_right (length e.crafts) next); new = no-cells (air_of e) K h.is_journal.legal i ((made_at t i).commits + 1) (inr (omega arith)) }

pub committed-whole : {e : Parts} {w v : Written} {t u : Kept} → IsWhole e w t → (i cycle : ℕ) (cells : Cells) (many : Bool) → is_active (air_of e) i ≡ true → IsFree (air_of e) w.entries i → cycle ≡ (made_at t i).commits + 1 → AreNext (air_of e) t i cells →
    many ≡ has_many cells → WritesOn w v (Commit i cycle cells) → AfterCommit t u i cells many → IsWhole e v u
committed-whole {e} {w} {v} {t} {u} h i cycle cells many active free c next m written after =
    record {
      is_journal = record { valid = h.is_journal.valid; inside = h.is_journal.inside; legal = subst (IsLegal (air_of e)) (sym written.entries) (extended h.is_journal.legal (may-commit h i cycle cells active free c next)) };
      kept = subst (λ (J : List Entry). IsKept (air_of e) J u) (sym written.entries) (kept-commit (air_of e) w.entries t u h.kept i cycle cells many m after);
      queues = λ a b ha hb. subst (λ (r : ℕ). room_of (air_of e) a b ≤ r) (sym (after.room a b ha hb)) (h.queues a b ha hb);
      room = subst (λ (k : ℕ). most_entries (air_of e) ≤ k) (sym written.room) h.room;
      crafts = written.crafts ∙ h.crafts;
      places = written.places ∙ h.places;
    }
