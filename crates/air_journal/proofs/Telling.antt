-- What is found in the tables, told of the journal.
use Rattle.std.proofs.Common.{◌≡◌, ℕ, ◌+◌, ◌<◌, ◌≤◌, true, false, not, ◌&&◌, eqb, cond, ltb, List, length, Option, Some, None, option_map, slice_get, sym, refl, ap, ◌∙◌, subst, arith, inl, inr}
use Rattle.std.proofs.lemmas.Bool.{false_from_ne_true}
use Rattle.std.proofs.lemmas.List.FromFn.{fill_by_all}
use Rattle.acas_base.specs.Encounter.{Parts}
use Rattle.acas_base.specs.Next.{following_cell}
use Rattle.acas_base.specs.declared.TheConstants.{CRAFTS}
use Rattle.acas_base.specs.declared.advisory.Cell.{Cell}
use Rattle.acas_base.specs.declared.advisory.Cell.TheVariants.{Clear, Ra}
use Rattle.acas_base.specs.declared.advisory.Cells.{Cells}
use Rattle.acas_base.specs.declared.advisory.Intent.{Intent}
use Rattle.acas_base.specs.declared.advisory.ResMsg.{ResMsg}
use Rattle.air_journal.proofs.Ages.{age-few}
use Rattle.air_journal.proofs.Bounds.{below, below-all, few-crafts}
use Rattle.air_journal.proofs.Dues.{due-waits, first-due, in-at, nothing-due}
use Rattle.air_journal.proofs.Queued.{is-queue}
use Rattle.air_journal.proofs.Soundness.{sound-of}
use Rattle.air_journal.specs.Airs.{air_of}
use Rattle.air_journal.specs.Calls.{IsFirstBehind}
use Rattle.air_journal.specs.Found.{AreNext, AreOfTheirSenders, IsDueInOne, IsFirstBehindBy, IsFirstOwedBy, IsLeast, NobodyBehind, NoneOf, NotDueInAny, NothingOwedBy, WaitsAt, kept_in_force, next_by, next_in, owed_by, owed_in}
use Rattle.air_journal.specs.Kept.{Kept, complement_of, link_at, link_of, made_at, queue_at, waiting}
use Rattle.air_journal.specs.Queues.{AreOrdered, IsFirstDueAt, IsIn}
use Rattle.air_journal.specs.States.{IsWhole}
use Rattle.air_journal.specs.Written.{Written}
use Rattle.air_journal.specs.declared.due.Found.{Found}
use Rattle.air_journal.specs.declared.kept.Link.{Link}
use Rattle.air_journal.specs.declared.kept.Made.{Made}
use Rattle.air_journal.specs.declared.kept.Waiting.{Waiting}
use Rattle.air_journal.specs.declared.pace.Behind.{Behind}
use Rattle.air_rules.proofs.Searching.{some-or-none}
use Rattle.air_rules.proofs.Waiting.{owed-within}
use Rattle.air_rules.proofs.Pace.{active-ra, send-shows}
use Rattle.air_rules.specs.Air.{is_active, rank_of}
use Rattle.air_rules.specs.Due.{IsFirstDue, NothingDue, is_due}
use Rattle.air_rules.specs.Journal.{Sent, commits}
use Rattle.air_rules.specs.Owed.{IsFirstOwed, OwesNothing, owed}
use Rattle.air_rules.specs.Rules.{cell_for, cells_for}
use Rattle.air_rules.specs.Takes.{Taken, last_take, vrc_in_force}

-- ---- commits

pub count-is : {e : Parts} {w : Written} {t : Kept} → IsWhole e w t → (i : ℕ) → i < CRAFTS → (made_at t i).commits ≡ commits w.entries i
count-is h i hi = ap (λ (m : Made). m.commits) (h.kept.made i hi)

-- ---- what is owed

owed-is : {e : Parts} {w : Written} {t : Kept} → IsWhole e w t → (i j : ℕ) → i < CRAFTS → j < CRAFTS → owed_in (air_of e) t i j ≡ owed (air_of e) w.entries i j
owed-is {e} {w} {t} h i j hi hj =
    ap (λ (l : Link). owed_by (air_of e) i j l (made_at t i)) (h.kept.link i j hi hj) ∙ ap (owed_by (air_of e) i j (link_of (air_of e) w.entries i j)) (h.kept.made i hi)

pub owes-nothing : {e : Parts} {w : Written} {t : Kept} → IsWhole e w t → (i : ℕ) → i < CRAFTS → NothingOwedBy (air_of e) t i (length e.crafts) → OwesNothing (air_of e) w.entries i
owes-nothing {e} {w} h i hi none j = elim (some-or-none (owed (air_of e) w.entries i j)) [
  | inl (m, o) ↦
      let hj : j < length e.crafts = (owed-within (air_of e) (sound-of e h.is_journal.valid) w.entries i j m o).receiver in
      let f = few-crafts e h.is_journal.valid in
      sym (owed-is h i j hi (omega arith)) ∙ none j hj
  | inr n ↦ n
]

pub first-owed : {e : Parts} {w : Written} {t : Kept} → IsWhole e w t → (i j : ℕ) (m : ResMsg) → i < CRAFTS → IsFirstOwedBy (air_of e) t i j m → IsFirstOwed (air_of e) w.entries i j m
first-owed {e} h i j m hi f =
    let few = few-crafts e h.is_journal.valid in
    let b : j < length e.crafts = f.below in
    record {
      owes = sym (owed-is h i j hi (omega arith)) ∙ f.owes;
      first = λ k lt. sym (owed-is h i k hi (omega arith)) ∙ f.first k lt;
    }

-- ---- what is due

pub all-ordered : {e : Parts} {w : Written} {t : Kept} → IsWhole e w t → (i b : ℕ) → i < CRAFTS → b < CRAFTS → AreOrdered (queue_at t b i)
all-ordered {e} {w} h i b hi hb = subst AreOrdered (sym (h.kept.queue b i hb hi)) (is-queue (air_of e) (sound-of e h.is_journal.valid) w.entries h.is_journal.legal b i).ordered

pub found-waits : {e : Parts} {w : Written} {t : Kept} → IsWhole e w t → (i n : ℕ) (f : Found) → i < CRAFTS → n ≡ commits w.entries i → IsLeast t i n (length e.crafts) f → WaitsAt (air_of e) w.entries i f
found-waits {e} h i n f hi g l =
    let few = few-crafts e h.is_journal.valid in
    let b : f.sender < length e.crafts = l.sender in
    record {
      sender = l.sender;
      here = subst (λ (ws : List Waiting). slice_get ws f.place ≡ Some f.waiting) (h.kept.queue f.sender i (omega arith) hi) l.place.here;
      in_time = subst (λ (m : ℕ). f.waiting.due ≤ m) g l.place.in_time;
    }

pub found-first : {e : Parts} {w : Written} {t : Kept} → IsWhole e w t → (i n : ℕ) (f : Found) → i < CRAFTS → n ≡ commits w.entries i → IsLeast t i n (length e.crafts) f → IsFirstDue (air_of e) w.entries i f.waiting.send f.waiting.copy
found-first {e} {w} {t} h i n f hi g l =
    let few = few-crafts e h.is_journal.valid in
    let b : f.sender < length e.crafts = l.sender in
    first-due (air_of e) (sound-of e h.is_journal.valid) w.entries h.is_journal.legal i f.sender f.place f.waiting
    (subst (λ (m : ℕ). IsFirstDueAt (waiting (air_of e) w.entries f.sender i) m f.place f.waiting) g (subst (λ (ws : List Waiting). IsFirstDueAt ws n f.place f.waiting) (h.kept.queue f.sender i (omega arith) hi) l.place))
    (λ s hs u a d. l.least s hs u (subst (λ (ws : List Waiting). IsIn u ws) (sym (h.kept.queue s i (omega arith) hi)) a) (subst (λ (m : ℕ). u.due ≤ m) (sym g) d))

pub none-due : {e : Parts} {w : Written} {t : Kept} → IsWhole e w t → (i n : ℕ) → i < CRAFTS → n ≡ commits w.entries i → NoneOf t i n (length e.crafts) → NothingDue (air_of e) w.entries i
none-due {e} {w} h i n hi g none =
    let few = few-crafts e h.is_journal.valid in
    nothing-due (air_of e) (sound-of e h.is_journal.valid) w.entries h.is_journal.legal i
    (λ s hs u a. subst (λ (m : ℕ). m < u.due) g (none s hs u (subst (λ (ws : List Waiting). IsIn u ws) (sym (h.kept.queue s i (omega arith) hi)) a)))

pub not-due : {e : Parts} {w : Written} {t : Kept} → IsWhole e w t → (i n p c : ℕ) → i < CRAFTS → n ≡ commits w.entries i → NotDueInAny t i n p c (length e.crafts) → is_due (air_of e) w.entries i p c ≡ false
not-due {e} {w} h i n p c hi g none = false_from_ne_true _ (λ d.
    let f = due-waits (air_of e) (sound-of e h.is_journal.valid) w.entries h.is_journal.legal i p c d in
    let few = few-crafts e h.is_journal.valid in
    let b : f.sender < length e.crafts = f.below in
    let a : n < f.it.due = none f.sender b f.it (subst (λ (ws : List Waiting). IsIn f.it ws) (sym (h.kept.queue f.sender i (omega arith) hi)) ((is-queue (air_of e) (sound-of e h.is_journal.valid) w.entries h.is_journal.legal f.sender i).whole f.it f.waits)) f.send_is f.copy_is in
    let z : f.it.due ≤ commits w.entries i = f.due in omega arith)

-- A copy that waits from a sender is of a message that this one sent.
pub are-senders : {e : Parts} {w : Written} {t : Kept} → IsWhole e w t → (i : ℕ) → i < CRAFTS → AreOfTheirSenders w.entries t i (length e.crafts)
are-senders {e} {w} h i hi = λ sender u b a.
    let few = few-crafts e h.is_journal.valid in
    let q = is-queue (air_of e) (sound-of e h.is_journal.valid) w.entries h.is_journal.legal sender i in
    let s = q.holds u (subst (λ (ws : List Waiting). IsIn u ws) (h.kept.queue sender i (omega arith) hi) a) in
    ap (option_map (λ (sent : Sent). sent.sender)) s.from.here ∙ ap Some s.from.sender

pub this-waits : {e : Parts} {w : Written} {t : Kept} → IsWhole e w t → (i n p c : ℕ) (f : Found) → i < CRAFTS → n ≡ commits w.entries i → IsDueInOne t i n p c (length e.crafts) f → WaitsAt (air_of e) w.entries i f
this-waits {e} h i n p c f hi g l =
    let few = few-crafts e h.is_journal.valid in
    let b : f.sender < length e.crafts = l.sender in
    record {
      sender = l.sender;
      here = subst (λ (ws : List Waiting). slice_get ws f.place ≡ Some f.waiting) (h.kept.queue f.sender i (omega arith) hi) l.place.here;
      in_time = subst (λ (m : ℕ). f.waiting.due ≤ m) g l.place.in_time;
    }

-- What was found among all places was found among the aircraft.
pub narrowed : {e : Parts} {w : Written} {t : Kept} → IsWhole e w t → (i n : ℕ) (f : Found) → i < CRAFTS → IsLeast t i n CRAFTS f → IsLeast t i n (length e.crafts) f
narrowed {e} {w} {t} h i n f hi l =
    let air = air_of e in
    let few = few-crafts e h.is_journal.valid in
    let here : slice_get (waiting air w.entries f.sender i) f.place ≡ Some f.waiting = subst (λ (ws : List Waiting). slice_get ws f.place ≡ Some f.waiting) (h.kept.queue f.sender i l.sender hi) l.place.here in
    let it = (is-queue air (sound-of e h.is_journal.valid) w.entries h.is_journal.legal f.sender i).holds f.waiting (in-at _ f.place f.waiting here) in
    record {
      sender = (sound-of e h.is_journal.valid).counted f.sender (active-ra air f.sender (send-shows air w.entries h.is_journal.legal f.waiting.send f.sender i it.sent it.from).sender_ra);
      place = l.place;
      least = λ s hs u a d. l.least s (omega arith) u a d;
    }

pub none-narrowed : {e : Parts} {w : Written} {t : Kept} → IsWhole e w t → (i n : ℕ) → NoneOf t i n CRAFTS → NoneOf t i n (length e.crafts)
none-narrowed {e} h i n none = λ s hs u a. none s (let few = few-crafts e h.is_journal.valid in omega arith) u a

-- ---- who is behind

pub not-ahead : {e : Parts} {w : Written} {t : Kept} → IsWhole e w t → (i n : ℕ) → n ≡ commits w.entries i → NobodyBehind (air_of e) t n (length e.crafts) → (j : ℕ) → is_active (air_of e) j ≡ true → commits w.entries i ≤ commits w.entries j
not-ahead {e} h i n g none j a =
    let hj = below e h.is_journal.valid j a in
    let c = count-is h j (below-all e h.is_journal.valid j a) in
    let d = none j hj a in
    omega arith

pub first-behind-is : {e : Parts} {w : Written} {t : Kept} → IsWhole e w t → (i n : ℕ) (b : Behind) → n ≡ commits w.entries i → IsFirstBehindBy (air_of e) t n b → IsFirstBehind (air_of e) w.entries i b.craft × (b.commits ≡ commits w.entries b.craft)
first-behind-is {e} h i n b g f =
    let few = few-crafts e h.is_journal.valid in
    let hb : b.craft < length e.crafts = f.below in
    let c = count-is h b.craft (omega arith) in
    let d = f.count in
    let l : b.commits < n = f.fewer in (
      record {
        active = f.active;
        fewer = omega arith;
        first = λ k lt a. let m = count-is h k (omega arith) in let z = f.first k lt a in omega arith;
      },
      d ∙ c,
    )

-- ---- the next cells

force-is : (o : Option Taken) (n : ℕ) → kept_in_force (complement_of o) n ≡ vrc_in_force o n
force-is None n = refl
force-is (Some t) n = refl

next-is : {e : Parts} {w : Written} {t : Kept} → IsWhole e w t → (i j : ℕ) → i < CRAFTS → j < CRAFTS → next_in (air_of e) t i j ≡ cell_for (air_of e) w.entries i j
next-is {e} {w} {t} h i j hi hj =
    ap (λ (l : Link). next_by (air_of e) i j l (made_at t i)) (h.kept.link i j hi hj) ∙ ap (next_by (air_of e) i j (link_of (air_of e) w.entries i j)) (h.kept.made i hi)
    ∙ ap (λ r. cond (ltb j (length e.crafts) && not (eqb i j)) (following_cell (link_of (air_of e) w.entries i j).cell ((air_of e).view i j (commits w.entries i + 1)) r (rank_of (air_of e) i j)) Clear) (force-is (last_take (air_of e) w.entries i j) (commits w.entries i))

pub cells-are : {e : Parts} {w : Written} {t : Kept} → IsWhole e w t → (i : ℕ) (cells : Cells) → i < CRAFTS → AreNext (air_of e) t i cells → cells ≡ cells_for (air_of e) w.entries i
cells-are {e} {w} h i cells hi a =
    ap (λ (xs : List Cell). let r : Cells = record { list = xs } in r)
    (fill_by_all (λ j. cell_for (air_of e) w.entries i j) cells.list CRAFTS Clear a.size (λ j hj. a.each j hj ∙ next-is h i j hi hj))

pub ages : {e : Parts} {w : Written} {t : Kept} → IsWhole e w t → (i : ℕ) → i < CRAFTS → commits w.entries i < e.cycles → (j : ℕ) (it : Intent) → j < CRAFTS → (link_at t i j).cell ≡ Ra it → it.age < 600
ages {e} {w} h i hi left j it hj f =
    let a : it.age ≤ commits w.entries i = age-few (air_of e) w.entries h.is_journal.legal i j it (sym (ap (λ (l : Link). l.cell) (h.kept.link i j hi hj)) ∙ f) in
    let b : e.cycles ≤ 600 = h.is_journal.valid.run.length.1 in
    omega arith
