-- Airs that are alike up to a cycle: after the same journal the same entry of the serial order comes next.
use Rattle.std.proofs.Common.{◌≡◌, ℕ, ◌+◌, ◌<◌, ◌≤◌, Bool, true, false, not, ◌&&◌, cond, eqb, lt-ltb, List, [], ◌∷◌, Option, Some, None, is_some, option_and_then, slice_get, sym, refl, ap, ap₂, ◌∙◌, subst, arith, inl, inr}
use Rattle.std.proofs.lemmas.Bool.{cases_lt}
use Rattle.acas_base.specs.Messages.{message_for}
use Rattle.acas_base.specs.declared.advisory.Cells.{Cells}
use Rattle.acas_base.specs.declared.advisory.ResMsg.{ResMsg}
use Rattle.acas_base.specs.declared.advisory.Vrc.{Vrc}
use Rattle.acas_base.specs.declared.entry.Entry.{Entry}
use Rattle.acas_base.specs.declared.entry.Entry.TheVariants.{Commit, Send, Take}
use Rattle.acas_base.specs.declared.link.CopyPlan.{CopyPlan}
use Rattle.air_rules.proofs.SameAircraft.{same-active, same-ra, same-rank}
use Rattle.air_rules.proofs.SameWorlds.{same-cells}
use Rattle.air_rules.specs.Air.{Air, copy_plan, is_active}
use Rattle.air_rules.specs.Alike.{AreAlikeUpTo}
use Rattle.air_rules.specs.Due.{NothingDue, is_copy_due, is_due, is_free}
use Rattle.air_rules.specs.Journal.{Sent, commits, entries_after, has_sent, last_cell, sent_at, was_taken}
use Rattle.air_rules.specs.Owed.{OwesNothing, has_many_threats, owed, said}
use Rattle.air_rules.specs.Rounds.{is_commit_after}
use Rattle.air_rules.specs.Serial.{ComesNext, CommitsNext, IsIdle, IsTimeToCommit, IsUneven, SendsNext, TakesNext}
use Rattle.air_rules.specs.Takes.{Taken, complement_from, complement_read, is_from, last_take, read_copy, vrc_in_force}

-- ---- what a journal says is the same in both

same-said : {one two : Air} {last : ℕ} → AreAlikeUpTo one two last → (K : List Entry) (i j : ℕ) → said one K i j ≡ said two K i j
same-said h [] i j = refl
same-said h (Commit own cycle cells ∷ K) i j = same-said h K i j
same-said h (Send own target number word ∷ K) i j =
    let ih = same-said h K i j in
    ap₂ (λ (v w : Vrc). cond (eqb own i && eqb target j) v w) (ap complement_read (h.aircraft.read word)) ih
same-said h (Take own p c good ∷ K) i j = same-said h K i j

same-owed : {one two : Air} {last : ℕ} → AreAlikeUpTo one two last → (K : List Entry) (i j : ℕ) → owed one K i j ≡ owed two K i j
same-owed h K i j =
    let mine = same-ra h.aircraft i in
    let theirs = same-ra h.aircraft j in
    let say = same-said h K i j in
    λ t. cond (mine t && (theirs t && (not (eqb i j) && not (has_sent K i j)))) (message_for (last_cell K i j) (say t) (has_many_threats K i) (h.aircraft.address i t)) None

same-plan : {one two : Air} {last : ℕ} → AreAlikeUpTo one two last → (S : Sent) (c : ℕ) → copy_plan one S c ≡ copy_plan two S c
same-plan h S c = ap (λ (plans : List CopyPlan). slice_get plans c) (h.copies S.sender S.receiver S.number)

same-copy : {one two : Air} {last : ℕ} → AreAlikeUpTo one two last → (o : Option Sent) (c : ℕ) → read_copy one o c ≡ read_copy two o c
same-copy h None c = refl
same-copy {one} {two} h (Some S) c =
    let plan = same-plan h S c in
    let reads : (p : CopyPlan) → one.read (one.flip S.word p.mask) ≡ two.read (two.flip S.word p.mask) = λ p. h.aircraft.read (one.flip S.word p.mask) ∙ ap two.read (h.aircraft.flip S.word p.mask) in
    λ t. option_and_then (λ p. reads p t) (plan t)

same-take : {one two : Air} {last : ℕ} → AreAlikeUpTo one two last → (K : List Entry) (i j : ℕ) → last_take one K i j ≡ last_take two K i j
same-take h [] i j = refl
same-take h (Commit own cycle cells ∷ K) i j = same-take h K i j
same-take h (Send own target number word ∷ K) i j = same-take h K i j
same-take h (Take own p c good ∷ K) i j =
    let ih = same-take h K i j in
    ap₂ (λ (o : Option ResMsg) (rest : Option Taken).
    let taken : Taken = record { send = p; vrc = complement_read o; commits = commits K i } in
    cond (good && (eqb own i && is_from (sent_at K p) j)) (Some taken) rest) (same-copy h (sent_at K p) c) ih

same-complement : {one two : Air} {last : ℕ} → AreAlikeUpTo one two last → (K : List Entry) (i j : ℕ) → complement_from one K i j ≡ complement_from two K i j
same-complement h K i j = ap (λ (o : Option Taken). vrc_in_force o (commits K i)) (same-take h K i j)

same-copy-due : {one two : Air} {last : ℕ} → AreAlikeUpTo one two last → (K : List Entry) (o : Option Sent) (i p c : ℕ) → is_copy_due one K o i p c ≡ is_copy_due two K o i p c
same-copy-due h K None i p c = refl
same-copy-due h K (Some S) i p c =
    ap (λ (plan : Option CopyPlan). eqb S.receiver i && (is_free plan (commits (entries_after K p) i) && not (was_taken K i p c))) (same-plan h S c)

same-due : {one two : Air} {last : ℕ} → AreAlikeUpTo one two last → (K : List Entry) (i p c : ℕ) → is_due one K i p c ≡ is_due two K i p c
same-due h K i p c = same-copy-due h K (sent_at K p) i p c

-- ---- so nobody waits in one and not in the other

still-active : {one two : Air} {last : ℕ} → AreAlikeUpTo one two last → (i : ℕ) → is_active one i ≡ true → is_active two i ≡ true
still-active h i a = sym (same-active h.aircraft i) ∙ a

was-active : {one two : Air} {last : ℕ} → AreAlikeUpTo one two last → (i : ℕ) → is_active two i ≡ true → is_active one i ≡ true
was-active h i a = same-active h.aircraft i ∙ a

still-owes-nothing : {one two : Air} {last : ℕ} → AreAlikeUpTo one two last → (K : List Entry) (i : ℕ) → OwesNothing one K i → OwesNothing two K i
still-owes-nothing h K i owes j = sym (same-owed h K i j) ∙ owes j

still-nothing-due : {one two : Air} {last : ℕ} → AreAlikeUpTo one two last → (K : List Entry) (i : ℕ) → NothingDue one K i → NothingDue two K i
still-nothing-due h K i none p c = sym (same-due h K i p c) ∙ none p c

was-uneven : {one two : Air} {last : ℕ} → AreAlikeUpTo one two last → (K : List Entry) → IsUneven two K → IsUneven one K
was-uneven h K u = record { fewer = u.fewer; more = u.more; active_fewer = was-active h u.fewer u.active_fewer; active_more = was-active h u.more u.active_more; below = u.below }

still-uneven : {one two : Air} {last : ℕ} → AreAlikeUpTo one two last → (K : List Entry) → IsUneven one K → IsUneven two K
still-uneven h K u = record { fewer = u.fewer; more = u.more; active_fewer = still-active h u.fewer u.active_fewer; active_more = still-active h u.more u.active_more; below = u.below }

still-idle : {one two : Air} {last : ℕ} → AreAlikeUpTo one two last → (K : List Entry) → IsIdle one K → IsIdle two K
still-idle h K idle = record {
  nobody_owes = λ i. still-owes-nothing h K i (idle.nobody_owes i);
  nobody_is_due = λ i a. still-nothing-due h K i (idle.nobody_is_due i (was-active h i a));
}

-- ---- and the same entry comes next

next-commit : {one two : Air} {last : ℕ} → AreAlikeUpTo one two last → (K : List Entry) (own cycle : ℕ) (cells : Cells) → cycle ≤ last → CommitsNext one K own cycle cells → CommitsNext two K own cycle cells
next-commit {one} {two} h K own cycle cells within n = record {
  slowest = record {
    active = still-active h own n.slowest.active;
    fewest = λ j a. n.slowest.fewest j (was-active h j a);
    first = λ j a below. n.slowest.first j (was-active h j a) below;
  };
  time = time n.time;
  cycle_is = n.cycle_is;
  cells_are = n.cells_are ∙ same-cells one two K K own (commits K own) refl refl h.aircraft.count h.aircraft.places (λ j. refl) views (λ j. same-complement h K own j) (λ j. same-rank h.aircraft own j);
}
  where
    views : (j : ℕ) → one.view own j (commits K own + 1) ≡ two.view own j (commits K own + 1)
    views j = let is : cycle ≡ commits K own + 1 = n.cycle_is in h.view own j (commits K own + 1) (omega arith) (omega arith)

    time : IsTimeToCommit one K own → IsTimeToCommit two K own
    time (inl u) = inl (still-uneven h K u)
    time (inr (idle, left)) = inr (still-idle h K idle, subst (λ (n : ℕ). commits K own < n) h.aircraft.cycles left)

next-send : {one two : Air} {last : ℕ} → AreAlikeUpTo one two last → (K : List Entry) (own target number word : ℕ) → SendsNext one K own target number word → SendsNext two K own target number word
next-send h K own target number word n = record {
  even = λ u. n.even (was-uneven h K u);
  allowed = record {
    active = still-active h own n.allowed.active;
    message = n.allowed.message;
    first_owed = record {
      owes = sym (same-owed h K own target) ∙ n.allowed.first_owed.owes;
      first = λ j below. sym (same-owed h K own j) ∙ n.allowed.first_owed.first j below;
    };
    number_is = n.allowed.number_is;
    word_is = n.allowed.word_is ∙ h.aircraft.word n.allowed.message;
  };
  first = λ i below. still-owes-nothing h K i (n.first i below);
}

next-take : {one two : Air} {last : ℕ} → AreAlikeUpTo one two last → (K : List Entry) (own p c : ℕ) (good : Bool) → TakesNext one K own p c good → TakesNext two K own p c good
next-take h K own p c good n = record {
  even = λ u. n.even (was-uneven h K u);
  nobody_owes = λ i. still-owes-nothing h K i (n.nobody_owes i);
  allowed = record {
    active = still-active h own n.allowed.active;
    due = sym (same-due h K own p c) ∙ n.allowed.due;
    good_is = n.allowed.good_is ∙ ap is_some (same-copy h (sent_at K p) c);
  };
  first = λ i below a. still-nothing-due h K i (n.first i below (was-active h i a));
  first_due = record {
    due = sym (same-due h K own p c) ∙ n.first_due.due;
    first_send = λ q below d. sym (same-due h K own q d) ∙ n.first_due.first_send q below d;
    first_copy = λ d below. sym (same-due h K own p d) ∙ n.first_due.first_copy d below;
  };
}

pub next-alike : {one two : Air} {last : ℕ} → AreAlikeUpTo one two last → (K : List Entry) (x : Entry) → is_commit_after last x ≡ false → ComesNext one K x → ComesNext two K x
next-alike {one} {two} {last} h K (Commit own cycle cells) within n = next-commit h K own cycle cells (elim (cases_lt last cycle) [ inl g ↦ absurd (let f : false ≡ true = sym within ∙ lt-ltb last cycle g in cc) | inr g ↦ g ]) n
next-alike h K (Send own target number word) within n = next-send h K own target number word n
next-alike h K (Take own p c good) within n = next-take h K own p c good n
