-- What a journal says of an aircraft by that aircraft's entries.
use Rattle.std.proofs.Common.{◌≡◌, ℕ, ◌+◌, Bool, true, false, not, ◌&&◌, ◌||◌, cond, eqb, List, [], ◌∷◌, None, sym, refl, ap, ◌∙◌, inl, inr, ne_eqb, eq-eqb}
use Rattle.std.proofs.lemmas.Bool.{cond-false, cond-true, cases_Bool, and_left}
use Rattle.acas_base.specs.Messages.{has_many, message_for}
use Rattle.acas_base.specs.declared.advisory.Cell.{Cell}
use Rattle.acas_base.specs.declared.advisory.Vrc.{Vrc}
use Rattle.acas_base.specs.declared.entry.Entry.{Entry}
use Rattle.acas_base.specs.declared.entry.Entry.TheVariants.{Commit, Send, Take}
use Rattle.air_rules.specs.Air.{Air, is_ra}
use Rattle.air_rules.specs.Journal.{cell_at, commits, count_of, entries_of, has_sent, is_commit_of, is_send_of, is_take_of, last_cell, owner_of, sends, was_taken}
use Rattle.air_rules.specs.Owed.{has_many_threats, said}
use Rattle.air_rules.specs.Own.{AddsToOwn, CompletesByOwn, DependsOnOwn, KeepsOthers, LeavesOthers}
use Rattle.air_rules.specs.Takes.{complement_read}

pub keeps-others : KeepsOthers
keeps-others x K i n = cond-false (eqb (owner_of x) i) _ _ (ne_eqb (owner_of x) i n)

pub adds-to-own : AddsToOwn
adds-to-own x K = cond-true (eqb (owner_of x) (owner_of x)) _ _ (eq-eqb (owner_of x) (owner_of x) refl)

-- A function of the journal that no entry of another aircraft changes, and to which the earlier entries matter only by
-- its value.
record ByOwn (X : Type 0) (f : List Entry → X) (i : ℕ) : Type 0 where
  skips : (x : Entry) (K : List Entry) → eqb (owner_of x) i ≡ false → f (x ∷ K) ≡ f K
  follows : (x : Entry) (K M : List Entry) → f K ≡ f M → f (x ∷ K) ≡ f (x ∷ M)

by-own : (X : Type 0) (f : List Entry → X) (i : ℕ) → ByOwn X f i → (K : List Entry) → f (entries_of K i) ≡ f K
by-own X f i b [] = refl
by-own X f i b (x ∷ K) =
    let ih = by-own X f i b K in
    elim (cases_Bool (eqb (owner_of x) i)) [
      | inl y ↦ ap f (cond-true (eqb (owner_of x) i) (x ∷ entries_of K i) (entries_of K i) y) ∙ b.follows x (entries_of K i) K ih
      | inr n ↦ ap f (cond-false (eqb (owner_of x) i) (x ∷ entries_of K i) (entries_of K i) n) ∙ ih ∙ sym (b.skips x K n)
    ]

count-own : (test : Entry → Bool) (i : ℕ) → ((x : Entry) → eqb (owner_of x) i ≡ false → test x ≡ false) → ByOwn ℕ (count_of test) i
count-own test i none = record {
  skips = λ x K n. cond-false (test x) _ _ (none x n);
  follows = λ x K M e. ap (λ (n : ℕ). cond (test x) (n + 1) n) e;
}

no-commit : (i : ℕ) (x : Entry) → eqb (owner_of x) i ≡ false → is_commit_of i x ≡ false
no-commit i (Commit own cycle cells) n = n
no-commit i (Send own target number word) n = refl
no-commit i (Take own send copy good) n = refl

no-send : (i j : ℕ) (x : Entry) → eqb (owner_of x) i ≡ false → is_send_of i j x ≡ false
no-send i j (Commit own cycle cells) n = refl
no-send i j (Send own target number word) n = and_left (eqb own i) _ n
no-send i j (Take own send copy good) n = refl

no-take : (i p c : ℕ) (x : Entry) → eqb (owner_of x) i ≡ false → is_take_of i p c x ≡ false
no-take i p c (Commit own cycle cells) n = refl
no-take i p c (Send own target number word) n = refl
no-take i p c (Take own send copy good) n = and_left (eqb own i) _ n

commits-own : (i : ℕ) → ByOwn ℕ (λ K. commits K i) i
commits-own i = count-own (is_commit_of i) i (no-commit i)

sends-own : (i j : ℕ) → ByOwn ℕ (λ K. sends K i j) i
sends-own i j = count-own (is_send_of i j) i (no-send i j)

taken-own : (i p c : ℕ) → ByOwn Bool (λ K. was_taken K i p c) i
taken-own i p c = record {
  skips = λ x K n. ap (λ (b : Bool). b || was_taken K i p c) (no-take i p c x n);
  follows = λ x K M e. ap (λ (b : Bool). is_take_of i p c x || b) e;
}

last-cell-own : (i j : ℕ) → ByOwn Cell (λ K. last_cell K i j) i
last-cell-own i j = record { skips = skips; follows = follows }
  where
    skips : (x : Entry) (K : List Entry) → eqb (owner_of x) i ≡ false → last_cell (x ∷ K) i j ≡ last_cell K i j
    skips (Commit own cycle cells) K n = cond-false (eqb own i) _ _ n
    skips (Send own target number word) K n = refl
    skips (Take own send copy good) K n = refl

    follows : (x : Entry) (K M : List Entry) → last_cell K i j ≡ last_cell M i j → last_cell (x ∷ K) i j ≡ last_cell (x ∷ M) i j
    follows (Commit own cycle cells) K M e = ap (λ (c : Cell). cond (eqb own i) (cell_at cells j) c) e
    follows (Send own target number word) K M e = e
    follows (Take own send copy good) K M e = e

said-own : (air : Air) (i j : ℕ) → ByOwn Vrc (λ K. said air K i j) i
said-own air i j = record { skips = skips; follows = follows }
  where
    skips : (x : Entry) (K : List Entry) → eqb (owner_of x) i ≡ false → said air (x ∷ K) i j ≡ said air K i j
    skips (Commit own cycle cells) K n = refl
    skips (Send own target number word) K n = cond-false (eqb own i && eqb target j) _ _ (and_left (eqb own i) _ n)
    skips (Take own send copy good) K n = refl

    follows : (x : Entry) (K M : List Entry) → said air K i j ≡ said air M i j → said air (x ∷ K) i j ≡ said air (x ∷ M) i j
    follows (Commit own cycle cells) K M e = e
    follows (Send own target number word) K M e = ap (λ (v : Vrc). cond (eqb own i && eqb target j) (complement_read (air.read word)) v) e
    follows (Take own send copy good) K M e = e

many-own : (i : ℕ) → ByOwn Bool (λ K. has_many_threats K i) i
many-own i = record { skips = skips; follows = follows }
  where
    skips : (x : Entry) (K : List Entry) → eqb (owner_of x) i ≡ false → has_many_threats (x ∷ K) i ≡ has_many_threats K i
    skips (Commit own cycle cells) K n = cond-false (eqb own i) _ _ n
    skips (Send own target number word) K n = refl
    skips (Take own send copy good) K n = refl

    follows : (x : Entry) (K M : List Entry) → has_many_threats K i ≡ has_many_threats M i → has_many_threats (x ∷ K) i ≡ has_many_threats (x ∷ M) i
    follows (Commit own cycle cells) K M e = ap (λ (b : Bool). cond (eqb own i) (has_many cells) b) e
    follows (Send own target number word) K M e = e
    follows (Take own send copy good) K M e = e

has-sent-own : (i j : ℕ) → ByOwn Bool (λ K. has_sent K i j) i
has-sent-own i j = record { skips = skips; follows = follows }
  where
    skips : (x : Entry) (K : List Entry) → eqb (owner_of x) i ≡ false → has_sent (x ∷ K) i j ≡ has_sent K i j
    skips (Commit own cycle cells) K n = cond-false (eqb own i) _ _ n
    skips (Send own target number word) K n = cond-false (eqb own i && eqb target j) _ _ (and_left (eqb own i) _ n)
    skips (Take own send copy good) K n = refl

    follows : (x : Entry) (K M : List Entry) → has_sent K i j ≡ has_sent M i j → has_sent (x ∷ K) i j ≡ has_sent (x ∷ M) i j
    follows (Commit own cycle cells) K M e = ap (λ (b : Bool). cond (eqb own i) false b) e
    follows (Send own target number word) K M e = ap (λ (b : Bool). cond (eqb own i && eqb target j) true b) e
    follows (Take own send copy good) K M e = e

-- The same of two journals with the same entries of i.
same-by : (X : Type 0) (f : List Entry → X) (i : ℕ) → ByOwn X f i → (K M : List Entry) → entries_of K i ≡ entries_of M i → f K ≡ f M
same-by X f i b K M e = sym (by-own X f i b K) ∙ ap f e ∙ by-own X f i b M

pub depends-on-own : (air : Air) → DependsOnOwn air
depends-on-own air K M i e =
    let cell = λ (j : ℕ). same-by Cell (λ J. last_cell J i j) i (last-cell-own i j) K M e in
    let say = λ (j : ℕ). same-by Vrc (λ J. said air J i j) i (said-own air i j) K M e in
    let sent = λ (j : ℕ). same-by Bool (λ J. has_sent J i j) i (has-sent-own i j) K M e in
    let many = same-by Bool (λ J. has_many_threats J i) i (many-own i) K M e in
    record {
      commits_are = same-by ℕ (λ J. commits J i) i (commits-own i) K M e;
      cells_are = cell;
      sends_are = λ j. same-by ℕ (λ J. sends J i j) i (sends-own i j) K M e;
      said_is = say;
      has_sent_is = sent;
      takes_are = λ p c. same-by Bool (λ J. was_taken J i p c) i (taken-own i p c) K M e;
      owed_is = λ j. λ t. cond (is_ra air i && (is_ra air j && (not (eqb i j) && not (sent j t)))) (message_for (cell j t) (say j t) (many t) (air.address i)) None;
    }

pub leaves-others : (air : Air) → LeavesOthers air
leaves-others air x K i n = depends-on-own air (x ∷ K) K i (keeps-others x K i n)

pub completes-by-own : (air : Air) → CompletesByOwn air
completes-by-own air J somewhere i a =
    let s = somewhere i a in
    let same = depends-on-own air s.front J i s.same in
    record { all_cycles = sym same.commits_are ∙ s.done.all_cycles; owes_nothing = λ j. sym (same.owed_is j) ∙ s.done.owes_nothing j }
