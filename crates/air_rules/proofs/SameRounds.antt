-- Airs that are alike up to a cycle have serial journals that are the same up to the end of that round.
use Rattle.std.proofs.Common.{◌≡◌, ◌⊎◌, ℕ, ◌+◌, ◌<◌, ◌≤◌, true, false, cond, ltb, le-ltb, eqb, eqb-true, eq-eqb, List, [], ◌∷◌, length, sym, refl, ap, subst, arith, inl, inr, le_refl}
use Rattle.std.proofs.lemmas.Bool.{cond-false, cond-true, cases_Bool, or_from, or_parts}
use Rattle.std.specs.List.{list_any}
use Rattle.acas_base.specs.declared.advisory.Cells.{Cells}
use Rattle.acas_base.specs.declared.entry.Entry.{Entry}
use Rattle.acas_base.specs.declared.entry.Entry.TheVariants.{Commit, Send, Take}
use Rattle.air_rules.proofs.Beginnings.{begins-length, begins-nested, begins-on, begins-same}
use Rattle.air_rules.proofs.InOrder.{in-order-legal}
use Rattle.air_rules.proofs.Legal.{allowed, earlier, legal-begins}
use Rattle.air_rules.proofs.OnlySerial.{Placed, comes-once, in-order-before, in-order-begins, in-order-next, neither, placed, same-length}
use Rattle.air_rules.proofs.Pace.{count-no, count-rises, count-yes, pace}
use Rattle.air_rules.proofs.SameAircraft.{turned}
use Rattle.air_rules.proofs.SameSteps.{next-alike}
use Rattle.air_rules.specs.Air.{Air, IsSound}
use Rattle.air_rules.specs.Alike.{AreAlikeUpTo}
use Rattle.air_rules.specs.Journal.{Begins, commits, is_commit_of, more, whole}
use Rattle.air_rules.specs.Rounds.{AreTheSameTo, is_commit_after, rounds_to}
use Rattle.air_rules.specs.Rules.{IsLegal}
use Rattle.air_rules.specs.Serial.{ComesNext, IsInOrder, IsSerial, followed, started}

-- ---- the first rounds of a journal

-- The journal has no commit of a later cycle.
abbrev IsWithin : ℕ → List Entry → Type 0
IsWithin last J = list_any (is_commit_after last) J ≡ false

within-begins : (last : ℕ) (K J : List Entry) → Begins K J → IsWithin last J → IsWithin last K
within-begins last K J whole w = w
within-begins last K J (more {entry = x} {journal = L} b) w = within-begins last K L b (or_parts (is_commit_after last x) (list_any (is_commit_after last) L) w).1

rounds-begin : (last : ℕ) (J : List Entry) → Begins (rounds_to J last) J
rounds-begin last [] = whole
rounds-begin last (x ∷ K) =
    let ih = rounds-begin last K in
    elim (list_any (is_commit_after last) (x ∷ K)) as (λ b. Begins (cond b (rounds_to K last) (x ∷ K)) (x ∷ K)) [ true ↦ more ih | false ↦ whole ]

rounds-within : (last : ℕ) (J : List Entry) → IsWithin last (rounds_to J last)
rounds-within last [] = refl
rounds-within last (x ∷ K) =
    let ih = rounds-within last K in
    elim (cases_Bool (list_any (is_commit_after last) (x ∷ K))) [
      | inl y ↦ subst (λ (M : List Entry). IsWithin last M) (sym (cond-true (list_any (is_commit_after last) (x ∷ K)) (rounds_to K last) (x ∷ K) y)) ih
      | inr n ↦ subst (λ (M : List Entry). IsWithin last M) (sym (cond-false (list_any (is_commit_after last) (x ∷ K)) (rounds_to K last) (x ∷ K) n)) n
    ]

-- They are the longest beginning without such a commit.
rounds-longest : (last : ℕ) (K J : List Entry) → Begins K J → IsWithin last K → Begins K (rounds_to J last)
rounds-longest last [] J whole w = whole
rounds-longest last (x ∷ K) J whole w = subst (λ (M : List Entry). Begins (x ∷ K) M) (sym (cond-false (list_any (is_commit_after last) (x ∷ K)) (rounds_to K last) (x ∷ K) w)) whole
rounds-longest last K J (more {entry = x} {journal = L} b) w =
    let ih = rounds-longest last K L b w in
    elim (list_any (is_commit_after last) (x ∷ L)) as (λ t. Begins K (cond t (rounds_to L last) (x ∷ L))) [ true ↦ ih | false ↦ more b ]

-- ---- in one air as in the other

in-order-alike : {one two : Air} {last : ℕ} → AreAlikeUpTo one two last → (K : List Entry) → IsWithin last K → IsInOrder one K → IsInOrder two K
in-order-alike h [] w started = started
in-order-alike {one} {two} {last} h (x ∷ K) w (followed o n) =
    let parts = or_parts (is_commit_after last x) (list_any (is_commit_after last) K) w in
    followed (in-order-alike h K parts.1 o) (next-alike h K x parts.0 n)

-- What follows a beginning, where it isn't the whole.
goes-on : (K J : List Entry) → Begins K J → (K ≡ J) ⊎ ((x : Entry) × Begins (x ∷ K) J)
goes-on K J whole = inl refl
goes-on K J (more {entry = x} {journal = L} b) = elim (goes-on K L b) [
  | inl e ↦ inr (x, subst (λ (M : List Entry). Begins (x ∷ K) (x ∷ M)) e whole)
  | inr (y, c) ↦ inr (y, more c)
]

-- The first rounds of one journal aren't shorter than those of the other.
not-shorter : (one two : Air) (last : ℕ) (J L : List Entry) → AreAlikeUpTo one two last → IsSerial one J → IsSerial two L → length (rounds_to J last) < length (rounds_to L last) → ⊥
not-shorter one two last J L h s t less = at_end (goes-on A J (rounds-begin last J))
  where
    A : List Entry
    A = rounds_to J last

    B : List Entry
    B = rounds_to L last

    order : IsInOrder one A
    order = in-order-begins one A J (rounds-begin last J) s.in_order

    p : Placed B (length A)
    p = placed B (length A) less

    theirs : IsInOrder two (p.entry ∷ p.before)
    theirs = in-order-begins two (p.entry ∷ p.before) L (begins-on (rounds-begin last L) p.there) t.in_order

    same : p.before ≡ A
    same = same-length two p.before A (in-order-before two p.entry p.before theirs) (in-order-alike h A (rounds-within last J) order) p.position

    within : IsWithin last (p.entry ∷ A)
    within = subst (λ (M : List Entry). IsWithin last (p.entry ∷ M)) same (within-begins last (p.entry ∷ p.before) B p.there (rounds-within last L))

    next : ComesNext one A p.entry
    next = next-alike (turned h) A p.entry (or_parts (is_commit_after last p.entry) (list_any (is_commit_after last) A) within).0
        (subst (λ (M : List Entry). ComesNext two M p.entry) same (in-order-next two p.entry p.before theirs))

    at_end : (A ≡ J) ⊎ ((x : Entry) × Begins (x ∷ A) J) → ⊥
    at_end (inl e) = s.ended p.entry (subst (λ (M : List Entry). ComesNext one M p.entry) e next)
    at_end (inr (x, b)) =
        let is : x ≡ p.entry = comes-once one A x p.entry (in-order-next one x A (in-order-begins one (x ∷ A) J b s.in_order)) next in
        let longer : Begins (x ∷ A) A = rounds-longest last (x ∷ A) J b (subst (λ (y : Entry). IsWithin last (y ∷ A)) (sym is) within) in
        let f : length (x ∷ A) ≤ length A = begins-length (x ∷ A) A longer in
        omega arith

same-rounds : (one two : Air) (last : ℕ) (J L : List Entry) → AreAlikeUpTo one two last → IsSerial one J → IsSerial two L → rounds_to J last ≡ rounds_to L last
same-rounds one two last J L h s t =
    same-length two (rounds_to J last) (rounds_to L last)
    (in-order-alike h (rounds_to J last) (rounds-within last J) (in-order-begins one (rounds_to J last) J (rounds-begin last J) s.in_order))
    (in-order-begins two (rounds_to L last) L (rounds-begin last L) t.in_order)
    (neither (length (rounds_to J last)) (length (rounds_to L last)) (not-shorter one two last J L h s t) (not-shorter two one last L J (turned h) t s))

-- ---- the commits of these rounds

-- After a commit of a cycle there is none of a later one yet.
commit-within : (air : Air) (last : ℕ) (K : List Entry) → IsLegal air K → ((i : ℕ) → commits K i ≤ last) → IsWithin last K
commit-within air last [] l few = refl
commit-within air last (Commit own cycle cells ∷ K) l few =
    let x = Commit own cycle cells in
    let is : cycle ≡ commits K own + 1 = (allowed l).cycle_is in
    let up : commits (x ∷ K) own ≡ commits K own + 1 = count-yes (is_commit_of own) x K (eq-eqb own own refl) in
    let most : commits (x ∷ K) own ≤ last = few own in
    or_from (ltb last cycle) (list_any (is_commit_after last) K) (le-ltb last cycle (omega arith))
    (commit-within air last K (earlier l) (λ i. let f : commits K i ≤ commits (x ∷ K) i = count-rises (is_commit_of i) x K in let g : commits (x ∷ K) i ≤ last = few i in omega arith))
commit-within air last (Send own target number word ∷ K) l few = commit-within air last K (earlier l) few
commit-within air last (Take own p c good ∷ K) l few = commit-within air last K (earlier l) few

to-commit : (air : Air) (last : ℕ) (K : List Entry) (own cycle : ℕ) (cells : Cells) → IsLegal air (Commit own cycle cells ∷ K) → cycle ≤ last → IsWithin last (Commit own cycle cells ∷ K)
to-commit air last K own cycle cells l low = commit-within air last (Commit own cycle cells ∷ K) l (λ i.
    let is : cycle ≡ commits K own + 1 = (allowed l).cycle_is in
    let up : commits (Commit own cycle cells ∷ K) own ≡ commits K own + 1 = count-yes (is_commit_of own) (Commit own cycle cells) K (eq-eqb own own refl) in
    few i is up)
  where
    few : (i : ℕ) → cycle ≡ commits K own + 1 → commits (Commit own cycle cells ∷ K) own ≡ commits K own + 1 → commits (Commit own cycle cells ∷ K) i ≤ last
    few i is up = elim (cases_Bool (eqb own i)) [
      | inl y ↦ let e : commits (Commit own cycle cells ∷ K) own ≡ commits (Commit own cycle cells ∷ K) i = ap (commits (Commit own cycle cells ∷ K)) (eqb-true own i y) in omega arith
      | inr n ↦
          let e : commits (Commit own cycle cells ∷ K) i ≡ commits K i = count-no (is_commit_of i) (Commit own cycle cells) K n in
          let near : commits K i ≤ commits K own + 1 = pace air K (earlier l) i own (allowed l).active in
          omega arith
    ]

commits-begin : (i : ℕ) (K J : List Entry) → Begins K J → commits K i ≤ commits J i
commits-begin i K J whole = le_refl _
commits-begin i K J (more {entry = x} {journal = L} b) =
    let low : commits K i ≤ commits L i = commits-begin i K L b in
    let up : commits L i ≤ commits (x ∷ L) i = count-rises (is_commit_of i) x L in
    omega arith

-- An aircraft has no other commit of the cycle before it.
not-before : (air : Air) (J : List Entry) → IsLegal air J → (own cycle : ℕ) (K M : List Entry) (a b : Cells) →
    Begins (Commit own cycle a ∷ K) J → Begins (Commit own cycle b ∷ M) J → length K < length M → ⊥
not-before air J l own cycle K M a b x y less =
    let first : cycle ≡ commits K own + 1 = (allowed (legal-begins air x l)).cycle_is in
    let second : cycle ≡ commits M own + 1 = (allowed (legal-begins air y l)).cycle_is in
    let made : commits (Commit own cycle a ∷ K) own ≡ commits K own + 1 = count-yes (is_commit_of own) (Commit own cycle a) K (eq-eqb own own refl) in
    let inside = begins-nested (Commit own cycle a ∷ K) M J x (begins-on y (more whole)) (omega arith) in
    let f : commits (Commit own cycle a ∷ K) own ≤ commits M own = commits-begin own (Commit own cycle a ∷ K) M inside in
    omega arith

-- An aircraft commits a cycle once.
one-commit : (air : Air) (J : List Entry) → IsLegal air J → (own cycle : ℕ) (K M : List Entry) (a b : Cells) →
    Begins (Commit own cycle a ∷ K) J → Begins (Commit own cycle b ∷ M) J → a ≡ b
one-commit air J l own cycle K M a b x y =
    let level : length K ≡ length M = neither (length K) (length M) (not-before air J l own cycle K M a b x y) (not-before air J l own cycle M K b a y x) in
    let inside = begins-nested (Commit own cycle a ∷ K) (Commit own cycle b ∷ M) J x y (omega arith) in
    let same : Commit own cycle a ∷ K ≡ Commit own cycle b ∷ M = begins-same (Commit own cycle a ∷ K) (Commit own cycle b ∷ M) inside (omega arith) in
    cc

pub the-same-to : (one two : Air) (last : ℕ) (J L : List Entry) → IsSound one → IsSound two → AreAlikeUpTo one two last → IsSerial one J → IsSerial two L → AreTheSameTo J L last
the-same-to one two last J L sound sound_too h s t = record { rounds_are = same; commits_are = also; cells_are = cells }
  where
    same : rounds_to J last ≡ rounds_to L last
    same = same-rounds one two last J L h s t

    legal : IsLegal one J
    legal = in-order-legal one J sound s.in_order

    other : IsLegal two L
    other = in-order-legal two L sound_too t.in_order

    also : (own cycle : ℕ) (a : Cells) (K : List Entry) → cycle ≤ last → Begins (Commit own cycle a ∷ K) J → Begins (Commit own cycle a ∷ K) L
    also own cycle a K low b =
        let first = rounds-longest last (Commit own cycle a ∷ K) J b (to-commit one last K own cycle a (legal-begins one b legal) low) in
        begins-on (rounds-begin last L) (subst (λ (M : List Entry). Begins (Commit own cycle a ∷ K) M) same first)

    cells : (own cycle : ℕ) (K M : List Entry) (a b : Cells) → cycle ≤ last → Begins (Commit own cycle a ∷ K) J → Begins (Commit own cycle b ∷ M) L → a ≡ b
    cells own cycle K M a b low x y = one-commit two L other own cycle K M a b (also own cycle a K low x) y
