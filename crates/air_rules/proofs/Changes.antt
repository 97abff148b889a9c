-- How a cell follows the one before it.
use Rattle.std.proofs.Common.{◌≡◌, ◌≢◌, ℕ, ◌+◌, ◌<◌, ◌≤◌, Bool, true, false, not, ◌&&◌, nat_lt, cond, eqb, List, [], ◌∷◌, length, Some, sym, refl, ap, ◌∙◌, subst, arith, inl, inr, eqb-true, eq-eqb}
use Rattle.std.proofs.lemmas.Bool.{cond_both, and_parts, not-true, cases_lt}
use Rattle.acas_base.specs.Choice.{has_to_reverse}
use Rattle.acas_base.specs.Complements.{forbidden_sense, forbids}
use Rattle.acas_base.specs.Next.{cell_after, changes_sense, continuation_of, continuing_cell, ends, following_cell, is_turned_after, new_advisory, reversal_of, starting_cell, starting_sense, traffic_cell}
use Rattle.acas_base.specs.Senses.{other_sense, sense_of}
use Rattle.acas_base.specs.declared.advisory.Cell.{Cell}
use Rattle.acas_base.specs.declared.advisory.Cell.TheVariants.{Clear, Ra, Traffic}
use Rattle.acas_base.specs.declared.advisory.Cells.{Cells}
use Rattle.acas_base.specs.declared.advisory.Intent.{Intent}
use Rattle.acas_base.specs.declared.advisory.Rank.{Rank}
use Rattle.acas_base.specs.declared.advisory.Rank.TheVariants.{First, Free, Second}
use Rattle.acas_base.specs.declared.advisory.Sense.{Sense}
use Rattle.acas_base.specs.declared.advisory.Sense.TheVariants.{Down, Up}
use Rattle.acas_base.specs.declared.advisory.Vrc.{Vrc}
use Rattle.acas_base.specs.declared.advisory.Vrc.TheVariants.{Nil, NotAbove, NotBelow}
use Rattle.acas_base.specs.declared.entry.Entry.{Entry}
use Rattle.acas_base.specs.declared.entry.Entry.TheVariants.{Commit, Send, Take}
use Rattle.acas_base.specs.declared.view.View.{View}
use Rattle.air_rules.proofs.Legal.{allowed, earlier, legal-begins}
use Rattle.air_rules.proofs.Running.{lasts, run-step, starts, stays}
use Rattle.air_rules.proofs.Safety.{Clears, cell-is, clear-begins}
use Rattle.air_rules.proofs.Settling.{opposite-by-take}
use Rattle.air_rules.specs.Air.{Air, IsSound, is_ra, rank_of}
use Rattle.air_rules.specs.Journal.{Begins, before_last_commit, cell_at, commits, last_cell, more, whole}
use Rattle.air_rules.specs.Priority.{IsEqualOnlyIfAllowed, IsEqualOnlyUntold, ReversesOnce, StartsAsAllowed, YieldsOnlyWhereForbidden}
use Rattle.air_rules.specs.Rules.{IsLegal, MayCommit}
use Rattle.air_rules.specs.Runs.{run_began}
use Rattle.air_rules.specs.Takes.{complement_from, lapse}

-- A fact of every cell that an aircraft commits.
pub commit-cell : (air : Air) (K : List Entry) (i j cycle : ℕ) (cells : Cells) → MayCommit air K i cycle cells →
    (P : Cell → Type 0) → P Clear → P (following_cell (last_cell K i j) (air.view i j (commits K i + 1)) (complement_from air K i j) (rank_of air i j)) → P (cell_at cells j)
commit-cell air K i j cycle cells may P c n =
    subst (λ (x : Cells). P (cell_at x j)) (sym may.cells_are)
    (cell-is air K i j P c (cond_both (nat_lt j air.count && not (eqb i j)) _ Clear P (λ _. n) (λ _. c)))

-- ---- a Second aircraft

forbids-is : (r : Vrc) (q : Sense) → forbids r q ≡ true → forbidden_sense r ≡ Some q
forbids-is Nil q h = cc
forbids-is NotBelow Up h = cc
forbids-is NotBelow Down h = refl
forbids-is NotAbove Up h = refl
forbids-is NotAbove Down h = cc

-- The sense stays but where r forbids it.
abbrev Yields : Vrc → Sense → Cell → Type 0
Yields r s c = (t : Sense) → sense_of c ≡ Some t → s ≢ t → forbidden_sense r ≡ Some s

yields-quiet : (r : Vrc) (s : Sense) (v : View) → Yields r s (traffic_cell v)
yields-quiet r s v = cond_both v.traffic Traffic Clear (Yields r s) (λ _ t e n. cc) (λ _ t e n. cc)

yields-after : (r : Vrc) (s : Sense) (v : View) (prev : Cell) → sense_of prev ≡ Some s → Yields r s (cell_after prev v r Second)
yields-after r s v Clear e = absurd (cc)
yields-after r s v Traffic e = absurd (cc)
yields-after r s v (Ra p) e =
    let same : p.sense ≡ s = cc in
    cond_both (ends p v) (traffic_cell v) (continuing_cell p v r Second) (Yields r s)
    (λ _. yields-quiet r s v)
    (λ _. cond_both (forbids r p.sense) (reversal_of p v p.turned) (continuation_of p v) (Yields r s)
    (λ h t f n. forbids-is r p.sense h ∙ ap Some same)
    (λ h t f n. absurd (n (let g : p.sense ≡ t = cc in sym same ∙ g))))

yields-next : (r : Vrc) (s : Sense) (v : View) (prev : Cell) → sense_of prev ≡ Some s → Yields r s (following_cell prev v r Second)
yields-next r s v prev e = cond_both v.tested (cell_after prev v r Second) Clear (Yields r s) (λ _. yields-after r s v prev e) (λ _ t f n. cc)

pub yields : (air : Air) (J : List Entry) → IsLegal air J → YieldsOnlyWhereForbidden air J
yields air J lj K i j cycle cells s t b second old new apart =
    commit-cell air K i j cycle cells (allowed (legal-begins air b lj)) (Yields (complement_from air K i j) s) (λ u e n. cc)
    (subst (λ (k : Rank). Yields (complement_from air K i j) s (following_cell (last_cell K i j) (air.view i j (commits K i + 1)) (complement_from air K i j) k)) (sym second.rank)
    (yields-next (complement_from air K i j) s _ (last_cell K i j) old))
    t new apart

-- ---- another aircraft

abbrev Reverses : View → Intent → Cell → Type 0
Reverses v old c = (new : Intent) → c ≡ Ra new → old.sense ≢ new.sense → (has_to_reverse old v ≡ true) × (old.turned ≡ false) × (new.turned ≡ true)

reverses-quiet : (v : View) (old : Intent) → Reverses v old (traffic_cell v)
reverses-quiet v old = cond_both v.traffic Traffic Clear (Reverses v old) (λ _ n e h. absurd (cc)) (λ _ n e h. absurd (cc))

reverses-turn : (v : View) (old : Intent) → Reverses v old (cond (has_to_reverse old v && not old.turned) (reversal_of old v true) (continuation_of old v))
reverses-turn v old =
    cond_both (has_to_reverse old v && not old.turned) (reversal_of old v true) (continuation_of old v) (Reverses v old)
    (λ h new e n. let parts = and_parts (has_to_reverse old v) (not old.turned) h in (parts.0, not-true _ parts.1, cc))
    (λ h new e n. absurd (n (cc)))

reverses-on : (v : View) (r : Vrc) (k : Rank) (old : Intent) → k ≢ Second → Reverses v old (continuing_cell old v r k)
reverses-on v r First old h = reverses-turn v old
reverses-on v r Free old h = reverses-turn v old
reverses-on v r Second old h = absurd (h refl)

reverses-next : (v : View) (r : Vrc) (k : Rank) (old : Intent) → k ≢ Second → Reverses v old (following_cell (Ra old) v r k)
reverses-next v r k old h =
    cond_both v.tested (cell_after (Ra old) v r k) Clear (Reverses v old)
    (λ _. cond_both (ends old v) (traffic_cell v) (continuing_cell old v r k) (Reverses v old)
    (λ _. reverses-quiet v old) (λ _. reverses-on v r k old h))
    (λ _ n e a. absurd (cc))

pub reverses-once : (air : Air) (J : List Entry) → IsLegal air J → ReversesOnce air J
reverses-once air J lj K i j cycle cells old new b second was is apart =
    let v = air.view i j (commits K i + 1) in
    let x = commit-cell air K i j cycle cells (allowed (legal-begins air b lj)) (Reverses v old) (λ n e a. absurd (cc))
    (subst (λ (c : Cell). Reverses v old (following_cell c v (complement_from air K i j) (rank_of air i j))) (sym was) (reverses-next v (complement_from air K i j) (rank_of air i j) old second)) new is apart in
    record { called_for = x.0; first = x.1; noted = x.2 }

-- ---- ages

abbrev Aged : Cell → Type 0
Aged c = (it : Intent) → c ≡ Ra it → 1 ≤ it.age

aged-quiet : (v : View) → Aged (traffic_cell v)
aged-quiet v = cond_both v.traffic Traffic Clear Aged (λ _ it e. absurd (cc)) (λ _ it e. absurd (cc))

aged-at : (it new : Intent) (n : ℕ) → it.age ≡ n → 1 ≤ n → Ra it ≡ Ra new → 1 ≤ new.age
aged-at it new n a h e = let f : it ≡ new = cc in subst (λ (x : Intent). 1 ≤ x.age) f (subst (λ (m : ℕ). 1 ≤ m) (sym a) h)

aged-begins : (v : View) (r : Vrc) → Aged (starting_cell v r)
aged-begins v r = cond_both v.threat (new_advisory v (starting_sense v r)) (traffic_cell v) Aged (λ _ it e. aged-at _ it 1 refl (omega arith) e) (λ _. aged-quiet v)

aged-change : (p : Intent) (v : View) (b : Bool) → Aged (reversal_of p v b)
aged-change p v b it e = aged-at _ it (p.age + 1) refl (omega arith) e

aged-keep : (p : Intent) (v : View) → Aged (continuation_of p v)
aged-keep p v it e = aged-at _ it (p.age + 1) refl (omega arith) e

aged-on : (v : View) (r : Vrc) (k : Rank) (p : Intent) → Aged (continuing_cell p v r k)
aged-on v r k p = cond_both (changes_sense p v r k) (reversal_of p v (is_turned_after p k)) (continuation_of p v) Aged (λ _. aged-change p v (is_turned_after p k)) (λ _. aged-keep p v)

aged-after : (v : View) (r : Vrc) (k : Rank) (prev : Cell) → Aged (cell_after prev v r k)
aged-after v r k Clear = aged-begins v r
aged-after v r k Traffic = aged-begins v r
aged-after v r k (Ra p) = cond_both (ends p v) (traffic_cell v) (continuing_cell p v r k) Aged (λ _. aged-quiet v) (λ _. aged-on v r k p)

aged-next : (v : View) (r : Vrc) (k : Rank) (prev : Cell) → Aged (following_cell prev v r k)
aged-next v r k prev = cond_both v.tested (cell_after prev v r k) Clear Aged (λ _. aged-after v r k prev) (λ _ it e. absurd (cc))

pub last-aged : (air : Air) (K : List Entry) → IsLegal air K → (i j : ℕ) → Aged (last_cell K i j)
last-aged air [] l i j = λ it e. absurd (cc)
last-aged air (Commit own cycle cells ∷ K) l i j =
    cond_both (eqb own i) (cell_at cells j) (last_cell K i j) Aged
    (λ q. commit-cell air K i j cycle cells (subst (λ (x : ℕ). MayCommit air K x cycle cells) (eqb-true own i q) (allowed l)) Aged (λ it e. absurd (cc))
    (aged-next _ _ _ (last_cell K i j)))
    (λ _. last-aged air K (earlier l) i j)
last-aged air (Send own target number word ∷ K) l i j = last-aged air K (earlier l) i j
last-aged air (Take own p c good ∷ K) l i j = last-aged air K (earlier l) i j

-- ---- a start

-- A cell of age 1 hasn't the sense that r forbids.
abbrev Fresh : Vrc → Cell → Type 0
Fresh r c = (new : Intent) → c ≡ Ra new → new.age ≡ 1 → forbidden_sense r ≢ Some new.sense

fresh-quiet : (v : View) (r : Vrc) → Fresh r (traffic_cell v)
fresh-quiet v r = cond_both v.traffic Traffic Clear (Fresh r) (λ _ it e a. absurd (cc)) (λ _ it e a. absurd (cc))

fresh-clears : (r : Vrc) (c : Cell) → Clears r c → Fresh r c
fresh-clears r c h new e a = h new.sense (ap sense_of e)

fresh-old : (r : Vrc) (it : Intent) (n : ℕ) → it.age ≡ n + 1 → 1 ≤ n → Fresh r (Ra it)
fresh-old r it n a h new e b = absurd (let f : it ≡ new = cc in let g : it.age ≡ new.age = ap (λ (x : Intent). x.age) f in omega arith)

fresh-on : (v : View) (r : Vrc) (k : Rank) (p : Intent) → 1 ≤ p.age → Fresh r (continuing_cell p v r k)
fresh-on v r k p h = cond_both (changes_sense p v r k) (reversal_of p v (is_turned_after p k)) (continuation_of p v) (Fresh r) (λ _. fresh-old r _ p.age refl h) (λ _. fresh-old r _ p.age refl h)

fresh-after : (v : View) (r : Vrc) (k : Rank) (prev : Cell) → Aged prev → Fresh r (cell_after prev v r k)
fresh-after v r k Clear h = fresh-clears r (starting_cell v r) (clear-begins r v)
fresh-after v r k Traffic h = fresh-clears r (starting_cell v r) (clear-begins r v)
fresh-after v r k (Ra p) h = cond_both (ends p v) (traffic_cell v) (continuing_cell p v r k) (Fresh r) (λ _. fresh-quiet v r) (λ _. fresh-on v r k p (h p refl))

fresh-next : (v : View) (r : Vrc) (k : Rank) (prev : Cell) → Aged prev → Fresh r (following_cell prev v r k)
fresh-next v r k prev h = cond_both v.tested (cell_after prev v r k) Clear (Fresh r) (λ _. fresh-after v r k prev h) (λ _ it e a. absurd (cc))

pub starts-as-allowed : (air : Air) (J : List Entry) → IsLegal air J → StartsAsAllowed air J
starts-as-allowed air J lj K i j cycle cells new b is age =
    let l = legal-begins air b lj in
    commit-cell air K i j cycle cells (allowed l) (Fresh (complement_from air K i j)) (λ it e a. absurd (cc))
    (fresh-next _ (complement_from air K i j) (rank_of air i j) (last_cell K i j) (last-aged air K (earlier l) i j)) new is age

-- ---- equal senses

pub equal-untold : (air : Air) (J : List Entry) → IsSound air → IsLegal air J → IsEqualOnlyUntold air J
equal-untold air J sound lj K i j began s T b equal last =
    elim (cases_lt began T.send) [
      | inl h ↦ elim (cases_lt (commits (before_last_commit K i) i) (T.commits + lapse)) [
        | inl g ↦ absurd (never s (opposite-by-take air J sound lj K i j began s s T b equal.second equal.mine equal.theirs equal.run (record { last = last; in_time = g }) h))
        | inr g ↦ inr g
      ]
      | inr h ↦ inl h
    ]
  where
    never : (s : Sense) → s ≢ other_sense s
    never Up e = cc
    never Down e = cc

-- The first commit of a run has its sense.
begins-shorter : (x : Entry) (M K : List Entry) → Begins (x ∷ M) K → length M < length K
begins-shorter x M K whole = omega arith
begins-shorter x M K (more {journal = L} b) = let h : length M < length L = begins-shorter x M L b in omega arith

-- An entry after the first one of a run keeps where the run began.
run-kept : (x : Entry) (K : List Entry) (j i : ℕ) (t : Sense) (b : ℕ) → b < length K → run_began (x ∷ K) j i t ≡ Some b → run_began K j i t ≡ Some b
run-kept (Commit own cycle cells) K j i t b h r =
    elim (run-step own cycle cells K j i t b r) [
      | starts q s o e ↦ absurd (omega arith)
      | lasts q s o ↦ o
      | stays q o ↦ o
    ]
run-kept (Send own target number word) K j i t b h r = r
run-kept (Take own p c good) K j i t b h r = r

run-first : (j cycle : ℕ) (cells : Cells) (M K : List Entry) (i : ℕ) (t : Sense) → Begins (Commit j cycle cells ∷ M) K → run_began K j i t ≡ Some (length M) → sense_of (cell_at cells i) ≡ Some t
run-first j cycle cells M K i t whole r =
    elim (run-step j cycle cells M j i t (length M) r) [
      | starts q s o e ↦ s
      | lasts q s o ↦ s
      | stays q o ↦ absurd (let f : false ≡ true = sym q ∙ eq-eqb j j refl in cc)
    ]
run-first j cycle cells M K i t (more {entry = x} {journal = L} b) r =
    run-first j cycle cells M L i t b (run-kept x L j i t (length M) (begins-shorter (Commit j cycle cells) M L b) r)

pub equal-if-allowed : (air : Air) (J : List Entry) → IsLegal air J → IsEqualOnlyIfAllowed air J
equal-if-allowed air J lj K M i j cycle cells s new b equal c is age forbidden =
    let first : sense_of (cell_at cells i) ≡ Some s = run-first j cycle cells M K i s c equal.run in
    let same : Some new.sense ≡ Some s = sym (ap sense_of is) ∙ first in
    starts-as-allowed air K (legal-begins air b lj) M j i cycle cells new c is age (forbidden ∙ sym same)

-- ---- who has advisories

abbrev pub Resolving : Air → ℕ → Cell → Type 0
Resolving air i c = (s : Sense) → sense_of c ≡ Some s → is_ra air i ≡ true
