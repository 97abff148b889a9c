-- An advisory is no older than its aircraft's commits.
use Rattle.std.proofs.Common.{◌≡◌, ℕ, ◌+◌, ◌≤◌, eqb, List, [], ◌∷◌, sym, refl, subst, arith, eqb-true}
use Rattle.std.proofs.lemmas.Bool.{cond_both}
use Rattle.acas_base.specs.Next.{cell_after, changes_sense, continuation_of, continuing_cell, ends, following_cell, is_turned_after, new_advisory, reversal_of, starting_cell, starting_sense, traffic_cell}
use Rattle.acas_base.specs.declared.advisory.Cell.{Cell}
use Rattle.acas_base.specs.declared.advisory.Cell.TheVariants.{Clear, Ra, Traffic}
use Rattle.acas_base.specs.declared.advisory.Intent.{Intent}
use Rattle.acas_base.specs.declared.advisory.Rank.{Rank}
use Rattle.acas_base.specs.declared.advisory.Vrc.{Vrc}
use Rattle.acas_base.specs.declared.entry.Entry.{Entry}
use Rattle.acas_base.specs.declared.entry.Entry.TheVariants.{Commit, Send, Take}
use Rattle.acas_base.specs.declared.view.View.{View}
use Rattle.air_rules.proofs.Changes.{commit-cell}
use Rattle.air_rules.proofs.Legal.{allowed, earlier}
use Rattle.air_rules.proofs.Pace.{count-no, count-yes}
use Rattle.air_rules.specs.Air.{Air}
use Rattle.air_rules.specs.Journal.{cell_at, commits, is_commit_of, last_cell}
use Rattle.air_rules.specs.Rules.{IsLegal, MayCommit}

abbrev NoOlder : ℕ → Cell → Type 0
NoOlder n c = (it : Intent) → c ≡ Ra it → it.age ≤ n

at-age : (p it : Intent) (n : ℕ) → p.age ≤ n → Ra p ≡ Ra it → it.age ≤ n
at-age p it n h e = let f : p ≡ it = cc in subst (λ (x : Intent). x.age ≤ n) f h

quiet : (n : ℕ) (v : View) → NoOlder n (traffic_cell v)
quiet n v = cond_both v.traffic Traffic Clear (NoOlder n) (λ _ it e. absurd (cc)) (λ _ it e. absurd (cc))

new : (n : ℕ) (v : View) (r : Vrc) → NoOlder (n + 1) (starting_cell v r)
new n v r = cond_both v.threat (new_advisory v (starting_sense v r)) (traffic_cell v) (NoOlder (n + 1)) (λ _ it e. at-age _ it (n + 1) (omega arith) e) (λ _. quiet (n + 1) v)

older : (n : ℕ) (v : View) (r : Vrc) (k : Rank) (p : Intent) → p.age ≤ n → NoOlder (n + 1) (continuing_cell p v r k)
older n v r k p h = cond_both (changes_sense p v r k) (reversal_of p v (is_turned_after p k)) (continuation_of p v) (NoOlder (n + 1)) (λ _ it e. at-age _ it (n + 1) (omega arith) e) (λ _ it e. at-age _ it (n + 1) (omega arith) e)

after-age : (n : ℕ) (v : View) (r : Vrc) (k : Rank) (prev : Cell) → NoOlder n prev → NoOlder (n + 1) (cell_after prev v r k)
after-age n v r k Clear h = new n v r
after-age n v r k Traffic h = new n v r
after-age n v r k (Ra p) h = cond_both (ends p v) (traffic_cell v) (continuing_cell p v r k) (NoOlder (n + 1)) (λ _. quiet (n + 1) v) (λ _. older n v r k p (h p refl))

next-age : (n : ℕ) (v : View) (r : Vrc) (k : Rank) (prev : Cell) → NoOlder n prev → NoOlder (n + 1) (following_cell prev v r k)
next-age n v r k prev h = cond_both v.tested (cell_after prev v r k) Clear (NoOlder (n + 1)) (λ _. after-age n v r k prev h) (λ _ it e. absurd (cc))

pub age-few : (air : Air) (K : List Entry) → IsLegal air K → (i j : ℕ) → NoOlder (commits K i) (last_cell K i j)
age-few air [] l i j = λ it e. absurd (cc)
age-few air (Commit own cycle cells ∷ K) l i j =
    let x = Commit own cycle cells in
    let ih = age-few air K (earlier l) i j in
    cond_both (eqb own i) (cell_at cells j) (last_cell K i j) (NoOlder (commits (x ∷ K) i))
    (λ q. subst (λ n. NoOlder n (cell_at cells j)) (sym (count-yes (is_commit_of i) x K q))
    (commit-cell air K i j cycle cells (subst (λ (o : ℕ). MayCommit air K o cycle cells) (eqb-true own i q) (allowed l)) (NoOlder (commits K i + 1)) (λ it e. absurd (cc))
    (next-age (commits K i) _ _ _ (last_cell K i j) ih)))
    (λ n. subst (λ m. NoOlder m (last_cell K i j)) (sym (count-no (is_commit_of i) x K n)) ih)
age-few air (Send own target number word ∷ K) l i j = age-few air K (earlier l) i j
age-few air (Take own p c good ∷ K) l i j = age-few air K (earlier l) i j
