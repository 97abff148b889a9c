-- Over a plain link at most two commits within a run of the other have its sense.
use Rattle.std.proofs.Common.{◌≡◌, ◌⊎◌, ℕ, ◌+◌, ◌<◌, ◌≤◌, Bool, true, false, not, ◌&&◌, ◌||◌, eqb, List, [], ◌∷◌, length, Option, Some, None, sym, refl, ap, ◌∙◌, subst, arith, inl, inr, eqb-true, eq-eqb, ne_eqb, zero-le}
use Rattle.std.specs.Option.{option_map_or}
use Rattle.acas_base.specs.declared.craft.Kind.TheVariants as kinds
use Rattle.std.proofs.lemmas.Bool.{cond_both, cond-false, cond-true, and_parts, and_left, and_right, cases_Bool, false_from_ne_true}
use Rattle.acas_base.specs.Complements.{forbidden_sense}
use Rattle.acas_base.specs.Next.{cell_after, continuing_cell, ends, following_cell, new_advisory, rank_by, starting_cell, starting_sense, traffic_cell}
use Rattle.acas_base.specs.Senses.{has_sense}
use Rattle.acas_base.specs.declared.advisory.Cell.{Cell}
use Rattle.acas_base.specs.declared.advisory.Cell.TheVariants.{Clear, Ra, Traffic}
use Rattle.acas_base.specs.declared.advisory.Cells.{Cells}
use Rattle.acas_base.specs.declared.advisory.Rank.{Rank}
use Rattle.acas_base.specs.declared.advisory.Rank.TheVariants.{Free, Second}
use Rattle.acas_base.specs.declared.advisory.Sense.{Sense}
use Rattle.acas_base.specs.declared.advisory.Vrc.{Vrc}
use Rattle.acas_base.specs.declared.craft.Kind.{Kind}
use Rattle.acas_base.specs.declared.entry.Entry.{Entry}
use Rattle.acas_base.specs.declared.entry.Entry.TheVariants.{Commit, Send, Take}
use Rattle.acas_base.specs.declared.view.View.{View}
use Rattle.air_rules.proofs.Changes.{Resolving, commit-cell}
use Rattle.air_rules.proofs.Legal.{allowed, earlier, legal-begins}
use Rattle.air_rules.proofs.Pace.{active-ra, count-later, count-no, count-rises, count-yes, later-more, later-none, pace, sent-in-run}
use Rattle.air_rules.proofs.PlainLinks.{commit-forbids, plain-begins, rising-begins}
use Rattle.air_rules.proofs.Positions.{was-sent-more}
use Rattle.air_rules.proofs.Running.{lasts, run-sense, run-step, run-within, sense-has, starts, stays}
use Rattle.air_rules.proofs.Safety.{commit-clears}
use Rattle.acas_base.specs.Encounter.{is_ra_kind}
use Rattle.air_rules.specs.Air.{Air, IsSecond, IsSound, is_ra, rank_of}
use Rattle.air_rules.specs.Journal.{Sent, WasSent, cell_at, commits, count_of, entries_after, has_sent, is_commit_of, last_cell, more, whole}
use Rattle.air_rules.specs.Owed.{owed}
use Rattle.air_rules.specs.Priority.{IsEqualTwiceAtMost, advises}
use Rattle.air_rules.specs.Rules.{IsLegal, MayCommit}
use Rattle.air_rules.specs.Runs.{run_began}
use Rattle.air_rules.specs.Settled.{IsPlainLink, TakesInOrder}
use Rattle.air_rules.specs.Takes.{complement_from}

-- ---- who doesn't resolve has no advisory

quiet-none : (air : Air) (i : ℕ) (v : View) → Resolving air i (traffic_cell v)
quiet-none air i v = cond_both v.traffic Traffic Clear (Resolving air i) (λ _ s e. absurd (cc)) (λ _ s e. absurd (cc))

resolving-next : (air : Air) (i : ℕ) (v : View) (c : Cell) (r : Vrc) (k : Rank) → (v.threat ≡ true → v.resolves ≡ true) → (v.resolves ≡ true → is_ra air i ≡ true) → Resolving air i (following_cell c v r k)
resolving-next air i v c r k th re = cond_both v.tested (cell_after c v r k) Clear (Resolving air i) (λ _. go c) (λ _ s e. absurd (cc))
  where
    new : Resolving air i (starting_cell v r)
    new = cond_both v.threat (new_advisory v (starting_sense v r)) (traffic_cell v) (Resolving air i) (λ h s e. re (th h)) (λ _. quiet-none air i v)

    go : (c : Cell) → Resolving air i (cell_after c v r k)
    go Clear = new
    go Traffic = new
    go (Ra p) = cond_both (ends p v) (traffic_cell v) (continuing_cell p v r k) (Resolving air i) (λ _. quiet-none air i v)
        (λ h s e. re (resolves_from v.resolves _ h))
      where
        resolves_from : (a b : Bool) → (not a || b) ≡ false → a ≡ true
        resolves_from true b h = refl
        resolves_from false b h = cc

resolving : (air : Air) → IsSound air → (K : List Entry) (i j cycle : ℕ) (cells : Cells) → MayCommit air K i cycle cells → Resolving air i (cell_at cells j)
resolving air sound K i j cycle cells may =
    let v = air.view i j (commits K i + 1) in
    commit-cell air K i j cycle cells may (Resolving air i) (λ s e. absurd (cc))
    (resolving-next air i v (last_cell K i j) (complement_from air K i j) (rank_of air i j) (sound.threatens i j (commits K i + 1)) (sound.resolves i j (commits K i + 1)))

none-advise : (air : Air) → IsSound air → (K : List Entry) → IsLegal air K → (i j : ℕ) (t : Sense) → is_ra air i ≡ false → count_of (advises i j t) K ≡ 0
none-advise air sound [] l i j t n = refl
none-advise air sound (Commit own cycle cells ∷ K) l i j t n =
    let ih = none-advise air sound K (earlier l) i j t n in
    count-no (advises i j t) (Commit own cycle cells) K (false_from_ne_true _ (λ h.
    let parts = and_parts (eqb own i) (has_sense (cell_at cells j) t) h in
    let may = subst (λ (x : ℕ). MayCommit air K x cycle cells) (eqb-true own i parts.0) (allowed l) in
    let r : is_ra air i ≡ true = resolving air sound K i j cycle cells may t (sense-has (cell_at cells j) t parts.1) in
    let f : false ≡ true = sym n ∙ r in cc)) ∙ ih
none-advise air sound (Send own target number word ∷ K) l i j t n = none-advise air sound K (earlier l) i j t n
none-advise air sound (Take own p c good ∷ K) l i j t n = none-advise air sound K (earlier l) i j t n

later-fewer : (f : Entry → Bool) (K : List Entry) (b : ℕ) → count_of f (entries_after K b) ≤ count_of f K
later-fewer f [] b = zero-le
later-fewer f (x ∷ K) b =
    let ih : count_of f (entries_after K b) ≤ count_of f K = later-fewer f K b in
    let a : count_of f (entries_after (x ∷ K) b) ≤ count_of f (x ∷ entries_after K b) = count-later f x K b in
    elim (cases_Bool (f x)) [
      | inl h ↦
          let y : count_of f (x ∷ entries_after K b) ≡ count_of f (entries_after K b) + 1 = count-yes f x (entries_after K b) h in
          let z : count_of f (x ∷ K) ≡ count_of f K + 1 = count-yes f x K h in
          omega arith
      | inr h ↦
          let y : count_of f (x ∷ entries_after K b) ≡ count_of f (entries_after K b) = count-no f x (entries_after K b) h in
          let z : count_of f (x ∷ K) ≡ count_of f K = count-no f x K h in
          omega arith
    ]

advises-fewer : (K : List Entry) (i j : ℕ) (t : Sense) → count_of (advises i j t) K ≤ commits K i
advises-fewer [] i j t = zero-le
advises-fewer (Commit own cycle cells ∷ K) i j t =
    let x = Commit own cycle cells in
    let ih : count_of (advises i j t) K ≤ commits K i = advises-fewer K i j t in
    let up : commits K i ≤ commits (x ∷ K) i = count-rises (is_commit_of i) x K in
    elim (cases_Bool (advises i j t x)) [
      | inl h ↦
          let y : count_of (advises i j t) (x ∷ K) ≡ count_of (advises i j t) K + 1 = count-yes (advises i j t) x K h in
          let z : commits (x ∷ K) i ≡ commits K i + 1 = count-yes (is_commit_of i) x K (and_parts (eqb own i) _ h).0 in
          omega arith
      | inr h ↦
          let y : count_of (advises i j t) (x ∷ K) ≡ count_of (advises i j t) K = count-no (advises i j t) x K h in
          omega arith
    ]
advises-fewer (Send own target number word ∷ K) i j t = advises-fewer K i j t
advises-fewer (Take own p c good ∷ K) i j t = advises-fewer K i j t

-- ---- the two phases of a run

pub data Phase (K : List Entry) (i j b : ℕ) (t : Sense) : Type 0 where
  -- The run has one commit, of which nothing was sent.
  waiting : has_sent K j i ≡ false → commits (entries_after K b) j ≡ 0 → commits K j + commits (entries_after K b) i ≤ commits K i + 1 → Phase K i j b t
  -- Something was sent in the run.
  told : (p : ℕ) (S : Sent) → WasSent K p j i S → b < p → count_of (advises i j t) (entries_after K b) ≤ 2 → Phase K i j b t

two-while-waiting : (air : Air) (K : List Entry) → IsLegal air K → (i j b : ℕ) (t : Sense) → is_ra air j ≡ true → commits K j + commits (entries_after K b) i ≤ commits K i + 1 → count_of (advises i j t) (entries_after K b) ≤ 2
two-while-waiting air K l i j b t rj h =
    let a : count_of (advises i j t) (entries_after K b) ≤ commits (entries_after K b) i = advises-fewer (entries_after K b) i j t in
    let p : commits K i ≤ commits K j + 1 = pace air K l i j (active-ra air j rj) in
    omega arith

told-on : (x : Entry) (K : List Entry) (i j b : ℕ) (t : Sense) → advises i j t x ≡ false → b < length K → (p : ℕ) (S : Sent) → WasSent K p j i S → b < p → count_of (advises i j t) (entries_after K b) ≤ 2 → Phase (x ∷ K) i j b t
told-on x K i j b t ad h p S s q c =
    let m : entries_after (x ∷ K) b ≡ x ∷ entries_after K b = later-more x K b h in
    let d : count_of (advises i j t) (entries_after (x ∷ K) b) ≡ count_of (advises i j t) (entries_after K b) = ap (count_of (advises i j t)) m ∙ count-no (advises i j t) x (entries_after K b) ad in
    told p S (was-sent-more x K p j i S s) q (omega arith)

-- An entry that is no commit of either, and no Send of j to i.
quiet-step : (x : Entry) (K : List Entry) (i j b : ℕ) (t : Sense) → is_commit_of i x ≡ false → is_commit_of j x ≡ false → advises i j t x ≡ false → has_sent (x ∷ K) j i ≡ has_sent K j i →
    b < length K → Phase K i j b t → Phase (x ∷ K) i j b t
quiet-step x K i j b t ci cj ad sent h (waiting n z g) =
    let m : entries_after (x ∷ K) b ≡ x ∷ entries_after K b = later-more x K b h in
    let a : commits (entries_after (x ∷ K) b) j ≡ commits (entries_after K b) j = ap (count_of (is_commit_of j)) m ∙ count-no (is_commit_of j) x (entries_after K b) cj in
    let d : commits (entries_after (x ∷ K) b) i ≡ commits (entries_after K b) i = ap (count_of (is_commit_of i)) m ∙ count-no (is_commit_of i) x (entries_after K b) ci in
    let e : commits (x ∷ K) i ≡ commits K i = count-no (is_commit_of i) x K ci in
    let f : commits (x ∷ K) j ≡ commits K j = count-no (is_commit_of j) x K cj in
    waiting (sent ∙ n) (a ∙ z) (omega arith)
quiet-step x K i j b t ci cj ad sent h (told p S s q c) = told-on x K i j b t ad h p S s q c

pub second-ra : (air : Air) (i j : ℕ) → IsSecond air i j → is_ra air j ≡ true
second-ra air i j h = go (air.kind j) h.rank
  where
    go : (k : Option Kind) → option_map_or (rank_by (air.address i) (air.address j)) k Free ≡ Second → option_map_or is_ra_kind k false ≡ true
    go None e = absurd (cc)
    go (Some kinds.Ra) e = refl
    go (Some kinds.Ta) e = absurd (cc)
    go (Some kinds.Xpdr) e = absurd (cc)

module _ (air : Air) (sound : IsSound air) (i j : ℕ) (second : IsSecond air i j) (ri : is_ra air i ≡ true) where
  ne : eqb j i ≡ false
  ne = ne_eqb j i (λ e. second.apart (sym e))

  rj : is_ra air j ≡ true
  rj = second-ra air i j second

  phase : (K : List Entry) → IsLegal air K → IsPlainLink air K j i → TakesInOrder K i j → (b : ℕ) (t : Sense) → run_began K j i t ≡ Some b → Phase K i j b t
  phase [] l plain rising b t r = absurd (cc)
  phase (Commit own cycle cells ∷ K) l plain rising b t r =
      let x = Commit own cycle cells in
      let plain_K = plain-begins air j i (more whole) plain in
      let rising_K = rising-begins i j (more whole) rising in
      let ih = λ (o : run_began K j i t ≡ Some b). phase K (earlier l) plain_K rising_K b t o in
      elim (run-step own cycle cells K j i t b r) [
        | starts e s o f ↦
            let m : entries_after (x ∷ K) b ≡ [] = later-none x K b (omega arith) in
            let cj : commits (x ∷ K) j ≡ commits K j + 1 = count-yes (is_commit_of j) x K (eq-eqb own j e) in
            let ci : commits K i ≤ commits (x ∷ K) i = count-rises (is_commit_of i) x K in
            let pace_is : commits K j ≤ commits K i = subst (λ (k : ℕ). commits K k ≤ commits K i) e ((allowed l).not_ahead i (active-ra air i ri)) in
            let zi : commits (entries_after (x ∷ K) b) i ≡ 0 = ap (count_of (is_commit_of i)) m in
            waiting (cond-true (eqb own j) false (has_sent K j i) (eq-eqb own j e)) (ap (count_of (is_commit_of j)) m) (omega arith)
        | lasts e s o ↦ last_of e o (ih o)
        | stays e o ↦ other_of e o (cases_Bool (eqb own i)) (ih o)
      ]
    where
      x : Entry
      x = Commit own cycle cells

      not_i : own ≡ j → eqb own i ≡ false
      not_i e = ne_eqb own i (λ f. second.apart (sym f ∙ e))

      last_of : own ≡ j → run_began K j i t ≡ Some b → Phase K i j b t → Phase (Commit own cycle cells ∷ K) i j b t
      last_of e o (waiting n z g) =
          absurd (let f : false ≡ true = sym n ∙ sent-in-run air K j i t rj ri ne (run-sense K j i t b o) (subst (λ (k : ℕ). owed air K k i ≡ None) e ((allowed l).owes_nothing i)) in cc)
      last_of e o (told p S s q c) = told-on (Commit own cycle cells) K i j b t (and_left (eqb own i) _ (not_i e)) (run-within K j i t b o) p S s q c

      other_of : eqb own j ≡ false → run_began K j i t ≡ Some b → (eqb own i ≡ true) ⊎ (eqb own i ≡ false) → Phase K i j b t → Phase (Commit own cycle cells ∷ K) i j b t
      other_of e o (inr n) p = quiet-step (Commit own cycle cells) K i j b t n e (and_left (eqb own i) _ n) (cond-false (eqb own j) false (has_sent K j i) e) (run-within K j i t b o) p
      other_of e o (inl y) (waiting n z g) =
          let x = Commit own cycle cells in
          let h : b < length K = run-within K j i t b o in
          let m : entries_after (x ∷ K) b ≡ x ∷ entries_after K b = later-more x K b h in
          let zj : commits (entries_after (x ∷ K) b) j ≡ commits (entries_after K b) j = ap (count_of (is_commit_of j)) m ∙ count-no (is_commit_of j) x (entries_after K b) e in
          let zi : commits (entries_after (x ∷ K) b) i ≡ commits (entries_after K b) i + 1 = ap (count_of (is_commit_of i)) m ∙ count-yes (is_commit_of i) x (entries_after K b) y in
          let ci : commits (x ∷ K) i ≡ commits K i + 1 = count-yes (is_commit_of i) x K y in
          let cj : commits (x ∷ K) j ≡ commits K j = count-no (is_commit_of j) x K e in
          waiting (cond-false (eqb own j) false (has_sent K j i) e ∙ n) (zj ∙ z) (omega arith)
      other_of e o (inl y) (told p S s q c) =
          let may = subst (λ (k : ℕ). MayCommit air K k cycle cells) (eqb-true own i y) (allowed l) in
          let forbids_it : forbidden_sense (complement_from air K i j) ≡ Some t = commit-forbids air sound K (earlier l) i j cycle cells may (plain-begins air j i (more whole) plain) (rising-begins i j (more whole) rising) b p t S o s q in
          let no : has_sense (cell_at cells j) t ≡ false = false_from_ne_true _ (λ f. commit-clears air K i j cycle cells may second t (sense-has (cell_at cells j) t f) forbids_it) in
          told-on (Commit own cycle cells) K i j b t (and_right (eqb own i) _ no) (run-within K j i t b o) p S s q c
  phase (Send own target number word ∷ K) l plain rising b t r =
      let p = phase K (earlier l) (plain-begins air j i (more whole) plain) (rising-begins i j (more whole) rising) b t r in
      go (cases_Bool (eqb own j && eqb target i)) p
    where
      go : (eqb own j && eqb target i ≡ true) ⊎ (eqb own j && eqb target i ≡ false) → Phase K i j b t → Phase (Send own target number word ∷ K) i j b t
      go (inr n) p = quiet-step (Send own target number word) K i j b t refl refl refl (cond-false (eqb own j && eqb target i) true (has_sent K j i) n) (run-within K j i t b r) p
      go (inl y) (told p S s q c) = told-on (Send own target number word) K i j b t refl (run-within K j i t b r) p S s q c
      go (inl y) (waiting n z g) =
          let x = Send own target number word in
          let parts = and_parts (eqb own j) (eqb target i) y in
          let h : b < length K = run-within K j i t b r in
          let a : count_of (advises i j t) (entries_after K b) ≤ 2 = two-while-waiting air K (earlier l) i j b t rj g in
          let d : count_of (advises i j t) (entries_after (x ∷ K) b) ≡ count_of (advises i j t) (entries_after K b) = ap (count_of (advises i j t)) (later-more x K b h) in
          told (length K) (record { sender = own; receiver = target; number = number; word = word })
          (record { here = cond-true (eqb (length K) (length K)) _ _ (eq-eqb _ _ refl); sender = eqb-true own j parts.0; receiver = eqb-true target i parts.1 })
          h (omega arith)
  phase (Take own q c good ∷ K) l plain rising b t r =
      quiet-step (Take own q c good) K i j b t refl refl refl refl (run-within K j i t b r)
      (phase K (earlier l) (plain-begins air j i (more whole) plain) (rising-begins i j (more whole) rising) b t r)

pub at-most-two : (air : Air) (J : List Entry) → IsSound air → IsLegal air J → IsEqualTwiceAtMost air J
at-most-two air J sound lj i j second plain rising K began t b run =
    let l = legal-begins air b lj in
    go (cases_Bool (is_ra air i)) l
  where
    go : (is_ra air i ≡ true) ⊎ (is_ra air i ≡ false) → IsLegal air K → count_of (advises i j t) (entries_after K began) ≤ 2
    go (inr n) l =
        let a : count_of (advises i j t) (entries_after K began) ≤ count_of (advises i j t) K = later-fewer (advises i j t) K began in
        let z : count_of (advises i j t) K ≡ 0 = none-advise air sound K l i j t n in
        omega arith
    go (inl ri) l = at (phase air sound i j second ri K l (plain-begins air j i b plain) (rising-begins i j b rising) began t run)
      where
        at : Phase K i j began t → count_of (advises i j t) (entries_after K began) ≤ 2
        at (waiting n z g) = two-while-waiting air K l i j began t (second-ra air i j second) g
        at (told p S s q c) = c
