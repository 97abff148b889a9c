-- The cells follow from what is seen and what is told.
use Rattle.std.proofs.Common.{◌≡◌, ℕ, zero, suc, ◌+◌, ◌≤◌, cond, eqb, List, [], ◌∷◌, map, nat_lt, not, ◌&&◌, sym, refl, ap, ap₂, ◌∙◌, subst, arith, inl, inr, eqb-true}
use Rattle.std.proofs.lemmas.Bool.{cond-false, cond-true, cases_Bool}
use Rattle.std.specs.List.{range_with_len}
use Rattle.acas_base.specs.Next.{following_cell}
use Rattle.acas_base.specs.declared.advisory.Cell.{Cell}
use Rattle.acas_base.specs.declared.advisory.Cell.TheVariants.{Clear}
use Rattle.acas_base.specs.declared.advisory.Cells.{Cells}
use Rattle.acas_base.specs.declared.advisory.Rank.{Rank}
use Rattle.acas_base.specs.declared.advisory.Vrc.{Vrc}
use Rattle.acas_base.specs.declared.entry.Entry.{Entry}
use Rattle.acas_base.specs.declared.entry.Entry.TheVariants.{Commit, Send, Take}
use Rattle.acas_base.specs.declared.view.View.{View}
use Rattle.air_rules.proofs.Beginnings.{begins-on}
use Rattle.air_rules.proofs.FewTakes.{places}
use Rattle.air_rules.proofs.Legal.{allowed, earlier, legal-begins}
use Rattle.air_rules.proofs.Pace.{count-no, count-yes}
use Rattle.air_rules.specs.Air.{Air, rank_of}
use Rattle.air_rules.specs.Journal.{Begins, cell_at, commits, is_commit_of, last_cell, more, whole}
use Rattle.air_rules.specs.Rules.{IsLegal, cell_for, cells_for}
use Rattle.air_rules.specs.Takes.{complement_from}
use Rattle.air_rules.specs.Worlds.{AreTwoWorlds}

-- The last commit of an aircraft, where it has made n + 1.
pub record Last (K : List Entry) (i n : ℕ) : Type 0 where
  pub cells : Cells
  pub before : List Entry
  pub there : Begins (Commit i (suc n) cells ∷ before) K
  pub is_last : (j : ℕ) → last_cell K i j ≡ cell_at cells j

past : (x : Entry) (K : List Entry) (i n : ℕ) (same : (j : ℕ) → last_cell (x ∷ K) i j ≡ last_cell K i j) → Last K i n → Last (x ∷ K) i n
past x K i n same l = record { cells = l.cells; before = l.before; there = more l.there; is_last = λ j. same j ∙ l.is_last j }

last-of : (air : Air) (K : List Entry) → IsLegal air K → (i n : ℕ) → commits K i ≡ suc n → Last K i n
last-of air [] l i n e = absurd (omega arith)
last-of air (Commit own cycle cells ∷ K) l i n e =
    let x = Commit own cycle cells in
    let ih = last-of air K (earlier l) i n in
    elim (cases_Bool (eqb own i)) [
      | inl y ↦
          let o : own ≡ i = eqb-true own i y in
          let k : commits K i ≡ commits K own = ap (commits K) (sym o) in
          let f : commits (x ∷ K) i ≡ commits K i + 1 = count-yes (is_commit_of i) x K y in
          let g : cycle ≡ commits K own + 1 = (allowed l).cycle_is in
          let c : cycle ≡ suc n = omega arith in
          record {
            cells = cells;
            before = K;
            there = subst (λ (a : ℕ). Begins (Commit a (suc n) cells ∷ K) (x ∷ K)) o (subst (λ (a : ℕ). Begins (Commit own a cells ∷ K) (x ∷ K)) c whole);
            is_last = λ j. cond-true (eqb own i) _ _ y;
          }
      | inr m ↦ past x K i n (λ j. cond-false (eqb own i) _ _ m) (ih (sym (count-no (is_commit_of i) x K m) ∙ e))
    ]
last-of air (Send own target number word ∷ K) l i n e = past (Send own target number word) K i n (λ j. refl) (last-of air K (earlier l) i n e)
last-of air (Take own p c good ∷ K) l i n e = past (Take own p c good) K i n (λ j. refl) (last-of air K (earlier l) i n e)

pub none-yet : (K : List Entry) (i j : ℕ) → commits K i ≡ 0 → last_cell K i j ≡ Clear
none-yet [] i j e = refl
none-yet (Commit own cycle cells ∷ K) i j e =
    let x = Commit own cycle cells in
    let ih = none-yet K i j in
    elim (cases_Bool (eqb own i)) [
      | inl y ↦ let f : commits (x ∷ K) i ≡ commits K i + 1 = count-yes (is_commit_of i) x K y in absurd (omega arith)
      | inr m ↦ cond-false (eqb own i) _ _ m ∙ ih (sym (count-no (is_commit_of i) x K m) ∙ e)
    ]
none-yet (Send own target number word ∷ K) i j e = none-yet K i j e
none-yet (Take own p c good ∷ K) i j e = none-yet K i j e

same-map : (f g : ℕ → Cell) (a n : ℕ) → ((j : ℕ) → f j ≡ g j) → map f (range_with_len a n) ≡ map g (range_with_len a n)
same-map f g a zero h = refl
same-map f g a (suc n) h = ap₂ (λ x xs. x ∷ xs) (h a) (same-map f g (a + 1) n h)

next-same : {c d : Cell} {v w : View} {r q : Vrc} {k l : Rank} → c ≡ d → v ≡ w → r ≡ q → k ≡ l → following_cell c v r k ≡ following_cell d w q l
next-same a b x y = λ t. following_cell (a t) (b t) (x t) (y t)

pub same-cells : (one two : Air) (K M : List Entry) (i n : ℕ) → commits K i ≡ n → commits M i ≡ n → one.count ≡ two.count → one.places ≡ two.places →
    ((j : ℕ) → last_cell K i j ≡ last_cell M i j) → ((j : ℕ) → one.view i j (n + 1) ≡ two.view i j (n + 1)) → ((j : ℕ) → complement_from one K i j ≡ complement_from two M i j) → ((j : ℕ) → rank_of one i j ≡ rank_of two i j) →
    cells_for one K i ≡ cells_for two M i
same-cells one two K M i n ek em counts places cells_before views complements ranks =
    ap (λ (xs : List Cell). let r : Cells = record { list = xs } in r)
    (ap (λ (n : ℕ). map (λ j. cell_for one K i j) (range_with_len 0 n)) places ∙ same-map (λ j. cell_for one K i j) (λ j. cell_for two M i j) 0 two.places (λ j.
    let v : one.view i j (commits K i + 1) ≡ two.view i j (commits M i + 1) = ap (λ k. one.view i j (k + 1)) ek ∙ views j ∙ ap (λ k. two.view i j (k + 1)) (sym em) in
    ap₂ (λ (n : ℕ) (c : Cell). cond (nat_lt j n && not (eqb i j)) c Clear) counts (next-same (cells_before j) v (complements j) (ranks j))))

pub two-worlds : (one two : Air) (J L : List Entry) → IsLegal one J → IsLegal two L → AreTwoWorlds one two J L
two-worlds one two J L lj ll i k sees same_told c = go c
  where
    go : (c : ℕ) (K M : List Entry) (a b : Cells) → c ≤ k → Begins (Commit i c a ∷ K) J → Begins (Commit i c b ∷ M) L → a ≡ b
    go zero K M a b h x y = absurd (let f = (allowed (legal-begins one x lj)).cycle_is in omega arith)
    go (suc n) K M a b h x y =
        let lp = legal-begins one x lj in
        let lq = legal-begins two y ll in
        let p = allowed lp in
        let q = allowed lq in
        let ck : commits K i ≡ n = let f = p.cycle_is in omega arith in
        let cm : commits M i ≡ n = let f = q.cycle_is in omega arith in
        p.cells_are ∙ same-cells one two K M i n ck cm sees.count sees.places
        (cells_before n (go n) ck cm (earlier lp) (earlier lq) (begins-on x (more whole)) (begins-on y (more whole)) (omega arith))
        (λ j. sees.views j (n + 1) (omega arith))
        (λ j. same_told (suc n) j K M a b h x y)
        sees.ranks
        ∙ sym q.cells_are
      where
        cells_before : (n : ℕ) → ((K M : List Entry) (a b : Cells) → n ≤ k → Begins (Commit i n a ∷ K) J → Begins (Commit i n b ∷ M) L → a ≡ b) →
            commits K i ≡ n → commits M i ≡ n → IsLegal one K → IsLegal two M → Begins K J → Begins M L → n ≤ k → (j : ℕ) → last_cell K i j ≡ last_cell M i j
        cells_before zero ih ck cm lk lm bk bm le j = none-yet K i j ck ∙ sym (none-yet M i j cm)
        cells_before (suc m) ih ck cm lk lm bk bm le j =
            let s = last-of one K lk i m ck in
            let t = last-of two M lm i m cm in
            s.is_last j ∙ ap (λ (z : Cells). cell_at z j) (ih s.before t.before s.cells t.cells le (begins-on bk s.there) (begins-on bm t.there)) ∙ sym (t.is_last j)
