-- What is seen decides the shape of each cell.
use Rattle.std.proofs.Common.{◌≡◌, ℕ, suc, ◌+◌, ◌≤◌, Bool, true, false, not, ◌&&◌, cond, eqb, ltb, lt-ltb, le-ltb, List, [], ◌∷◌, sym, refl, ap, ◌∙◌, subst, arith, inl, inr, eqb-true, zero-add}
use Rattle.std.proofs.lemmas.Bool.{cond-false, cond-true, cond_both, cases_Bool, cases_lt}
use Rattle.std.proofs.lemmas.List.{get_or_past}
use Rattle.std.proofs.lemmas.List.FromFn.{get_or-map-range_with_len, length-map-range_with_len}
use Rattle.acas_base.specs.Next.{cell_after, changes_sense, continuation_of, continuing_cell, ends, following_cell, is_turned_after, new_advisory, reversal_of, starting_cell, starting_sense, traffic_cell}
use Rattle.acas_base.specs.declared.advisory.Cell.{Cell}
use Rattle.acas_base.specs.declared.advisory.Cell.TheVariants.{Clear, Ra, Traffic}
use Rattle.acas_base.specs.declared.advisory.Cells.{Cells}
use Rattle.acas_base.specs.declared.advisory.Intent.{Intent}
use Rattle.acas_base.specs.declared.advisory.Rank.{Rank}
use Rattle.acas_base.specs.declared.advisory.Vrc.{Vrc}
use Rattle.acas_base.specs.declared.advisory.Vrc.TheVariants.{Nil}
use Rattle.acas_base.specs.declared.entry.Entry.{Entry}
use Rattle.acas_base.specs.declared.entry.Entry.TheVariants.{Commit, Send, Take}
use Rattle.acas_base.specs.declared.view.View.{View}
use Rattle.air_rules.proofs.Legal.{allowed, earlier}
use Rattle.air_rules.proofs.Pace.{count-no, count-yes}
use Rattle.air_rules.specs.Air.{Air, rank_of}
use Rattle.air_rules.specs.Journal.{cell_at, commits, is_commit_of, last_cell}
use Rattle.air_rules.specs.Rules.{IsLegal, MayCommit, cell_for, cells_for}
use Rattle.air_rules.specs.Shape.{Shape, has_cell_for, resolution, shape_of, untold_cell}
use Rattle.air_rules.specs.Takes.{complement_from}

-- ---- the next cell

-- Of two cells of one shape, where one test picks both.
shape-cond : (b : Bool) (x y z w : Cell) → shape_of x ≡ shape_of z → shape_of y ≡ shape_of w → shape_of (cond b x y) ≡ shape_of (cond b z w)
shape-cond true x y z w e f = e
shape-cond false x y z w e f = f

starting-shape : (v : View) (r q : Vrc) → shape_of (starting_cell v r) ≡ shape_of (starting_cell v q)
starting-shape v r q = shape-cond v.threat (new_advisory v (starting_sense v r)) (traffic_cell v) (new_advisory v (starting_sense v q)) (traffic_cell v) refl refl

-- An advisory that goes on is a cycle older, whichever way it goes.
continuing-shape : (it : Intent) (v : View) (r : Vrc) (k : Rank) → shape_of (continuing_cell it v r k) ≡ resolution (it.age + 1)
continuing-shape it v r k =
    cond_both (changes_sense it v r k) (reversal_of it v (is_turned_after it k)) (continuation_of it v) (λ (c : Cell). shape_of c ≡ resolution (it.age + 1)) (λ _. refl) (λ _. refl)

-- The shape after an advisory of this age. Nothing else of the advisory enters.
abbrev aged : View → Intent → ℕ → Shape
aged v it n = cond (ends (record it { age = n }) v) (shape_of (traffic_cell v)) (resolution (n + 1))

after-advisory : (it : Intent) (v : View) (r : Vrc) (k : Rank) → shape_of (cell_after (Ra it) v r k) ≡ aged v it it.age
after-advisory it v r k = go (ends it v)
  where
    go : (b : Bool) → shape_of (cond b (traffic_cell v) (continuing_cell it v r k)) ≡ cond b (shape_of (traffic_cell v)) (resolution (it.age + 1))
    go true = refl
    go false = continuing-shape it v r k

after-shape : (c d : Cell) (v : View) (r q : Vrc) (k l : Rank) → shape_of c ≡ shape_of d → shape_of (cell_after c v r k) ≡ shape_of (cell_after d v q l)
after-shape Clear Clear v r q k l e = starting-shape v r q
after-shape Clear Traffic v r q k l e = starting-shape v r q
after-shape Clear (Ra b) v r q k l e = absurd (cc)
after-shape Traffic Clear v r q k l e = starting-shape v r q
after-shape Traffic Traffic v r q k l e = starting-shape v r q
after-shape Traffic (Ra b) v r q k l e = absurd (cc)
after-shape (Ra a) Clear v r q k l e = absurd (cc)
after-shape (Ra a) Traffic v r q k l e = absurd (cc)
after-shape (Ra a) (Ra b) v r q k l e =
    let same : a.age ≡ b.age = cc in
    after-advisory a v r k ∙ ap (aged v a) same ∙ sym (after-advisory b v q l)

-- The shape of the next cell follows from the shape of the last one and from the view.
following-shape : (c d : Cell) (v : View) (r q : Vrc) (k l : Rank) → shape_of c ≡ shape_of d → shape_of (following_cell c v r k) ≡ shape_of (following_cell d v q l)
following-shape c d v r q k l e = shape-cond v.tested (cell_after c v r k) Clear (cell_after d v q l) Clear (after-shape c d v r q k l e) refl

-- ---- the cells of a journal

-- The cell of the next commit, with the test that there is a place for it.
committed : (air : Air) (K : List Entry) (i j : ℕ) → cell_at (cells_for air K i) j ≡ cond (ltb j air.places) (cell_for air K i j) Clear
committed air K i j = elim (cases_lt j air.places) [
  | inl h ↦
      get_or-map-range_with_len (λ k. cell_for air K i k) 0 air.places j j Clear h (zero-add j)
      ∙ sym (cond-true (ltb j air.places) (cell_for air K i j) Clear (lt-ltb j air.places h))
  | inr h ↦
      get_or_past (cells_for air K i).list j Clear (subst (λ (n : ℕ). n ≤ j) (sym (length-map-range_with_len (λ k. cell_for air K i k) 0 air.places)) h)
      ∙ sym (cond-false (ltb j air.places) (cell_for air K i j) Clear (le-ltb j air.places h))
]

one-test : (a b : Bool) (x y : Cell) → cond a (cond b x y) y ≡ cond (a && b) x y
one-test true b x y = refl
one-test false b x y = refl

-- The shape of a new cell is that of the untold one, where this was so of the cells before.
pub commit-shape : (air : Air) (K : List Entry) (i j cycle : ℕ) (cells : Cells) → MayCommit air K i cycle cells →
    shape_of (last_cell K i j) ≡ shape_of (untold_cell air i j (commits K i)) → shape_of (cell_at cells j) ≡ shape_of (untold_cell air i j (suc (commits K i)))
commit-shape air K i j cycle cells may before =
    let v = air.view i j (commits K i + 1) in
    let r = complement_from air K i j in
    let k = rank_of air i j in
    ap (λ (z : Cells). shape_of (cell_at z j)) may.cells_are
    ∙ ap shape_of (committed air K i j ∙ one-test (ltb j air.places) (ltb j air.count && not (eqb i j)) (following_cell (last_cell K i j) v r k) Clear)
    ∙ shape-cond (has_cell_for air i j) (following_cell (last_cell K i j) v r k) Clear (following_cell (untold_cell air i j (commits K i)) v Nil k) Clear
    (following-shape (last_cell K i j) (untold_cell air i j (commits K i)) v r Nil k k before) refl

pub shaped : (air : Air) (K : List Entry) → IsLegal air K → (i j : ℕ) → shape_of (last_cell K i j) ≡ shape_of (untold_cell air i j (commits K i))
shaped air [] l i j = refl
shaped air (Commit own cycle cells ∷ K) l i j =
    let x = Commit own cycle cells in
    let ih = shaped air K (earlier l) i j in
    elim (cases_Bool (eqb own i)) [
      | inl y ↦
          let may = subst (λ (k : ℕ). MayCommit air K k cycle cells) (eqb-true own i y) (allowed l) in
          let f : commits (x ∷ K) i ≡ commits K i + 1 = count-yes (is_commit_of i) x K y in
          let made : commits (x ∷ K) i ≡ suc (commits K i) = omega arith in
          ap shape_of (cond-true (eqb own i) (cell_at cells j) (last_cell K i j) y)
          ∙ commit-shape air K i j cycle cells may ih
          ∙ ap (λ n. shape_of (untold_cell air i j n)) (sym made)
      | inr n ↦
          let made : commits (x ∷ K) i ≡ commits K i = count-no (is_commit_of i) x K n in
          ap shape_of (cond-false (eqb own i) (cell_at cells j) (last_cell K i j) n) ∙ ih ∙ ap (λ n. shape_of (untold_cell air i j n)) (sym made)
    ]
shaped air (Send own target number word ∷ K) l i j = shaped air K (earlier l) i j
shaped air (Take own p c good ∷ K) l i j = shaped air K (earlier l) i j
