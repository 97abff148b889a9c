-- A seat is split off, joined to another one, or told of what another one has seen, and the rule still holds.
use Rattle.std.proofs.Common.{◌≡◌, ℕ, ◌+◌, ◌<◌, ◌≤◌, Bool, true, false, List, [], ◌∷◌, ◌++◌, set, ⊎_elim, refl, sym, ap, ◌∙◌, subst, arith, ltb, if◌then◌else◌}
use Rattle.std.proofs.lemmas.Bool.{ltb-true, ltb-false}
use mathlib.Core.Option.{some}
use lib.ListN.{get_elem?}
use lib.Seq.{set-get_or}
use Rattle.acas_base.specs.Encounter.{Parts}
use Rattle.acas_base.specs.declared.entry.Entry.{Entry}
use Rattle.air_journal.specs.Airs.{air_of}
use Rattle.air_rules.specs.Journal.{Begins, whole}
use Rattle.air_rules.proofs.Beginnings.{begins-nested, stays-between}
use Rattle.air_rules.proofs.Legal.{legal-begins}
use Rattle.atomic_table.specs.Table.{keeps, Allows, Splits, Joins}
use Rattle.atomic_table.proofs.Lists.{set_else, at_snoc, at_longer}
use Rattle.air_turn.specs.declared.view.TheConstants.{SERVING}
use Rattle.air_turn.specs.declared.view.Claim.{Claim}
use Rattle.air_turn.specs.declared.view.Knowledge.{Knowledge}
use Rattle.air_turn.specs.declared.view.Seen.{Seen}
use Rattle.air_turn.specs.declared.view.Stage.TheVariants.{Idle}
use Rattle.air_turn.specs.Rule.{ClaimsFit, Fits, HoldsThroughout, IsHolding, OldFits, SeenFits, has, knowledge, made, tops, waits, weigh}
use Rattle.air_turn.specs.Told.{TurnStep, learned, newer, confirmed, spent}
use Rattle.air_turn.specs.Totals.{total, one}
use Rattle.air_turn.proofs.Sums.{total-append, total-set}
use Rattle.air_turn.proofs.Turns.{TurnState, each-set, hands-set}

split-sum : (f : Knowledge → ℕ) (views : List Knowledge) (id : ℕ) (v left right : Knowledge) → get_elem? views id ≡ some v → f left + f right ≡ f v → total f (set views id left ++ right ∷ []) ≡ total f views
split-sum f views id v left right at same = let a = total-append f (set views id left) (right ∷ []) in let b = total-set f views id v left at in omega arith

join-sum : (f : Knowledge → ℕ) (views : List Knowledge) (id other : ℕ) (v w both spent : Knowledge) → get_elem? views id ≡ some v → get_elem? (set views id both) other ≡ some w
    → total f (set (set views id both) other spent) + (f v + f w) ≡ total f views + (f both + f spent)
join-sum f views id other v w both spent at there = let a = total-set f (set views id both) other w spent there in let b = total-set f views id v both at in omega arith

-- the same words and slots under other views
regroup : (e : Parts) (s : TurnState) (r : HoldsThroughout e s) (views : List Knowledge) → ((h : ℕ → ℕ) → total (weigh h) views ≡ total (weigh h) s.views) → total made views ≡ total made s.views
    → total (λ (v : Knowledge). waits v.stage) views ≡ total (λ (v : Knowledge). waits v.stage) s.views → ((t : ℕ) → total (λ (v : Knowledge). has t v.stage) views ≡ total (λ (v : Knowledge). has t v.stage) s.views)
    → total (tops r.calls) s.views ≤ total (tops r.calls) views
    → ((j : ℕ) (v : Knowledge) → get_elem? views j ≡ some v → Fits r.journal r.calls r.reach e r.serving r.away r.holder j v)
    → ((u : Knowledge) × (get_elem? s.views r.holder ≡ some u) × IsHolding u.stage → (u : Knowledge) × (get_elem? views r.holder ≡ some u) × IsHolding u.stage)
    → HoldsThroughout e record { words = s.words; homes = s.homes; views = views }
regroup e s r views owned made_all queue out latest each gone = record {
  journal = r.journal;
  calls = r.calls;
  serving = r.serving;
  drawn = r.drawn;
  away = r.away;
  holder = r.holder;
  reach = r.reach;
  wide = r.wide;
  deep = r.deep;
  ticket_word = r.ticket_word;
  length_word = r.length_word;
  served = r.served;
  state = r.state;
  owned = λ h. owned h ∙ r.owned h;
  made_all = made_all ∙ r.made_all;
  queue = ap (λ n. r.serving + n) queue ∙ r.queue;
  out = λ t. out t ∙ r.out t;
  latest = (let h = r.latest in omega arith);
  rises = r.rises;
  reached = r.reached;
  each = each;
  in_table = r.in_table;
  in_hands = λ a. gone (r.in_hands a);
}

split-each : (P : ℕ → Knowledge → Type 0) (views : List Knowledge) (id : ℕ) (left right : Knowledge) → P id left → ((j : ℕ) → P j right) → ((j : ℕ) (u : Knowledge) → get_elem? views j ≡ some u → P j u)
    → (j : ℕ) (u : Knowledge) → get_elem? (set views id left ++ right ∷ []) j ≡ some u → P j u
split-each P views id left right mine theirs others j u at = ⊎_elim (each-set P views id left mine (λ i x _. others i x) j u) (λ (t : right ≡ u). subst (P j) t (theirs j)) (at_snoc (set views id left) right u j at)

split-hands : (views : List Knowledge) (holder id : ℕ) (v left right : Knowledge) → get_elem? views id ≡ some v → ¬ IsHolding v.stage → (u : Knowledge) × (get_elem? views holder ≡ some u) × IsHolding u.stage
    → (u : Knowledge) × (get_elem? (set views id left ++ right ∷ []) holder ≡ some u) × IsHolding u.stage
split-hands views holder id v left right at free held = let t = hands-set views holder id v left at free held in (t.0, at_longer (set views id left) (right ∷ []) holder t.0 t.1, t.2)

join-hands : (views : List Knowledge) (holder id other : ℕ) (v w both spent : Knowledge) → get_elem? views id ≡ some v → get_elem? (set views id both) other ≡ some w → ¬ IsHolding v.stage → ¬ IsHolding w.stage
    → (u : Knowledge) × (get_elem? views holder ≡ some u) × IsHolding u.stage → (u : Knowledge) × (get_elem? (set (set views id both) other spent) holder ≡ some u) × IsHolding u.stage
join-hands views holder id other v w both spent at there free idle held = hands-set (set views id both) holder other w spent there idle (hands-set views holder id v both at free held)

pub splits : (e : Parts) (id : ℕ) (c : Claim) (cs : List Claim) → Splits (HoldsThroughout e) id (knowledge e Idle (c ∷ cs) []) (knowledge e Idle cs []) (knowledge e Idle (c ∷ []) [])
splits e id c cs s r at =
    let v = knowledge e Idle (c ∷ cs) [] in
    let left = knowledge e Idle cs [] in
    let right = knowledge e Idle (c ∷ []) [] in
    let mine = r.each id v at in
    regroup e s r (set s.views id left ++ right ∷ [])
    (λ h. split-sum (weigh h) s.views id v left right at (omega arith))
    (split-sum made s.views id v left right at (omega arith))
    (split-sum (λ (x : Knowledge). waits x.stage) s.views id v left right at refl)
    (λ t. split-sum (λ (x : Knowledge). has t x.stage) s.views id v left right at refl)
    (let x = split-sum (tops r.calls) s.views id v left right at (omega arith) in omega arith)
    (split-each (Fits r.journal r.calls r.reach e r.serving r.away r.holder) s.views id left right
    record { encounter = λ _. refl; stage = tt; claims = mine.claims.1; notes = tt; old = no-old r.journal r.calls r.reach cs }
    (λ j. record { encounter = λ _. refl; stage = tt; claims = (mine.claims.0, tt); notes = tt; old = tt })
    r.each)
    (split-hands s.views r.holder id v left right at (λ x. x))
  where
    no-old : (journal : List Entry) (calls : ℕ) (reach : ℕ → ℕ) (cs : List Claim) → OldFits journal calls reach cs []
    no-old journal calls reach [] = tt
    no-old journal calls reach (c ∷ cs) = tt

claims-append : (journal : List Entry) (calls : ℕ) (reach : ℕ → ℕ) (cs ds : List Claim) → ClaimsFit journal calls reach cs → ClaimsFit journal calls reach ds → ClaimsFit journal calls reach (cs ++ ds)
claims-append journal calls reach [] ds f g = g
claims-append journal calls reach (c ∷ cs) ds f g = (f.0, claims-append journal calls reach cs ds f.1 g)

pub old-none : (journal : List Entry) (calls : ℕ) (reach : ℕ → ℕ) (cs : List Claim) → OldFits journal calls reach cs []
old-none journal calls reach [] = tt
old-none journal calls reach (c ∷ cs) = tt

-- what the rule says of the other of two seats that are joined
the-other : (e : Parts) (s : TurnState) (r : HoldsThroughout e s) (id other : ℕ) (both w : Knowledge) → ¬ (other ≡ id) → get_elem? (set s.views id both) other ≡ some w → Fits r.journal r.calls r.reach e r.serving r.away r.holder other w
the-other e s r id other both w apart there = r.each other w (sym (set_else s.views id other both apart) ∙ there)

pub joins : (e : Parts) (id other : ℕ) (cs ds : List Claim) → Joins (HoldsThroughout e) id (knowledge e Idle cs []) other (knowledge e Idle ds []) (knowledge e Idle (cs ++ ds) []) spent
joins e id other cs ds s r at apart there =
    let v = knowledge e Idle cs [] in
    let w = knowledge e Idle ds [] in
    let both = knowledge e Idle (cs ++ ds) [] in
    let mine = r.each id v at in
    let theirs = the-other e s r id other both w apart there in
    let P = Fits r.journal r.calls r.reach e r.serving r.away r.holder in
    regroup e s r (set (set s.views id both) other spent)
    (λ h. let x = join-sum (weigh h) s.views id other v w both spent at there in let y = total-append (λ (c : Claim). h c.own) cs ds in omega arith)
    (let x = join-sum made s.views id other v w both spent at there in let y = total-append (λ (c : Claim). c.made) cs ds in omega arith)
    (let x = join-sum (λ (x : Knowledge). waits x.stage) s.views id other v w both spent at there in omega arith)
    (λ t. let x = join-sum (λ (x : Knowledge). has t x.stage) s.views id other v w both spent at there in omega arith)
    (let x = join-sum (tops r.calls) s.views id other v w both spent at there in let y = total-append (λ (c : Claim). one r.calls c.seen.count) cs ds in omega arith)
    (each-set P (set s.views id both) other spent record { encounter = λ some. absurd (omega arith); stage = tt; claims = tt; notes = tt; old = tt }
    (λ j u _. each-set P s.views id both record { encounter = λ _. refl; stage = tt; claims = claims-append r.journal r.calls r.reach cs ds mine.claims theirs.claims; notes = tt; old = old-none r.journal r.calls r.reach (cs ++ ds) } (λ i x _. r.each i x) j u))
    (join-hands s.views r.holder id other v w both spent at there (λ x. x) (λ x. x))

pub notes-down : (e : Parts) (id : ℕ) (c : Claim) → Splits (HoldsThroughout e) id (knowledge e Idle (c ∷ []) []) (knowledge e Idle (c ∷ []) []) (knowledge e Idle [] (c.seen ∷ []))
notes-down e id c s r at =
    let v = knowledge e Idle (c ∷ []) [] in
    let right = knowledge e Idle [] (c.seen ∷ []) in
    let mine = r.each id v at in
    regroup e s r (set s.views id v ++ right ∷ [])
    (λ h. split-sum (weigh h) s.views id v v right at (omega arith))
    (split-sum made s.views id v v right at (omega arith))
    (split-sum (λ (x : Knowledge). waits x.stage) s.views id v v right at refl)
    (λ t. split-sum (λ (x : Knowledge). has t x.stage) s.views id v v right at refl)
    (let x = split-sum (tops r.calls) s.views id v v right at (omega arith) in omega arith)
    (split-each (Fits r.journal r.calls r.reach e r.serving r.away r.holder) s.views id v right mine
    (λ j. record { encounter = λ _. refl; stage = tt; claims = tt; notes = (mine.claims.0.0, tt); old = tt })
    r.each)
    (split-hands s.views r.holder id v v right at (λ x. x))

-- which of two is the newer, and that its count is the greater
data Newer (a b : Seen) : Seen → Type 0 where
  second : a.count < b.count → Newer a b b
  first_one : b.count ≤ a.count → Newer a b a

newer-is : (a b : Seen) → Newer a b (newer a b)
newer-is a b = cases (ltb a.count b.count) refl
  where
    cases : (x : Bool) → ltb a.count b.count ≡ x → Newer a b (if x then b else a)
    cases true e = second (ltb-true a.count b.count e)
    cases false e = first_one (omega (arith, ltb-false a.count b.count e))

sight-newer : (journal : List Entry) (calls : ℕ) (reach : ℕ → ℕ) (a b z : Seen) → Newer a b z → SeenFits journal calls reach a → SeenFits journal calls reach b → SeenFits journal calls reach z
sight-newer journal calls reach a b _ (second l) f g = g
sight-newer journal calls reach a b _ (first_one l) f g = f

-- of two sights the newer goes on where the other ends
newer-longer : (journal : List Entry) (calls : ℕ) (reach : ℕ → ℕ) (a b z : Seen) → ((m n : ℕ) → m ≤ n → reach m ≤ reach n) → Newer a b z → SeenFits journal calls reach a → SeenFits journal calls reach b → Begins a.front z.front × Begins b.front z.front
newer-longer journal calls reach a b _ rises (second l) f g = let up = rises a.count b.count (omega arith) in let x = f.2 in let y = g.2 in (begins-nested a.front b.front journal f.0 g.0 (omega arith), whole)
newer-longer journal calls reach a b _ rises (first_one l) f g = let up = rises b.count a.count l in let x = f.2 in let y = g.2 in (whole, begins-nested b.front a.front journal g.0 f.0 (omega arith))

top-newer : (n : ℕ) (a b z : Seen) → Newer a b z → a.count ≤ n → b.count ≤ n → one n a.count ≤ one n z.count
top-newer n a b _ (second l) f g = omega arith
top-newer n a b _ (first_one l) f g = omega arith

pub tells : (e : Parts) (id other : ℕ) (c : Claim) (b : Seen) → Joins (HoldsThroughout e) id (knowledge e Idle (c ∷ []) []) other (knowledge e Idle [] (b ∷ [])) (knowledge e Idle (learned c b ∷ []) (c.seen ∷ b ∷ [])) spent
tells e id other c b s r at apart there =
    let v = knowledge e Idle (c ∷ []) [] in
    let w = knowledge e Idle [] (b ∷ []) in
    let both = knowledge e Idle (learned c b ∷ []) (c.seen ∷ b ∷ []) in
    let mine = r.each id v at in
    let fits = mine.claims.0 in
    let theirs = the-other e s r id other both w apart there in
    let note = theirs.notes.0 in
    let pick = newer-is c.seen b in
    let z = newer c.seen b in
    let longer = newer-longer r.journal r.calls r.reach c.seen b z r.rises pick fits.0 note in
    let zfits = sight-newer r.journal r.calls r.reach c.seen b z pick fits.0 note in
    let P = Fits r.journal r.calls r.reach e r.serving r.away r.holder in
    regroup e s r (set (set s.views id both) other spent)
    (λ h. let x = join-sum (weigh h) s.views id other v w both spent at there in omega arith)
    (let x = join-sum made s.views id other v w both spent at there in omega arith)
    (let x = join-sum (λ (x : Knowledge). waits x.stage) s.views id other v w both spent at there in omega arith)
    (λ t. let x = join-sum (λ (x : Knowledge). has t x.stage) s.views id other v w both spent at there in omega arith)
    (let x = join-sum (tops r.calls) s.views id other v w both spent at there in let y = top-newer r.calls c.seen b z pick fits.0.1 note.1 in omega arith)
    (each-set P (set s.views id both) other spent record { encounter = λ some. absurd (omega arith); stage = tt; claims = tt; notes = tt; old = tt }
    (λ j u _. each-set P s.views id both
    record { encounter = λ _. refl; stage = tt; claims = ((zfits, sym (stays-between c.seen.front z.front r.journal c.own longer.0 zfits.0 fits.1) ∙ fits.1), tt); notes = (fits.0, (note, tt)); old = fits.1 }
    (λ i x _. r.each i x) j u))
    (join-hands s.views r.holder id other v w both spent at there (λ x. x) (λ x. x))

pub confirms : (e : Parts) (slots id : ℕ) (c : Claim) (b : Seen) (st : TurnStep)
    → Allows (HoldsThroughout e) slots id (knowledge e Idle (learned c b ∷ []) (c.seen ∷ b ∷ []), []) SERVING (λ n. n) (confirmed st (knowledge e Idle (learned c b ∷ []) (c.seen ∷ b ∷ []), []))
confirms e slots id c b st s r deep at small =
    let v = knowledge e Idle (learned c b ∷ []) (c.seen ∷ b ∷ []) in
    let w = knowledge e Idle (learned c b ∷ []) [] in
    let mine = r.each id v at in
    let P = Fits r.journal r.calls r.reach e r.serving r.away r.holder in
    let pick = newer-is c.seen b in
    let a_fits = mine.notes.0 in
    let b_fits = mine.notes.1.0 in
    let longer = newer-longer r.journal r.calls r.reach c.seen b (newer c.seen b) r.rises pick a_fits b_fits in (
      w,
      keeps,
      tt,
      subst (λ ws. HoldsThroughout e record { words = ws; homes = s.homes; views = set s.views id w }) (sym (set-get_or s.words SERVING 0))
          (regroup e s r (set s.views id w)
          (λ h. let x = total-set (weigh h) s.views id v w at in omega arith)
          (let x = total-set made s.views id v w at in omega arith)
          (let x = total-set (λ (x : Knowledge). waits x.stage) s.views id v w at in omega arith)
          (λ t. let x = total-set (λ (x : Knowledge). has t x.stage) s.views id v w at in omega arith)
          (let x = total-set (tops r.calls) s.views id v w at in omega arith)
          (each-set P s.views id w record { encounter = λ _. refl; stage = tt; claims = mine.claims; notes = tt; old = tt } (λ j u _. r.each j u))
          (hands-set s.views r.holder id v w at (λ x. x))),
      (refl, record { legal = legal-begins (air_of e) (sight-newer r.journal r.calls r.reach c.seen b (newer c.seen b) pick a_fits b_fits).0 r.state.legal; first = longer.0; second = longer.1; own = mine.claims.0.1 ∙ sym mine.old }),
    )
