-- A ticket is drawn, looked for, and given on, and the rule still holds.
use Rattle.std.proofs.Common.{◌≡◌, ◌≢◌, ℕ, zero, suc, ◌+◌, ◌%◌, ◌<◌, ◌≤◌, Bool, true, false, true≢false, List, [], ◌∷◌, set, length, get_or, Option, Some, ⊎_elim, refl, sym, ap, ◌∙◌, subst, arith, length-set, get_or-set_other, get_or-set_same}
use mathlib.Core.Logic.{dite}
use mathlib.Core.Option.{some, none, some-injective, some-ne-none}
use native.Mathlib.Decide.{ℕ_discrete}
use lib.ListN.{get_elem?}
use lib.Seq.{set-get_or}
use Rattle.acas_base.specs.Encounter.{Parts}
use Rattle.acas_base.specs.declared.entry.Entry.{Entry}
use Rattle.air_journal.specs.States.{State}
use Rattle.atomic_table.specs.Table.{State as TableState, Act, keeps, takes, gives, stepped, Allows, Valid, carried_after}
use Rattle.atomic_table.proofs.Lists.{at_set, set_here, set_else, set_again}
use Rattle.air_turn.specs.declared.view.TheConstants.{LENGTH, TICKETS}
use Rattle.air_turn.specs.declared.view.Claim.{Claim}
use Rattle.air_turn.specs.declared.view.Knowledge.{Knowledge}
use Rattle.air_turn.specs.declared.view.Stage.{Stage}
use Rattle.air_turn.specs.declared.view.Stage.TheVariants.{Idle, Waits, Holds}
use Rattle.air_turn.specs.Rule.{Fits, HoldsThroughout, IsHolding, IsServed, StageFits, has, knowledge, made, serving_word, state_of, tops, waits, weigh}
use Rattle.air_turn.specs.Told.{KnownAndHeld, TurnStep, drew, gave, holding, looked, resting, waiting}
use Rattle.air_turn.specs.Totals.{total, one}
use Rattle.air_turn.specs.Turns.{ticket_of}
use Rattle.air_turn.proofs.Actives.{few-active}
use Rattle.air_turn.proofs.Serving.{served-kept, served-next, served-only}
use Rattle.air_turn.proofs.Sums.{member-le, pair-le, total-le, total-set}

abbrev pub TurnState : Type 0
TurnState = TableState (Option State) Knowledge

pub off : false ≡ true → ⊥
off e = true≢false (sym e)

-- what holds of each knowledge holds after one has changed
pub each-set : (P : ℕ → Knowledge → Type 0) (views : List Knowledge) (me : ℕ) (w : Knowledge) → P me w → ((j : ℕ) (u : Knowledge) → j ≢ me → get_elem? views j ≡ some u → P j u) → (j : ℕ) (u : Knowledge) → get_elem? (set views me w) j ≡ some u → P j u
each-set P views me w mine others j u e =
    ⊎_elim
    (λ (t : (j ≡ me) × (w ≡ u)). subst (λ (x : ℕ × Knowledge). P x.0 x.1) (λ i. (sym t.0 i, t.1 i)) mine)
    (λ (t : (j ≢ me) × (get_elem? views j ≡ some u)). others j u t.0 t.1)
    (at_set views me j w u e)

pub inside-list : {A : Type 0} (l : List A) (i : ℕ) (a : A) → get_elem? l i ≡ some a → i < length l
inside-list [] i a e = absurd (some-ne-none a (sym e))
inside-list (x ∷ xs) zero a e = omega arith
inside-list (x ∷ xs) (suc i) a e = let rest = inside-list xs i a e in omega arith

-- who holds the state still does, where a knowledge that does not hold it has changed
pub hands-set : (views : List Knowledge) (holder me : ℕ) (v w : Knowledge) → get_elem? views me ≡ some v → ¬ IsHolding v.stage → (u : Knowledge) × (get_elem? views holder ≡ some u) × IsHolding u.stage
    → (u : Knowledge) × (get_elem? (set views me w) holder ≡ some u) × IsHolding u.stage
hands-set views holder me v w at free (u, there, holds) = dite (ℕ_discrete holder me)
    (λ e. absurd (free (subst (λ (x : Knowledge). IsHolding x.stage) (some-injective u v (sym there ∙ (ap (get_elem? views) e ∙ at))) holds)))
    (λ ne. (u, set_else views me holder w ne ∙ there, holds))

pub next-mod : (w n : ℕ) → w ≡ n % 18446744073709551616 → (w + 1) % 18446744073709551616 ≡ (n + 1) % 18446744073709551616
next-mod w n e = omega arith

pub draws : (e : Parts) (slots id : ℕ) (c : Claim) (st : TurnStep) → Allows (HoldsThroughout e) slots id (resting e c) TICKETS (λ n. (n + 1) % 18446744073709551616) (drew st (resting e c))
draws e slots id c st s r deep at small =
    let v = knowledge e Idle (c ∷ []) [] in
    let w = knowledge e (Waits r.drawn) (c ∷ []) [] in
    let n : ℕ = (get_or s.words 0 0 + 1) % 18446744073709551616 in
    let mine = r.each id v at in
    let some_words = r.wide in (
      w,
      keeps,
      tt,
      record {
        journal = r.journal;
        calls = r.calls;
        serving = r.serving;
        drawn = r.drawn + 1;
        away = r.away;
        holder = r.holder;
        reach = r.reach;
        wide = length-set s.words 0 n ∙ r.wide;
        deep = r.deep;
        ticket_word = get_or-set_same s.words 0 n 0 (omega arith) ∙ next-mod _ _ r.ticket_word;
        length_word = get_or-set_other s.words 0 LENGTH n 0 (λ z. omega arith) ∙ r.length_word;
        served = served-kept s.words 0 n r.serving (omega arith) r.served;
        state = r.state;
        owned = λ h. let t = total-set (weigh h) s.views id v w at in let o = r.owned h in omega arith;
        made_all = let t = total-set made s.views id v w at in let o = r.made_all in omega arith;
        queue = let t = total-set (λ (x : Knowledge). waits x.stage) s.views id v w at in let o = r.queue in omega arith;
        out = λ t. let a = total-set (λ (x : Knowledge). has t x.stage) s.views id v w at in let o = r.out t in let q = r.queue in omega arith;
        latest = let t = total-set (tops r.calls) s.views id v w at in let o = r.latest in omega arith;
        rises = r.rises;
        reached = r.reached;
        each = each-set (Fits r.journal r.calls r.reach e r.serving r.away r.holder) s.views id w record { encounter = λ _. refl; stage = refl; claims = mine.claims; notes = tt; old = tt } (λ j u _. r.each j u);
        in_table = r.in_table;
        in_hands = λ a. hands-set s.views r.holder id v w at (λ x. x) (r.in_hands a);
      },
      (r.drawn, sym r.ticket_word, refl),
    )

-- a knowledge has no more tickets than claims
few-tickets : (e : Parts) (journal : List Entry) (calls : ℕ) (reach : ℕ → ℕ) (serving : ℕ) (away : Bool) (holder seat : ℕ) (v : Knowledge) → Fits journal calls reach e serving away holder seat v
    → waits v.stage ≤ weigh (λ _. 1) v
few-tickets e journal calls reach serving away holder seat v f = by-stage v.stage f.stage
  where
    counted : (cs : List Claim) → total (λ (c : Claim). 1) cs ≡ length cs
    counted [] = refl
    counted (c ∷ cs) = let rest = counted cs in omega arith

    by-stage : (g : Stage) → StageFits journal calls reach serving away holder seat (length v.claims) g → waits g ≤ weigh (λ _. 1) v
    by-stage Idle h = omega arith
    by-stage (Waits k) h = let n = counted v.claims in omega arith
    by-stage (Holds k g n) h = let n = counted v.claims in let one_there = h.0 in omega arith

-- fewer than 2 ^ 64 tickets are out
few-out : (e : Parts) (s : TurnState) (r : HoldsThroughout e s) → r.drawn ≤ r.serving + 16
few-out e s r =
    let a = total-le (λ (v : Knowledge). waits v.stage) (weigh (λ _. 1)) s.views (λ j v at. few-tickets e r.journal r.calls r.reach r.serving r.away r.holder j v (r.each j v at)) in
    let b = r.owned (λ _. 1) in
    let c = few-active e r.state.valid in
    let q = r.queue in
    omega arith

-- a ticket that a knowledge has is out
ticket-out : (e : Parts) (s : TurnState) (r : HoldsThroughout e s) (id k : ℕ) (v : Knowledge) → get_elem? s.views id ≡ some v → has k v.stage ≡ 1 → (r.serving ≤ k) × (k < r.drawn)
ticket-out e s r id k v at mine =
    let a = member-le (λ (x : Knowledge). has k x.stage) s.views id v at in
    let o = r.out k in
    let q = r.queue in
    (omega arith, omega arith)

has-own : (t : ℕ) → one t t ≡ 1
has-own t = omega arith

holding-has : (journal : List Entry) (calls : ℕ) (reach : ℕ → ℕ) (serving : ℕ) (away : Bool) (holder seat claims : ℕ) (g : Stage) → StageFits journal calls reach serving away holder seat claims g → IsHolding g → has serving g ≡ 1
holding-has journal calls reach serving away holder seat claims Idle f h = absurd h
holding-has journal calls reach serving away holder seat claims (Waits k) f h = absurd h
holding-has journal calls reach serving away holder seat claims (Holds k g n) f h = let same = f.3 in omega arith

-- while a seat with the ticket that is served waits, the state is in the table
in-table : (e : Parts) (s : TurnState) (r : HoldsThroughout e s) (id : ℕ) (v : Knowledge) → get_elem? s.views id ≡ some v → ¬ IsHolding v.stage → has r.serving v.stage ≡ 1 → r.away ≡ false
in-table e s r id v at free mine = by-away r.away refl
  where
    by-away : (b : Bool) → r.away ≡ b → r.away ≡ false
    by-away false is = is
    by-away true is =
        let u = r.in_hands is in
        let theirs = holding-has r.journal r.calls r.reach r.serving r.away r.holder r.holder (length u.0.claims) u.0.stage (r.each r.holder u.0 u.1).stage u.2 in
        dite (ℕ_discrete r.holder id)
        (λ eq. absurd (free (subst (λ (x : Knowledge). IsHolding x.stage) (some-injective u.0 v (sym u.1 ∙ (ap (get_elem? s.views) eq ∙ at))) u.2)))
        (λ ne. let both = pair-le (λ (x : Knowledge). has r.serving x.stage) s.views r.holder id u.0 v ne u.1 at in let o = r.out r.serving in absurd (omega arith))

-- spent holds the state while it is in the table
stage-away : (journal : List Entry) (calls : ℕ) (reach : ℕ → ℕ) (serving : ℕ) (away : Bool) (holder to seat claims : ℕ) (g : Stage) → away ≡ false → StageFits journal calls reach serving away holder seat claims g → StageFits journal calls reach serving true to seat claims g
stage-away journal calls reach serving away holder to seat claims Idle home f = f
stage-away journal calls reach serving away holder to seat claims (Waits k) home f = f
stage-away journal calls reach serving away holder to seat claims (Holds k g n) home f = absurd (off (sym home ∙ f.1))

same-stepped : (s : TurnState) (id i : ℕ) (cs : List (ℕ × Option State)) (v : Knowledge) → get_elem? s.views id ≡ some v → stepped s i (get_or s.words i 0) id cs v keeps ≡ s
same-stepped s id i cs v at k = record { words = set-get_or s.words i 0 k; homes = s.homes; views = set_again s.views id v at k }

abbrev Goes : Parts → TurnState → ℕ → KnownAndHeld → ℕ → ℕ → (ℕ → KnownAndHeld → Type 0) → Type 0
Goes e s id me i n told = (w : Knowledge) × (a : Act (Option State)) × Valid s.homes me.1 a × HoldsThroughout e (stepped s i n id me.1 w a) × told (get_or s.words i 0) (w, carried_after me.1 a)

takes-turn : (e : Parts) (id : ℕ) (c : Claim) (k : ℕ) (st : TurnStep) (s : TurnState) (r : HoldsThroughout e s) → get_elem? s.views id ≡ some (knowledge e (Waits k) (c ∷ []) []) → get_or s.words (serving_word k) 0 ≡ k % 18446744073709551616
    → Goes e s id (waiting e c k) (serving_word k) (get_or s.words (serving_word k) 0) (looked st (waiting e c k))
takes-turn e id c k st s r at served =
    let v = knowledge e (Waits k) (c ∷ []) [] in
    let w = knowledge e (Holds k r.journal r.calls) (c ∷ []) [] in
    let x = Some (state_of e r.journal) in
    let mine = r.each id v at in
    let fits = mine.claims.0 in
    let out = ticket-out e s r id k v at (has-own k) in
    let few = few-out e s r in
    let i = serving_word k in
    let is : r.serving ≡ k = served-only s.words r.serving k r.served out.0 (omega arith) served in
    let home = in-table e s r id v at (λ x. x) (subst (λ t. one t k ≡ 1) (sym is) (has-own k)) in
    let here = r.in_table home in (
      w,
      takes 0 x,
      here,
      record {
        journal = r.journal;
        calls = r.calls;
        serving = r.serving;
        drawn = r.drawn;
        away = true;
        holder = id;
        reach = r.reach;
        wide = length-set s.words i (get_or s.words i 0) ∙ r.wide;
        deep = length-set s.homes 0 none ∙ r.deep;
        ticket_word = ap (λ ws. get_or ws 0 0) (set-get_or s.words i 0) ∙ r.ticket_word;
        length_word = ap (λ ws. get_or ws LENGTH 0) (set-get_or s.words i 0) ∙ r.length_word;
        served = subst (λ ws. IsServed ws r.serving) (sym (set-get_or s.words i 0)) r.served;
        state = r.state;
        owned = λ h. let t = total-set (weigh h) s.views id v w at in let o = r.owned h in omega arith;
        made_all = let t = total-set made s.views id v w at in let o = r.made_all in omega arith;
        queue = let t = total-set (λ (x : Knowledge). waits x.stage) s.views id v w at in let o = r.queue in omega arith;
        out = λ t. let a = total-set (λ (x : Knowledge). has t x.stage) s.views id v w at in let o = r.out t in omega arith;
        latest = let t = total-set (tops r.calls) s.views id v w at in let o = r.latest in omega arith;
        rises = r.rises;
        reached = r.reached;
        each = each-set (Fits r.journal r.calls r.reach e r.serving true id) s.views id w record { encounter = λ _. refl; stage = (refl, refl, refl, sym is, refl, refl); claims = mine.claims; notes = tt; old = tt }
            (λ j u other there. let f = r.each j u there in record { encounter = f.encounter; stage = stage-away r.journal r.calls r.reach r.serving r.away r.holder id j (length u.claims) u.stage home f.stage; claims = f.claims; notes = f.notes; old = f.old });
        in_table = λ not. absurd (off (sym not));
        in_hands = λ _. (w, set_here s.views id w (inside-list s.views id v at), tt);
      },
      λ k' same. (
        (λ _. (r.journal, r.calls, (λ i. (knowledge e (Holds (ap ticket_of same i) r.journal r.calls) (c ∷ []) [], (0, x) ∷ [])), record { state = r.state; front = fits.0.0; own = fits.1; count = fits.0.1 })),
        λ not. absurd (not (served ∙ ap (λ g. ticket_of g % 18446744073709551616) same)),
      ),
    )

pub looks : (e : Parts) (slots id : ℕ) (c : Claim) (k : ℕ) (st : TurnStep) → Allows (HoldsThroughout e) slots id (waiting e c k) (serving_word k) (λ n. n) (looked st (waiting e c k))
looks e slots id c k st s r deep at small = dite (ℕ_discrete (get_or s.words (serving_word k) 0) (k % 18446744073709551616)) (takes-turn e id c k st s r at) (λ not. (
  knowledge e (Waits k) (c ∷ []) [],
  keeps,
  tt,
  subst (HoldsThroughout e) (sym (same-stepped s id (serving_word k) [] (knowledge e (Waits k) (c ∷ []) []) at)) r,
  λ k' is. ((λ hit. absurd (not (hit ∙ ap (λ g. ticket_of g % 18446744073709551616) (sym is)))), λ _. refl),
))

pub gives-on : (e : Parts) (slots id : ℕ) (c : Claim) (k n : ℕ) (journal : List Entry) (st : TurnStep)
    → Allows (HoldsThroughout e) slots id (holding e c k journal n (Some (state_of e journal))) (serving_word (k + 1)) (λ x. (k + 1) % 18446744073709551616) (gave st (holding e c k journal n (Some (state_of e journal))))
gives-on e slots id c k n journal st s r deep at small =
    let v = knowledge e (Holds k journal n) (c ∷ []) [] in
    let w = knowledge e Idle (c ∷ []) [] in
    let y = Some (state_of e journal) in
    let mine = r.each id v at in
    let away : r.away ≡ true = mine.stage.1 in
    let where_is : id ≡ r.holder = mine.stage.2 in
    let served : k ≡ r.serving = mine.stage.3 in
    let same : journal ≡ r.journal = mine.stage.4 in
    let calls : n ≡ r.calls = mine.stage.5 in
    let out = ticket-out e s r id k v at (has-own k) in
    let i = serving_word (k + 1) in
    let x : ℕ = (k + 1) % 18446744073709551616 in
    let some_words = r.wide in
    let some_homes = r.deep in (
      w,
      gives,
      tt,
      record {
        journal = r.journal;
        calls = r.calls;
        serving = r.serving + 1;
        drawn = r.drawn;
        away = false;
        holder = id;
        reach = r.reach;
        wide = length-set s.words i x ∙ r.wide;
        deep = length-set s.homes 0 (some y) ∙ r.deep;
        ticket_word = get_or-set_other s.words i 0 x 0 (λ z. omega arith) ∙ r.ticket_word;
        length_word = get_or-set_other s.words i LENGTH x 0 (λ z. omega arith) ∙ r.length_word;
        served = subst (λ t. IsServed (set s.words (serving_word (t + 1)) ((t + 1) % 18446744073709551616)) (r.serving + 1)) (sym served) (served-next s.words r.serving r.wide r.served);
        state = r.state;
        owned = λ h. let t = total-set (weigh h) s.views id v w at in let o = r.owned h in omega arith;
        made_all = let t = total-set made s.views id v w at in let o = r.made_all in omega arith;
        queue = let t = total-set (λ (z : Knowledge). waits z.stage) s.views id v w at in let o = r.queue in omega arith;
        out = λ t. let a = total-set (λ (z : Knowledge). has t z.stage) s.views id v w at in let o = r.out t in let q = r.queue in omega arith;
        latest = let t = total-set (tops r.calls) s.views id v w at in let o = r.latest in omega arith;
        rises = r.rises;
        reached = r.reached;
        each = each-set (Fits r.journal r.calls r.reach e (r.serving + 1) false id) s.views id w record { encounter = λ _. refl; stage = tt; claims = mine.claims; notes = tt; old = tt }
            (λ j u other there. let f = r.each j u there in record {
              encounter = f.encounter;
              stage = stage-back r.journal r.calls r.reach r.serving r.away r.holder id j (length u.claims) u.stage (λ z. other (z ∙ sym where_is)) f.stage;
              claims = f.claims;
              notes = f.notes;
              old = f.old;
            });
        in_table = λ _. set_here s.homes 0 (some y) (omega arith) ∙ ap (λ l. some (some (Some (state_of e l)))) same;
        in_hands = λ not. absurd (off not);
      },
      refl,
    )
  where
    stage-back : (journal : List Entry) (calls : ℕ) (reach : ℕ → ℕ) (serving : ℕ) (away : Bool) (holder to seat claims : ℕ) (g : Stage) → seat ≢ holder → StageFits journal calls reach serving away holder seat claims g → StageFits journal calls reach (serving + 1) false to seat claims g
    stage-back journal calls reach serving away holder to seat claims Idle ne f = f
    stage-back journal calls reach serving away holder to seat claims (Waits k) ne f = f
    stage-back journal calls reach serving away holder to seat claims (Holds k g n) ne f = absurd (ne f.2)
