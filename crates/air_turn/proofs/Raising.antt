-- A call is counted, and the journal is perhaps one entry longer: the rule still holds.
use Rattle.std.proofs.Common.{◌≡◌, ◌≢◌, ℕ, ◌+◌, ◌%◌, ◌<◌, ◌≤◌, true, List, [], ◌∷◌, set, length, get_or, Option, refl, sym, ap, ◌∙◌, subst, arith, length-set, get_or-set_other, get_or-set_same, lt_of_not-le}
use mathlib.Core.Logic.{dite}
use mathlib.Core.Option.{some}
use native.Mathlib.Decide.{dec_le}
use lib.ListN.{get_elem?}
use Rattle.acas_base.specs.Encounter.{Parts}
use Rattle.acas_base.specs.declared.entry.Entry.{Entry}
use Rattle.air_journal.specs.States.{IsJournalOf, State}
use Rattle.air_rules.specs.Journal.{Begins, entries_of, more, whole}
use Rattle.air_rules.proofs.Beginnings.{begins-on}
use Rattle.air_rules.proofs.OwnEntries.{keeps-others}
use Rattle.atomic_table.specs.Table.{Allows, keeps}
use Rattle.atomic_table.proofs.Lists.{set_here}
use Rattle.air_turn.specs.declared.view.TheConstants.{LENGTH}
use Rattle.air_turn.specs.declared.view.Claim.{Claim}
use Rattle.air_turn.specs.declared.view.Knowledge.{Knowledge}
use Rattle.air_turn.specs.declared.view.Seen.{Seen}
use Rattle.air_turn.specs.declared.view.Stage.{Stage}
use Rattle.air_turn.specs.declared.view.Stage.TheVariants.{Idle, Waits, Holds}
use Rattle.air_turn.specs.Rule.{ClaimsFit, Fits, Grows, HoldsThroughout, NotesFit, OldFits, SeenFits, StageFits, adds, has, knowledge, made, stays, tops, waits, weigh}
use Rattle.air_turn.specs.Told.{TurnStep, called, holding, raised}
use Rattle.air_turn.specs.Totals.{total, one}
use Rattle.air_turn.proofs.Actives.{once-active}
use Rattle.air_turn.proofs.Sums.{member-le, pair-le, total-set}
use Rattle.air_turn.proofs.Serving.{served-kept}
use Rattle.air_turn.proofs.Turns.{TurnState, each-set, inside-list, off}

-- the length that the journal had after n calls, where a call more has made it `len`
abbrev later_by : (ℕ → ℕ) → ℕ → ℕ → (m : ℕ) → (n : ℕ) → Dec (m ≤ n) → ℕ
later_by reach n' len m n (yes _) = reach m
later_by reach n' len m n (no _) = len

abbrev later : (ℕ → ℕ) → ℕ → ℕ → ℕ → ℕ
later reach n len m = later_by reach n len m n (dec_le m n)

later-low : (reach : ℕ → ℕ) (n len m : ℕ) → m ≤ n → later reach n len m ≡ reach m
later-low reach n len m low = cases (dec_le m n)
  where
    cases : (d : Dec (m ≤ n)) → later_by reach n len m n d ≡ reach m
    cases (yes _) = refl
    cases (no not) = absurd (not low)

later-high : (reach : ℕ → ℕ) (n len m : ℕ) → n < m → later reach n len m ≡ len
later-high reach n len m high = cases (dec_le m n)
  where
    cases : (d : Dec (m ≤ n)) → later_by reach n len m n d ≡ len
    cases (yes low) = absurd (omega arith)
    cases (no not) = refl

later-rises : (reach : ℕ → ℕ) (n len : ℕ) → ((a b : ℕ) → a ≤ b → reach a ≤ reach b) → reach n ≤ len → (a b : ℕ) → a ≤ b → later reach n len a ≤ later reach n len b
later-rises reach n len rises top a b le = dite (dec_le b n)
    (λ low. let x = later-low reach n len a (omega arith) in let y = later-low reach n len b low in let z = rises a b le in omega arith)
    (λ high. let y = later-high reach n len b (lt_of_not-le high) in dite (dec_le a n)
    (λ low. let x = later-low reach n len a low in let z = rises a n low in omega arith)
    (λ far. let x = later-high reach n len a (lt_of_not-le far) in omega arith))

-- The entries of another aircraft stay.
others-stay : (own other : ℕ) (journal now : List Entry) (grew : ℕ) → Grows own journal now grew → other ≢ own → entries_of now other ≡ entries_of journal other
others-stay own other journal _ _ stays ne = refl
others-stay own other journal _ _ (adds x is) ne = keeps-others x journal other (λ e. ne (sym e ∙ is))

begins : (own : ℕ) (journal now : List Entry) (grew : ℕ) → Grows own journal now grew → Begins journal now
begins own journal _ _ stays = whole
begins own journal _ _ (adds x is) = more whole

longer : (own : ℕ) (journal now : List Entry) (grew : ℕ) → Grows own journal now grew → length now ≡ length journal + grew
longer own journal _ _ stays = omega arith
longer own journal _ _ (adds x is) = omega arith

-- what was seen before still fits after one call more
sight-later : (own : ℕ) (journal now : List Entry) (grew n : ℕ) (reach : ℕ → ℕ) → Grows own journal now grew → (s : Seen) → SeenFits journal n reach s → SeenFits now (n + 1) (later reach n (length now)) s
sight-later own journal now grew n reach g s f = (begins-on (begins own journal now grew g) f.0, (let h = f.1 in omega arith), f.2 ∙ sym (later-low reach n (length now) s.count f.1))

notes-later : (own : ℕ) (journal now : List Entry) (grew n : ℕ) (reach : ℕ → ℕ) → Grows own journal now grew → (ss : List Seen) → NotesFit journal n reach ss → NotesFit now (n + 1) (later reach n (length now)) ss
notes-later own journal now grew n reach g [] f = tt
notes-later own journal now grew n reach g (s ∷ ss) f = (sight-later own journal now grew n reach g s f.0, notes-later own journal now grew n reach g ss f.1)

claims-later : (own : ℕ) (journal now : List Entry) (grew n : ℕ) (reach : ℕ → ℕ) → Grows own journal now grew → (cs : List Claim) → total (λ (c : Claim). one own c.own) cs ≡ 0 → ClaimsFit journal n reach cs
    → ClaimsFit now (n + 1) (later reach n (length now)) cs
claims-later own journal now grew n reach g [] none_here f = tt
claims-later own journal now grew n reach g (c ∷ cs) none_here f = (
  (sight-later own journal now grew n reach g c.seen f.0.0, f.0.1 ∙ sym (others-stay own c.own journal now grew g (λ e. absurd (omega arith)))),
  claims-later own journal now grew n reach g cs (omega arith) f.1,
)

old-later : (own : ℕ) (journal now : List Entry) (grew n : ℕ) (reach : ℕ → ℕ) → Grows own journal now grew → (cs : List Claim) (ss : List Seen) → total (λ (c : Claim). one own c.own) cs ≡ 0 → OldFits journal n reach cs ss
    → OldFits now (n + 1) (later reach n (length now)) cs ss
old-later own journal now grew n reach g [] ss none_here f = tt
old-later own journal now grew n reach g (c ∷ cs) [] none_here f = tt
old-later own journal now grew n reach g (c ∷ cs) (s ∷ ss) none_here f = f ∙ sym (others-stay own c.own journal now grew g (λ e. absurd (omega arith)))

-- no other seat has a claim of the aircraft
not-theirs : (e : Parts) (s : TurnState) (r : HoldsThroughout e s) (id j : ℕ) (v u : Knowledge) (own : ℕ) → get_elem? s.views id ≡ some v → get_elem? s.views j ≡ some u → j ≢ id → 1 ≤ weigh (one own) v → weigh (one own) u ≡ 0
not-theirs e s r id j v u own at there other mine =
    let a = pair-le (weigh (one own)) s.views j id u v other there at in
    let b = r.owned (one own) in
    let c = once-active e own in
    omega arith

stage-later : (journal now : List Entry) (calls calls' : ℕ) (reach reach' : ℕ → ℕ) (serving : ℕ) (holder seat claims : ℕ) (g : Stage) → seat ≢ holder → StageFits journal calls reach serving true holder seat claims g → StageFits now calls' reach' serving true holder seat claims g
stage-later journal now calls calls' reach reach' serving holder seat claims Idle ne f = f
stage-later journal now calls calls' reach reach' serving holder seat claims (Waits k) ne f = f
stage-later journal now calls calls' reach reach' serving holder seat claims (Holds k g n) ne f = absurd (ne f.2)

more-mod : (w n k : ℕ) → w ≡ n % 18446744073709551616 → (w + k) % 18446744073709551616 ≡ (n + k) % 18446744073709551616
more-mod w n k e = omega arith

pub raises : (e : Parts) (slots id : ℕ) (c : Claim) (k n : ℕ) (journal now : List Entry) (grew : ℕ) (hand : Option State) (st : TurnStep) → IsJournalOf e now → Grows c.own journal now grew
    → Allows (HoldsThroughout e) slots id (holding e c k journal n hand) LENGTH (λ x. (x + grew) % 18446744073709551616) (raised now st (holding e c k journal n hand))
raises e slots id c k n journal now grew hand st state grows s r deep at small =
    let v = knowledge e (Holds k journal n) (c ∷ []) [] in
    let w = knowledge e (Holds k now (n + 1)) (called c now (n + 1) ∷ []) [] in
    let mine = r.each id v at in
    let away : r.away ≡ true = mine.stage.1 in
    let where_is : id ≡ r.holder = mine.stage.2 in
    let served : k ≡ r.serving = mine.stage.3 in
    let same : journal ≡ r.journal = mine.stage.4 in
    let calls : n ≡ r.calls = mine.stage.5 in
    let g : Grows c.own r.journal now grew = subst (λ l. Grows c.own l now grew) same grows in
    let len = longer c.own r.journal now grew g in
    let reach : ℕ → ℕ = later r.reach r.calls (length now) in
    let x : ℕ = (get_or s.words LENGTH 0 + grew) % 18446744073709551616 in
    let some_words = r.wide in (
      w,
      keeps,
      tt,
      record {
        journal = now;
        calls = r.calls + 1;
        serving = r.serving;
        drawn = r.drawn;
        away = true;
        holder = id;
        reach = reach;
        wide = length-set s.words LENGTH x ∙ r.wide;
        deep = r.deep;
        ticket_word = get_or-set_other s.words LENGTH 0 x 0 (λ z. omega arith) ∙ r.ticket_word;
        length_word = get_or-set_same s.words LENGTH x 0 (omega arith) ∙ (more-mod _ _ grew r.length_word ∙ ap (λ z. z % 18446744073709551616) (sym len));
        served = served-kept s.words LENGTH x r.serving (omega arith) r.served;
        state = state;
        owned = λ h. let t = total-set (weigh h) s.views id v w at in let o = r.owned h in omega arith;
        made_all = let t = total-set made s.views id v w at in let o = r.made_all in omega arith;
        queue = let t = total-set (λ (y : Knowledge). waits y.stage) s.views id v w at in let o = r.queue in omega arith;
        out = λ t. let a = total-set (λ (y : Knowledge). has t y.stage) s.views id v w at in let o = r.out t in omega arith;
        latest = let t = member-le (tops (r.calls + 1)) (set s.views id w) id w (set_here s.views id w (inside-list s.views id v at)) in omega arith;
        rises = later-rises r.reach r.calls (length now) r.rises (let h = r.reached in omega arith);
        reached = later-high r.reach r.calls (length now) (r.calls + 1) (omega arith);
        each = each-set (Fits now (r.calls + 1) reach e r.serving true id) s.views id w record {
          encounter = λ _. refl;
          stage = (refl, refl, refl, served, refl, ap (λ z. z + 1) calls);
          claims = (((whole, (omega arith), sym (later-high r.reach r.calls (length now) (n + 1) (omega arith))), refl), tt);
          notes = tt;
          old = tt;
        }
            (λ j u other there. let f = r.each j u there in record {
              encounter = f.encounter;
              stage = subst (λ z. StageFits now (r.calls + 1) reach r.serving true z j (length u.claims) u.stage) (sym where_is) (stage-later r.journal now r.calls (r.calls + 1) r.reach reach r.serving r.holder j (length u.claims) u.stage (λ z. other (z ∙ sym where_is))
                  (subst (λ b. StageFits r.journal r.calls r.reach r.serving b r.holder j (length u.claims) u.stage) away f.stage));
              claims = claims-later c.own r.journal now grew r.calls r.reach g u.claims (not-theirs e s r id j v u c.own at there other (omega arith)) f.claims;
              notes = notes-later c.own r.journal now grew r.calls r.reach g u.notes f.notes;
              old = old-later c.own r.journal now grew r.calls r.reach g u.claims u.notes (not-theirs e s r id j v u c.own at there other (omega arith)) f.old;
            });
        in_table = λ not. absurd (off (sym not));
        in_hands = λ _. (w, set_here s.views id w (inside-list s.views id v at), tt);
      },
      λ k' n' journal' stage'.
          let kk : k ≡ k' = cc (stage') in
          let nn : n ≡ n' = cc (stage') in
          λ i. (knowledge e (Holds (kk i) now (nn i + 1)) (called c now (nn i + 1) ∷ []) [], (0, hand) ∷ []),
    )
