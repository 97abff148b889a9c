-- What a seat knows at the beginning and at the end of its turn.
use Rattle.std.proofs.Common.{◌≡◌, ◌⊎◌, ℕ, ◌+◌, ◌%◌, ◌<◌, Bool, true, false, ltb, max, if◌then◌else◌, List, [], ◌∷◌, Option, Some, None, inl, inr, refl, sym, ap, ◌∙◌, subst, arith}
use Rattle.std.proofs.lemmas.Bool.{ltb-true, ltb-false}
use Rattle.acas_base.specs.Encounter.{Parts}
use Rattle.acas_base.specs.declared.entry.Entry.{Entry}
use Rattle.acas_base.specs.declared.entry.Entry.TheVariants as entries
use Rattle.acas_base.specs.declared.view.Picture.{Picture}
use Rattle.air_journal.specs.Airs.{air_of}
use Rattle.air_journal.specs.Calls.{Commits, Sends, Takes}
use Rattle.air_journal.specs.States.{IsJournalOf, State}
use Rattle.air_journal.specs.declared.answers.Commit.{Commit}
use Rattle.air_journal.specs.declared.answers.Commit.TheVariants as commit
use Rattle.air_journal.specs.declared.answers.Sent.{Sent}
use Rattle.air_journal.specs.declared.answers.Sent.TheVariants as sent
use Rattle.air_journal.specs.declared.answers.Took.{Took}
use Rattle.air_journal.specs.declared.answers.Took.TheVariants as took
use Rattle.atomic_table.specs.Seated.{TableId}
use Rattle.atomic_table.specs.Table.{rest}
use Rattle.atomic_table.specs.declared.shared.Seat.{Seat}
use Rattle.air_rules.specs.Air.{Air}
use Rattle.air_rules.specs.Journal.{commits, owner_of}
use Rattle.air_rules.specs.Rules.{IsLegal}
use Rattle.air_rules.proofs.OwnEntries.{depends-on-own}
use Rattle.craft_view.specs.Views.{picture_of}
use Rattle.air_turn.specs.declared.view.Claim.{Claim}
use Rattle.air_turn.specs.declared.view.Knowledge.{Knowledge}
use Rattle.air_turn.specs.declared.view.Seen.{Seen}
use Rattle.air_turn.specs.declared.view.Stage.TheVariants.{Idle, Waits, Holds}
use Rattle.air_turn.specs.Rule.{Grows, adds, knowledge, state_of, stays}
use Rattle.air_turn.specs.Seats.{Called, IsNextPicture, IsSeat, Learns, SeatState}
use Rattle.air_turn.specs.Told.{Knows, Sees, KnownAndHeld, TurnStep, called, first, gave, holding, raised, holding, learned, looked, newer, resting, confirmed, staged, told, waiting}
use Rattle.air_turn.specs.Turns.{GoneOn, HasTicket, HasTurn, Rests, calls_of, claim_after, commit_growth, journal_of, seat_of, seat_of_claim, send_growth, take_growth, ticket_of}

pub drawn-is : (m m' : KnownAndHeld) (k : ℕ) (e : Parts) (c : Claim) → m ≡ resting e c → m' ≡ (staged m.0 (Waits k), m.1) → m' ≡ waiting e c k
drawn-is m m' k e c is to = to ∙ ap (λ (x : KnownAndHeld). (staged x.0 (Waits k), x.1)) is

abbrev some_of : Option State → State → State
some_of None d = d
some_of (Some t) d = t

abbrev carried_of : List (ℕ × Option State) → Option State
carried_of [] = None
carried_of (x ∷ xs) = x.1

-- the turn has come: what the seat sees
pub turn-seen : (st : TurnStep) (m0 m1 m1' m2 : KnownAndHeld) (k r found : ℕ) → m0 ≡ resting m0.0.encounter (first m0.0.claims) → k % 18446744073709551616 ≡ r → m1 ≡ (staged m0.0 (Waits k), m0.1) → m1' ≡ m1 → found ≡ r → looked st m1' found m2
    → (journal : List Entry) × (n : ℕ) × (m2 ≡ holding m0.0.encounter (first m0.0.claims) k journal n (Some (state_of m0.0.encounter journal))) × Sees m0.0.encounter (first m0.0.claims) journal n
turn-seen st m0 m1 m1' m2 k r found rests drew to still hit look =
    let e = m0.0.encounter in
    let c = first m0.0.claims in
    let m1_is : m1' ≡ waiting e c k = still ∙ drawn-is m0 m1 k e c rests to in
    let Q : KnownAndHeld → Type 0 = λ y. looked st y found m2 in
    let seen = subst Q m1_is look k refl in
    seen.0 (hit ∙ sym drew)

pub in-hand : (m2 : KnownAndHeld) (e : Parts) (c : Claim) (k n : ℕ) (journal : List Entry) (x : Option State) → m2 ≡ holding e c k journal n x → m2.1 ≡ (0, x) ∷ rest m2.1
in-hand m2 e c k n journal x is = ap (λ (y : KnownAndHeld). y.1) is ∙ sym (ap (λ (y : KnownAndHeld). (0, x) ∷ rest y.1) is)

pub turn-taken : (m0 m2 m3 : KnownAndHeld) (k n : ℕ) (journal : List Entry) (x : Option State) (t : State) (drawn : ℕ) → drawn ≡ k % 18446744073709551616 → m2 ≡ holding m0.0.encounter (first m0.0.claims) k journal n (Some (state_of m0.0.encounter journal)) → Sees m0.0.encounter (first m0.0.claims) journal n
    → m2.1 ≡ (0, x) ∷ rest m2.1 → m3 ≡ (m2.0, (0, None) ∷ rest m2.1) → x ≡ Some t → HasTurn m0 m3 drawn t
turn-taken m0 m2 m3 k n journal x t drawn drawn_is m2_is sees out left is =
    let e = m0.0.encounter in
    let c = first m0.0.claims in
    let same : Some t ≡ Some (state_of e journal) = sym is ∙ (ap carried_of (sym out) ∙ ap (λ (y : KnownAndHeld). carried_of y.1) m2_is) in
    let t_is : t ≡ state_of e journal = ap (λ y. some_of y t) same in
    let m3_is : m3 ≡ holding e c k journal n None = left ∙ ap (λ (y : KnownAndHeld). (y.0, (0, None) ∷ rest y.1)) m2_is in
    let journal_is : journal ≡ t.journal = ap (λ (y : State). y.journal) (sym t_is) in
    record {
      ticket = k;
      calls = n;
      drawn_is = drawn_is;
      new_is = m3_is ∙ ap (λ l. holding e c k l n None) journal_is;
      encounter = ap (λ (y : State). y.encounter) t_is;
      sees = subst (λ l. Sees e c l n) journal_is sees;
    }

-- the claim after the turn
pub turn-raised : (st : TurnStep) (m m2 : KnownAndHeld) (t : State) (k r : ℕ) → m ≡ holding m.0.encounter (first m.0.claims) k (journal_of m.0.stage) (calls_of m.0.stage) None → raised t.journal st m r m2
    → m2 ≡ holding m.0.encounter (claim_after m t) k t.journal (calls_of m.0.stage + 1) None
turn-raised st m m2 t k r is raise = raise k (calls_of m.0.stage) (journal_of m.0.stage) (ap (λ (y : KnownAndHeld). y.0.stage) is) ∙ ap (λ h. (knowledge m.0.encounter (Holds k t.journal (calls_of m.0.stage + 1)) (called (first m.0.claims) t.journal (calls_of m.0.stage + 1) ∷ []) [], h)) (ap (λ (y : KnownAndHeld). y.1) is)

-- the state is back in the hand
pub put-back-is : (e : Parts) (c : Claim) (m2 m3 : KnownAndHeld) (t : State) (k n : ℕ) → m2 ≡ holding e c k t.journal n None → t.encounter ≡ e → m3 ≡ (m2.0, (0, Some t) ∷ rest m2.1) → m3 ≡ holding e c k t.journal n (Some (state_of e t.journal))
put-back-is e c m2 m3 t k n is enc to = to ∙ (λ i. ((is i).0, (0, Some (state_of (enc i) t.journal)) ∷ rest (is i).1))

pub turn-given : (st : TurnStep) (m2 m3 : KnownAndHeld) (r : ℕ) (e : Parts) (c : Claim) (k n : ℕ) (journal : List Entry) (x : Option State) → m2 ≡ holding e c k journal n x → gave st m2 r m3 → m3 ≡ resting e c
turn-given st m2 m3 r e c k n journal x is give = give ∙ ap (λ (y : KnownAndHeld). (staged y.0 Idle, [])) is

module _ {own : ℕ} {old new : List Entry} where
  stayed : new ≡ old → Grows own old new 0
  stayed is = subst (λ z. Grows own old z 0) (sym is) stays

  added : (entry : Entry) → owner_of entry ≡ own → new ≡ entry ∷ old → Grows own old new 1
  added entry mine is = subst (λ z. Grows own old z 1) (sym is) (adds entry mine)

module _ (air : Air) (old new : List Entry) (own : ℕ) where
  pub grows-commit : (answer : Commit) → Commits air old own new answer → Grows own old new (commit_growth answer)
  grows-commit commit.Over h = stayed h.1
  grows-commit (commit.Owed target) h = stayed h.1
  grows-commit (commit.Due send copy) h = stayed h.1
  grows-commit (commit.Ahead craft count) h = stayed h.1
  grows-commit (commit.Done position) h = added (entries.Commit own h.cycle h.cells) refl h.new_is

  pub grows-send : (answer : Sent) → Sends air old own new answer → Grows own old new (send_growth answer)
  grows-send sent.Nothing h = stayed h.1
  grows-send (sent.Done position) h = added (entries.Send own h.target h.number h.word) refl h.new_is

  pub grows-take : (answer : Took) → Takes air old own new answer → Grows own old new (take_growth answer)
  grows-take took.Nothing h = stayed h.1
  grows-take (took.Done position good) h = added (entries.Take own h.send h.copy good) refl h.took.new_is

-- The state has gone on from the journal of the turn.
pub gone-on : (m0 m1 : KnownAndHeld) (drawn : ℕ) (old new : State) (own grew : ℕ) → HasTurn m0 m1 drawn old → new.encounter ≡ old.encounter → IsLegal (air_of new.encounter) new.journal → own ≡ (first m0.0.claims).own → Grows own old.journal new.journal grew → GoneOn m1 new grew
gone-on m0 m1 drawn old new own grew turn same legal mine grows =
    let Q : KnownAndHeld → Type 0 = λ y. GoneOn y new grew in
    let is : new.encounter ≡ m0.0.encounter = same ∙ turn.encounter in
    let state : IsJournalOf m0.0.encounter new.journal = record { valid = turn.sees.state.valid; inside = turn.sees.state.inside; legal = subst (λ e. IsLegal (air_of e) new.journal) is legal } in
    subst Q (sym turn.new_is) record {
      turn = refl;
      encounter = is;
      stays_a_state = subst (λ e. IsJournalOf e new.journal) (sym is) state;
      grows = subst (λ z. Grows z old.journal new.journal grew) mine grows;
    }

-- The ticket of the turn is the seat's.
pub turn-ticket : (m0 m1 : KnownAndHeld) (drawn : ℕ) (state : State) → HasTurn m0 m1 drawn state → HasTicket m1 drawn
turn-ticket m0 m1 drawn state turn = turn.drawn_is ∙ ap (λ (y : KnownAndHeld). ticket_of y.0.stage % 18446744073709551616) (sym turn.new_is)

-- What a call of a seat did, from the turn that it had.
module _ (Does : Parts → ℕ → List Entry → List Entry → Type 0) (p q : Seat (Option State) Knowledge) (m1 : KnownAndHeld) (drawn : ℕ) (old new : State) where
  abbrev after : ℕ → SeatState
  after n = seat_of_claim p.table_id p.me.0.encounter (called (first p.me.0.claims) new.journal n)

  seat-after : q.table_id ≡ p.table_id → (turn : HasTurn p.me m1 drawn old) → q.me ≡ resting m1.0.encounter (claim_after m1 new) → seat_of q ≡ after (turn.calls + 1)
  seat-after table turn idle =
      let me : q.me ≡ resting p.me.0.encounter (called (first p.me.0.claims) new.journal (turn.calls + 1)) = idle ∙ ap (λ (y : KnownAndHeld). resting y.0.encounter (claim_after y new)) turn.new_is in
      λ i. seat_of_claim (table i) (me i).0.encounter (first (me i).0.claims)

  pub called-by : (s : SeatState) (own : ℕ) → seat_of p ≡ s → q.table_id ≡ p.table_id → HasTurn p.me m1 drawn old → q.me ≡ resting m1.0.encounter (claim_after m1 new) → own ≡ s.own → Does old.encounter own old.journal new.journal → Called s (Does s.encounter s.own) (seat_of q)
  called-by s own is table turn idle mine does =
      let e = p.me.0.encounter in
      let c = first p.me.0.claims in
      let sees = turn.sees in
      let done : own ≡ c.own → Called (seat_of p) (Does e c.own) (after (turn.calls + 1)) = λ own_is. record {
        journal = old.journal;
        sees = record { legal = sees.state.legal; front = sees.front; own = sees.own };
        does = subst (λ (x : Parts × ℕ). Does x.0 x.1 old.journal new.journal) (λ i. (turn.encounter i, own_is i)) does;
        made = refl;
        count = (let low = sees.count in omega arith);
        same = record { table = refl; own = refl; encounter = refl };
      } in
      let Q : SeatState → Type 0 = λ z. own ≡ z.own → Called z (Does z.encounter z.own) (seat_of q) in
      subst Q is (λ own_is. subst (λ t. Called (seat_of p) (Does e c.own) t) (sym (seat-after table turn idle)) (done own_is)) mine

-- The seat rests again after its turn.
pub rests-after : (p q : Seat (Option State) Knowledge) (m1 : KnownAndHeld) (drawn : ℕ) (old new : State) (own : ℕ) → Rests own p → HasTurn p.me m1 drawn old → new.encounter ≡ old.encounter → IsLegal (air_of new.encounter) new.journal → q.me ≡ resting m1.0.encounter (claim_after m1 new) → Rests own q
rests-after p q m1 drawn old new own rests turn same legal idle =
    let me : q.me ≡ resting p.me.0.encounter (called (first p.me.0.claims) new.journal (turn.calls + 1)) = idle ∙ ap (λ (y : KnownAndHeld). resting y.0.encounter (claim_after y new)) turn.new_is in
    let Q : KnownAndHeld → Type 0 = λ y. IsSeat (seat_of_claim q.table_id y.0.encounter (first y.0.claims)) in
    record {
      idle = me ∙ sym (ap (λ (y : KnownAndHeld). resting y.0.encounter (first y.0.claims)) me);
      own_is = rests.own_is ∙ sym (ap (λ (y : KnownAndHeld). (first y.0.claims).own) me);
      seat = subst Q (sym me) record { valid = rests.seat.valid; inside = rests.seat.inside; active = rests.seat.active; legal = subst (λ e. IsLegal (air_of e) new.journal) (same ∙ turn.encounter) legal };
    }

-- The next picture by what a seat has seen is the next one in its turn.
pub next-picture : (s : SeatState) (p : Seat (Option State) Knowledge) (m1 : KnownAndHeld) (drawn : ℕ) (state : State) (own : ℕ) (picture : Picture) → seat_of p ≡ s → HasTurn p.me m1 drawn state → own ≡ s.own → IsNextPicture s picture
    → commits state.journal own < state.encounter.cycles → picture ≡ picture_of state.encounter own (commits state.journal own + 1)
next-picture s p m1 drawn state own picture is turn mine next =
    let c = first p.me.0.claims in
    let own_is : c.own ≡ own = ap (λ (z : SeatState). z.own) is ∙ sym mine in
    let here : IsNextPicture (seat_of p) picture = subst (λ z. IsNextPicture z picture) (sym is) next in
    let same : commits c.seen.front c.own ≡ commits state.journal own = (depends-on-own (air_of state.encounter) c.seen.front state.journal c.own turn.sees.own).commits_are ∙ ap (commits state.journal) own_is in
    let Q : Parts × ℕ × ℕ → Type 0 = λ x. x.2 < x.0.cycles → picture ≡ picture_of x.0 x.1 (x.2 + 1) in
    subst Q (λ i. (sym turn.encounter i, own_is i, same i)) here

-- a seat that was told of a note, and has not looked yet
pub told-is : (m m1 : KnownAndHeld) (w : Knowledge) (e e' : Parts) (c : Claim) (b : Seen) → m ≡ resting e c → w ≡ knowledge e' Idle [] (b ∷ []) → m1 ≡ (told m.0 w, m.1) → m1 ≡ (knowledge e Idle (learned c b ∷ []) (c.seen ∷ b ∷ []), [])
told-is m m1 w e e' c b is note to = to ∙ (λ i. (told (is i).0 (note i), (is i).1))

pub learned-is : (st : TurnStep) (m1 m2 : KnownAndHeld) (r : ℕ) (e : Parts) (c : Claim) (b : Seen) → m1 ≡ (knowledge e Idle (learned c b ∷ []) (c.seen ∷ b ∷ []), []) → confirmed st m1 r m2
    → (m2 ≡ resting e (learned c b)) × Knows e c.own (newer c.seen b).front c.seen.front b.front
learned-is st m1 m2 r e c b is look = let Q : KnownAndHeld → Type 0 = λ y. confirmed st y r m2 in subst Q is look

newer-one : (a b : Seen) → ((newer a b).front ≡ a.front) ⊎ ((newer a b).front ≡ b.front)
newer-one a b = elim (ltb a.count b.count) as (λ x. ((if x then b else a).front ≡ a.front) ⊎ ((if x then b else a).front ≡ b.front)) [ true ↦ inr refl | false ↦ inl refl ]

newer-count : (a b : Seen) → (newer a b).count ≡ max a.count b.count
newer-count a b = cases (ltb a.count b.count) refl
  where
    cases : (x : Bool) → ltb a.count b.count ≡ x → (if x then b else a).count ≡ max a.count b.count
    cases true e = let l = ltb-true a.count b.count e in omega arith
    cases false e = let l = ltb-false a.count b.count e in omega arith

pub learns-as : (s o t : SeatState) (u : TableId) (e : Parts) (c d : Claim) → s ≡ seat_of_claim u e c → o.front ≡ d.seen.front → o.count ≡ d.seen.count → t ≡ seat_of_claim u e (learned c d.seen) → Knows e c.own (newer c.seen d.seen).front c.seen.front d.seen.front → Learns s o t
learns-as s o t u e c d s_is front count t_is knows =
    let Q : SeatState × SeatState × (List Entry) × ℕ → Type 0 = λ x. Learns x.0 (record o { front = x.2; count = x.3 }) x.1 in
    subst Q (λ i. (sym s_is i, sym t_is i, sym front i, sym count i)) record {
      legal = knows.legal;
      begins_own = knows.first;
      begins_other = knows.second;
      one_of = newer-one c.seen d.seen;
      own = knows.own;
      count = newer-count c.seen d.seen;
      made = refl;
      same = record { table = refl; own = refl; encounter = refl };
    }
