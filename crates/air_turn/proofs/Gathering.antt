-- All seats are joined into one.
use Rattle.std.proofs.Common.{◌≡◌, List, [], ◌∷◌, ◌++◌, map, Option, Some, sym, ap, ◌∙◌, append_assoc}
use Rattle.std.specs.Prelude.{All}
use Rattle.std.proofs.lemmas.List.Elements.{All-pop}
use Rattle.acas_base.specs.Encounter.{Parts}
use Rattle.air_journal.specs.States.{State}
use Rattle.atomic_table.specs.Seated.{TableId}
use Rattle.atomic_table.specs.declared.shared.Seat.{Seat}
use Rattle.air_turn.specs.declared.view.Claim.{Claim}
use Rattle.air_turn.specs.declared.view.Knowledge.{Knowledge}
use Rattle.air_turn.specs.declared.view.Stage.TheVariants.{Idle}
use Rattle.air_turn.specs.Rule.{knowledge}
use Rattle.air_turn.specs.Seats.{IsSeatOf, SeatState, SharedAir}
use Rattle.air_turn.specs.Told.{KnownAndHeld, first, joined, resting}
use Rattle.air_turn.specs.Turns.{Gathers, seat_of, seat_of_claim}

abbrev pub shared_air : TableId → Parts → SharedAir
shared_air t e = record { table = t; encounter = e }

abbrev pub TurnSeat : Type 0
TurnSeat = Seat (Option State) Knowledge

-- the place has the claims of all but the rest
pub record Joining (t : TableId) (e : Parts) (p : TurnSeat) (rest whole : List SeatState) : Type 0 where
  pub table : p.table_id ≡ t
  pub me : p.me ≡ (knowledge e Idle p.me.0.claims [], [])
  pub some : (c : Claim) × (cs : List Claim) × (p.me.0.claims ≡ c ∷ cs)
  pub of : All (IsSeatOf (shared_air t e)) rest
  pub all : rest ++ map (seat_of_claim t e) p.me.0.claims ≡ whole

-- the last seat, and those before it
of-last : (t : TableId) (e : Parts) (all rest : List SeatState) (s : SeatState) → all ≡ rest ++ s ∷ [] → All (IsSeatOf (shared_air t e)) all → All (IsSeatOf (shared_air t e)) rest × IsSeatOf (shared_air t e) s
of-last t e all rest s is of = All-pop (IsSeatOf (shared_air t e)) all rest (Some s) is of

-- what a seat is
pub record One (t : TableId) (e : Parts) (p : TurnSeat) (s : SeatState) : Type 0 where
  pub table : p.table_id ≡ t
  pub me : p.me ≡ resting e (first p.me.0.claims)
  pub known_as : seat_of_claim t e (first p.me.0.claims) ≡ s

one-seat : (t : TableId) (e : Parts) (p : TurnSeat) (s : SeatState) → s.table ≡ t → s.encounter ≡ e → seat_of p ≡ s → p.me ≡ resting p.me.0.encounter (first p.me.0.claims) → One t e p s
one-seat t e p s table enc seen rests =
    let named : p.table_id ≡ t = ap (λ (k : SeatState). k.table) seen ∙ table in
    let flown : p.me.0.encounter ≡ e = ap (λ (k : SeatState). k.encounter) seen ∙ enc in
    record { table = named; me = rests ∙ ap (λ z. resting z (first p.me.0.claims)) flown; known_as = (λ i. seat_of_claim (sym named i) (sym flown i) (first p.me.0.claims)) ∙ seen }

pub joining-first : (t : TableId) (e : Parts) (p : TurnSeat) (s : SeatState) (rest all : List SeatState) → All (IsSeatOf (shared_air t e)) all → all ≡ rest ++ s ∷ [] → seat_of p ≡ s → p.me ≡ resting p.me.0.encounter (first p.me.0.claims) → Joining t e p rest all
joining-first t e p s rest all of is seen rests =
    let f = of-last t e all rest s is of in
    let o = one-seat t e p s f.1.table f.1.encounter seen rests in
    let claims : p.me.0.claims ≡ first p.me.0.claims ∷ [] = ap (λ (m : KnownAndHeld). m.0.claims) o.me in
    record {
      table = o.table;
      me = o.me ∙ ap (λ cs. (knowledge e Idle cs [], [])) (sym claims);
      some = (first p.me.0.claims, [], claims);
      of = f.0;
      all = ap (λ cs. rest ++ map (seat_of_claim t e) cs) claims ∙ (ap (λ k. rest ++ k ∷ []) o.known_as ∙ sym is);
    }

-- what a join of one seat more asks
pub joining-next : (t : TableId) (e : Parts) (p q : TurnSeat) (s : SeatState) (rest rest' all : List SeatState) → Joining t e p rest all → rest ≡ rest' ++ s ∷ [] → seat_of q ≡ s → q.me ≡ resting q.me.0.encounter (first q.me.0.claims) → One t e q s × All (IsSeatOf (shared_air t e)) rest'
joining-next t e p q s rest rest' all b is seen rests =
    let f = of-last t e rest rest' s is b.of in
    (one-seat t e q s f.1.table f.1.encounter seen rests, f.0)

pub joining-more : (t : TableId) (e : Parts) (p q q' : TurnSeat) (s : SeatState) (rest rest' all : List SeatState) → Joining t e p rest all → rest ≡ rest' ++ s ∷ [] → One t e q s → All (IsSeatOf (shared_air t e)) rest' → q'.table_id ≡ q.table_id → q'.me ≡ (joined q.me.0 p.me.0, q.me.1) → Joining t e q' rest' all
joining-more t e p q q' s rest rest' all b is o of table to =
    let c = first q.me.0.claims in
    let me : q'.me ≡ (knowledge e Idle (c ∷ p.me.0.claims) [], []) = to ∙ ap (λ (m : KnownAndHeld). (joined m.0 p.me.0, m.1)) o.me in
    let claims : q'.me.0.claims ≡ c ∷ p.me.0.claims = ap (λ (m : KnownAndHeld). m.0.claims) me in
    record {
      table = table ∙ o.table;
      me = me ∙ ap (λ cs. (knowledge e Idle cs [], [])) (sym claims);
      some = (c, p.me.0.claims, claims);
      of = of;
      all = ap (λ cs. rest' ++ map (seat_of_claim t e) cs) claims ∙ (ap (λ k. rest' ++ k ∷ map (seat_of_claim t e) p.me.0.claims) o.known_as
          ∙ (sym (append_assoc rest' (s ∷ []) (map (seat_of_claim t e) p.me.0.claims)) ∙ (ap (λ l. l ++ map (seat_of_claim t e) p.me.0.claims) (sym is) ∙ b.all)));
    }

pub joining-end : (t : TableId) (e : Parts) (p : TurnSeat) (rest all : List SeatState) → Joining t e p rest all → rest ≡ [] → Gathers t p.me all
joining-end t e p rest all b none =
    let enc : p.me.0.encounter ≡ e = ap (λ (m : KnownAndHeld). m.0.encounter) b.me in
    record { idle = b.me ∙ ap (λ z. (knowledge z Idle p.me.0.claims [], [])) (sym enc); all = ap (λ z. map (seat_of_claim t z) p.me.0.claims) enc ∙ (ap (λ l. l ++ map (seat_of_claim t e) p.me.0.claims) (sym none) ∙ b.all) }

pub more-view : (e : Parts) (m : KnownAndHeld) (c : Claim) (cs : List Claim) → m ≡ (knowledge e Idle m.0.claims [], []) → m.0.claims ≡ c ∷ cs → m.0 ≡ knowledge e Idle (c ∷ cs) []
more-view e m c cs is claims = ap (λ (x : KnownAndHeld). x.0) is ∙ ap (λ l. knowledge e Idle l []) claims
