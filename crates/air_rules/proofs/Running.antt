-- What j sends in its present run.
use Rattle.std.proofs.Common.{◌≡◌, ◌↔◌, ◌⊎◌, ℕ, ◌<◌, ◌≤◌, IsSome, Bool, true, false, eqb, List, [], ◌∷◌, length, Option, Some, None, unwrap_or, is_some, sym, refl, ap, ◌∙◌, subst, subst₂, arith, inl, inr, eqb-true, eq-eqb}
use Rattle.std.proofs.lemmas.Bool.{cond-false, cond-true, cases_Bool, and_parts}
use Rattle.acas_base.specs.Complements.{cancelled_complement, complement_of}
use Rattle.acas_base.specs.Messages.{cancel_of, message_for}
use Rattle.acas_base.specs.Senses.{has_sense, is_same_sense, sense_of}
use Rattle.acas_base.specs.declared.advisory.Cell.{Cell}
use Rattle.acas_base.specs.declared.advisory.Cell.TheVariants.{Clear, Ra, Traffic}
use Rattle.acas_base.specs.declared.advisory.Cells.{Cells}
use Rattle.acas_base.specs.declared.advisory.ResMsg.{ResMsg}
use Rattle.acas_base.specs.declared.advisory.Sense.{Sense}
use Rattle.acas_base.specs.declared.advisory.Sense.TheVariants.{Down, Up}
use Rattle.acas_base.specs.declared.advisory.Vrc.{Vrc}
use Rattle.acas_base.specs.declared.advisory.Vrc.TheVariants.{Nil, NotAbove, NotBelow}
use Rattle.acas_base.specs.declared.entry.Entry.{Entry}
use Rattle.acas_base.specs.declared.entry.Entry.TheVariants.{Commit, Send, Take}
use Rattle.air_rules.proofs.Beginnings.{begins-length}
use Rattle.air_rules.proofs.Legal.{allowed, earlier}
use Rattle.air_rules.proofs.Positions.{chosen, sent-within}
use Rattle.air_rules.specs.Air.{Air, IsMessageOf, is_ra}
use Rattle.air_rules.specs.Journal.{Begins, Sent, WasSent, cell_at, last_cell, more, sent_at, whole}
use Rattle.air_rules.specs.Owed.{has_many_threats, may_owe, owed, said}
use Rattle.air_rules.specs.Rules.{IsLegal}
use Rattle.air_rules.specs.Runs.{BeginsRun, HasRunBySense, run_began}

same-true : (s t : Sense) → is_same_sense s t ≡ true → s ≡ t
same-true Up Up e = refl
same-true Up Down e = cc
same-true Down Up e = cc
same-true Down Down e = refl

pub sense-has : (c : Cell) (t : Sense) → has_sense c t ≡ true → sense_of c ≡ Some t
sense-has Clear t e = cc
sense-has Traffic t e = cc
sense-has (Ra it) t e = ap Some (same-true it.sense t e)

pub same-refl : (s : Sense) → is_same_sense s s ≡ true
same-refl Up = refl
same-refl Down = refl

pub has-from : (c : Cell) (t : Sense) → sense_of c ≡ Some t → has_sense c t ≡ true
has-from Clear t e = absurd (cc)
has-from Traffic t e = absurd (cc)
has-from (Ra it) t e = let f : it.sense ≡ t = cc in subst (λ (s : Sense). is_same_sense it.sense s ≡ true) f (same-refl it.sense)

-- How a run of j stands after a commit.
pub data RunStep (own : ℕ) (cells : Cells) (K : List Entry) (j i : ℕ) (t : Sense) (b : ℕ) : Type 0 where
  starts : own ≡ j → sense_of (cell_at cells i) ≡ Some t → run_began K j i t ≡ None → length K ≡ b → RunStep own cells K j i t b
  lasts : own ≡ j → sense_of (cell_at cells i) ≡ Some t → run_began K j i t ≡ Some b → RunStep own cells K j i t b
  stays : eqb own j ≡ false → run_began K j i t ≡ Some b → RunStep own cells K j i t b

pub run-step : (own cycle : ℕ) (cells : Cells) (K : List Entry) (j i : ℕ) (t : Sense) (b : ℕ) →
    run_began (Commit own cycle cells ∷ K) j i t ≡ Some b → RunStep own cells K j i t b
run-step own cycle cells K j i t b e =
    elim (chosen (eqb own j) _ _ _ e) [
      | inl h ↦ elim (chosen (has_sense (cell_at cells i) t) _ _ _ h.1) [
        | inl g ↦ go (eqb-true own j h.0) (sense-has (cell_at cells i) t g.0) (run_began K j i t) refl g.1
        | inr g ↦ absurd (cc)
      ]
      | inr h ↦ stays h.0 h.1
    ]
  where
    go : own ≡ j → sense_of (cell_at cells i) ≡ Some t → (o : Option ℕ) → run_began K j i t ≡ o →
        Some (unwrap_or o (length K)) ≡ Some b → RunStep own cells K j i t b
    go q s None o f = starts q s o (cc)
    go q s (Some a) o f = lasts q s (let h : a ≡ b = cc in o ∙ ap Some h)

pub run-within : (K : List Entry) (j i : ℕ) (t : Sense) (b : ℕ) → run_began K j i t ≡ Some b → b < length K
run-within [] j i t b e = cc
run-within (Commit own cycle cells ∷ K) j i t b e =
    let ih = run-within K j i t b in
    elim (run-step own cycle cells K j i t b e) [
      | starts q s o h ↦ omega arith
      | lasts q s o ↦ let h : b < length K = ih o in omega arith
      | stays q o ↦ let h : b < length K = ih o in omega arith
    ]
run-within (Send own target number word ∷ K) j i t b e = let h : b < length K = run-within K j i t b e in omega arith
run-within (Take own p c good ∷ K) j i t b e = let h : b < length K = run-within K j i t b e in omega arith

-- The run has the sense of the last cell.
pub run-sense : (K : List Entry) (j i : ℕ) (t : Sense) (b : ℕ) → run_began K j i t ≡ Some b → sense_of (last_cell K j i) ≡ Some t
run-sense [] j i t b e = cc
run-sense (Commit own cycle cells ∷ K) j i t b e =
    let ih = run-sense K j i t b in
    elim (run-step own cycle cells K j i t b e) [
      | starts q s o h ↦ rw (eq-eqb own j q) s
      | lasts q s o ↦ rw (eq-eqb own j q) s
      | stays q o ↦ rw q (ih o)
    ]
run-sense (Send own target number word ∷ K) j i t b e = run-sense K j i t b e
run-sense (Take own p c good ∷ K) j i t b e = run-sense K j i t b e

pub message-vrc : (c : Cell) (v : Vrc) (b : Bool) (own : ℕ) (t : Sense) (m : ResMsg) → sense_of c ≡ Some t → message_for c v b own ≡ Some m → m.vrc ≡ complement_of t
message-vrc Clear v b own t m s e = cc
message-vrc Traffic v b own t m s e = cc
message-vrc (Ra it) v b own t m s e =
    let r : ResMsg = record { many = b; cancel = cancelled_complement v (complement_of it.sense); vrc = complement_of it.sense; sender = own } in
    let f : r ≡ m = cc in
    let g : it.sense ≡ t = cc in
    sym (ap (λ (x : ResMsg). x.vrc) f) ∙ ap complement_of g

pub owed-message : (air : Air) (K : List Entry) (i j : ℕ) (m : ResMsg) → owed air K i j ≡ Some m →
    (may_owe air K i j ≡ true) × (message_for (last_cell K i j) (said air K i j) (has_many_threats K i) (air.address i) ≡ Some m)
owed-message air K i j m e =
    elim (chosen (may_owe air K i j) _ _ _ e) [
      | inl h ↦ h
      | inr h ↦ absurd (cc)
    ]

cancel-sender : (v : Vrc) (b : Bool) (own : ℕ) (m : ResMsg) → cancel_of v b own ≡ Some m → m.sender ≡ own
cancel-sender Nil b own m e = absurd (cc)
cancel-sender NotBelow b own m e = let r : ResMsg = record { many = b; cancel = NotBelow; vrc = Nil; sender = own } in let f : r ≡ m = cc in sym (ap (λ (x : ResMsg). x.sender) f)
cancel-sender NotAbove b own m e = let r : ResMsg = record { many = b; cancel = NotAbove; vrc = Nil; sender = own } in let f : r ≡ m = cc in sym (ap (λ (x : ResMsg). x.sender) f)

message-sender : (c : Cell) (v : Vrc) (b : Bool) (own : ℕ) (m : ResMsg) → message_for c v b own ≡ Some m → m.sender ≡ own
message-sender Clear v b own m e = cancel-sender v b own m e
message-sender Traffic v b own m e = cancel-sender v b own m e
message-sender (Ra it) v b own m e =
    let r : ResMsg = record { many = b; cancel = cancelled_complement v (complement_of it.sense); vrc = complement_of it.sense; sender = own } in
    let f : r ≡ m = cc in
    sym (ap (λ (x : ResMsg). x.sender) f)

-- What is owed is the aircraft's own message.
pub owed-own : (air : Air) (K : List Entry) (i j : ℕ) (m : ResMsg) → owed air K i j ≡ Some m → IsMessageOf air i m
owed-own air K i j m e =
    let o = owed-message air K i j m e in
    record { resolves = (and_parts (is_ra air i) _ o.0).0; sender = message-sender (last_cell K i j) _ _ _ m o.1 }

-- What is sent is a message with the complement of a sense.
pub record TellsSense (air : Air) (j : ℕ) (t : Sense) (S : Sent) : Type 0 where
  pub message : ResMsg
  pub word_is : S.word ≡ air.word message
  pub vrc_is : message.vrc ≡ complement_of t
  pub of_sender : IsMessageOf air j message

-- So is all that is sent in a run, with the run's sense.
pub run-sends : (air : Air) (K : List Entry) → IsLegal air K → (j i p b : ℕ) (t : Sense) (S : Sent) → run_began K j i t ≡ Some b → b < p → WasSent K p j i S → TellsSense air j t S
run-sends air [] l j i p b t S r h s = absurd (let e = s.here in cc)
run-sends air (Commit own cycle cells ∷ K) l j i p b t S r h s =
    let ih = run-sends air K (earlier l) j i p b t S in
    elim (chosen (eqb p (length K)) None (sent_at K p) (Some S) s.here) [
      | inl g ↦ absurd (let e = g.1 in cc)
      | inr g ↦
          let here : WasSent K p j i S = record { here = g.1; sender = s.sender; receiver = s.receiver } in
          elim (run-step own cycle cells K j i t b r) [
            | starts q x o y ↦ absurd (let z : p < length K = sent-within K p S g.1 in omega arith)
            | lasts q x o ↦ ih o h here
            | stays q o ↦ ih o h here
          ]
    ]
run-sends air (Send own target number word ∷ K) l j i p b t S r h s =
    let ih = run-sends air K (earlier l) j i p b t S in
    let sent : Sent = record { sender = own; receiver = target; number = number; word = word } in
    elim (chosen (eqb p (length K)) (Some sent) (sent_at K p) (Some S) s.here) [
      | inl g ↦
          let e : sent ≡ S = let f = g.1 in cc in
          let may = allowed l in
          let o : owed air K j i ≡ Some may.message = subst₂ (λ (x y : ℕ). owed air K x y ≡ Some may.message) (ap (λ (x : Sent). x.sender) e ∙ s.sender) (ap (λ (x : Sent). x.receiver) e ∙ s.receiver) may.first_owed.owes in
          record {
            message = may.message;
            word_is = sym (ap (λ (x : Sent). x.word) e) ∙ may.word_is;
            vrc_is = message-vrc (last_cell K j i) _ _ _ t may.message (run-sense K j i t b r) (owed-message air K j i may.message o).1;
            of_sender = owed-own air K j i may.message o;
          }
      | inr g ↦ ih r h (record { here = g.1; sender = s.sender; receiver = s.receiver })
    ]
run-sends air (Take own q c good ∷ K) l j i p b t S r h s =
    elim (chosen (eqb p (length K)) None (sent_at K p) (Some S) s.here) [
      | inl g ↦ absurd (let e = g.1 in cc)
      | inr g ↦ run-sends air K (earlier l) j i p b t S r h (record { here = g.1; sender = s.sender; receiver = s.receiver })
    ]

-- A run is there wherever the last cell has the sense.
run-there : (K : List Entry) (j i : ℕ) (t : Sense) → sense_of (last_cell K j i) ≡ Some t → (b : ℕ) × (run_began K j i t ≡ Some b)
run-there [] j i t e = absurd (cc)
run-there (Commit own cycle cells ∷ K) j i t e =
    let ih = run-there K j i t in
    elim (cases_Bool (eqb own j)) [
      | inl y ↦
          let s : sense_of (cell_at cells i) ≡ Some t = ap sense_of (sym (cond-true (eqb own j) (cell_at cells i) (last_cell K j i) y)) ∙ e in
          (unwrap_or (run_began K j i t) (length K), cond-true (eqb own j) _ _ y ∙ cond-true (has_sense (cell_at cells i) t) _ _ (has-from (cell_at cells i) t s))
      | inr n ↦
          let r = ih (ap sense_of (sym (cond-false (eqb own j) (cell_at cells i) (last_cell K j i) n)) ∙ e) in
          (r.0, cond-false (eqb own j) _ _ n ∙ r.1)
    ]
run-there (Send own target number word ∷ K) j i t e = run-there K j i t e
run-there (Take own p c good ∷ K) j i t e = run-there K j i t e

run-by-sense : (K : List Entry) (j i : ℕ) (t : Sense) → (sense_of (last_cell K j i) ≡ Some t) ↔ IsSome (run_began K j i t)
run-by-sense K j i t = (λ e. ap is_some (run-there K j i t e).1, λ h. go (run_began K j i t) refl h)
  where
    go : (o : Option ℕ) → run_began K j i t ≡ o → is_some o ≡ true → sense_of (last_cell K j i) ≡ Some t
    go None e h = absurd (cc)
    go (Some b) e h = run-sense K j i t b e

-- A commit in a longer journal is its last entry, or stands in the shorter one.
commit-in : {x : Entry} {K : List Entry} (j c : ℕ) (cells : Cells) (L : List Entry) → Begins (Commit j c cells ∷ L) (x ∷ K) → (Commit j c cells ≡ x) ⊎ Begins (Commit j c cells ∷ L) K
commit-in j c cells L whole = inl refl
commit-in j c cells L (more b) = inr b

-- A run that is older than an entry goes on past it, where the entry is no commit of the aircraft or has the sense.
begins-more : (x : Entry) (K : List Entry) (j i b : ℕ) (t : Sense) → ((c : ℕ) (cells : Cells) → Commit j c cells ≡ x → sense_of (cell_at cells i) ≡ Some t) → BeginsRun K j i t b → BeginsRun (x ∷ K) j i t b
begins-more x K j i b t has r = record {
  before = r.before;
  cycle = r.cycle;
  cells = r.cells;
  commit = more r.commit;
  position = r.position;
  lasts = λ L c cells is h. elim (commit-in j c cells L is) [ inl e ↦ has c cells e | inr in_K ↦ r.lasts L c cells in_K h ];
  starts = r.starts;
}

begins-run : (K : List Entry) (j i : ℕ) (t : Sense) (b : ℕ) → run_began K j i t ≡ Some b → BeginsRun K j i t b
begins-run [] j i t b e = absurd (cc)
begins-run (Commit own cycle cells ∷ K) j i t b e =
    let x = Commit own cycle cells in
    let ih = begins-run K j i t b in
    elim (run-step own cycle cells K j i t b e) [
      | starts q s o h ↦ record {
        before = K;
        cycle = cycle;
        cells = cells;
        commit = subst (λ (k : ℕ). Begins (Commit k cycle cells ∷ K) (x ∷ K)) q whole;
        position = h;
        lasts = λ L c other is later. elim (commit-in j c other L is) [
          | inl f ↦ let g : other ≡ cells = cc in subst (λ (z : Cells). sense_of (cell_at z i) ≡ Some t) (sym g) s
          | inr in_K ↦ absurd (let k : length (Commit j c other ∷ L) ≤ length K = begins-length (Commit j c other ∷ L) K in_K in omega arith)
        ];
        starts = λ f. let there : is_some (run_began K j i t) ≡ true = (run-by-sense K j i t).0 f in let none : is_some (run_began K j i t) ≡ false = ap is_some o in let z : true ≡ false = sym there ∙ none in cc;
      }
      | lasts q s o ↦ begins-more x K j i b t (λ c other f. let g : other ≡ cells = cc in subst (λ (z : Cells). sense_of (cell_at z i) ≡ Some t) (sym g) s) (ih o)
      | stays q o ↦ begins-more x K j i b t (λ c other f. let g : j ≡ own = cc in absurd (let z : false ≡ true = sym q ∙ eq-eqb own j (sym g) in cc)) (ih o)
    ]
begins-run (Send own target number word ∷ K) j i t b e = begins-more (Send own target number word) K j i b t (λ c cells f. absurd (cc)) (begins-run K j i t b e)
begins-run (Take own p c good ∷ K) j i t b e = begins-more (Take own p c good) K j i b t (λ c cells f. absurd (cc)) (begins-run K j i t b e)

pub has-run-by-sense : HasRunBySense
has-run-by-sense = record { there = run-by-sense; began = begins-run }
