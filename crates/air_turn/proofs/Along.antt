-- A step of a seat whose encounter isn't known yet to be that of the table: the rule says that it is.
use Rattle.std.proofs.Common.{◌≡◌, ℕ, ◌+◌, ◌%◌, List, [], ◌∷◌, Option, Some, refl, sym, ap, ◌∙◌, subst, arith}
use mathlib.Core.Option.{none}
use Rattle.acas_base.specs.Encounter.{Parts}
use Rattle.acas_base.specs.declared.entry.Entry.{Entry}
use Rattle.air_journal.specs.States.{IsJournalOf, State}
use Rattle.atomic_table.specs.Table.{step, Allows, Splits, Joins}
use Rattle.atomic_table.proofs.Lists.{set_else}
use Rattle.air_turn.specs.declared.view.TheConstants.{LENGTH, SERVING, TICKETS}
use Rattle.air_turn.specs.declared.view.Claim.{Claim}
use Rattle.air_turn.specs.declared.view.Knowledge.{Knowledge}
use Rattle.air_turn.specs.declared.view.Seen.{Seen}
use Rattle.air_turn.specs.declared.view.Stage.TheVariants.{Idle}
use Rattle.air_turn.specs.Rule.{Grows, HoldsThroughout, Speaks, knowledge, serving_word, state_of}
use Rattle.air_turn.specs.Told.{KnownAndHeld, TurnStep, confirmed, drew, first, first_alone, gave, holding, joined, learned, looked, note_of, raised, resting, spent, told, waiting, without_first}
use Rattle.air_turn.proofs.Passing.{confirms, joins, notes-down, splits, tells}
use Rattle.air_turn.proofs.Raising.{raises}
use Rattle.air_turn.proofs.Turns.{draws, gives-on, looks}

pub along : (e : Parts) (slots id i : ℕ) (f : ℕ → ℕ) (told : KnownAndHeld → ℕ → KnownAndHeld → Type 0) (shape : Parts → KnownAndHeld) (m : KnownAndHeld) (e' : Parts) → ((z : Parts) → ((shape z).0.encounter ≡ z) × Speaks (shape z).0) → m ≡ shape e'
    → (e' ≡ e → Allows (HoldsThroughout e) slots id (shape e) i f (told (shape e))) → Allows (HoldsThroughout e) slots id m i f (told m)
along e slots id i f told shape m e' shows is allowed s r deep at small =
    let same : e' ≡ e = sym (shows e').0 ∙ (ap (λ (x : KnownAndHeld). x.0.encounter) (sym is) ∙ (r.each id m.0 at).encounter (subst (λ (x : KnownAndHeld). Speaks x.0) (sym is) (shows e').1)) in
    let is_shape : m ≡ shape e = is ∙ ap shape same in
    let Q : KnownAndHeld → Type 0 = λ x. Allows (HoldsThroughout e) slots id x i f (told x) in
    subst Q (sym is_shape) (allowed same) s r deep at small

pub along-split : (e : Parts) (id : ℕ) (left right : Knowledge → Knowledge) (shape : Parts → Knowledge) (v : Knowledge) (e' : Parts) → ((z : Parts) → ((shape z).encounter ≡ z) × Speaks (shape z)) → v ≡ shape e'
    → Splits (HoldsThroughout e) id (shape e) (left (shape e)) (right (shape e)) → Splits (HoldsThroughout e) id v (left v) (right v)
along-split e id left right shape v e' shows is allowed s r at =
    let same : e' ≡ e = sym (shows e').0 ∙ (ap (λ (x : Knowledge). x.encounter) (sym is) ∙ (r.each id v at).encounter (subst Speaks (sym is) (shows e').1)) in
    let is_shape : v ≡ shape e = is ∙ ap shape same in
    let Q : Knowledge → Type 0 = λ x. Splits (HoldsThroughout e) id x (left x) (right x) in
    subst Q (sym is_shape) allowed s r at

pub along-join : (e : Parts) (id other : ℕ) (both : Knowledge → Knowledge → Knowledge) (spent : Knowledge) (shape shape' : Parts → Knowledge) (v w : Knowledge) (e' e'' : Parts) → ((z : Parts) → ((shape z).encounter ≡ z) × Speaks (shape z)) → ((z : Parts) → ((shape' z).encounter ≡ z) × Speaks (shape' z)) → v ≡ shape e' → w ≡ shape' e''
    → Joins (HoldsThroughout e) id (shape e) other (shape' e) (both (shape e) (shape' e)) spent → Joins (HoldsThroughout e) id v other w (both v w) spent
along-join e id other both spent shape shape' v w e' e'' shows shows' is is' allowed s r at apart there =
    let same : e' ≡ e = sym (shows e').0 ∙ (ap (λ (x : Knowledge). x.encounter) (sym is) ∙ (r.each id v at).encounter (subst Speaks (sym is) (shows e').1)) in
    let same' : e'' ≡ e = sym (shows' e'').0 ∙ (ap (λ (x : Knowledge). x.encounter) (sym is') ∙ (r.each other w (sym (set_else s.views id other (both v w) apart) ∙ there)).encounter (subst Speaks (sym is') (shows' e'').1)) in
    let is_shape : v ≡ shape e = is ∙ ap shape same in
    let is_shape' : w ≡ shape' e = is' ∙ ap shape' same' in
    let Q : Knowledge × Knowledge → Type 0 = λ x. Joins (HoldsThroughout e) id x.0 other x.1 (both x.0 x.1) spent in
    let pair : ◌≡◌ {A = Knowledge × Knowledge} (v, w) (shape e, shape' e) = λ k. (is_shape k, is_shape' k) in
    subst Q (sym pair) allowed s r at apart there

abbrev pub none_said : TurnStep
none_said = step 0 0 0 0 none

pub draws-along : (e : Parts) (slots id : ℕ) (m : KnownAndHeld) → m ≡ resting m.0.encounter (first m.0.claims) → Allows (HoldsThroughout e) slots id m TICKETS (λ n. (n + 1) % 18446744073709551616) (drew none_said m)
draws-along e slots id m is = along e slots id TICKETS (λ n. (n + 1) % 18446744073709551616) (drew none_said) (λ z. resting z (first m.0.claims)) m m.0.encounter (λ _. (refl, omega arith)) is (λ _. draws e slots id (first m.0.claims) none_said)

pub looks-along : (e : Parts) (slots id : ℕ) (m : KnownAndHeld) (e' : Parts) (c : Claim) (k i : ℕ) → i ≡ serving_word k → m ≡ waiting e' c k → Allows (HoldsThroughout e) slots id m i (λ n. n) (looked none_said m)
looks-along e slots id m e' c k i where_is is = subst (λ j. Allows (HoldsThroughout e) slots id m j (λ n. n) (looked none_said m)) (sym where_is)
    (along e slots id (serving_word k) (λ n. n) (looked none_said) (λ z. waiting z c k) m e' (λ _. (refl, omega arith)) is (λ _. looks e slots id c k none_said))

pub raises-along : (e : Parts) (slots id : ℕ) (m : KnownAndHeld) (e' : Parts) (c : Claim) (k n : ℕ) (journal now : List Entry) (grew : ℕ) (hand : Option State) → m ≡ holding e' c k journal n hand → IsJournalOf e' now → Grows c.own journal now grew
    → Allows (HoldsThroughout e) slots id m LENGTH (λ x. (x + grew) % 18446744073709551616) (raised now none_said m)
raises-along e slots id m e' c k n journal now grew hand is state grows =
    along e slots id LENGTH (λ x. (x + grew) % 18446744073709551616) (raised now none_said) (λ z. holding z c k journal n hand) m e' (λ _. (refl, omega arith)) is (λ same. raises e slots id c k n journal now grew hand none_said (subst (λ z. IsJournalOf z now) same state) grows)

pub gives-along : (e : Parts) (slots id : ℕ) (m : KnownAndHeld) (e' : Parts) (c : Claim) (k n : ℕ) (journal : List Entry) (i next : ℕ) (st : TurnStep) → i ≡ serving_word (k + 1) → next ≡ (k + 1) % 18446744073709551616 → m ≡ holding e' c k journal n (Some (state_of e' journal)) → Allows (HoldsThroughout e) slots id m i (λ _. next) (λ _. gave st m next)
gives-along e slots id m e' c k n journal i next st where_is next_is is = subst (λ (x : ℕ × ℕ). Allows (HoldsThroughout e) slots id m x.0 (λ _. x.1) (λ _. gave st m x.1)) (λ j. (sym where_is j, sym next_is j))
    (along e slots id (serving_word (k + 1)) (λ _. (k + 1) % 18446744073709551616) (gave st) (λ z. holding z c k journal n (Some (state_of z journal))) m e' (λ _. (refl, omega arith)) is (λ _. gives-on e slots id c k n journal st))

pub splits-along : (e : Parts) (id : ℕ) (v : Knowledge) (e' : Parts) (c : Claim) (cs : List Claim) → v ≡ knowledge e' Idle (c ∷ cs) [] → Splits (HoldsThroughout e) id v (without_first v) (first_alone v)
splits-along e id v e' c cs is = along-split e id without_first first_alone (λ z. knowledge z Idle (c ∷ cs) []) v e' (λ _. (refl, omega arith)) is (splits e id c cs)

pub joins-along : (e : Parts) (id other : ℕ) (v w : Knowledge) (e' e'' : Parts) (c d : Claim) (cs ds : List Claim) → v ≡ knowledge e' Idle (c ∷ cs) [] → w ≡ knowledge e'' Idle (d ∷ ds) [] → Joins (HoldsThroughout e) id v other w (joined v w) spent
joins-along e id other v w e' e'' c d cs ds is is' = along-join e id other joined spent (λ z. knowledge z Idle (c ∷ cs) []) (λ z. knowledge z Idle (d ∷ ds) []) v w e' e'' (λ _. (refl, omega arith)) (λ _. (refl, omega arith)) is is' (joins e id other (c ∷ cs) (d ∷ ds))

pub notes-along : (e : Parts) (id : ℕ) (v : Knowledge) (e' : Parts) (c : Claim) → v ≡ knowledge e' Idle (c ∷ []) [] → Splits (HoldsThroughout e) id v v (note_of v)
notes-along e id v e' c is = along-split e id (λ v. v) note_of (λ z. knowledge z Idle (c ∷ []) []) v e' (λ _. (refl, omega arith)) is (notes-down e id c)

pub tells-along : (e : Parts) (id other : ℕ) (v w : Knowledge) (e' e'' : Parts) (c : Claim) (b : Seen) → v ≡ knowledge e' Idle (c ∷ []) [] → w ≡ knowledge e'' Idle [] (b ∷ []) → Joins (HoldsThroughout e) id v other w (told v w) spent
tells-along e id other v w e' e'' c b is is' = along-join e id other told spent (λ z. knowledge z Idle (c ∷ []) []) (λ z. knowledge z Idle [] (b ∷ [])) v w e' e'' (λ _. (refl, omega arith)) (λ _. (refl, omega arith)) is is' (tells e id other c b)

pub confirms-along : (e : Parts) (slots id : ℕ) (m : KnownAndHeld) (e' : Parts) (c : Claim) (b : Seen) → m ≡ (knowledge e' Idle (learned c b ∷ []) (c.seen ∷ b ∷ []), []) → Allows (HoldsThroughout e) slots id m SERVING (λ n. n) (confirmed none_said m)
confirms-along e slots id m e' c b is = along e slots id SERVING (λ n. n) (confirmed none_said) (λ z. (knowledge z Idle (learned c b ∷ []) (c.seen ∷ b ∷ []), [])) m e' (λ _. (refl, omega arith)) is (λ _. confirms e slots id c b none_said)
