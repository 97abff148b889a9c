-- A message is told by its sender, its receiver and its number.
use Rattle.std.proofs.Common.{◌≡◌, ℕ, ◌+◌, ◌<◌, ◌≤◌, eqb, List, [], ◌∷◌, length, Some, refl, sym, ap, ap₂, ◌∙◌, subst, arith, inl, inr, eqb-true, eq-eqb}
use Rattle.std.specs.Prelude.{All}
use Rattle.std.proofs.lemmas.Bool.{and_from, cond-true}
use Rattle.std.proofs.lemmas.List.Elements.{All-head, All-tail}
use Rattle.acas_base.specs.Ranges.{IsCycle}
use Rattle.acas_base.specs.declared.entry.Entry.{Entry}
use Rattle.acas_base.specs.declared.entry.Entry.TheVariants.{Commit, Send, Take}
use Rattle.air_journal.specs.Ranges.{IsEntry}
use Rattle.air_rules.proofs.Legal.{allowed, earlier}
use Rattle.air_rules.proofs.Pace.{count-rises, count-yes}
use Rattle.air_rules.proofs.Positions.{chosen}
use Rattle.air_rules.specs.Air.{Air}
use Rattle.air_rules.specs.Journal.{Begins, Sent, as_sent, is_send_of, sends, sent_at}
use Rattle.air_rules.specs.Rules.{IsLegal}
use Rattle.journal_reader.proofs.Prefixes.{sent-on}

-- ---- one message has one number

-- The message of the entry that came last.
record IsLast (K : List Entry) (x : Entry) (sent : Sent) : Type 0 where
  number_is : sent.number ≡ sends K sent.sender sent.receiver + 1
  more : sends (x ∷ K) sent.sender sent.receiver ≡ sends K sent.sender sent.receiver + 1

last-sent : (air : Air) (K : List Entry) (x : Entry) (sent : Sent) → IsLegal air (x ∷ K) → as_sent x ≡ Some sent → IsLast K x sent
last-sent air K (Commit own cycle cells) sent l is = absurd (cc)
last-sent air K (Take own send copy good) sent l is = absurd (cc)
last-sent air K (Send own target number word) sent l is =
    let here : (let s : Sent = record { sender = own; receiver = target; number = number; word = word } in s) ≡ sent = cc in
    let own_is : own ≡ sent.sender = ap (λ (s : Sent). s.sender) here in
    let target_is : target ≡ sent.receiver = ap (λ (s : Sent). s.receiver) here in
    let number_is : number ≡ sent.number = ap (λ (s : Sent). s.number) here in
    record {
      number_is = sym number_is ∙ (allowed l).number_is ∙ ap₂ (λ (i j : ℕ). sends K i j + 1) own_is target_is;
      more = count-yes (is_send_of sent.sender sent.receiver) (Send own target number word) K (and_from _ _ (eq-eqb own sent.sender own_is) (eq-eqb target sent.receiver target_is));
    }

number-within : (air : Air) (K : List Entry) → IsLegal air K → (p : ℕ) (sent : Sent) → sent_at K p ≡ Some sent → sent.number ≤ sends K sent.sender sent.receiver
number-within air [] l p sent e = absurd (cc)
number-within air (x ∷ K) l p sent e = elim (chosen (eqb p (length K)) (as_sent x) (sent_at K p) (Some sent) e) [
  | inl h ↦ let is = last-sent air K x sent l h.1 in let n = is.number_is in let m = is.more in omega arith
  | inr h ↦ let before = number-within air K (earlier l) p sent h.1 in let more = count-rises (is_send_of sent.sender sent.receiver) x K in omega arith
]

-- The message that came last has another number than each earlier one.
not-before : (air : Air) (K : List Entry) (x : Entry) (a b : Sent) (q : ℕ) → IsLegal air (x ∷ K) → as_sent x ≡ Some a → sent_at K q ≡ Some b → a.sender ≡ b.sender → a.receiver ≡ b.receiver → a.number ≡ b.number → ⊥
not-before air K x a b q l here before sender receiver number =
    let last = (last-sent air K x a l here).number_is in
    let within = number-within air K (earlier l) q b before in
    let same : sends K a.sender a.receiver ≡ sends K b.sender b.receiver = ap₂ (sends K) sender receiver in
    omega arith

pub sent-once : (air : Air) (J : List Entry) → IsLegal air J → (p q : ℕ) (a b : Sent) → sent_at J p ≡ Some a → sent_at J q ≡ Some b → a.sender ≡ b.sender → a.receiver ≡ b.receiver → a.number ≡ b.number → p ≡ q
sent-once air [] l p q a b e f sender receiver number = absurd (cc)
sent-once air (x ∷ K) l p q a b e f sender receiver number = elim (chosen (eqb p (length K)) (as_sent x) (sent_at K p) (Some a) e) [
  | inl g ↦ elim (chosen (eqb q (length K)) (as_sent x) (sent_at K q) (Some b) f) [
    | inl h ↦ eqb-true p (length K) g.0 ∙ sym (eqb-true q (length K) h.0)
    | inr h ↦ absurd (not-before air K x a b q l g.1 h.1 sender receiver number)
  ]
  | inr g ↦ elim (chosen (eqb q (length K)) (as_sent x) (sent_at K q) (Some b) f) [
    | inl h ↦ absurd (not-before air K x b a p l h.1 g.1 (sym sender) (sym receiver) (sym number))
    | inr h ↦ sent-once air K (earlier l) p q a b g.1 h.1 sender receiver number
  ]
]

-- ---- the message that is sent with the entry that comes next

pub sent-next : (K J : List Entry) (x : Entry) (sent : Sent) → Begins (x ∷ K) J → as_sent x ≡ Some sent → sent_at J (length K) ≡ Some sent
sent-next K J x sent begins is = sent-on (length K) sent (x ∷ K) J begins (cond-true (eqb (length K) (length K)) (as_sent x) (sent_at K (length K)) (eq-eqb (length K) (length K) refl) ∙ is)

-- ---- its parts are in their ranges

pub record IsSentFit (crafts : ℕ) (sent : Sent) : Type 0 where
  pub sender : sent.sender < crafts
  pub receiver : sent.receiver < crafts
  pub number : IsCycle sent.number

last-fits : (crafts : ℕ) (x : Entry) (sent : Sent) → IsEntry crafts x → as_sent x ≡ Some sent → IsSentFit crafts sent
last-fits crafts (Commit own cycle cells) sent fit is = absurd (cc)
last-fits crafts (Take own send copy good) sent fit is = absurd (cc)
last-fits crafts (Send own target number word) sent fit is =
    let here : (let s : Sent = record { sender = own; receiver = target; number = number; word = word } in s) ≡ sent = cc in
    subst (λ (s : Sent). IsSentFit crafts s) here (record { sender = fit.0; receiver = fit.1; number = fit.2 })

pub sent-fits : (crafts : ℕ) (J : List Entry) → All (IsEntry crafts) J → (p : ℕ) (sent : Sent) → sent_at J p ≡ Some sent → IsSentFit crafts sent
sent-fits crafts [] all p sent e = absurd (cc)
sent-fits crafts (x ∷ K) all p sent e = elim (chosen (eqb p (length K)) (as_sent x) (sent_at K p) (Some sent) e) [
  | inl h ↦ last-fits crafts x sent (All-head (IsEntry crafts) x K all) h.1
  | inr h ↦ sent-fits crafts K (All-tail (IsEntry crafts) x K all) p sent h.1
]
