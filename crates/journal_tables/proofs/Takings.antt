-- The takes of all copies, entry by entry.
use Rattle.std.proofs.Common.{◌≡◌, ◌⊎◌, ℕ, ◌+◌, ◌-◌, ◌*◌, ◌<◌, ◌≤◌, Bool, true, false, cond, eqb, List, [], ◌∷◌, length, Option, Some, None, refl, replicate, sym, ap, ◌∙◌, subst, arith, inl, inr, eqb-true, eq-eqb, ne_eqb}
use Rattle.std.specs.Option.{option_or}
use Rattle.std.specs.Prelude.{option_map}
use Rattle.std.proofs.lemmas.Bool.{and_from, and_left, and_parts, and_right, cases_Bool, cases_eq}
use Rattle.std.proofs.lemmas.List.{get_or-replicate, length-replicate}
use Rattle.acas_base.specs.Encounter.{IsEncounter, Parts}
use Rattle.acas_base.specs.Ranges.{IsCycle}
use Rattle.acas_base.specs.declared.TheConstants.{CRAFTS}
use Rattle.acas_base.specs.declared.entry.Entry.{Entry}
use Rattle.acas_base.specs.declared.entry.Entry.TheVariants.{Commit, Send, Take}
use Rattle.air_journal.proofs.Bounds.{few-crafts}
use Rattle.air_journal.proofs.WellFormed.{entries-fit}
use Rattle.air_journal.specs.Airs.{air_of}
use Rattle.air_journal.specs.Ranges.{IsEntry}
use Rattle.air_journal.specs.States.{State}
use Rattle.air_rules.proofs.Beginnings.{begins-on}
use Rattle.air_rules.proofs.Legal.{allowed, legal-begins}
use Rattle.air_rules.specs.Air.{Air}
use Rattle.air_rules.specs.Due.{is_copy_due}
use Rattle.air_rules.specs.Journal.{Begins, Sent, is_take_of, more, sent_at, whole}
use Rattle.air_rules.specs.Rules.{IsLegal}
use Rattle.journal_reader.proofs.Prefixes.{holds-next, sent-on}
use Rattle.journal_tables.proofs.Numbers.{IsSentFit, sent-fits, sent-once}
use Rattle.journal_tables.specs.Kept.{AreTakes, IsWith, copy_of, copy_taken, place_of, take_at}
use Rattle.journal_tables.specs.Messages.{take_by, take_of}
use Rattle.journal_tables.specs.declared.takes.CopyTake.{CopyTake}
use Rattle.journal_tables.specs.declared.takes.MessageCopy.{MessageCopy}

abbrev no_take : Option CopyTake
no_take = None

or-nothing : {X : Type 0} (o : Option X) → option_or o None ≡ o
or-nothing None = refl
or-nothing (Some x) = refl

-- ---- places

-- A copy of a message of an encounter with so many aircraft.
pub record IsCopy (crafts : ℕ) (it : MessageCopy) : Type 0 where
  pub sender : it.way.sender < crafts
  pub receiver : it.way.receiver < CRAFTS
  pub number : IsCycle it.number
  pub copy : it.copy < 3

pub place-within : (crafts : ℕ) (it : MessageCopy) → IsCopy crafts it → place_of it < crafts * 28800
place-within crafts it is = (let a = is.sender in let b = is.receiver in let low = is.number.0 in let high = is.number.1 in let k = is.copy in omega arith)

-- One place is that of one copy.
place-same : (a b m k c d n l : ℕ) → b < 16 → IsCycle m → k < 3 → d < 16 → IsCycle n → l < 3 → ((a * 16 + b) * 600 + (m - 1)) * 3 + k ≡ ((c * 16 + d) * 600 + (n - 1)) * 3 + l →
    (a ≡ c) × (b ≡ d) × (m ≡ n) × (k ≡ l)
place-same a b m k c d n l hb hm hk hd hn hl e =
    let m0 = hm.0 in
    let m1 = hm.1 in
    let n0 = hn.0 in
    let n1 = hn.1 in
    let message : (a * 16 + b) * 600 + (m - 1) ≡ (c * 16 + d) * 600 + (n - 1) = omega arith in
    let way : a * 16 + b ≡ c * 16 + d = omega arith in
    (omega arith, omega arith, omega arith, omega arith)

copy-is : (crafts : ℕ) (sent : Sent) (copy : ℕ) → crafts ≤ CRAFTS → IsSentFit crafts sent → copy < 3 → IsCopy crafts (copy_of sent copy)
copy-is crafts sent copy few fit within = record { sender = fit.sender; receiver = (let r = fit.receiver in omega arith); number = fit.number; copy = within }

-- ---- nothing is read yet

pub none-kept : (state : State) → IsEncounter state.encounter → IsLegal (air_of state.encounter) state.journal → AreTakes state [] (replicate (length state.encounter.crafts * 28800) no_take)
none-kept state valid legal =
    let crafts = length state.encounter.crafts in
    record {
      size = length-replicate (crafts * 28800) no_take;
      each = λ send copy sent here few.
          (let fit = sent-fits crafts state.journal (entries-fit state.encounter state.journal valid legal) send sent here in
          let within = place-within crafts (copy_of sent copy) (copy-is crafts sent copy (few-crafts state.encounter valid) fit few) in
          get_or-replicate (crafts * 28800) (place_of (copy_of sent copy)) no_take no_take within);
    }

-- ---- an entry more

-- It takes no copy of any message.
pub none-taken : (state : State) (K : List Entry) (x : Entry) (takes : List (Option CopyTake)) → AreTakes state K takes → copy_taken (sent_at state.journal) x ≡ None → AreTakes state (x ∷ K) takes
none-taken state K x takes are none = record {
  size = are.size;
  each = λ send copy sent here few.
      are.each send copy sent here few ∙ sym (or-nothing (take_of air K sent.sender sent.receiver send copy))
      ∙ sym (ap (λ (b : Bool). option_or (take_of air K sent.sender sent.receiver send copy) (cond b (Some (take_by air K x sent.sender sent.receiver)) None)) (takes-no x none send copy sent here));
}
  where
    air : Air
    air = air_of state.encounter

    takes-no : (x : Entry) → copy_taken (sent_at state.journal) x ≡ None → (send copy : ℕ) (sent : Sent) → sent_at state.journal send ≡ Some sent → is_take_of sent.receiver send copy x ≡ false
    takes-no (Commit own cycle cells) e send copy sent here = refl
    takes-no (Send own target number word) e send copy sent here = refl
    takes-no (Take own of_send of_copy good) e send copy sent here = elim (cases_eq of_send send) [
      | inl same ↦ absurd (let f = ap (option_map (λ (s : Sent). copy_of s of_copy)) (ap (sent_at state.journal) same ∙ here) in cc)
      | inr other ↦ and_right (eqb own sent.receiver) _ (and_left _ _ (ne_eqb of_send send other))
    ]

-- The message of which a copy is taken goes to the taker.
due-receiver : (air : Air) (K : List Entry) (own send copy : ℕ) (o : Option Sent) → is_copy_due air K o own send copy ≡ true → (sent : Sent) → o ≡ Some sent → sent.receiver ≡ own
due-receiver air K own send copy None due sent e = absurd (cc)
due-receiver air K own send copy (Some s) due sent e = (let same : s ≡ sent = cc in sym (ap (λ (t : Sent). t.receiver) same) ∙ eqb-true s.receiver own (and_parts _ _ due).0)

sent-before : (air : Air) (K : List Entry) (own send copy : ℕ) (o : Option Sent) → is_copy_due air K o own send copy ≡ true → (s : Sent) × (o ≡ Some s)
sent-before air K own send copy None due = absurd (cc)
sent-before air K own send copy (Some s) due = (s, refl)

-- What a take of a legal journal shows of the message.
pub record Shows (state : State) (x : Entry) (copy : MessageCopy) : Type 0 where
  pub own : ℕ
  pub send : ℕ
  pub good : Bool
  pub sent : Sent
  pub entry_is : x ≡ Take own send copy.copy good
  pub here : sent_at state.journal send ≡ Some sent
  pub copy_is : copy ≡ copy_of sent copy.copy
  pub receiver : sent.receiver ≡ own
  pub within : copy.copy < 3

pub shows : (state : State) (K : List Entry) (x : Entry) (copy : MessageCopy) → IsEncounter state.encounter → IsLegal (air_of state.encounter) state.journal → Begins (x ∷ K) state.journal → copy_taken (sent_at state.journal) x ≡ Some copy →
    Shows state x copy
shows state K (Commit own cycle cells) copy valid legal begins e = absurd (cc)
shows state K (Send own target number word) copy valid legal begins e = absurd (cc)
shows state K (Take own send of_copy good) copy valid legal begins e =
    let air = air_of state.encounter in
    let J = state.journal in
    let l = legal-begins air begins legal in
    let due = (allowed l).due in
    let found = sent-before air K own send of_copy (sent_at K send) due in
    let here = sent-on send found.0 K J (begins-on begins (more whole)) found.1 in
    let fit = holds-next (IsEntry (length state.encounter.crafts)) (Take own send of_copy good) K J begins (entries-fit state.encounter J valid legal) in
    let is : Some (copy_of found.0 of_copy) ≡ Some copy = sym (ap (option_map (λ (s : Sent). copy_of s of_copy)) here) ∙ e in
    let same : copy_of found.0 of_copy ≡ copy = cc in
    let number : of_copy ≡ copy.copy = ap (λ (m : MessageCopy). m.copy) same in
    record {
      own = own;
      send = send;
      good = good;
      sent = found.0;
      entry_is = ap (λ (k : ℕ). Take own send k good) number;
      here = here;
      copy_is = sym same ∙ ap (λ (k : ℕ). copy_of found.0 k) number;
      receiver = due-receiver air K own send of_copy (sent_at K send) due found.0 found.1;
      within = (let few = fit.2 in omega arith);
    }

pub copy-fits : (state : State) (x : Entry) (copy : MessageCopy) → IsEncounter state.encounter → IsLegal (air_of state.encounter) state.journal → Shows state x copy → IsCopy (length state.encounter.crafts) copy
copy-fits state x copy valid legal s =
    let crafts = length state.encounter.crafts in
    let fit = sent-fits crafts state.journal (entries-fit state.encounter state.journal valid legal) s.send s.sent s.here in
    subst (λ (m : MessageCopy). IsCopy crafts m) (sym s.copy_is) (copy-is crafts s.sent copy.copy (few-crafts state.encounter valid) fit s.within)

-- It takes a copy of a message.
pub one-taken : (state : State) (K : List Entry) (x : Entry) (copy : MessageCopy) (old new : List (Option CopyTake)) (take : CopyTake) → IsEncounter state.encounter → IsLegal (air_of state.encounter) state.journal →
    Shows state x copy → AreTakes state K old → IsWith old new (place_of copy) take → take ≡ take_by (air_of state.encounter) K x copy.way.sender copy.way.receiver → AreTakes state (x ∷ K) new
one-taken state K x copy old new take valid legal s are with_it is = record {
  size = with_it.size ∙ are.size;
  each = λ send c sent here few. one send c sent here few (cases_Bool (is_take_of sent.receiver send c x));
}
  where
    e : Parts
    e = state.encounter

    air : Air
    air = air_of e

    J : List Entry
    J = state.journal

    crafts : ℕ
    crafts = length e.crafts

    same-sent : (a b : Sent) → Some a ≡ Some b → a ≡ b
    same-sent a b same = cc

    fits : (send : ℕ) (sent : Sent) → sent_at J send ≡ Some sent → IsSentFit crafts sent
    fits send sent here = sent-fits crafts J (entries-fit e J valid legal) send sent here

    -- The same place is that of the same copy.
    same-place : (send c : ℕ) (sent : Sent) → sent_at J send ≡ Some sent → c < 3 → place_of (copy_of sent c) ≡ place_of copy → is_take_of sent.receiver send c x ≡ true
    same-place send c sent here few at =
        let mine = copy-is crafts sent c (few-crafts e valid) (fits send sent here) few in
        let its = copy-fits state x copy valid legal s in
        let parts = place-same sent.sender sent.receiver sent.number c copy.way.sender copy.way.receiver copy.number copy.copy mine.receiver mine.number few its.receiver its.number s.within at in
        let sender = parts.0 ∙ ap (λ (m : MessageCopy). m.way.sender) s.copy_is in
        let receiver = parts.1 ∙ ap (λ (m : MessageCopy). m.way.receiver) s.copy_is in
        let number = parts.2 ∙ ap (λ (m : MessageCopy). m.number) s.copy_is in
        let at_send = sent-once air J legal s.send send s.sent sent s.here here (sym sender) (sym receiver) (sym number) in
        ap (is_take_of sent.receiver send c) s.entry_is ∙ and_from _ _ (eq-eqb s.own sent.receiver (sym s.receiver ∙ sym receiver)) (and_from _ _ (eq-eqb s.send send at_send) (eq-eqb copy.copy c (sym parts.3)))

    one : (send c : ℕ) (sent : Sent) → sent_at J send ≡ Some sent → c < 3 → (is_take_of sent.receiver send c x ≡ true) ⊎ (is_take_of sent.receiver send c x ≡ false) →
        take_at new (place_of (copy_of sent c)) ≡ take_of air (x ∷ K) sent.sender sent.receiver send c
    one send c sent here few (inl it) =
        let parts = and_parts _ _ (sym (ap (is_take_of sent.receiver send c) s.entry_is) ∙ it) in
        let both = and_parts (eqb s.send send) (eqb copy.copy c) parts.1 in
        let same = same-sent s.sent sent (sym s.here ∙ ap (sent_at J) (eqb-true s.send send both.0) ∙ here) in
        let number = eqb-true copy.copy c both.1 in
        let copy_is : copy ≡ copy_of sent c = s.copy_is ∙ (λ t. copy_of (same t) (number t)) in
        let before = take_of air K sent.sender sent.receiver send c in
        ap (λ (m : MessageCopy). take_at new (place_of m)) (sym copy_is) ∙ with_it.here
        ∙ ap (λ (o : Option CopyTake). option_or o (Some take)) (ap (λ (m : MessageCopy). take_at old (place_of m)) copy_is ∙ are.each send c sent here few)
        ∙ ap (λ (t : CopyTake). option_or before (Some t)) (is ∙ ap (λ (m : MessageCopy). take_by air K x m.way.sender m.way.receiver) copy_is)
        ∙ sym (ap (λ (b : Bool). option_or before (cond b (Some (take_by air K x sent.sender sent.receiver)) None)) it)
    one send c sent here few (inr other) =
        with_it.others (place_of (copy_of sent c)) (λ at. absurd (let t = same-place send c sent here few at in cc))
        ∙ are.each send c sent here few ∙ sym (or-nothing (take_of air K sent.sender sent.receiver send c))
        ∙ sym (ap (λ (b : Bool). option_or (take_of air K sent.sender sent.receiver send c) (cond b (Some (take_by air K x sent.sender sent.receiver)) None)) other)
