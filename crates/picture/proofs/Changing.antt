-- An arrow stands for each take that changes what is in force.
use Rattle.std.proofs.Common.{◌≡◌, ℕ, ◌+◌, ◌<◌, ◌≤◌, eqb, List, [], ◌∷◌, ◌++◌, Option, Some, None, length, option_map, refl, sym, ap, ap₂, ◌∙◌, subst, arith, inl, inr, eqb-true}
use Rattle.std.specs.Prelude.{◌≢◌, ◌&&◌, Bool, false, true, option_to_list}
use Rattle.std.specs.List.{AllByRecursion}
use Rattle.std.proofs.lemmas.Bool.{and_parts, cases_Bool, cond-false, cond-true}
use Rattle.acas_base.specs.Encounter.{Parts}
use Rattle.acas_base.specs.declared.advisory.Vrc.{Vrc}
use Rattle.acas_base.specs.declared.advisory.Vrc.TheVariants.{Nil, NotAbove, NotBelow}
use Rattle.acas_base.specs.declared.entry.Entry.{Entry}
use Rattle.acas_base.specs.declared.entry.Entry.TheVariants.{Commit, Send, Take}
use Rattle.air_journal.specs.Airs.{air_of}
use Rattle.air_rules.proofs.Beginnings.{begins-length, begins-on}
use Rattle.air_rules.proofs.Pace.{count-rises, count-yes}
use Rattle.air_rules.specs.Air.{Air}
use Rattle.air_rules.specs.Journal.{Begins, Sent, commits, is_commit_of, more, sent_at, whole}
use Rattle.air_rules.specs.Takes.{complement_from, is_from}
use Rattle.journal_reader.proofs.Prefixes.{sent-on}
use Rattle.journal_reader.specs.Reading.{read_of}
use Rattle.page_marks.proofs.Bounded.{all-append}
use Rattle.picture.proofs.Messaging.{arrows-more, arrows-none}
use Rattle.picture.specs.Laws.{AreArrows, AreRising, IsArrowOf, SomeSets}
use Rattle.picture.specs.Messages.{arrow_for, arrow_of, arrows_in, is_same_complement, origin_of, taking_by}
use Rattle.picture.specs.declared.messages_read.Arrow.{Arrow}
use Rattle.picture.specs.declared.messages_read.Origin.{Origin}

-- ---- complements

same-self : (v : Vrc) → is_same_complement v v ≡ true
same-self Nil = refl
same-self NotBelow = refl
same-self NotAbove = refl

same-is : (a b : Vrc) → is_same_complement a b ≡ true → a ≡ b
same-is Nil Nil h = refl
same-is Nil NotBelow h = absurd (cc)
same-is Nil NotAbove h = absurd (cc)
same-is NotBelow Nil h = absurd (cc)
same-is NotBelow NotBelow h = refl
same-is NotBelow NotAbove h = absurd (cc)
same-is NotAbove Nil h = absurd (cc)
same-is NotAbove NotBelow h = absurd (cc)
same-is NotAbove NotAbove h = refl

apart : (a b : Vrc) → is_same_complement a b ≡ false → a ≢ b
apart a b h same = (let z : true ≡ false = sym (same-self a) ∙ ap (is_same_complement a) same ∙ h in cc)

-- ---- some arrow sets it

some-right : (xs ys : List Arrow) (own other from to : ℕ) (vrc : Vrc) → SomeSets ys own other from to vrc → SomeSets (xs ++ ys) own other from to vrc
some-right [] ys own other from to vrc h = h
some-right (x ∷ xs) ys own other from to vrc h = inr (some-right xs ys own other from to vrc h)

some-left : (xs ys : List Arrow) (own other from to : ℕ) (vrc : Vrc) → SomeSets xs own other from to vrc → SomeSets (xs ++ ys) own other from to vrc
some-left [] ys own other from to vrc h = absurd h
some-left (x ∷ xs) ys own other from to vrc (inl h) = inl h
some-left (x ∷ xs) ys own other from to vrc (inr h) = inr (some-left xs ys own other from to vrc h)

some-wider : (xs : List Arrow) (own other from to up : ℕ) (vrc : Vrc) → to ≤ up → SomeSets xs own other from to vrc → SomeSets xs own other from up vrc
some-wider [] own other from to up vrc wide h = h
some-wider (x ∷ xs) own other from to up vrc wide (inl s) = inl (record { receiver = s.receiver; sender = s.sender; low = s.low; high = (let h = s.high in omega (arith, h, wide)); after = s.after })
some-wider (x ∷ xs) own other from to up vrc wide (inr h) = inr (some-wider xs own other from to up vrc wide h)

-- ---- what changes it

-- A take that changes what is in force on an aircraft from another one takes a good copy of a message of that one.
pub record Changes (K : List Entry) (own other : ℕ) (x : Entry) : Type 0 where
  pub send : ℕ
  pub copy : ℕ
  pub sent : Sent
  pub is : x ≡ Take own send copy true
  pub here : sent_at K send ≡ Some sent
  pub sender : sent.sender ≡ other

from-sent : (o : Option Sent) (other : ℕ) → is_from o other ≡ true → (sent : Sent) × (o ≡ Some sent) × (sent.sender ≡ other)
from-sent None other h = absurd (cc)
from-sent (Some sent) other h = (sent, refl, eqb-true sent.sender other h)

changed-by : (air : Air) (K : List Entry) (own other craft send copy : ℕ) (good : Bool) →
    complement_from air (Take craft send copy good ∷ K) own other ≢ complement_from air K own other → good && (eqb craft own && is_from (sent_at K send) other) ≡ true
changed-by air K own other craft send copy good differs = elim (cases_Bool (good && (eqb craft own && is_from (sent_at K send) other))) [
  | inl met ↦ met
  | inr unmet ↦ absurd (differs (same unmet))
]
  where
    same : good && (eqb craft own && is_from (sent_at K send) other) ≡ false → complement_from air (Take craft send copy good ∷ K) own other ≡ complement_from air K own other
    same unmet = rw unmet refl

changing : (air : Air) (K : List Entry) (own other : ℕ) (x : Entry) → commits (x ∷ K) own ≡ commits K own → complement_from air (x ∷ K) own other ≢ complement_from air K own other → Changes K own other x
changing air K own other (Commit craft cycle cells) none differs = elim (cases_Bool (eqb craft own)) [
  | inl met ↦ absurd (let yes_more = count-yes (is_commit_of own) (Commit craft cycle cells) K met in omega (arith, yes_more, none))
  | inr unmet ↦ absurd (differs (rw unmet refl))
]
changing air K own other (Send craft target number word) none differs = absurd (differs refl)
changing air K own other (Take craft send copy good) none differs =
    let met = changed-by air K own other craft send copy good differs in
    let one = and_parts good (eqb craft own && is_from (sent_at K send) other) met in
    let two = and_parts (eqb craft own) (is_from (sent_at K send) other) one.1 in
    let by = from-sent (sent_at K send) other two.1 in
    record {
      send = send;
      copy = copy;
      sent = by.0;
      is = ap₂ (λ (i : ℕ) (g : Bool). Take i send copy g) (eqb-true craft own two.0) one.0;
      here = by.1;
      sender = by.2;
    }

-- ---- its arrow

-- Who is told of, and what.
abbrev new-arrow : (e : Parts) (J K : List Entry) (own send : ℕ) (x : Entry) (sent : Sent) → Arrow
new-arrow e J K own send x sent = record {
  taking = taking_by e K own send (origin_of sent);
  sent_after = commits (read_of J send) sent.sender;
  after = complement_from (air_of e) (x ∷ K) own sent.sender;
}

arrow-there : (e : Parts) (J K : List Entry) (own send copy : ℕ) (good : Bool) (sent : Sent) → sent_at J send ≡ Some sent →
    is_same_complement (complement_from (air_of e) K own sent.sender) (complement_from (air_of e) (Take own send copy good ∷ K) own sent.sender) ≡ false →
    arrow_of e J K (Take own send copy good) ≡ Some (new-arrow e J K own send (Take own send copy good) sent)
arrow-there e J K own send copy good sent here unmet =
    let x = Take own send copy good in
    ap (λ (o : Option Sent). arrow_for e J (x ∷ K) (option_map (taking_by e K own send) (option_map origin_of o))) here
    ∙ cond-false (is_same_complement (complement_from (air_of e) K own sent.sender) (complement_from (air_of e) (x ∷ K) own sent.sender)) None (Some (new-arrow e J K own send x sent)) unmet

flipped : (a b : Vrc) → b ≢ a → is_same_complement a b ≡ false
flipped a b differs = elim (cases_Bool (is_same_complement a b)) [
  | inl met ↦ absurd (differs (sym (same-is a b met)))
  | inr unmet ↦ unmet
]

sets-last : (e : Parts) (J K : List Entry) (own other from : ℕ) (x : Entry) → Begins (x ∷ K) J → from ≤ length K → Changes K own other x →
    complement_from (air_of e) (x ∷ K) own other ≢ complement_from (air_of e) K own other →
    SomeSets (option_to_list (arrow_of e J K x)) own other from (length K + 1) (complement_from (air_of e) (x ∷ K) own other)
sets-last e J K own other from x begins low c differs =
    let send = c.send in
    let sent = c.sent in
    let y = Take own send c.copy true in
    let here : sent_at J send ≡ Some sent = sent-on send sent K J (begins-on begins (more whole)) c.here in
    let other_is = c.sender in
    let apart_too : complement_from (air_of e) (y ∷ K) own sent.sender ≢ complement_from (air_of e) K own sent.sender =
    subst (λ (n : ℕ). complement_from (air_of e) (y ∷ K) own n ≢ complement_from (air_of e) K own n) (sym other_is) (subst (λ (z : Entry). complement_from (air_of e) (z ∷ K) own other ≢ complement_from (air_of e) K own other) c.is differs) in
    let there = arrow-there e J K own send c.copy true sent here (flipped (complement_from (air_of e) K own sent.sender) (complement_from (air_of e) (y ∷ K) own sent.sender) apart_too) in
    subst (λ (z : Entry). SomeSets (option_to_list (arrow_of e J K z)) own other from (length K + 1) (complement_from (air_of e) (z ∷ K) own other)) (sym c.is)
    (subst (λ (o : Option Arrow). SomeSets (option_to_list o) own other from (length K + 1) (complement_from (air_of e) (y ∷ K) own other)) (sym there)
    (inl (record { receiver = refl; sender = other_is; low = low; high = omega arith; after = ap (complement_from (air_of e) (y ∷ K) own) other_is })))

commits-rise : (i : ℕ) (L M : List Entry) → Begins L M → commits L i ≤ commits M i
commits-rise i L M whole = omega arith
commits-rise i L M (more {entry = y} {journal = N} h) =
    let low = commits-rise i L N h in
    let up = count-rises (is_commit_of i) y N in
    omega (arith, low, up)

-- Along the journal.
some-sets : (e : Parts) (J P M : List Entry) (own other : ℕ) → Begins P M → Begins M J → commits P own ≡ commits M own →
    complement_from (air_of e) P own other ≢ complement_from (air_of e) M own other → SomeSets (arrows_in e J M) own other (length P) (length M) (complement_from (air_of e) M own other)
some-sets e J P M own other whole inside none differs = absurd (differs refl)
some-sets e J P M own other (more {entry = x} {journal = K} b) inside none differs =
    let rises = count-rises (is_commit_of own) x K in
    let low = commits-rise own P K b in
    let same : commits (x ∷ K) own ≡ commits K own = omega (arith, rises, low, none) in
    let still : commits P own ≡ commits K own = omega (arith, rises, low, none) in
    let size = begins-length P K b in
    let before = complement_from (air_of e) K own other in
    let after = complement_from (air_of e) (x ∷ K) own other in
    let back = λ (xs : List Arrow) (s : SomeSets xs own other (length P) (length K + 1) after). subst (λ (n : ℕ). SomeSets xs own other (length P) n after) (let n : length K + 1 ≡ length (x ∷ K) = omega arith in n) s in
    subst (λ (xs : List Arrow). SomeSets xs own other (length P) (length (x ∷ K)) after) (sym (arrows-more e J K x))
    (elim (cases_Bool (is_same_complement before after)) [
      | inl met ↦
          let is : before ≡ after = same-is before after met in
          let earlier = some-sets e J P K own other b (begins-on inside (more whole)) still (λ h. differs (h ∙ is)) in
          some-left (arrows_in e J K) (option_to_list (arrow_of e J K x)) own other (length P) (length (x ∷ K)) after
          (subst (λ (v : Vrc). SomeSets (arrows_in e J K) own other (length P) (length (x ∷ K)) v) is (some-wider (arrows_in e J K) own other (length P) (length K) (length (x ∷ K)) before (omega arith) earlier))
      | inr unmet ↦
          let changed : after ≢ before = λ h. apart before after unmet (sym h) in
          some-right (arrows_in e J K) (option_to_list (arrow_of e J K x)) own other (length P) (length (x ∷ K)) after
          (back (option_to_list (arrow_of e J K x)) (sets-last e J K own other (length P) x inside size (changing (air_of e) K own other x same changed) changed))
    ])

-- ---- each arrow stands for a change

arrow-is : (e : Parts) (J K : List Entry) (own send copy : ℕ) (good : Bool) → Begins (Take own send copy good ∷ K) J → (o : Option Sent) → sent_at J send ≡ o →
    AllByRecursion (IsArrowOf e J) (option_to_list (arrow_for e J (Take own send copy good ∷ K) (option_map (taking_by e K own send) (option_map origin_of o))))
arrow-is e J K own send copy good begins None is = tt
arrow-is e J K own send copy good begins (Some sent) is =
    let x = Take own send copy good in
    let before = complement_from (air_of e) K own sent.sender in
    let after = complement_from (air_of e) (x ∷ K) own sent.sender in
    let same = is_same_complement before after in
    let arrow = new-arrow e J K own send x sent in
    elim (cases_Bool same) [
      | inl met ↦ subst (λ (o : Option Arrow). AllByRecursion (IsArrowOf e J) (option_to_list o)) (sym (cond-true same None (Some arrow) met)) tt
      | inr unmet ↦
          let differs : after ≢ before = λ h. apart before after unmet (sym h) in
          let by = changed-by (air_of e) K own sent.sender own send copy good differs in
          let one = and_parts good (eqb own own && is_from (sent_at K send) sent.sender) by in
          let two = and_parts (eqb own own) (is_from (sent_at K send) sent.sender) one.1 in
          let found = from-sent (sent_at K send) sent.sender two.1 in
          let there : sent_at J send ≡ Some found.0 = sent-on send found.0 K J (begins-on begins (more whole)) found.1 in
          let same_sent : found.0 ≡ sent = (let z : Some found.0 ≡ Some sent = sym there ∙ is in cc) in
          subst (λ (o : Option Arrow). AllByRecursion (IsArrowOf e J) (option_to_list o)) (sym (cond-false same None (Some arrow) unmet)) (
            record {
              earlier = K;
              copy = copy;
              sent = sent;
              there = subst (λ (g : Bool). Begins (Take own send copy g ∷ K) J) one.0 begins;
              found = found.1 ∙ ap Some same_sent;
              sender = refl;
              number = refl;
              position = refl;
              sent_after = refl;
              taken_after = refl;
              before = refl;
              after = ap (λ (g : Bool). complement_from (air_of e) (Take own send copy g ∷ K) own sent.sender) one.0;
              changes = apart before after unmet;
            },
            tt,
          )
    ]

last-is : (e : Parts) (J K : List Entry) (x : Entry) → Begins (x ∷ K) J → AllByRecursion (IsArrowOf e J) (option_to_list (arrow_of e J K x))
last-is e J K (Commit own cycle cells) begins = tt
last-is e J K (Send own target number word) begins = tt
last-is e J K (Take own send copy good) begins = arrow-is e J K own send copy good begins (sent_at J send) refl

each-is : (e : Parts) (J K : List Entry) → Begins K J → AllByRecursion (IsArrowOf e J) (arrows_in e J K)
each-is e J [] begins = subst (AllByRecursion (IsArrowOf e J)) (sym (arrows-none e J)) tt
each-is e J (x ∷ K) begins =
    subst (AllByRecursion (IsArrowOf e J)) (sym (arrows-more e J K x))
    (all-append (IsArrowOf e J) (arrows_in e J K) (option_to_list (arrow_of e J K x)) (each-is e J K (begins-on begins (more whole))) (last-is e J K x begins))

-- ---- their order

abbrev IsAt : ℕ → Arrow → Type 0
IsAt position arrow = arrow.taking.take ≡ position

abbrev IsBelow : ℕ → Arrow → Type 0
IsBelow position arrow = arrow.taking.take < position

arrow-at : (e : Parts) (J K read : List Entry) (own send : ℕ) (o : Option Origin) → AllByRecursion (IsAt (length K)) (option_to_list (arrow_for e J read (option_map (taking_by e K own send) o)))
arrow-at e J K read own send None = tt
arrow-at e J K read own send (Some origin) =
    let after = complement_from (air_of e) read own origin.sender in
    let same = is_same_complement (complement_from (air_of e) K own origin.sender) after in
    let arrow : Arrow = record { taking = taking_by e K own send origin; sent_after = commits (read_of J send) origin.sender; after = after } in
    elim (cases_Bool same) [
      | inl met ↦ subst (λ (o : Option Arrow). AllByRecursion (IsAt (length K)) (option_to_list o)) (sym (cond-true same None (Some arrow) met)) tt
      | inr unmet ↦ subst (λ (o : Option Arrow). AllByRecursion (IsAt (length K)) (option_to_list o)) (sym (cond-false same None (Some arrow) unmet)) (refl, tt)
    ]

last-at : (e : Parts) (J K : List Entry) (x : Entry) → AllByRecursion (IsAt (length K)) (option_to_list (arrow_of e J K x))
last-at e J K (Commit own cycle cells) = tt
last-at e J K (Send own target number word) = tt
last-at e J K (Take own send copy good) = arrow-at e J K (Take own send copy good ∷ K) own send (option_map origin_of (sent_at J send))

all-below : (n m : ℕ) (xs : List Arrow) → n ≤ m → AllByRecursion (IsBelow n) xs → AllByRecursion (IsBelow m) xs
all-below n m [] up h = tt
all-below n m (x ∷ xs) up h = ((let one = h.0 in omega (arith, up, one)), all-below n m xs up h.1)

at-below : (n : ℕ) (o : Option Arrow) → AllByRecursion (IsAt n) (option_to_list o) → AllByRecursion (IsBelow (n + 1)) (option_to_list o)
at-below n None h = tt
at-below n (Some arrow) h = ((let one = h.0 in omega (arith, one)), tt)

at-rising : (n : ℕ) (o : Option Arrow) → AllByRecursion (IsAt n) (option_to_list o) → AreRising n (option_to_list o)
at-rising n None h = tt
at-rising n (Some arrow) h = ((let one = h.0 in omega (arith, one)), tt)

takes-below : (e : Parts) (J K : List Entry) → AllByRecursion (IsBelow (length K)) (arrows_in e J K)
takes-below e J [] = subst (AllByRecursion (IsBelow 0)) (sym (arrows-none e J)) tt
takes-below e J (x ∷ K) =
    let size : length K + 1 ≡ length (x ∷ K) = omega arith in
    subst (λ (n : ℕ). AllByRecursion (IsBelow n) (arrows_in e J (x ∷ K))) size (subst (AllByRecursion (IsBelow (length K + 1))) (sym (arrows-more e J K x))
    (all-append (IsBelow (length K + 1)) (arrows_in e J K) (option_to_list (arrow_of e J K x)) (all-below (length K) (length K + 1) (arrows_in e J K) (omega arith) (takes-below e J K)) (at-below (length K) (arrow_of e J K x) (last-at e J K x))))

lower : (from n : ℕ) (xs : List Arrow) → from ≤ n → AreRising n xs → AreRising from xs
lower from n [] low h = tt
lower from n (x ∷ xs) low h = ((let one = h.0 in omega (arith, low, one)), h.1)

rising-more : (from n : ℕ) (xs ys : List Arrow) → AreRising from xs → AllByRecursion (IsBelow n) xs → from ≤ n → AreRising n ys → AreRising from (xs ++ ys)
rising-more from n [] ys h below low rising = lower from n ys low rising
rising-more from n (x ∷ xs) ys h below low rising = (h.0, rising-more (x.taking.take + 1) n xs ys h.1 below.1 (let one = below.0 in omega (arith, one)) rising)

rising : (e : Parts) (J K : List Entry) → AreRising 0 (arrows_in e J K)
rising e J [] = subst (AreRising 0) (sym (arrows-none e J)) tt
rising e J (x ∷ K) =
    subst (AreRising 0) (sym (arrows-more e J K x))
    (rising-more 0 (length K) (arrows_in e J K) (option_to_list (arrow_of e J K x)) (rising e J K) (takes-below e J K) (omega arith) (at-rising (length K) (arrow_of e J K x) (last-at e J K x)))

-- ---- all of it

-- What one arrow of a beginning sets, one of the journal does.
some-on : (e : Parts) (J M N : List Entry) → Begins M N → (own other from to : ℕ) (vrc : Vrc) → SomeSets (arrows_in e J M) own other from to vrc → SomeSets (arrows_in e J N) own other from to vrc
some-on e J M N whole own other from to vrc h = h
some-on e J M N (more {entry = x} {journal = K} b) own other from to vrc h =
    subst (λ (xs : List Arrow). SomeSets xs own other from to vrc) (sym (arrows-more e J K x))
    (some-left (arrows_in e J K) (option_to_list (arrow_of e J K x)) own other from to vrc (some-on e J M K b own other from to vrc h))

pub are-arrows : (e : Parts) (J : List Entry) → AreArrows e J
are-arrows e J = record {
  each = each-is e J J whole;
  in_order = rising e J J;
  all = λ earlier later own other before inside none differs.
      some-on e J later J inside own other (length earlier) (length later) (complement_from (air_of e) later own other) (some-sets e J earlier later own other before inside none differs);
}
