-- What the reader asks of a record is what the rules' conditions say of the earlier records.
use Rattle.std.proofs.Common.{◌≡◌, ℕ, suc, ◌+◌, ◌<◌, ◌≤◌, Bool, true, false, ◌&&◌, ◌||◌, not, ℤ, List, [], ◌∷◌, ◌++◌, length, get_or, map, Option, Some, None, refl, sym, ap, ◌∙◌, arith, cond, one-add, length-append, eq-eqb, ne_eqb}
use Rattle.std.specs.Prelude.{AllPairs, ◌==◌, nat_le, nat_lt, is_none, is_some, option_map, if◌then◌else◌}
use Rattle.std.specs.List.{list_any, position, position_or_len}
use Rattle.std.specs.Option.{option_and_then, option_to_list}
use Rattle.std.specs.Str.{bytes_eq}
use Rattle.std.proofs.Math.Bool.{and-false, and-true, or_comm, or-false}
use Rattle.std.proofs.lemmas.Bool.{eqb-false, eqb-true, false≢true, leb-false}
use Rattle.std.proofs.lemmas.Bool.Decides.{nat_tests}
use Rattle.std.proofs.lemmas.List.Folds.{list_any-append}
use Rattle.std.proofs.lemmas.Option.{none-some}
use Rattle.acas_base.specs.Encounter.{AreApart, most_crafts}
use Rattle.acas_base.specs.Order.{fate_below, is_below, leg_below, miss_below, plan_below}
use Rattle.acas_base.specs.declared.craft.CraftSpec.{CraftSpec}
use Rattle.acas_base.specs.declared.craft.Leg.{Leg}
use Rattle.acas_base.specs.declared.craft.Miss.{Miss}
use Rattle.acas_base.specs.declared.label.Call.{Call}
use Rattle.acas_base.specs.declared.link.Fate.{Fate}
use Rattle.acas_base.specs.declared.link.LinkPlan.{LinkPlan}
use Rattle.enc_file.specs.Conditions.{has_climb, is_call_by, is_call_for, is_fate_since, is_given, is_leg_since, is_miss_until, is_plan_for, is_same_pair}
use Rattle.enc_file.specs.Earlier.{call_by, calls_of, crafts_of, fate_by, fate_group, fates_of, for_index, for_pair, index_of, leg_by, leg_group, legs_of, miss_by, miss_group, misses_of, pair_number, plan_by, plan_group, plans_of, version_of, with_ceiling}
use Rattle.enc_file.specs.Faults.{comes_late, fault_of, has_bad_mask, has_call, has_ceiling, holds, is_called, leaves_box, miscounts, names_unknown, repeats}
use Rattle.enc_file.specs.declared.record.Addresses.{Addresses}
use Rattle.enc_file.specs.declared.record.Copies.{Copies}
use Rattle.enc_file.specs.declared.record.Course.{Course}
use Rattle.enc_file.specs.declared.record.Record.{Record}
use Rattle.enc_file.specs.declared.record.Record.TheVariants as said
use Rattle.enc_file.proofs.AircraftFound.{ArePair, pair-gives}
use Rattle.enc_file.proofs.Crafted.{apart-climb, apart-push, most-few}
use Rattle.enc_file.proofs.Faultless.{chain-none}
use Rattle.enc_file.proofs.Named.{for-pair-by, index-address, index-within, pair-known, pair-of}

-- Places.

position-step : {X : Type 0} (test : X → Bool) (x : X) (xs : List X) (b : Bool) → test x ≡ b → position test (x ∷ xs) ≡ cond b (Some 0) (option_map suc (position test xs))
position-step test x xs true is =
    let within : nat_lt 0 (length (x ∷ xs)) ≡ true = grind (arith, nat_tests) in
    rw (is, within) refl
position-step test x xs false is = rw is (at (nat_lt (position_or_len test xs) (length xs)) refl) where
  at : (b : Bool) → nat_lt (position_or_len test xs) (length xs) ≡ b
      → cond (nat_lt (1 + position_or_len test xs) (length (x ∷ xs))) (Some (1 + position_or_len test xs)) None ≡ option_map suc (cond b (Some (position_or_len test xs)) None)
  at true is =
      let later : nat_lt (1 + position_or_len test xs) (length (x ∷ xs)) ≡ true = grind (arith, nat_tests, is) in
      rw later (ap Some (one-add (position_or_len test xs)))
  at false is =
      let later : nat_lt (1 + position_or_len test xs) (length (x ∷ xs)) ≡ false = grind (arith, nat_tests, is) in
      rw later refl

some-step : (b : Bool) (o : Option ℕ) → is_some (cond b (Some 0) (option_map suc o)) ≡ (b || is_some o)
some-step true o = refl
some-step false None = refl
some-step false (Some n) = refl

some-place : {X : Type 0} (test : X → Bool) (xs : List X) → is_some (position test xs) ≡ list_any test xs
some-place test [] = refl
some-place test (x ∷ xs) = ap is_some (position-step test x xs (test x) refl) ∙ some-step (test x) (position test xs) ∙ ap (λ b. test x || b) (some-place test xs)

-- A place stays where more follow, and where what is tested stays.
append-step : {X : Type 0} (test : X → Bool) (x : X) (xs ys : List X) (k : ℕ) (b : Bool) → test x ≡ b → (o : Option ℕ) → position test xs ≡ o
    → ((n : ℕ) → position test xs ≡ Some n → position test (xs ++ ys) ≡ Some n) → position test (x ∷ xs) ≡ Some k → position test (x ∷ xs ++ ys) ≡ Some k
append-step test x xs ys k true e o p later is = position-step test x (xs ++ ys) true e ∙ sym (position-step test x xs true e) ∙ is
append-step test x xs ys k false e None p later is = absurd (none-some k (ap (option_map suc) (sym p) ∙ sym (position-step test x xs false e) ∙ is))
append-step test x xs ys k false e (Some n) p later is =
    position-step test x (xs ++ ys) false e ∙ ap (option_map suc) (later n p ∙ sym p) ∙ sym (position-step test x xs false e) ∙ is

place-append : {X : Type 0} (test : X → Bool) (xs ys : List X) (k : ℕ) → position test xs ≡ Some k → position test (xs ++ ys) ≡ Some k
place-append test [] ys k is = absurd (none-some k is)
place-append test (x ∷ xs) ys k is = append-step test x xs ys k (test x) refl (position test xs) refl (λ n e. place-append test xs ys n e) is

place-map : {X : Type 0} (test : X → Bool) (f : X → X) → ((x : X) → test (f x) ≡ test x) → (xs : List X) → position test (map f xs) ≡ position test xs
place-map test f same [] = refl
place-map test f same (x ∷ xs) =
    position-step test (f x) (map f xs) (test x) (same x) ∙ ap (λ o. cond (test x) (Some 0) (option_map suc o)) (place-map test f same xs) ∙ sym (position-step test x xs (test x) refl)

ceiling-address : (b : Bool) (address : ℕ) (limit : ℤ) (craft : CraftSpec) → ((if b then record craft { ceiling = Some limit } else craft).address == address) ≡ (craft.address == address)
ceiling-address true address limit craft = refl
ceiling-address false address limit craft = refl

index-climb : (crafts : List CraftSpec) (named : ℕ) (limit : ℤ) (address : ℕ) → index_of (map (with_ceiling named limit) crafts) address ≡ index_of crafts address
index-climb crafts named limit address =
    place-map (λ (craft : CraftSpec). craft.address == address) (with_ceiling named limit) (λ craft. ceiling-address (craft.address == named) address limit craft) crafts

-- An aircraft was given if it is found.
pub given-is : (earlier : List Record) (address : ℕ) → is_given earlier address ≡ is_some (index_of (crafts_of earlier) address)
given-is earlier address = sym (some-place (λ (craft : CraftSpec). craft.address == address) (crafts_of earlier))

-- Records of which nothing is wrong with any after those before it.
abbrev pub AreSound : List Record → Type 0
AreSound [] = Unit {0}
AreSound (now ∷ earlier) = AreSound earlier × (fault_of earlier now ≡ None)

abbrev pub AreNone : List Record → Record → Type 0
AreNone earlier now = (repeats earlier now ≡ false) × (names_unknown earlier now ≡ false) × (miscounts earlier now ≡ false) × (leaves_box earlier now ≡ false) × (has_bad_mask now ≡ false)

sound-parts : (earlier : List Record) (now : Record) → fault_of earlier now ≡ None → AreNone earlier now
sound-parts earlier now sound = chain-none (repeats earlier now) (names_unknown earlier now) (miscounts earlier now) (leaves_box earlier now) (has_bad_mask now) _ _ _ _ _ sound

-- Their aircraft: not too many, and of different addresses.
pub record AreNamed (crafts : List CraftSpec) : Type 0 where
  pub few : length crafts ≤ 16
  pub apart : AllPairs AreApart crafts

length-climb : (crafts : List CraftSpec) (address : ℕ) (limit : ℤ) → length (map (with_ceiling address limit) crafts) ≡ length crafts
length-climb [] address limit = refl
length-climb (craft ∷ crafts) address limit = ap suc (length-climb crafts address limit)

pub crafts-named : (earlier : List Record) → AreSound earlier → AreNamed (crafts_of earlier)
crafts-named [] sound = record { few = omega arith; apart = λ i j d order end. absurd (omega (arith, end)) }
crafts-named (said.Craft craft ∷ earlier) sound =
    let before = crafts-named earlier sound.0 in
    let parts = sound-parts earlier (said.Craft craft) sound.1 in
    record {
      few = omega (arith, leb-false (most_crafts (version_of earlier)) (length (crafts_of earlier)) parts.2, most-few (version_of earlier), length-append (crafts_of earlier) (craft ∷ []));
      apart = apart-push (crafts_of earlier) craft before.apart parts.0;
    }
crafts-named (said.Climb address limit ∷ earlier) sound =
    let before = crafts-named earlier sound.0 in
    record { few = omega (arith, before.few, length-climb (crafts_of earlier) address limit); apart = apart-climb (crafts_of earlier) address limit before.apart }
crafts-named (other ∷ earlier) sound = crafts-named earlier sound.0

-- Aircraft keep their indices.
abbrev pub Keeps : List Record → List CraftSpec → Type 0
Keeps earlier crafts = (address k : ℕ) → index_of (crafts_of earlier) address ≡ Some k → index_of crafts address ≡ Some k

pub keeps-earlier : (now : Record) (earlier : List Record) (crafts : List CraftSpec) → Keeps (now ∷ earlier) crafts → Keeps earlier crafts
keeps-earlier (said.Craft craft) earlier crafts keeps = λ address k is. keeps address k (place-append (λ (other : CraftSpec). other.address == address) (crafts_of earlier) (craft ∷ []) k is)
keeps-earlier (said.Climb named limit) earlier crafts keeps = λ address k is. keeps address k (index-climb (crafts_of earlier) named limit address ∙ is)
keeps-earlier other earlier crafts keeps = keeps

-- What is found and what isn't.
pub some-of : {X : Type 0} (o : Option X) → is_none o ≡ false → (x : X) × (o ≡ Some x)
some-of None is = absurd (false≢true (sym is))
some-of (Some x) is = (x, refl)

-- Two addresses are equal if they have one index.
other-index : (crafts : List CraftSpec) (known asked k i : ℕ) (b : Bool) → (known == asked) ≡ false → index_of crafts known ≡ Some k → index_of crafts asked ≡ Some i → (k == i) ≡ b → b ≡ false
other-index crafts known asked k i false e is found same = refl
other-index [] known asked k i true e is found same = absurd (none-some k is)
other-index (craft ∷ crafts) known asked k i true e is found same =
    absurd (eqb-false known asked e
    (sym (index-address (craft ∷ crafts) known k craft is) ∙ ap (λ n. (get_or (craft ∷ crafts) n craft).address) (eqb-true k i same) ∙ index-address (craft ∷ crafts) asked i craft found))

index-test : (crafts : List CraftSpec) (known asked k : ℕ) (b : Bool) (o : Option ℕ) → (known == asked) ≡ b → index_of crafts known ≡ Some k → index_of crafts asked ≡ o → holds (option_map (λ i. k == i) o) ≡ b
index-test crafts known asked k true o e is found =
    let one : o ≡ Some k = sym found ∙ ap (index_of crafts) (sym (eqb-true known asked e)) ∙ is in
    ap (λ p. holds (option_map (λ i. k == i) p)) one ∙ eq-eqb k k refl
index-test crafts known asked k false None e is found = refl
index-test crafts known asked k false (Some i) e is found = other-index crafts known asked k i (k == i) e is found refl

pub same-index : (crafts : List CraftSpec) (known asked k : ℕ) → index_of crafts known ≡ Some k → holds (option_map (λ i. k == i) (index_of crafts asked)) ≡ (known == asked)
same-index crafts known asked k is = index-test crafts known asked k (known == asked) (index_of crafts asked) refl is refl

-- A test of the elements of a list, and of one more, where an index is known.
pub added : {I X : Type 0} (test : I → X → Bool) (xs : List X) (x : X) (o : Option I)
    → holds (option_map (λ i. list_any (test i) (xs ++ x ∷ [])) o) ≡ (holds (option_map (λ i. test i x) o) || holds (option_map (λ i. list_any (test i) xs) o))
added test xs x None = refl
added test xs x (Some i) = list_any-append (test i) xs (x ∷ []) ∙ or_comm (list_any (test i) xs) (test i x || false) ∙ ap (λ b. b || list_any (test i) xs) (or-false (test i x))

pub none-tested : {I : Type 0} (o : Option I) → holds (option_map (λ i. false) o) ≡ false
none-tested None = refl
none-tested (Some i) = refl

-- A part of a test that doesn't ask for the index.
pub both-tested : {I : Type 0} (test : I → Bool) (b : Bool) (o : Option I) → holds (option_map (λ i. test i && b) o) ≡ (holds (option_map test o) && b)
both-tested test b None = refl
both-tested test b (Some i) = refl

-- Of one aircraft the later number isn't below the earlier one.
leg-test : (a b f g : ℕ) → (a == b && not (is_below (a, 0, f) (b, 0, g))) ≡ (a == b && nat_le g f)
leg-test a b f g = grind (arith, nat_tests)

tests-same : {I : Type 0} (one two : I → Bool) (o : Option I) → ((i : I) → one i ≡ two i) → holds (option_map one o) ≡ holds (option_map two o)
tests-same one two None same = refl
tests-same one two (Some i) same = same i

-- The legs of an aircraft.
abbrev late_leg : Course → ℕ → Leg → Bool
late_leg course craft last = leg_group last == leg_group (leg_by course craft) && not (leg_below last (leg_by course craft))

leg-stated : (crafts : List CraftSpec) (address named k : ℕ) (course other : Course) → index_of crafts named ≡ Some k
    → holds (option_map (λ craft. late_leg course craft (leg_by other k)) (index_of crafts address)) ≡ (named == address && nat_le course.from other.from)
leg-stated crafts address named k course other is =
    tests-same (λ craft. late_leg course craft (leg_by other k)) (λ craft. k == craft && nat_le course.from other.from) (index_of crafts address) (λ craft. leg-test k craft other.from course.from)
    ∙ both-tested (λ craft. k == craft) (nat_le course.from other.from) (index_of crafts address)
    ∙ ap (λ b. b && nat_le course.from other.from) (same-index crafts named address k is)

pub legs-stated : (crafts : List CraftSpec) (address : ℕ) (course : Course) (earlier : List Record) → AreSound earlier → Keeps earlier crafts
    → holds (for_index crafts address (λ craft. comes_late leg_group leg_below (legs_of earlier) (leg_by course craft))) ≡ list_any (is_leg_since address course.from) earlier
legs-stated crafts address course [] sound keeps = none-tested (index_of crafts address)
legs-stated crafts address course (said.Leg named other ∷ earlier) sound keeps =
    let parts = sound-parts earlier (said.Leg named other) sound.1 in
    let k = some-of (index_of (crafts_of earlier) named) parts.1 in
    let leg = leg_by other k.0 in
    let given : option_to_list (for_index (crafts_of earlier) named (leg_by other)) ≡ leg ∷ [] = ap (λ o. option_to_list (option_map (leg_by other) o)) k.1 in
    ap (λ xs. holds (for_index crafts address (λ craft. list_any (late_leg course craft) (legs_of earlier ++ xs)))) given
    ∙ added (late_leg course) (legs_of earlier) leg (index_of crafts address)
    ∙ ap (λ b. b || holds (for_index crafts address (λ craft. list_any (late_leg course craft) (legs_of earlier)))) (leg-stated crafts address named k.0 course other (keeps named k.0 k.1))
    ∙ ap (λ b. (named == address && nat_le course.from other.from) || b) (legs-stated crafts address course earlier sound.0 keeps)
legs-stated crafts address course (said.Craft craft ∷ earlier) sound keeps = legs-stated crafts address course earlier sound.0 (keeps-earlier (said.Craft craft) earlier crafts keeps)
legs-stated crafts address course (said.Climb named limit ∷ earlier) sound keeps = legs-stated crafts address course earlier sound.0 (keeps-earlier (said.Climb named limit) earlier crafts keeps)
legs-stated crafts address course (other ∷ earlier) sound keeps = legs-stated crafts address course earlier sound.0 keeps

-- The call signs of an aircraft.
pub calls-stated : (crafts : List CraftSpec) (address : ℕ) (earlier : List Record) → AreSound earlier → Keeps earlier crafts
    → holds (for_index crafts address (has_call (calls_of earlier))) ≡ list_any (is_call_for address) earlier
calls-stated crafts address [] sound keeps = none-tested (index_of crafts address)
calls-stated crafts address (said.Call named sign ∷ earlier) sound keeps =
    let parts = sound-parts earlier (said.Call named sign) sound.1 in
    let k = some-of (index_of (crafts_of earlier) named) parts.1 in
    let call = call_by sign k.0 in
    let given : option_to_list (for_index (crafts_of earlier) named (call_by sign)) ≡ call ∷ [] = ap (λ o. option_to_list (option_map (call_by sign) o)) k.1 in
    ap (λ xs. holds (for_index crafts address (λ craft. list_any (λ (other : Call). other.craft == craft) (calls_of earlier ++ xs)))) given
    ∙ added (λ craft (other : Call). other.craft == craft) (calls_of earlier) call (index_of crafts address)
    ∙ ap (λ b. b || holds (for_index crafts address (has_call (calls_of earlier)))) (same-index crafts named address k.0 (keeps named k.0 k.1))
    ∙ ap (λ b. named == address || b) (calls-stated crafts address earlier sound.0 keeps)
calls-stated crafts address (said.Craft craft ∷ earlier) sound keeps = calls-stated crafts address earlier sound.0 (keeps-earlier (said.Craft craft) earlier crafts keeps)
calls-stated crafts address (said.Climb named limit ∷ earlier) sound keeps = calls-stated crafts address earlier sound.0 (keeps-earlier (said.Climb named limit) earlier crafts keeps)
calls-stated crafts address (other ∷ earlier) sound keeps = calls-stated crafts address earlier sound.0 keeps

-- And the aircraft of a call sign.
pub signs-stated : (sign : List ℕ) (earlier : List Record) → AreSound earlier → is_called (calls_of earlier) sign ≡ list_any (is_call_by sign) earlier
signs-stated sign [] sound = refl
signs-stated sign (said.Call named other ∷ earlier) sound =
    let parts = sound-parts earlier (said.Call named other) sound.1 in
    let k = some-of (index_of (crafts_of earlier) named) parts.1 in
    let given : option_to_list (for_index (crafts_of earlier) named (call_by other)) ≡ call_by other k.0 ∷ [] = ap (λ o. option_to_list (option_map (call_by other) o)) k.1 in
    ap (λ xs. is_called (calls_of earlier ++ xs) sign) given
    ∙ list_any-append (λ (call : Call). bytes_eq call.sign sign) (calls_of earlier) (call_by other k.0 ∷ [])
    ∙ or_comm (is_called (calls_of earlier) sign) (bytes_eq other sign || false) ∙ ap (λ b. b || is_called (calls_of earlier) sign) (or-false (bytes_eq other sign))
    ∙ ap (λ b. bytes_eq other sign || b) (signs-stated sign earlier sound.0)
signs-stated sign (other ∷ earlier) sound = signs-stated sign earlier sound.0

-- Of one pair.
pair-test : (a b f c d g : ℕ) → b < 16 → d < 16 → (pair_number a b == pair_number c d && not (is_below (a, b, f) (c, d, g))) ≡ ((a == c && b == d) && nat_le g f)
pair-test a b f c d g small other = grind (arith, nat_tests)

pair-parts : (same : Bool) (one two : Option ℕ) (p : ℕ × ℕ)
    → holds (option_map (λ (q : ℕ × ℕ). p.0 == q.0 && p.1 == q.1) (if same then None else option_and_then (λ first. option_map (λ second. (first, second)) two) one))
    ≡ (not same && (holds (option_map (λ i. p.0 == i) one) && holds (option_map (λ i. p.1 == i) two)))
pair-parts true one two p = refl
pair-parts false None two p = refl
pair-parts false (Some i) None p = sym (and-false (p.0 == i))
pair-parts false (Some i) (Some j) p = refl

-- Two pairs of addresses are equal if they have the same two indices.
two-apart : (a b c d : ℕ) → (a == b) ≡ false → (not (c == d) && (a == c && b == d)) ≡ (a == c && b == d)
two-apart a b c d apart = grind (arith, nat_tests)

same-pair : (crafts : List CraftSpec) (known asked : Addresses) (p : ℕ × ℕ) → ArePair crafts known p.0 p.1
    → holds (option_map (λ (q : ℕ × ℕ). p.0 == q.0 && p.1 == q.1) (pair-of crafts asked)) ≡ is_same_pair known asked
same-pair crafts known asked p are =
    pair-parts (asked.first == asked.second) (index_of crafts asked.first) (index_of crafts asked.second) p
    ∙ ap (λ b. not (asked.first == asked.second) && (b && holds (option_map (λ i. p.1 == i) (index_of crafts asked.second)))) (same-index crafts known.first asked.first p.0 are.first)
    ∙ ap (λ b. not (asked.first == asked.second) && (known.first == asked.first && b)) (same-index crafts known.second asked.second p.1 are.second)
    ∙ two-apart known.first known.second asked.first asked.second are.apart

within-tested : (crafts : List CraftSpec) (asked : Addresses) (p : ℕ × ℕ) (f g : ℕ) (o : Option (ℕ × ℕ)) → length crafts ≤ 16 → p.1 < 16 → pair-of crafts asked ≡ o
    → holds (option_map (λ (q : ℕ × ℕ). pair_number p.0 p.1 == pair_number q.0 q.1 && not (is_below (p.0, p.1, f) (q.0, q.1, g))) o)
    ≡ holds (option_map (λ (q : ℕ × ℕ). (p.0 == q.0 && p.1 == q.1) && nat_le g f) o)
within-tested crafts asked p f g None few small is = refl
within-tested crafts asked p f g (Some q) few small is = pair-test p.0 p.1 f q.0 q.1 g small (omega (arith, few, (pair-known crafts asked q is).second))

pair-stated : (crafts : List CraftSpec) (known asked : Addresses) (p : ℕ × ℕ) (f g : ℕ) → length crafts ≤ 16 → ArePair crafts known p.0 p.1
    → holds (option_map (λ (q : ℕ × ℕ). pair_number p.0 p.1 == pair_number q.0 q.1 && not (is_below (p.0, p.1, f) (q.0, q.1, g))) (pair-of crafts asked)) ≡ (is_same_pair known asked && nat_le g f)
pair-stated crafts known asked p f g few are =
    within-tested crafts asked p f g (pair-of crafts asked) few (omega (arith, few, index-within crafts known.second p.1 are.second)) refl
    ∙ both-tested (λ (q : ℕ × ℕ). p.0 == q.0 && p.1 == q.1) (nat_le g f) (pair-of crafts asked)
    ∙ ap (λ b. b && nat_le g f) (same-pair crafts known asked p are)

-- A known pair, among the earlier aircraft and among the later ones.
known-pair : (same : Bool) (one two : Option ℕ) → is_none (if same then None else option_and_then (λ first. option_map (λ second. pair_number first second) two) one) ≡ false
    → (p : ℕ × ℕ) × (same ≡ false) × (one ≡ Some p.0) × (two ≡ Some p.1)
known-pair true one two is = absurd (false≢true (sym is))
known-pair false None two is = absurd (false≢true (sym is))
known-pair false (Some i) None is = absurd (false≢true (sym is))
known-pair false (Some i) (Some j) is = ((i, j), refl, refl, refl)

pair-given : (earlier : List Record) (crafts : List CraftSpec) (pair : Addresses) → Keeps earlier crafts → is_none (for_pair (crafts_of earlier) pair pair_number) ≡ false
    → (p : ℕ × ℕ) × ArePair (crafts_of earlier) pair p.0 p.1 × ArePair crafts pair p.0 p.1
pair-given earlier crafts pair keeps is =
    let k = known-pair (pair.first == pair.second) (index_of (crafts_of earlier) pair.first) (index_of (crafts_of earlier) pair.second) is in
    (k.0, record { apart = k.1; first = k.2; second = k.3 }, record { apart = k.1; first = keeps pair.first k.0.0 k.2; second = keeps pair.second k.0.1 k.3 })

-- One more record of a pair.
pair-more : {X : Type 0} (crafts : List CraftSpec) (known asked : Addresses) (p : ℕ × ℕ) (f g : ℕ) (late : ℕ → ℕ → X → Bool) (xs more : List X) (x : X) (rest : Bool) → length crafts ≤ 16
    → ArePair crafts known p.0 p.1 → more ≡ x ∷ []
    → ((i j : ℕ) → late i j x ≡ (pair_number p.0 p.1 == pair_number i j && not (is_below (p.0, p.1, f) (i, j, g)))) → holds (for_pair crafts asked (λ i j. list_any (late i j) xs)) ≡ rest
    → holds (for_pair crafts asked (λ i j. list_any (late i j) (xs ++ more))) ≡ ((is_same_pair known asked && nat_le g f) || rest)
pair-more crafts known asked p f g late xs more x rest few are one test before =
    ap (λ ys. holds (for_pair crafts asked (λ i j. list_any (late i j) (xs ++ ys)))) one
    ∙ ap holds (for-pair-by crafts asked (λ i j. list_any (late i j) (xs ++ x ∷ [])))
    ∙ added (λ (q : ℕ × ℕ). late q.0 q.1) xs x (pair-of crafts asked)
    ∙ ap (λ b. b || holds (option_map (λ (q : ℕ × ℕ). list_any (late q.0 q.1) xs) (pair-of crafts asked)))
    (tests-same (λ (q : ℕ × ℕ). late q.0 q.1 x) (λ (q : ℕ × ℕ). pair_number p.0 p.1 == pair_number q.0 q.1 && not (is_below (p.0, p.1, f) (q.0, q.1, g))) (pair-of crafts asked) (λ q. test q.0 q.1)
    ∙ pair-stated crafts known asked p f g few are)
    ∙ ap (λ b. (is_same_pair known asked && nat_le g f) || b) (sym (ap holds (for-pair-by crafts asked (λ i j. list_any (late i j) xs))) ∙ before)

nothing-asked : (crafts : List CraftSpec) (asked : Addresses) → holds (for_pair crafts asked (λ i j. false)) ≡ false
nothing-asked crafts asked = ap holds (for-pair-by crafts asked (λ i j. false)) ∙ none-tested (pair-of crafts asked)

abbrev late_miss : ℕ → ℕ → ℕ → ℕ → Miss → Bool
late_miss from to first_craft second_craft last = miss_group last == miss_group (miss_by from to first_craft second_craft) && not (miss_below last (miss_by from to first_craft second_craft))

pub misses-stated : (crafts : List CraftSpec) (asked : Addresses) (from to : ℕ) (earlier : List Record) → length crafts ≤ 16 → AreSound earlier → Keeps earlier crafts
    → holds (for_pair crafts asked (λ i j. comes_late miss_group miss_below (misses_of earlier) (miss_by from to i j))) ≡ list_any (is_miss_until asked from) earlier
misses-stated crafts asked from to [] few sound keeps = nothing-asked crafts asked
misses-stated crafts asked from to (said.Miss known first last ∷ earlier) few sound keeps =
    let parts = sound-parts earlier (said.Miss known first last) sound.1 in
    let k = pair-given earlier crafts known keeps parts.1 in
    pair-more crafts known asked k.0 last from (late_miss from to) (misses_of earlier) (option_to_list (for_pair (crafts_of earlier) known (miss_by first last))) (miss_by first last k.0.0 k.0.1) (list_any (is_miss_until asked from) earlier) few k.2
    (ap option_to_list (pair-gives (crafts_of earlier) known k.0.0 k.0.1 (miss_by first last) k.1)) (λ i j. refl) (misses-stated crafts asked from to earlier few sound.0 keeps)
misses-stated crafts asked from to (said.Craft craft ∷ earlier) few sound keeps = misses-stated crafts asked from to earlier few sound.0 (keeps-earlier (said.Craft craft) earlier crafts keeps)
misses-stated crafts asked from to (said.Climb named limit ∷ earlier) few sound keeps = misses-stated crafts asked from to earlier few sound.0 (keeps-earlier (said.Climb named limit) earlier crafts keeps)
misses-stated crafts asked from to (other ∷ earlier) few sound keeps = misses-stated crafts asked from to earlier few sound.0 keeps

abbrev late_plan : Copies → ℕ → ℕ → LinkPlan → Bool
late_plan copies first_craft second_craft last = plan_group last == plan_group (plan_by copies first_craft second_craft) && not (plan_below last (plan_by copies first_craft second_craft))

pub plans-stated : (crafts : List CraftSpec) (asked : Addresses) (copies : Copies) (earlier : List Record) → length crafts ≤ 16 → AreSound earlier → Keeps earlier crafts
    → holds (for_pair crafts asked (λ i j. comes_late plan_group plan_below (plans_of earlier) (plan_by copies i j))) ≡ list_any (is_plan_for asked) earlier
plans-stated crafts asked copies [] few sound keeps = nothing-asked crafts asked
plans-stated crafts asked copies (said.Plan known others ∷ earlier) few sound keeps =
    let parts = sound-parts earlier (said.Plan known others) sound.1 in
    let k = pair-given earlier crafts known keeps parts.1 in
    pair-more crafts known asked k.0 0 0 (late_plan copies) (plans_of earlier) (option_to_list (for_pair (crafts_of earlier) known (plan_by others))) (plan_by others k.0.0 k.0.1) (list_any (is_plan_for asked) earlier) few k.2
    (ap option_to_list (pair-gives (crafts_of earlier) known k.0.0 k.0.1 (plan_by others) k.1)) (λ i j. refl) (plans-stated crafts asked copies earlier few sound.0 keeps)
    ∙ ap (λ b. b || list_any (is_plan_for asked) earlier) (and-true (is_same_pair known asked))
plans-stated crafts asked copies (said.Craft craft ∷ earlier) few sound keeps = plans-stated crafts asked copies earlier few sound.0 (keeps-earlier (said.Craft craft) earlier crafts keeps)
plans-stated crafts asked copies (said.Climb named limit ∷ earlier) few sound keeps = plans-stated crafts asked copies earlier few sound.0 (keeps-earlier (said.Climb named limit) earlier crafts keeps)
plans-stated crafts asked copies (other ∷ earlier) few sound keeps = plans-stated crafts asked copies earlier few sound.0 keeps

abbrev late_fate : ℕ → Copies → ℕ → ℕ → Fate → Bool
late_fate number copies first_craft second_craft last = fate_group last == fate_group (fate_by number copies first_craft second_craft) && not (fate_below last (fate_by number copies first_craft second_craft))

pub fates-stated : (crafts : List CraftSpec) (asked : Addresses) (number : ℕ) (copies : Copies) (earlier : List Record) → length crafts ≤ 16 → AreSound earlier → Keeps earlier crafts
    → holds (for_pair crafts asked (λ i j. comes_late fate_group fate_below (fates_of earlier) (fate_by number copies i j))) ≡ list_any (is_fate_since asked number) earlier
fates-stated crafts asked number copies [] few sound keeps = nothing-asked crafts asked
fates-stated crafts asked number copies (said.Fate known n others ∷ earlier) few sound keeps =
    let parts = sound-parts earlier (said.Fate known n others) sound.1 in
    let k = pair-given earlier crafts known keeps parts.1 in
    pair-more crafts known asked k.0 n number (late_fate number copies) (fates_of earlier) (option_to_list (for_pair (crafts_of earlier) known (fate_by n others))) (fate_by n others k.0.0 k.0.1) (list_any (is_fate_since asked number) earlier) few k.2
    (ap option_to_list (pair-gives (crafts_of earlier) known k.0.0 k.0.1 (fate_by n others) k.1)) (λ i j. refl) (fates-stated crafts asked number copies earlier few sound.0 keeps)
fates-stated crafts asked number copies (said.Craft craft ∷ earlier) few sound keeps = fates-stated crafts asked number copies earlier few sound.0 (keeps-earlier (said.Craft craft) earlier crafts keeps)
fates-stated crafts asked number copies (said.Climb named limit ∷ earlier) few sound keeps = fates-stated crafts asked number copies earlier few sound.0 (keeps-earlier (said.Climb named limit) earlier crafts keeps)
fates-stated crafts asked number copies (other ∷ earlier) few sound keeps = fates-stated crafts asked number copies earlier few sound.0 keeps

-- An aircraft that was found has a ceiling.
any-other : (crafts : List CraftSpec) (address : ℕ) → ((k : ℕ) (d : CraftSpec) → k < length crafts → (get_or crafts k d).address ≡ address → ⊥)
    → list_any (λ (craft : CraftSpec). craft.address == address && is_some craft.ceiling) crafts ≡ false
any-other [] address other = refl
any-other (craft ∷ crafts) address other =
    let here : (craft.address == address) ≡ false = ne_eqb craft.address address (λ e. other 0 craft (omega arith) e) in
    rw here (any-other crafts address (λ k d h. other (suc k) d (omega arith)))

abbrev climbs : ℕ → CraftSpec → Bool
climbs address craft = craft.address == address && is_some craft.ceiling

ceiling-later : (craft : CraftSpec) (crafts : List CraftSpec) (o : Option ℕ) → holds (option_map (has_ceiling (craft ∷ crafts)) (option_map suc o)) ≡ holds (option_map (has_ceiling crafts) o)
ceiling-later craft crafts None = refl
ceiling-later craft crafts (Some i) = refl

ceiling-step : (craft : CraftSpec) (crafts : List CraftSpec) (address : ℕ) (b : Bool) → (craft.address == address) ≡ b → AllPairs AreApart (craft ∷ crafts)
    → holds (for_index crafts address (has_ceiling crafts)) ≡ list_any (climbs address) crafts
    → holds (for_index (craft ∷ crafts) address (has_ceiling (craft ∷ crafts))) ≡ ((b && is_some craft.ceiling) || list_any (climbs address) crafts)
ceiling-step craft crafts address true e apart before =
    let none = any-other crafts address (λ k d h same. apart 0 (suc k) d (omega arith) (omega arith) (eqb-true craft.address address e ∙ sym same)) in
    ap (λ o. holds (option_map (has_ceiling (craft ∷ crafts)) o)) (position-step (λ (other : CraftSpec). other.address == address) craft crafts true e)
    ∙ sym (ap (λ b. is_some craft.ceiling || b) none ∙ or-false (is_some craft.ceiling))
ceiling-step craft crafts address false e apart before =
    ap (λ o. holds (option_map (has_ceiling (craft ∷ crafts)) o)) (position-step (λ (other : CraftSpec). other.address == address) craft crafts false e)
    ∙ ceiling-later craft crafts (index_of crafts address) ∙ before

ceiling-at : (crafts : List CraftSpec) (address : ℕ) → AllPairs AreApart crafts → holds (for_index crafts address (has_ceiling crafts)) ≡ list_any (climbs address) crafts
ceiling-at [] address apart = refl
ceiling-at (craft ∷ crafts) address apart =
    ceiling-step craft crafts address (craft.address == address) refl apart (ceiling-at crafts address (λ i j d order within. apart (suc i) (suc j) d (omega arith) (omega arith)))

pub climb-stated : (earlier : List Record) (address : ℕ) → AreSound earlier → holds (for_index (crafts_of earlier) address (has_ceiling (crafts_of earlier))) ≡ has_climb earlier address
climb-stated earlier address sound = ceiling-at (crafts_of earlier) address (crafts-named earlier sound).apart

-- Aircraft that are unknown.
pub index-stated : (earlier : List Record) (address : ℕ) → is_none (index_of (crafts_of earlier) address) ≡ not (is_given earlier address)
index-stated earlier address = ap not (sym (given-is earlier address))

none-paired : (same : Bool) (one two : Option ℕ) → is_none (if same then None else option_and_then (λ first. option_map (λ second. pair_number first second) two) one) ≡ (is_none one || (is_none two || same))
none-paired true None two = refl
none-paired true (Some i) None = refl
none-paired true (Some i) (Some j) = refl
none-paired false None two = refl
none-paired false (Some i) None = refl
none-paired false (Some i) (Some j) = refl

pub unknown-stated : (earlier : List Record) (pair : Addresses)
    → is_none (for_pair (crafts_of earlier) pair pair_number) ≡ (not (is_given earlier pair.first) || (not (is_given earlier pair.second) || pair.first == pair.second))
unknown-stated earlier pair =
    none-paired (pair.first == pair.second) (index_of (crafts_of earlier) pair.first) (index_of (crafts_of earlier) pair.second)
    ∙ ap (λ b. b || (is_none (index_of (crafts_of earlier) pair.second) || pair.first == pair.second)) (index-stated earlier pair.first)
    ∙ ap (λ b. not (is_given earlier pair.first) || (b || pair.first == pair.second)) (index-stated earlier pair.second)
