-- The call signs of the records.
use Rattle.std.proofs.Common.{◌≡◌, ◌⊎◌, inl, inr, ℕ, zero, suc, ◌<◌, ◌≤◌, Bool, true, false, ◌&&◌, not, List, [], ◌∷◌, ◌++◌, length, get_or, map, Option, Some, None, refl, sym, ◌∙◌, ap, subst, arith, length-append}
use Rattle.std.specs.Prelude.{◌↔◌, All, AllPairs, IfSome, IsSome, IsTrue, ◌==◌, ◌||◌, nat_le, option_map}
use Rattle.std.specs.List.{AllByRecursion, list_all, list_any, range_with_len}
use Rattle.std.specs.Option.{option_to_list}
use Rattle.std.specs.Str.{bytes_eq}
use Rattle.std.proofs.lemmas.Bool.{and_parts, eqb-true, false≢true, or_parts}
use Rattle.std.proofs.lemmas.Bool.Decides.{nat_tests}
use Rattle.std.proofs.lemmas.List.{append-nil, length-map}
use Rattle.std.proofs.lemmas.List.Elements.{All-filter, All-nil, All-weaker, filter_passes}
use Rattle.std.proofs.lemmas.List.Kept.{AllPairs-filter}
use Rattle.std.proofs.lemmas.List.Quantifiers.{all_pairs_push}
use Rattle.std.proofs.lemmas.Slice.Eq.{bytes_eq-Decides}
use Rattle.acas_base.specs.Encounter.{AreCalledApart, IsCall}
use Rattle.acas_base.specs.Labels.{is_call_sign, is_label, is_label_letter, is_name, is_name_letter}
use Rattle.acas_base.specs.Order.{call_below, is_below}
use Rattle.acas_base.specs.declared.craft.CraftSpec.{CraftSpec}
use Rattle.acas_base.specs.declared.label.Call.{Call}
use Rattle.enc_file.specs.Earlier.{by_group, call_by, call_group, calls_of, crafts_of, in_group, index_of, with_ceiling}
use Rattle.enc_file.specs.Faults.{comes_late, has_call, holds, is_called}
use Rattle.enc_file.specs.WellRead.{AreRead, IsNext}
use Rattle.enc_file.specs.declared.record.Record.{Record}
use Rattle.enc_file.specs.declared.record.Record.TheVariants as said
use Rattle.enc_file.proofs.Faultless.{by-read, faultless}
use Rattle.enc_file.proofs.Grouped.{pairs-flat}
use Rattle.enc_file.proofs.Listed.{AreInOrder, any-false, list-add}
use Rattle.enc_file.proofs.Named.{index-within}
use Rattle.enc_file.proofs.Pairwise.{Pairs, pairs-from-places}

-- A call sign is a label.

name-letter : (b : ℕ) → is_name_letter b ≡ true → is_label_letter b ≡ true
name-letter b is = grind (arith, nat_tests, is)

name-letters : (text : List ℕ) → list_all is_name_letter text ≡ true → list_all is_label_letter text ≡ true
name-letters [] is = refl
name-letters (b ∷ bs) is =
    let both = and_parts (is_name_letter b) (list_all is_name_letter bs) is in
    rw (name-letter b both.0) (name-letters bs both.1)

name-sized : (n : ℕ) → (nat_le 1 n && nat_le n 8) ≡ true → (nat_le 1 n && nat_le n 60) ≡ true
name-sized n is = grind (arith, nat_tests, is)

pub sign-label : (text : List ℕ) → is_call_sign text ≡ true → is_label text ≡ true
unfolding is_call_sign is_name is_label
sign-label text is =
    let name = (and_parts (is_name text) _ is).0 in
    let parts = and_parts _ (list_all is_name_letter text) name in
    rw (name-sized (length text) parts.0) (name-letters text parts.1)

-- What `Label::new` gives of a label.
pub text-found : (text : List ℕ) (o : Option (List ℕ)) → IsSome o ↔ IsTrue (is_label text) → IfSome o (λ label. label ≡ text) → is_label text ≡ true → o ≡ Some text
text-found text None some value is = absurd (cc (some.1 is))
text-found text (Some label) some value is = ap Some value

-- An aircraft has at most one.

call-test : (a b : ℕ) → (a == b && not (is_below (a, 0, 0) (b, 0, 0))) ≡ (a == b)
call-test a b = grind (arith, nat_tests)

call-late : (calls : List Call) (sign : List ℕ) (craft : ℕ) → comes_late call_group call_below calls (call_by sign craft) ≡ has_call calls craft
call-late [] sign craft = refl
call-late (call ∷ calls) sign craft = rw (call-test call.craft craft, call-late calls sign craft) refl

late-held : (o : Option ℕ) (calls : List Call) (sign : List ℕ) → holds (option_map (has_call calls) o) ≡ false → holds (option_map (λ craft. comes_late call_group call_below calls (call_by sign craft)) o) ≡ false
late-held None calls sign is = refl
late-held (Some craft) calls sign is = call-late calls sign craft ∙ is

-- No two aircraft have one.

sign-push : (o : Option ℕ) (calls : List Call) (sign : List ℕ) → AllPairs AreCalledApart calls → is_called calls sign ≡ false → AllPairs AreCalledApart (calls ++ option_to_list (option_map (call_by sign) o))
sign-push None calls sign before new = subst (AllPairs AreCalledApart) (sym (append-nil calls)) before
sign-push (Some craft) calls sign before new =
    all_pairs_push AreCalledApart calls (call_by sign craft) before
    (λ k d h same. false≢true (sym (any-false (λ (call : Call). bytes_eq call.sign sign) calls new k d h) ∙ (bytes_eq-Decides (get_or calls k d).sign sign).1 same))

-- The call signs that were read.
pub record AreCallsRead (count : ℕ) (calls : List Call) : Type 0 where
  pub order : AreInOrder (IsCall count) call_group call_below calls
  pub apart : AllPairs AreCalledApart calls

abbrev pub AreCallsOf : List Record → Type 0
AreCallsOf earlier = AreCallsRead (length (crafts_of earlier)) (calls_of earlier)

calls-more : (n m : ℕ) (calls : List Call) → n ≤ m → AreCallsRead n calls → AreCallsRead m calls
calls-more n m calls more before = record {
  order = (All-weaker (IsCall n) (IsCall m) (λ x is. record { craft = omega (arith, is.craft, more); sign = is.sign }) calls before.order.0, before.order.1);
  apart = before.apart;
}

calls-next : (earlier : List Record) (now : Record) → AreCallsOf earlier → IsNext earlier now → AreCallsOf (now ∷ earlier)
calls-next earlier (said.Craft craft) before next =
    calls-more (length (crafts_of earlier)) (length (crafts_of earlier ++ craft ∷ [])) (calls_of earlier) (omega (arith, length-append (crafts_of earlier) (craft ∷ []))) before
calls-next earlier (said.Climb address limit) before next =
    calls-more (length (crafts_of earlier)) (length (map (with_ceiling address limit) (crafts_of earlier))) (calls_of earlier)
    (omega (arith, length-map (crafts_of earlier) (with_ceiling address limit))) before
calls-next earlier (said.Call address sign) before next =
    let crafts = crafts_of earlier in
    let calls = calls_of earlier in
    let new = or_parts (holds (option_map (has_call calls) (index_of crafts address))) (is_called calls sign) (faultless earlier (said.Call address sign) next).new in
    record {
      order = list-add (IsCall (length crafts)) call_group call_below (call_by sign) (index_of crafts address) calls before.order
          (λ i is. record { craft = index-within crafts address i is; sign = next.ranges }) (late-held (index_of crafts address) calls sign new.0);
      apart = sign-push (index_of crafts address) calls sign before.apart new.1;
    }
calls-next earlier other before next = before

no-calls : AreCallsRead 0 []
no-calls = record { order = (All-nil (IsCall 0), λ i j d order end. absurd (omega (arith, end))); apart = λ i j d order end. absurd (omega (arith, end)) }

pub calls-read : (earlier : List Record) → AreRead earlier → AreCallsOf earlier
calls-read = by-read AreCallsOf no-calls (λ version. no-calls) calls-next

-- What stands between each two elements of a list stands between each two of its groups.

-- An element of a list.
abbrev In : {X : Type 0} → X → List X → Type 0
In x [] = ⊥
In x (y ∷ ys) = (x ≡ y) ⊎ In x ys

place-in : {X : Type 0} (xs : List X) (k : ℕ) (d : X) → k < length xs → In (get_or xs k d) xs
place-in [] k d h = absurd (omega (arith, h))
place-in (x ∷ xs) zero d h = inl refl
place-in (x ∷ xs) (suc k) d h = inr (place-in xs k d (omega (arith, h)))

all-in : {X : Type 0} (P : X → Type 0) (xs : List X) → AllByRecursion P xs → (x : X) → In x xs → P x
all-in P [] all x a = absurd a
all-in P (y ∷ ys) all x (inl a) = subst P (sym a) all.0
all-in P (y ∷ ys) all x (inr a) = all-in P ys all.1 x a

apart-in : {X : Type 0} (R : X → X → Type 0) (group : X → ℕ) (xs : List X) → Pairs R xs → ((x y : X) → R x y → R y x) → (x y : X) → In x xs → In y xs → (group x ≡ group y → ⊥) → R x y
apart-in R group [] pairs swap x y a b other = absurd a
apart-in R group (z ∷ zs) pairs swap x y (inl a) (inl b) other = absurd (other (ap group (a ∙ sym b)))
apart-in {X} R group (z ∷ zs) pairs swap x y (inl a) (inr b) other = subst (λ (w : X). R w y) (sym a) (all-in (R z) zs pairs.0 y b)
apart-in {X} R group (z ∷ zs) pairs swap x y (inr a) (inl b) other = swap y x (subst (λ (w : X). R w x) (sym b) (all-in (R z) zs pairs.0 x a))
apart-in R group (z ∷ zs) pairs swap x y (inr a) (inr b) other = apart-in R group zs pairs.1 swap x y a b other

groups-apart : {X : Type 0} (R : X → X → Type 0) (group : X → ℕ) (n : ℕ) (xs : List X) → ((x y : X) → R x y → R y x) → AllPairs R xs → AllPairs R (by_group group n xs)
groups-apart {X} R group n xs swap all =
    let f = in_group group xs in
    let pairs = pairs-from-places R xs (λ i j d order within. all i j d order within) in
    let of : (k : ℕ) → All (λ x. group x ≡ k) (f k) = λ k i d h. eqb-true (group (get_or (f k) i d)) k (filter_passes (λ x. group x == k) xs i d h) in
    pairs-flat R group (λ x. In x xs) f (λ k. All-filter (λ x. group x == k) (λ x. In x xs) xs (λ i d h. place-in xs i d h)) of (λ k. AllPairs-filter R (λ x. group x == k) xs all)
    (λ x y a b low. apart-in R group xs pairs swap x y a b (λ same. omega (arith, same, low))) 0 n

pub calls-apart : (n : ℕ) (calls : List Call) → AllPairs AreCalledApart calls → AllPairs AreCalledApart (by_group call_group n calls)
calls-apart n calls all = groups-apart AreCalledApart call_group n calls (λ x y other same. other (sym same)) all
