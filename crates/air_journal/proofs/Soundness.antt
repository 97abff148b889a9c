-- The air of an encounter is sound.
use Rattle.std.proofs.Common.{◌≡◌, ℕ, ◌<◌, ◌≤◌, Bool, true, false, List, [], ◌∷◌, length, take, Option, Some, None, sym, refl, ap, ◌∙◌, subst, arith, inl, inr, count_ones, length-take}
use Rattle.std.specs.Prelude.{All, IfSome, IsTrue, find, is_some, option_map, slice_get, unwrap_or, cond}
use Rattle.std.specs.Option.{option_map_or}
use Rattle.std.specs.Int.Bits.{xor_zero_r}
use Rattle.std.specs.Int.Count.{ones}
use Rattle.std.proofs.lemmas.Bool.{cases_Bool, cases_lt}
use Rattle.std.proofs.lemmas.List.Elements.{All-cons, All-get_or, All-head, All-nil, All-tail, All-take}
use Rattle.std.proofs.lemmas.Option.{get_or_from_slice_get, slice_get_past, slice_get_within}
use Rattle.acas_base.specs.Encounter.{AreCopies, IsCraft, IsEncounter, IsFate, IsPlan, Parts, is_active_kind, is_ra_kind}
use Rattle.acas_base.specs.Fates.{fate_by, fate_of, is_fate_of, is_plan_of, plain_fate, usual_fate}
use Rattle.acas_base.specs.Ranges.{IsAddress}
use Rattle.acas_base.specs.declared.advisory.ResMsg.{ResMsg}
use Rattle.acas_base.specs.declared.craft.CraftSpec.{CraftSpec}
use Rattle.acas_base.specs.declared.craft.Kind.{Kind}
use Rattle.acas_base.specs.declared.link.CopyPlan.{CopyPlan}
use Rattle.acas_base.specs.declared.link.Fate.{Fate}
use Rattle.acas_base.specs.declared.link.LinkPlan.{LinkPlan}
use Rattle.air_journal.specs.Airs.{air_of}
use Rattle.air_rules.specs.Air.{IsMessageOf, IsSound, copy_plan, is_active, is_ra}
use Rattle.air_rules.specs.Journal.{Sent}
use Rattle.craft_view.proofs.Resolving.{resolves-as-own, see-nothing, threatens}
use Rattle.craft_view.specs.Sight.{other_craft}
use Rattle.craft_view.specs.Views.{view_of}
use Rattle.res_message.proofs.Distance.{distance}
use Rattle.res_message.proofs.Fields.{is-read, is-word, reads}
use Rattle.res_message.specs.Words.{flip_word, read_word, word_of}

-- ---- the copies of a message

-- What was found is one of the list, and so all that holds of these holds of it.
found : {X : Type 0} (P : X → Type 0) (test : X → Bool) (xs : List X) (x : X) → All P xs → find test xs ≡ Some x → P x
found P test [] x all is = absurd (cc)
found P test (y ∷ ys) x all is = elim (cases_Bool (test y)) [
  | inl passes ↦ let same : Some y ≡ Some x = sym (ap (λ t. cond t (Some y) (find test ys)) passes) ∙ is in let e : y ≡ x = cc in subst P e (All-head P y ys all)
  | inr fails ↦ found P test ys x (All-tail P y ys all) (sym (ap (λ t. cond t (Some y) (find test ys)) fails) ∙ is)
]

-- Each fate of an encounter has three copies at most, and their masks three bits at most.
abbrev pub HasCopies : Fate → Type 0
HasCopies fate = AreCopies fate.copies fate.first fate.second fate.third

plain-copies : (sender receiver number : ℕ) → HasCopies (plain_fate sender receiver number)
unfolding ones
plain-copies sender receiver number = record {
  few = omega arith;
  first = record { hold = omega arith; byte = omega arith; mask = omega arith; unused = λ _. refl };
  second = record { hold = omega arith; byte = omega arith; mask = omega arith; unused = λ _. refl };
  third = record { hold = omega arith; byte = omega arith; mask = omega arith; unused = λ _. refl };
}

usual-copies : (e : Parts) → IsEncounter e → (sender receiver number : ℕ) → HasCopies (usual_fate e sender receiver number)
usual-copies e is sender receiver number = by_plan (find (is_plan_of sender receiver) e.plans) refl
  where
    by_plan : (o : Option LinkPlan) → find (is_plan_of sender receiver) e.plans ≡ o → HasCopies (option_map_or (fate_by number) o (plain_fate sender receiver number))
    by_plan None f = plain-copies sender receiver number
    by_plan (Some plan) f = (found (IsPlan (length e.crafts)) (is_plan_of sender receiver) e.plans plan is.records.plans.0 f).copies

pub copies-fit : (e : Parts) → IsEncounter e → (sender receiver number : ℕ) → HasCopies (fate_of e sender receiver number)
copies-fit e is sender receiver number = by_record (find (is_fate_of sender receiver number) e.fates) refl
  where
    by_record : (o : Option Fate) → find (is_fate_of sender receiver number) e.fates ≡ o → HasCopies (unwrap_or o (usual_fate e sender receiver number))
    by_record None f = usual-copies e is sender receiver number
    by_record (Some fate) f = (found (IsFate (length e.crafts)) (is_fate_of sender receiver number) e.fates fate is.records.fates.0 f).copies

-- What holds of three holds of each of the first so many of them.
one-of-three : {X : Type 0} (P : X → Type 0) (n k : ℕ) (a b c x : X) → P a → P b → P c → slice_get (take n (a ∷ b ∷ c ∷ [])) k ≡ Some x → P x
one-of-three P n k a b c x one two three is =
    let all : All P (take n (a ∷ b ∷ c ∷ [])) = All-take P n (a ∷ b ∷ c ∷ []) (All-cons P a (b ∷ c ∷ []) one (All-cons P b (c ∷ []) two (All-cons P c [] three (All-nil P)))) in
    subst P (get_or_from_slice_get (take n (a ∷ b ∷ c ∷ [])) k x a is) (All-get_or P (take n (a ∷ b ∷ c ∷ [])) k a (slice_get_within (take n (a ∷ b ∷ c ∷ [])) k x is) all)

-- A byte with few bits set.
abbrev IsMask : ℕ → Type 0
IsMask mask = (mask < 256) × (count_ones mask ≤ 3)

is-mask : (e : Parts) → IsEncounter e → (sent : Sent) (copy : ℕ) (plan : CopyPlan) → copy_plan (air_of e) sent copy ≡ Some plan → IsMask plan.mask
is-mask e is sent copy plan found_at =
    let fate = fate_of e sent.sender sent.receiver sent.number in
    let fit = copies-fit e is sent.sender sent.receiver sent.number in
    one-of-three (λ (p : CopyPlan). IsMask p.mask) fate.copies copy fate.first fate.second fate.third plan
    (fit.first.byte, fit.first.mask) (fit.second.byte, fit.second.mask) (fit.third.byte, fit.third.mask) found_at

-- ---- the words of messages

-- An aircraft that resolves has an address.
pub message-address : (e : Parts) → IsEncounter e → (own : ℕ) (message : ResMsg) → IsMessageOf (air_of e) own message → IsAddress message.sender
message-address e is own message sent = by_craft (slice_get e.crafts own) refl sent.resolves sent.sender
  where
    by_craft : (o : Option CraftSpec) → slice_get e.crafts own ≡ o → option_map_or is_ra_kind (option_map (λ (craft : CraftSpec). craft.kind) o) false ≡ true
        → message.sender ≡ option_map_or (λ (craft : CraftSpec). craft.address) o 0 → IsAddress message.sender
    by_craft None at ra from = absurd (cc)
    by_craft (Some craft) at ra from =
        let all : IsCraft craft = subst IsCraft (get_or_from_slice_get e.crafts own craft craft at) (All-get_or IsCraft e.crafts own craft (slice_get_within e.crafts own craft at) is.crafts.ranges) in
        subst IsAddress (sym from) all.address

read-if-at-all : (message : ResMsg) (mask : ℕ) (read : ResMsg) → IsAddress message.sender → IsMask mask → read_word (flip_word (word_of message) mask) ≡ Some read → read ≡ message
read-if-at-all message mask read address byte is =
    let fact = is-read (flip_word (word_of message) mask) (λ (n : ResMsg). n ≡ message) (λ n b e. distance message n mask address b byte.0 byte.1 (sym e)) in
    subst (λ (o : Option ResMsg). IfSome o (λ n. n ≡ message)) is fact

-- ---- the aircraft

active-within : (e : Parts) (own : ℕ) → is_active (air_of e) own ≡ true → own < length e.crafts
active-within e own active = elim (cases_lt own (length e.crafts)) [
  | inl within ↦ within
  | inr past ↦ absurd (let none : is_active (air_of e) own ≡ false = ap (λ (o : Option CraftSpec). option_map_or is_active_kind (option_map (λ (craft : CraftSpec). craft.kind) o) false) (slice_get_past e.crafts own past) in cc)
]

resolves-ra : (e : Parts) (own other cycle : ℕ) → (view_of e own other cycle).resolves ≡ true → is_ra (air_of e) own ≡ true
resolves-ra e own other cycle is = by_craft (other_craft e own other) refl
  where
    by_craft : (o : Option CraftSpec) → other_craft e own other ≡ o → is_ra (air_of e) own ≡ true
    by_craft None none = absurd (let view = see-nothing e own other cycle none in cc)
    by_craft (Some craft) some =
        let here : IsTrue (is_some (other_craft e own other)) = ap is_some some in
        let mine = (resolves-as-own e own other cycle here).0 is in
        ap (λ (o : Option Kind). option_map_or is_ra_kind o false) mine.kind

pub sound-of : (e : Parts) → IsEncounter e → IsSound (air_of e)
sound-of e is = record {
  few = λ sender receiver number.
      let fate = fate_of e sender receiver number in
      let short = (copies-fit e is sender receiver number).few in
      omega (arith, length-take fate.copies (fate.first ∷ fate.second ∷ fate.third ∷ []));
  counted = active-within e;
  threatens = λ own other cycle threat. (threatens e own other cycle threat).resolves;
  resolves = resolves-ra e;
  reads = λ own message sent. reads message (word_of message) (is-word message (message-address e is own message sent));
  plain = xor_zero_r;
  apart = λ own sent copy plan message read of here is-read. read-if-at-all message plan.mask read (message-address e is own message of) (is-mask e is sent copy plan here) is-read;
}
