-- The fates of messages in a generated encounter.
use Rattle.std.proofs.Common.{◌≡◌, ◌≢◌, ℕ, ◌+◌, ◌<◌, ◌≤◌, ◌^◌, Bool, true, false, List, length, arith, refl}
use Rattle.std.specs.Prelude.{All, AllPairs, IsTrue, ◌==◌, ◌&&◌, not, if◌then◌else◌, count_ones}
use Rattle.std.specs.Int.Count.{ones}
use Rattle.std.proofs.lemmas.Bool.Decides.{nat_tests}
use Rattle.std.proofs.lemmas.List.Elements.{All-nil}
use Rattle.acas_base.specs.Encounter.{AreCopies, AreListed, IsCopy, IsFate, plain_copy}
use Rattle.acas_base.specs.Order.{fate_below, is_below}
use Rattle.acas_base.specs.Ranges.{IsCycle}
use Rattle.acas_base.specs.declared.craft.CraftSpec.{CraftSpec}
use Rattle.acas_base.specs.declared.link.CopyPlan.{CopyPlan}
use Rattle.acas_base.specs.declared.link.Fate.{Fate}
use Rattle.enc_gen.proofs.Each.{all-one, each-all, each-pairs, only-all, only-pairs, pairs-none, pairs-one, rising-pairs}
use Rattle.enc_gen.proofs.Legs.{later-pair}
use Rattle.enc_gen.proofs.Numbers.{bit-one, bit-small, number-small}
use Rattle.enc_gen.specs.Draws.{next_state, number_below}
use Rattle.enc_gen.specs.Fates.{damaged, fate, fate_by, fate_of, fates, held, is_link, is_ra_at, link_fates, own_fates}
use Rattle.enc_gen.specs.Making.{each, nothing, one}

no-bits : count_ones 0 ≤ 3
unfolding ones
no-bits = omega arith

plain-copy : (place copies : ℕ) → IsCopy place copies plain_copy
plain-copy place copies = record { hold = omega arith; byte = omega arith; mask = no-bits; unused = λ h. refl }

first-copy : (copies : ℕ) (first : CopyPlan) → copies ≤ 3 → IsCopy 0 copies first → AreCopies copies first plain_copy plain_copy
first-copy copies first few is = record { few = few; first = is; second = plain-copy 1 copies; third = plain-copy 2 copies }

held-copy : (s : ℕ) → IsCopy 0 1 (record { hold = 1 + number_below 5 s; mask = 0 })
held-copy s =
    let small = number-small 5 s (omega arith) in
    record { hold = omega (arith, small); byte = omega arith; mask = no-bits; unused = λ h. absurd (omega arith) }

damaged-copy : (s : ℕ) → IsCopy 0 1 (record { hold = 0; mask = 2 ^ number_below 8 s })
damaged-copy s =
    let small = number-small 8 s (omega arith) in
    record { hold = omega arith; byte = bit-small (number_below 8 s) small; mask = bit-one (number_below 8 s) small; unused = λ h. absurd (omega arith) }

-- What is true of each fate of such copies is true of the one that may be drawn.
fate-all : (P : Fate → Type 0) (sender receiver number : ℕ) → ((copies : ℕ) (first : CopyPlan) → AreCopies copies first plain_copy plain_copy → P (fate_of sender receiver number copies first))
    → (drawn s : ℕ) → All P (fate_by drawn sender receiver number s).items
unfolding fate_by
fate-all P sender receiver number each drawn s = by_test (drawn == 0) (drawn == 1) (drawn == 2) (drawn == 3) where
  by_test : (a b c d : Bool)
      → All P (if a then one (fate_of sender receiver number 0 plain_copy) s
      else if b then one (fate_of sender receiver number 2 plain_copy) s
      else if c then held sender receiver number s
      else if d then damaged sender receiver number s
      else nothing s).items
  by_test true b c d = all-one P _ (each 0 plain_copy (first-copy 0 plain_copy (omega arith) (plain-copy 0 0)))
  by_test false true c d = all-one P _ (each 2 plain_copy (first-copy 2 plain_copy (omega arith) (plain-copy 0 2)))
  by_test false false true d = all-one P _ (each 1 _ (first-copy 1 _ (omega arith) (held-copy (next_state s))))
  by_test false false false true = all-one P _ (each 1 _ (first-copy 1 _ (omega arith) (damaged-copy (next_state s))))
  by_test false false false false = All-nil P

fate-alone : (R : Fate → Fate → Type 0) (drawn sender receiver number s : ℕ) → AllPairs R (fate_by drawn sender receiver number s).items
unfolding fate_by
fate-alone R drawn sender receiver number s = by_test (drawn == 0) (drawn == 1) (drawn == 2) (drawn == 3) where
  by_test : (a b c d : Bool)
      → AllPairs R (if a then one (fate_of sender receiver number 0 plain_copy) s
      else if b then one (fate_of sender receiver number 2 plain_copy) s
      else if c then held sender receiver number s
      else if d then damaged sender receiver number s
      else nothing s).items
  by_test true b c d = pairs-one R _
  by_test false true c d = pairs-one R _
  by_test false false true d = pairs-one R _
  by_test false false false true = pairs-one R _
  by_test false false false false = pairs-none R

linked : (ra : Bool) (a b : ℕ) → IsTrue (ra && not (a == b)) → b ≢ a
linked true a b h = grind (arith, nat_tests)
linked false a b h = absurd (cc h)

link-fits : (crafts : List CraftSpec) (cycles sender receiver : ℕ) → IsCycle cycles → sender < length crafts → receiver < length crafts
    → (s : ℕ) → All (IsFate (length crafts)) (link_fates crafts cycles sender receiver s).items
link-fits crafts cycles sender receiver run first second s =
    only-all (IsFate (length crafts)) (is_link crafts sender receiver) (each (fate sender receiver) cycles) s
    (λ on. each-all (IsFate (length crafts)) (fate sender receiver) cycles s
    (λ before t h. fate-all (IsFate (length crafts)) sender receiver (before + 1)
    (λ copies plan are. record {
      pair = record { first = first; second = second; apart = linked (is_ra_at crafts receiver) receiver sender on };
      number = (omega arith, omega (arith, run.1));
      copies = are;
    })
    (number_below 10 (next_state t)) (next_state t)))

-- Of a sender, of a link, and of a message.
abbrev OfSender : ℕ → Fate → Type 0
OfSender sender f = f.sender ≡ sender

abbrev OfLink : ℕ → ℕ → Fate → Type 0
OfLink sender receiver f = (f.sender ≡ sender) × (f.receiver ≡ receiver)

record OfMessage (a b n : ℕ) (f : Fate) : Type 0 where
  sender : f.sender ≡ a
  receiver : f.receiver ≡ b
  number : f.number ≡ n + 1

abbrev AreBelow : Fate → Fate → Type 0
AreBelow a b = fate_below a b ≡ true

fate-of : (sender receiver before s : ℕ) → All (OfMessage sender receiver before) (fate sender receiver before s).items
fate-of sender receiver before s =
    fate-all (OfMessage sender receiver before) sender receiver (before + 1) (λ copies plan are. record { sender = refl; receiver = refl; number = refl }) (number_below 10 (next_state s)) (next_state s)

later-receiver : (a b c d e f : ℕ) → a ≡ d → b < e → is_below (a, b, c) (d, e, f) ≡ true
later-receiver a b c d e f same h = grind (arith, nat_tests)

later-number : (a b c d e f : ℕ) → a ≡ d → b ≡ e → c < f → is_below (a, b, c) (d, e, f) ≡ true
later-number a b c d e f one two h = grind (arith, nat_tests)

message-cross : (sender receiver i j : ℕ) (x y : Fate) → i < j → OfMessage sender receiver i x → OfMessage sender receiver j y → AreBelow x y
message-cross sender receiver i j x y h e f =
    later-number x.sender x.receiver x.number y.sender y.receiver y.number (omega (arith, e.sender, f.sender)) (omega (arith, e.receiver, f.receiver)) (omega (arith, e.number, f.number))

link-of : (crafts : List CraftSpec) (cycles sender receiver s : ℕ) → All (OfLink sender receiver) (link_fates crafts cycles sender receiver s).items
link-of crafts cycles sender receiver s =
    only-all (OfLink sender receiver) (is_link crafts sender receiver) (each (fate sender receiver) cycles) s
    (λ on. each-all (OfLink sender receiver) (fate sender receiver) cycles s (λ i t h k d g. let is = fate-of sender receiver i t k d g in (is.sender, is.receiver)))

link-pairs : (crafts : List CraftSpec) (cycles sender receiver s : ℕ) → AllPairs AreBelow (link_fates crafts cycles sender receiver s).items
link-pairs crafts cycles sender receiver s =
    only-pairs AreBelow (is_link crafts sender receiver) (each (fate sender receiver) cycles) s
    (each-pairs AreBelow (OfMessage sender receiver) (fate sender receiver) cycles s (message-cross sender receiver) (fate-of sender receiver)
    (λ before t. fate-alone AreBelow (number_below 10 (next_state t)) sender receiver (before + 1) (next_state t)))

link-cross : (sender i j : ℕ) (x y : Fate) → i < j → OfLink sender i x → OfLink sender j y → AreBelow x y
link-cross sender i j x y h e f = later-receiver x.sender x.receiver x.number y.sender y.receiver y.number (omega (arith, e.0, f.0)) (omega (arith, e.1, f.1))

own-of : (crafts : List CraftSpec) (cycles sender s : ℕ) → All (OfSender sender) (own_fates crafts cycles sender s).items
own-of crafts cycles sender s =
    only-all (OfSender sender) (is_ra_at crafts sender) (each (link_fates crafts cycles sender) (length crafts)) s
    (λ on. each-all (OfSender sender) (link_fates crafts cycles sender) (length crafts) s (λ i t h k d g. (link-of crafts cycles sender i t k d g).0))

own-pairs : (crafts : List CraftSpec) (cycles sender s : ℕ) → AllPairs AreBelow (own_fates crafts cycles sender s).items
own-pairs crafts cycles sender s =
    only-pairs AreBelow (is_ra_at crafts sender) (each (link_fates crafts cycles sender) (length crafts)) s
    (each-pairs AreBelow (OfLink sender) (link_fates crafts cycles sender) (length crafts) s (link-cross sender) (link-of crafts cycles sender) (link-pairs crafts cycles sender))

pub fates-listed : (crafts : List CraftSpec) (cycles s : ℕ) → IsCycle cycles → AreListed IsFate fate_below (length crafts) (fates crafts cycles s).items
fates-listed crafts cycles s run = (
  each-all (IsFate (length crafts)) (own_fates crafts cycles) (length crafts) s
      (λ sender t h. only-all (IsFate (length crafts)) (is_ra_at crafts sender) (each (link_fates crafts cycles sender) (length crafts)) t
      (λ on. each-all (IsFate (length crafts)) (link_fates crafts cycles sender) (length crafts) t (λ receiver u g. link-fits crafts cycles sender receiver run h g u))),
  rising-pairs fate_below (fates crafts cycles s).items
      (each-pairs AreBelow OfSender (own_fates crafts cycles) (length crafts) s
      (λ i j x y h e f. later-pair x.sender x.receiver x.number y.sender y.receiver y.number (omega (arith, e, f))) (own-of crafts cycles) (own-pairs crafts cycles)),
)
