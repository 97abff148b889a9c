-- The journal of two aircraft, by computation.
use Rattle.std.proofs.Common.{◌≡◌, ℕ, zero, suc, ◌<◌, true, false, reverse, Some, sym, refl, ap, ◌∙◌, arith, inl, inr}
use Rattle.acas_base.specs.Senses.{sense_of}
use Rattle.acas_base.specs.declared.advisory.Cells.{Cells}
use Rattle.acas_base.specs.declared.advisory.ResMsg.{ResMsg}
use Rattle.acas_base.specs.declared.advisory.Sense.TheVariants.{Down, Up}
use Rattle.acas_base.specs.declared.advisory.Vrc.TheVariants.{Nil, NotAbove}
use Rattle.air_rules.proofs.Deciding.{in-order-of-takes, legal-by, serial-by}
use Rattle.air_rules.proofs.ExampleWords.{IsSender, apart, reads}
use Rattle.air_rules.proofs.Legal.{allowed}
use Rattle.air_rules.specs.Air.{IsMessageOf, IsSound, is_active, is_ra}
use Rattle.air_rules.specs.Example.{IsTwiceEqual, MeetsPremises, example, is_here, past_a_copy, twice_equal, view_of, watched, watching, word_of, worked, wrong_order, wrong_sense, wrong_word}
use Rattle.air_rules.specs.Journal.{cell_at}
use Rattle.air_rules.specs.Rules.{IsLegal}
use Rattle.air_rules.specs.Serial.{IsSerial}

counted : (own : ℕ) → is_active example own ≡ true → own < 2
counted zero e = omega arith
counted (suc zero) e = omega arith
counted (suc (suc n)) e = absurd (cc)

resolves : (own other cycle : ℕ) → (view_of (is_here own)).resolves ≡ true → is_ra example own ≡ true
resolves zero other cycle e = refl
resolves (suc zero) other cycle e = refl
resolves (suc (suc n)) other cycle e = absurd (cc)

sender : (own : ℕ) (m : ResMsg) → IsMessageOf example own m → IsSender m.sender
sender zero m is = inl is.sender
sender (suc zero) m is = inr (inl is.sender)
sender (suc (suc n)) m is = absurd (let e = is.resolves in cc)

pub example-sound : IsSound example
example-sound = record {
  few = λ sender receiver number. omega arith;
  counted = counted;
  threatens = λ own other cycle e. e;
  resolves = resolves;
  reads = λ own message is. reads message (sender own message is);
  plain = λ word. refl;
  apart = λ own sent copy plan message read is e r. apart message read plan.mask (sender own message is) r;
}

unresolved : (own : ℕ) → is_ra watching own ≡ false
unresolved zero = refl
unresolved (suc zero) = refl
unresolved (suc (suc n)) = refl

nobody : (own : ℕ) → is_ra watching own ≡ true → ⊥
nobody own e = let f : false ≡ true = sym (unresolved own) ∙ e in cc

watching-counted : (own : ℕ) → is_active watching own ≡ true → own < 2
watching-counted zero e = omega arith
watching-counted (suc zero) e = omega arith
watching-counted (suc (suc n)) e = absurd (cc)

watching-sound : IsSound watching
watching-sound = record {
  few = λ sender receiver number. omega arith;
  counted = watching-counted;
  threatens = λ own other cycle e. e;
  resolves = λ own other cycle e. absurd (cc);
  reads = λ own message is. absurd (nobody own is.resolves);
  plain = λ word. refl;
  apart = λ own sent copy plan message read is e r. absurd (nobody own is.resolves);
}

pub watched-serial : IsSerial watching watched
watched-serial = serial-by watching watching-sound watched refl refl refl

pub example-serial : IsSerial example worked
example-serial = serial-by example example-sound worked refl refl refl

pub premises-met : MeetsPremises
premises-met = record {
  second = record { apart = λ e. omega (arith, e); rank = refl };
  plain = λ position sent was. refl;
  in_order = in-order-of-takes worked 1 0 refl;
  taken = refl;
  mine = refl;
  theirs = refl;
  run = refl;
  sent = record { here = refl; sender = refl; receiver = refl };
  bound = record { last = refl; in_time = omega arith };
}

-- ---- what is not legal

pub wrong-sense-refused : IsLegal example (reverse wrong_sense) → ⊥
wrong-sense-refused l = let f : Some Up ≡ Some Down = ap (λ (x : Cells). sense_of (cell_at x 0)) (allowed l).cells_are in cc

pub wrong-word-refused : IsLegal example (reverse wrong_word) → ⊥
wrong-word-refused l =
    let may = allowed l in
    let message : ResMsg = record { many = false; cancel = Nil; vrc = NotAbove; sender = 1 } in
    let owes : Some message ≡ Some may.message = may.first_owed.owes in
    let same : message ≡ may.message = cc in
    not_both (word_of may.message) may.word_is (ap word_of (sym same))
  where
    not_both : (word : ℕ) → 1001 ≡ word → word ≡ 2001 → ⊥
    not_both word e f = omega arith

pub wrong-order-refused : IsLegal example (reverse wrong_order) → ⊥
wrong-order-refused l = let f : false ≡ true = (allowed l).due in cc

pub past-a-copy-refused : IsLegal example (reverse past_a_copy) → ⊥
past-a-copy-refused l = let f : true ≡ false = (allowed l).nothing_due 3 0 in cc

-- ---- what is legal, though not serial

pub twice-legal : IsTwiceEqual
twice-legal = record { legal = legal-by example example-sound (reverse twice_equal) refl refl; run = refl; both = refl }
