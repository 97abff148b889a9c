-- The journal of three aircraft, by computation.
use Rattle.std.proofs.Common.{◌≡◌, ℕ, zero, suc, ◌<◌, ◌≤◌, Bool, true, false, ◌&&◌, cond, eqb, eq-eqb, List, [], ◌∷◌, length, sym, refl, ◌∙◌, arith, inl, inr}
use Rattle.acas_base.specs.Encounter.{plain_copy}
use Rattle.acas_base.specs.declared.advisory.ResMsg.{ResMsg}
use Rattle.acas_base.specs.declared.advisory.Sense.TheVariants.{Down, Up}
use Rattle.acas_base.specs.declared.link.CopyPlan.{CopyPlan}
use Rattle.acas_base.specs.declared.view.View.{View}
use Rattle.air_rules.proofs.Deciding.{legal-by, owes-nothing, serial-by}
use Rattle.air_rules.proofs.ExampleWords.{IsSender, apart, reads}
use Rattle.air_rules.proofs.Legal.{allowed}
use Rattle.air_rules.specs.Air.{IsMessageOf, IsSound, is_active, is_ra}
use Rattle.air_rules.specs.Rules.{IsComplete, IsLegal}
use Rattle.air_rules.specs.Serial.{IsSerial}
use Rattle.air_rules.specs.ThreeAircraft.{IsCompleteOnceSent, RefusesOthers, after_first, copies_of, ends_in_three, goes_ahead, held, near, quiet, spoilt, starts_in_three, starts_in_two, takes_older_last, three, threat, view_of, worked}

-- What holds of both holds of either.
either : {X : Type 0} (P : X → Type 0) (b : Bool) (x y : X) → P x → P y → P (cond b x y)
either P true x y p q = p
either P false x y p q = q

abbrev AreFew : List CopyPlan → Type 0
AreFew copies = length copies ≤ 3

few : (sender receiver number : ℕ) → AreFew (copies_of sender receiver number)
few sender receiver number =
    let one = λ (copies : List CopyPlan) (h : AreFew copies) (b : Bool) (rest : List CopyPlan) (g : AreFew rest). either AreFew b copies rest h g in
    one (plain_copy ∷ spoilt ∷ []) (omega arith) (eqb sender 0 && (eqb receiver 1 && eqb number 1)) _
    (one (held 2 ∷ held 2 ∷ []) (omega arith) (eqb sender 0 && (eqb receiver 2 && eqb number 1)) _
    (one [] (omega arith) (eqb sender 0 && (eqb receiver 2 && eqb number 2)) _
    (one (held 1 ∷ []) (omega arith) (eqb sender 2 && (eqb receiver 0 && eqb number 1)) (plain_copy ∷ []) (omega arith))))

counted : (own : ℕ) → is_active three own ≡ true → own < 3
counted zero e = omega arith
counted (suc zero) e = omega arith
counted (suc (suc zero)) e = omega arith
counted (suc (suc (suc n))) e = absurd (cc)

abbrev Threatens : View → Type 0
Threatens view = view.threat ≡ true → view.resolves ≡ true

no-threat : (view : View) → view.threat ≡ false → Threatens view
no-threat view none e = absurd (let f : true ≡ false = sym e ∙ none in cc)

threat-ends : (cycle : ℕ) → Threatens (ends_in_three cycle)
threat-ends cycle =
    either Threatens (eqb cycle 2) (threat Up) (cond (eqb cycle 3) near quiet) (λ e. refl)
    (either Threatens (eqb cycle 3) near quiet (no-threat near refl) (no-threat quiet refl))

threat-starts : (cycle : ℕ) → Threatens (starts_in_two cycle)
threat-starts cycle = either Threatens (eqb cycle 1) quiet (threat Down) (no-threat quiet refl) (λ e. refl)

threat-starts-later : (cycle : ℕ) → Threatens (starts_in_three cycle)
threat-starts-later cycle =
    either Threatens (eqb cycle 1) quiet (cond (eqb cycle 2) near (threat Up)) (no-threat quiet refl)
    (either Threatens (eqb cycle 2) near (threat Up) (no-threat near refl) (λ e. refl))

threatens : (own other cycle : ℕ) → Threatens (view_of own other cycle)
threatens zero other cycle =
    either Threatens (eqb other 1) (ends_in_three cycle) (cond (eqb other 2) (starts_in_two cycle) quiet) (threat-ends cycle)
    (either Threatens (eqb other 2) (starts_in_two cycle) quiet (threat-starts cycle) (no-threat quiet refl))
threatens (suc zero) other cycle = either Threatens (eqb other 0) (starts_in_three cycle) quiet (threat-starts-later cycle) (no-threat quiet refl)
threatens (suc (suc zero)) other cycle = either Threatens (eqb other 0) (starts_in_three cycle) quiet (threat-starts-later cycle) (no-threat quiet refl)
threatens (suc (suc (suc own))) other cycle = no-threat quiet refl

resolves : (own other cycle : ℕ) → (view_of own other cycle).resolves ≡ true → is_ra three own ≡ true
resolves zero other cycle e = refl
resolves (suc zero) other cycle e = refl
resolves (suc (suc zero)) other cycle e = refl
resolves (suc (suc (suc n))) other cycle e = absurd (cc)

sender : (own : ℕ) (m : ResMsg) → IsMessageOf three own m → IsSender m.sender
sender zero m is = inr (inl is.sender)
sender (suc zero) m is = inr (inr is.sender)
sender (suc (suc zero)) m is = inl is.sender
sender (suc (suc (suc n))) m is = absurd (let e = is.resolves in cc)

pub three-sound : IsSound three
three-sound = record {
  few = few;
  counted = counted;
  threatens = threatens;
  resolves = resolves;
  reads = λ own message is. reads message (sender own message is);
  plain = λ word. refl;
  apart = λ own sent copy plan message read is e r. apart message read plan.mask (sender own message is) r;
}

pub three-serial : IsSerial three worked
three-serial = serial-by three three-sound worked refl refl refl

pub ahead-legal : IsLegal three goes_ahead
ahead-legal = legal-by three three-sound goes_ahead refl refl

pub older-last-legal : IsLegal three takes_older_last
older-last-legal = legal-by three three-sound takes_older_last refl refl

pub complete-once-sent : IsCompleteOnceSent
complete-once-sent = record {
  uncommitted = λ all. differ 3 4 refl (all 0 refl).all_cycles;
  unsent = λ all. let e = (all 2 refl).owes_nothing 0 in cc;
  untaken = all;
}
  where
    differ : (a b : ℕ) → eqb a b ≡ false → a ≡ b → ⊥
    differ a b e f = let g : false ≡ true = sym e ∙ eq-eqb a b f in cc

    all : IsComplete three (after_first 25 [])
    all zero a = record { all_cycles = refl; owes_nothing = owes-nothing three three-sound (after_first 25 []) 0 refl }
    all (suc zero) a = record { all_cycles = refl; owes_nothing = owes-nothing three three-sound (after_first 25 []) 1 refl }
    all (suc (suc zero)) a = record { all_cycles = refl; owes_nothing = owes-nothing three three-sound (after_first 25 []) 2 refl }
    all (suc (suc (suc n))) a = absurd (cc)

pub refuses-others : RefusesOthers
refuses-others = record {
  order_of_sends = λ l. let e = (allowed l).first_owed.first 1 (omega arith) in cc;
  sent_twice = λ l. let e = (allowed l).first_owed.owes in cc;
  cancelled_twice = λ l. let e = (allowed l).first_owed.owes in cc;
  taken_twice = λ l. let e : false ≡ true = (allowed l).due in cc;
  held_back = λ l. let e : false ≡ true = (allowed l).due in cc;
  not_its_own = λ l. let e : false ≡ true = (allowed l).due in cc;
  lost = λ l. let e : false ≡ true = (allowed l).due in cc;
}
