-- What the columns of a line say of one another.
use Rattle.std.proofs.Common.{◌≡◌, ◌∙◌, ℕ, ◌*◌, ◌/◌, ◌≤◌, Bool, true, false, List, Option, Some, None, arith, refl, sym, ap, ap₂, subst}
use Rattle.std.specs.Prelude.{◌&&◌, ◌||◌, ℤ, pos, ◌*ℤ◌, ◌+ℤ◌, ◌-ℤ◌, ◌≤ℤ◌, ◌<ℤ◌, IfSome, if◌then◌else◌, int_le, int_lt, is_some, nat_le, option_map, unsigned_abs}
use Rattle.std.specs.Option.{option_map_or}
use Rattle.std.proofs.lemmas.Bool.Decides.{nat_tests}
use Rattle.std.proofs.lemmas.Int.{ints}
use Rattle.acas_base.specs.Choice.{calls_for_reversal, chosen_sense, gives_alim, has_alim, has_enough_by_level, has_to_reverse, is_chase, separation_of, strongest, weakens as weakens_to_level}
use Rattle.acas_base.specs.Encounter.{IsEncounter, Parts}
use Rattle.acas_base.specs.Next.{new_advisory}
use Rattle.acas_base.specs.Senses.{holds_of, neither, other_sense, sense_of}
use Rattle.acas_base.specs.declared.advisory.Cell.{Cell}
use Rattle.acas_base.specs.declared.advisory.Cell.TheVariants as cells
use Rattle.acas_base.specs.declared.advisory.Cells.{Cells}
use Rattle.acas_base.specs.declared.advisory.Intent.{Intent}
use Rattle.acas_base.specs.declared.advisory.Rank.{Rank}
use Rattle.acas_base.specs.declared.advisory.Sense.{Sense}
use Rattle.acas_base.specs.declared.advisory.Sense.TheVariants.{Down, Up}
use Rattle.acas_base.specs.declared.advisory.Vrc.{Vrc}
use Rattle.acas_base.specs.declared.entry.Entry.{Entry}
use Rattle.acas_base.specs.declared.level.Row.{Row}
use Rattle.acas_base.specs.declared.setting.Profile.TheVariants.{One}
use Rattle.acas_base.specs.declared.choice.BySense.{BySense}
use Rattle.acas_base.specs.declared.choice.Choice.TheVariants.{Fresh, Steady, Urgent}
use Rattle.acas_base.specs.declared.view.View.{View}
use Rattle.acas_num.proofs.Quotients.{quotient}
use Rattle.air_journal.specs.Airs.{air_of}
use Rattle.air_rules.specs.Rules.{IsLegal}
use Rattle.craft_view.specs.Hits.{is_hit}
use Rattle.craft_view.specs.Sight.{sight_of}
use Rattle.craft_view.specs.declared.motion.Motion.{Motion}
use Rattle.craft_view.specs.declared.own.OwnAircraft.{OwnAircraft}
use Rattle.reasons.proofs.Explaining.{both, commit-explained}
use Rattle.reasons.proofs.Sighted.{IsPlain, IsSighted, alim-whole, by-profile, first-is, first_by_motion, first_by_row, plain-seen, profile-is, sighted, threat-projects, view_by_motion, view_by_row}
use Rattle.reasons.specs.Agreeing.{Agrees, AgreesOnChoice, AreAgreeing, AreAgreeingOnChoice, GoesBySeconds, are_within_tau, resolves}
use Rattle.reasons.specs.Explained.{Explains, GoesOn, IsExplained, untested, starts, starts_as_told, traffic, quiet, ends_below_level, ends_without_threat, obeys, reverses, strengthens, keeps, weakens, capped}
use Rattle.reasons.specs.Fields.{tenths_of}
use Rattle.reasons.specs.Reasons.{reason_of}
use Rattle.reasons.specs.Seen.{seen_of}
use Rattle.reasons.specs.Shown.{continued_after, continued_of, is_projected, projected_of, shown_of, tested_of}
use Rattle.reasons.specs.declared.rules.Rule.{Rule}
use Rattle.reasons.specs.declared.rules.Rule.TheVariants.{Starts, Reverses, Weakens}
use Rattle.reasons.specs.declared.seen.Seen.{Seen}
use Rattle.test_seconds.proofs.Testing.{altitude-goes, range-goes}
use Rattle.test_seconds.specs.Pair.{seconds_of}

-- ---- the tests

-- Both tests of a pair.
hit-goes : (m : Motion) (row : Row) → is_hit m row ≡ are_within_tau (seconds_of m row)
unfolding seconds_of
hit-goes m row = ap₂ ◌&&◌ (range-goes m.range.est m.range.rate row) (altitude-goes (m.target.est -ℤ m.own.est) (m.target.rate -ℤ m.own.rate) row)

traffic-goes : (own : OwnAircraft) (m : Motion) (o : Option Row) → (first_by_row own m o).traffic ≡ are_within_tau (seconds_of m own.level.ta)
traffic-goes own m None = hit-goes m own.level.ta
traffic-goes own m (Some row) = hit-goes m own.level.ta

threat-goes : (own : OwnAircraft) (m : Motion) (o : Option Row) → (first_by_row own m o).threat ≡ option_map_or are_within_tau (option_map (seconds_of m) o) false
threat-goes own m None = refl
threat-goes own m (Some row) = hit-goes m row

tested-goes : (own : OwnAircraft) (m : Motion) → GoesBySeconds (tested_of own (first_by_row own m own.resolution) m)
unfolding tested_of
tested-goes own m = record { traffic = traffic-goes own m own.resolution; threat = threat-goes own m own.resolution }

tests-by : (own : OwnAircraft) (b : Bool) (o : Option Motion) (v : View) → v ≡ first_by_motion own b o → IfSome (option_map (tested_of own v) o) GoesBySeconds
tests-by own b None v is = tt
tests-by own b (Some m) v is = subst (λ (v : View). GoesBySeconds (tested_of own v m)) (sym is) (tested-goes own m)

tests-agree : (seen : Seen) → IsSighted seen → seen.own.aircraft.profile ≡ One → IfSome (shown_of seen).tested GoesBySeconds
unfolding shown_of
tests-agree seen is one = tests-by seen.own.aircraft is.resolves seen.motion seen.view (first-is seen is one)

-- ---- where own aircraft resolves

some-if : {X : Type 0} (b : Bool) (x : X) → is_some (if b then Some x else None) ≡ b
some-if true x = refl
some-if false x = refl

projected-by-row : (own : OwnAircraft) (m : Motion) (o : Option Row) → is_projected (view_by_row own m o) ≡ is_some (option_map (seconds_of m) o)
projected-by-row own m None = refl
projected-by-row own m (Some row) = by-profile own.profile own m row

projected-by : (own : OwnAircraft) (b : Bool) (o : Option Motion) (v : View) → v ≡ view_by_motion own b o → is_projected v ≡ resolves (option_map (tested_of own v) o)
unfolding tested_of
projected-by own b None v is = ap is_projected is
projected-by own b (Some m) v is = ap is_projected is ∙ projected-by-row own m own.resolution

resolves-agree : (seen : Seen) → IsSighted seen → is_some (shown_of seen).projected ≡ resolves (shown_of seen).tested
unfolding shown_of
resolves-agree seen is = some-if (is_projected seen.view) (projected_of seen.view) ∙ projected-by seen.own.aircraft is.resolves seen.motion seen.view is.view_is

-- ---- a rule and what it asks

record AsksToStart (view : View) (cell : Cell) : Type 0 where
  threat : view.threat ≡ true
  cell_is : cell ≡ new_advisory view (chosen_sense view)

asks-to-start : (view : View) (complement : Vrc) (rank : Rank) (before : Cell) (rule : Rule) (cell : Cell) → Explains view complement rank before rule cell → rule ≡ Starts → AsksToStart view cell
asks-to-start view complement rank before rule cell (untested h) e = absurd cc
asks-to-start view complement rank before rule cell (starts none tested threat nil) e = record { threat = threat; cell_is = refl }
asks-to-start view complement rank before rule cell (starts_as_told none h g f) e = absurd cc
asks-to-start view complement rank before rule cell (traffic none h g f) e = absurd cc
asks-to-start view complement rank before rule cell (quiet none h g f) e = absurd cc
asks-to-start view complement rank before rule cell (ends_below_level h g) e = absurd cc
asks-to-start view complement rank before rule cell (ends_without_threat h g f d) e = absurd cc
asks-to-start view complement rank before rule cell (obeys goes h g) e = absurd cc
asks-to-start view complement rank before rule cell (reverses goes h g f) e = absurd cc
asks-to-start view complement rank before rule cell (strengthens goes h g) e = absurd cc
asks-to-start view complement rank before rule cell (keeps goes h g) e = absurd cc
asks-to-start view complement rank before rule cell (weakens goes h g f) e = absurd cc
asks-to-start view complement rank before rule cell (capped goes h g f d) e = absurd cc

record AsksToWeaken (view : View) (before : Cell) : Type 0 where
  it : Intent
  before_is : before ≡ cells.Ra it
  goes : GoesOn it view
  level : weakens_to_level it view ≡ true

asks-to-weaken : (view : View) (complement : Vrc) (rank : Rank) (before : Cell) (rule : Rule) (cell : Cell) → Explains view complement rank before rule cell → rule ≡ Weakens → AsksToWeaken view before
asks-to-weaken view complement rank before rule cell (untested h) e = absurd cc
asks-to-weaken view complement rank before rule cell (starts none h g f) e = absurd cc
asks-to-weaken view complement rank before rule cell (starts_as_told none h g f) e = absurd cc
asks-to-weaken view complement rank before rule cell (traffic none h g f) e = absurd cc
asks-to-weaken view complement rank before rule cell (quiet none h g f) e = absurd cc
asks-to-weaken view complement rank before rule cell (ends_below_level h g) e = absurd cc
asks-to-weaken view complement rank before rule cell (ends_without_threat h g f d) e = absurd cc
asks-to-weaken view complement rank before rule cell (obeys goes h g) e = absurd cc
asks-to-weaken view complement rank before rule cell (reverses goes h g f) e = absurd cc
asks-to-weaken view complement rank before rule cell (strengthens goes h g) e = absurd cc
asks-to-weaken view complement rank before rule cell (keeps goes h g) e = absurd cc
asks-to-weaken view complement rank before rule cell (weakens {it = it} goes h g level) e = record { it = it; before_is = refl; goes = goes; level = level }
asks-to-weaken view complement rank before rule cell (capped goes h g f d) e = absurd cc

record AsksToReverse (view : View) (before : Cell) : Type 0 where
  it : Intent
  before_is : before ≡ cells.Ra it
  goes : GoesOn it view
  calls : has_to_reverse it view ≡ true

asks-to-reverse : (view : View) (complement : Vrc) (rank : Rank) (before : Cell) (rule : Rule) (cell : Cell) → Explains view complement rank before rule cell → rule ≡ Reverses → AsksToReverse view before
asks-to-reverse view complement rank before rule cell (untested h) e = absurd cc
asks-to-reverse view complement rank before rule cell (starts none h g f) e = absurd cc
asks-to-reverse view complement rank before rule cell (starts_as_told none h g f) e = absurd cc
asks-to-reverse view complement rank before rule cell (traffic none h g f) e = absurd cc
asks-to-reverse view complement rank before rule cell (quiet none h g f) e = absurd cc
asks-to-reverse view complement rank before rule cell (ends_below_level h g) e = absurd cc
asks-to-reverse view complement rank before rule cell (ends_without_threat h g f d) e = absurd cc
asks-to-reverse view complement rank before rule cell (obeys goes h g) e = absurd cc
asks-to-reverse view complement rank before rule cell (reverses {it = it} goes other calls turned) e = record { it = it; before_is = refl; goes = goes; calls = calls }
asks-to-reverse view complement rank before rule cell (strengthens goes h g) e = absurd cc
asks-to-reverse view complement rank before rule cell (keeps goes h g) e = absurd cc
asks-to-reverse view complement rank before rule cell (weakens goes h g f) e = absurd cc
asks-to-reverse view complement rank before rule cell (capped goes h g f d) e = absurd cc

-- ---- tenths against whole feet

abbrev AreTenths : ℤ → ℤ → Type 0
AreTenths n q = ((q *ℤ pos 1024) ≤ℤ (pos 10 *ℤ n)) × ((pos 10 *ℤ n) <ℤ ((q +ℤ pos 1) *ℤ pos 1024))

below-feet : (feet : ℕ) (n q : ℤ) → AreTenths n q → int_lt n (pos (feet * 1024)) ≡ true → q <ℤ pos (10 * feet)
below-feet feet n q is less = let lower = is.0 in grind (arith, ints)

above-feet : (feet : ℕ) (n q : ℤ) → AreTenths n q → int_le (pos (feet * 1024)) n ≡ true → pos (10 * feet) ≤ℤ q
above-feet feet n q is more = let upper = is.1 in grind (arith, ints)

tenths-are : (n : ℤ) → AreTenths n (tenths_of n)
tenths-are n = let q = quotient (pos 10 *ℤ n) (pos 1024) (omega (arith, ints)) in (q.within, q.no_more)

whole-feet : (feet : ℕ) → unsigned_abs (pos (feet * 1024)) / 1024 ≡ feet
whole-feet feet = omega arith

-- ---- all together

on-projected : {X : Type 0} (b : Bool) (x : X) → b ≡ true → (if b then Some x else None) ≡ Some x
on-projected true x e = refl
on-projected false x e = absurd cc

continued-is : (view : View) (before : Cell) (it : Intent) → before ≡ cells.Ra it → is_projected view ≡ true → continued_after view before ≡ Some (continued_of view it)
continued-is view before it e there = ap (continued_after view) e ∙ on-projected (is_projected view) (continued_of view it) there

goes-projected : (view : View) (it : Intent) → GoesOn it view → is_projected view ≡ true
goes-projected view it goes = ap (λ (b : Bool). b && view.resolves) goes.tested ∙ goes.resolves

alim-in-feet : (view : View) (feet : ℕ) → view.alim ≡ pos (feet * 1024) → (projected_of view).alim ≡ feet
unfolding projected_of
alim-in-feet view feet e = ap (λ (n : ℤ). unsigned_abs n / 1024) e ∙ whole-feet feet

second-of : (a b : Bool) → a ≡ false → (a || b) ≡ true → b ≡ true
second-of true b none h = absurd cc
second-of false b none h = h

first-of : (a b : Bool) → b ≡ false → (a || b) ≡ true → a ≡ true
first-of true b none h = refl
first-of false b none h = absurd cc

-- Where no aircraft passes far away, an advisory weakens since its sense has ALIM.
weakens-has-alim : (view : View) (it : Intent) → IsPlain view → weakens_to_level it view ≡ true → (continued_of view it).has_alim ≡ true
unfolding continued_of
weakens-has-alim view it plain level =
    let far_or_enough = (both _ _ (both _ _ level).1).1 in
    let enough = second-of view.far (has_enough_by_level view it.sense) plain.far far_or_enough in
    (both (has_alim view it.sense) _ enough).0

-- Where there is no chase, an advisory is reversed by geometry.
no-chase : (view : View) (it : Intent) → view.chases ≡ neither → is_chase it view ≡ false
no-chase view it e = ap (λ (marks : BySense). nat_le 12 it.age && holds_of marks it.sense) e ∙ none (nat_le 12 it.age) it.sense
  where
    none : (b : Bool) (sense : Sense) → (b && holds_of neither sense) ≡ false
    none true Up = refl
    none true Down = refl
    none false sense = refl

by-geometry : (view : View) (it : Intent) → IsPlain view → has_to_reverse it view ≡ true → calls_for_reversal view it.sense ≡ true
by-geometry view it plain h = first-of (calls_for_reversal view it.sense) (is_chase it view) (no-chase view it plain.chases) h

reverses-same : (view : View) (it : Intent) (feet : ℕ) → view.enough ≡ pos (feet * 1024) → calls_for_reversal view it.sense ≡ true → (continued_of view it).same_later <ℤ pos (10 * feet)
unfolding continued_of
reverses-same view it feet e calls =
    let less = (both _ _ (both _ _ calls).1).0 in
    let n = separation_of view it.sense (strongest view it.sense Urgent) Urgent in
    below-feet feet n (tenths_of n) (tenths-are n) (subst (λ (enough : ℤ). int_lt n enough ≡ true) e less)

reverses-other : (view : View) (it : Intent) (feet : ℕ) → view.alim ≡ pos (feet * 1024) → calls_for_reversal view it.sense ≡ true → pos (10 * feet) ≤ℤ (continued_of view it).other_later
unfolding continued_of
reverses-other view it feet e calls =
    let gives = (both _ _ (both _ _ calls).1).1 in
    let other = other_sense it.sense in
    let n = separation_of view other (strongest view other Fresh) Steady in
    above-feet feet n (tenths_of n) (tenths-are n) (subst (λ (alim : ℤ). int_le alim n ≡ true) e gives)

time-left : (view : View) (sense : Sense) → calls_for_reversal view sense ≡ true → 8 ≤ (projected_of view).halves
unfolding projected_of
time-left view sense calls =
    let other = other_sense sense in
    let enough = (both (nat_le 8 view.halves) (int_lt (separation_of view sense (strongest view sense Urgent) Urgent) view.enough && gives_alim view other (strongest view other Fresh) Steady) calls).0 in
    grind (arith, nat_tests)

chosen-is : (view : View) → sense_of (new_advisory view (chosen_sense view)) ≡ Some (projected_of view).chosen
unfolding projected_of
chosen-is view = refl

on-choice : (e : Parts) (K : List Entry) (own cycle : ℕ) (made : Cells) (other : ℕ) → IsExplained e K own cycle made other → AgreesOnChoice (reason_of e K own cycle made other)
unfolding reason_of shown_of seen_of
on-choice e K own cycle made other explained =
    let seen = seen_of (sight_of e own cycle) other in
    let is = sighted (sight_of e own cycle) other in
    record {
      resolves = resolves-agree seen is;
      starts = λ rule.
          let asks = asks-to-start seen.view _ _ _ _ _ explained rule in
          record {
            projected = projected_of seen.view;
            is_projected = on-projected (is_projected seen.view) (projected_of seen.view) (threat-projects seen is asks.threat);
            sense = ap sense_of asks.cell_is ∙ chosen-is seen.view;
          };
    }

agrees : (e : Parts) (K : List Entry) (own cycle : ℕ) (made : Cells) (other : ℕ) → e.profile ≡ One → IsExplained e K own cycle made other → Agrees (reason_of e K own cycle made other)
unfolding reason_of shown_of seen_of
agrees e K own cycle made other first explained =
    let seen = seen_of (sight_of e own cycle) other in
    let is = sighted (sight_of e own cycle) other in
    let one = profile-is (sight_of e own cycle) other ∙ first in
    let plain = plain-seen seen is one in
    record {
      tests = tests-agree seen is one;
      choice = on-choice e K own cycle made other explained;
      weakens = λ rule.
          let asks = asks-to-weaken seen.view _ _ _ _ _ explained rule in
          record {
            continued = continued_of seen.view asks.it;
            is_continued = continued-is seen.view _ asks.it asks.before_is (goes-projected seen.view asks.it asks.goes);
            has_alim = weakens-has-alim seen.view asks.it plain asks.level;
          };
      reverses = λ rule.
          let asks = asks-to-reverse seen.view _ _ _ _ _ explained rule in
          let there = goes-projected seen.view asks.it asks.goes in
          let calls = by-geometry seen.view asks.it plain asks.calls in
          let alim = alim-whole seen is there in
          let feet = alim-in-feet seen.view is.feet alim in
          record {
            projected = projected_of seen.view;
            is_projected = on-projected (is_projected seen.view) (projected_of seen.view) there;
            continued = continued_of seen.view asks.it;
            is_continued = continued-is seen.view _ asks.it asks.before_is there;
            left = time-left seen.view asks.it.sense calls;
            same = subst (λ (n : ℕ). (continued_of seen.view asks.it).same_later <ℤ pos (10 * n)) (sym feet) (reverses-same seen.view asks.it is.feet (plain.enough ∙ alim) calls);
            other = subst (λ (n : ℕ). pos (10 * n) ≤ℤ (continued_of seen.view asks.it).other_later) (sym feet) (reverses-other seen.view asks.it is.feet alim calls);
          };
    }

pub choices-agree : (e : Parts) (J : List Entry) → IsEncounter e → IsLegal (air_of e) J → AreAgreeingOnChoice e J
choices-agree e J valid legal = λ K own cycle made other begins within apart. on-choice e K own cycle made other (commit-explained e J valid legal K own cycle made other begins within apart)

pub columns-agree : (e : Parts) (J : List Entry) → IsEncounter e → IsLegal (air_of e) J → e.profile ≡ One → AreAgreeing e J
columns-agree e J valid legal first = λ K own cycle made other begins within apart. agrees e K own cycle made other first (commit-explained e J valid legal K own cycle made other begins within apart)
