-- What one more advisory does to the advice of its sense.
use Rattle.std.proofs.Common.{◌≡◌, ◌⊎◌, inl, inr, refl, ◌<◌, ◌≤◌, Bool, true, false, ◌&&◌, ◌||◌, Option, Some, None, List, [], ◌∷◌, ◌++◌, arith, sym, ap, ◌∙◌, subst}
use Rattle.std.specs.List.{list_any}
use Rattle.std.proofs.lemmas.List.Folds.{list_any-append}
use Rattle.std.proofs.lemmas.Bool.{ne_eqb}
use Rattle.acas_base.specs.Strengths.{place_of}
use Rattle.acas_base.specs.Senses.{has_sense, is_same_sense}
use Rattle.acas_base.specs.declared.advisory.Cell.{Cell}
use Rattle.acas_base.specs.declared.advisory.Cell.TheVariants.{Clear, Traffic, Ra}
use Rattle.acas_base.specs.declared.advisory.Intent.{Intent}
use Rattle.acas_base.specs.declared.advisory.Sense.{Sense}
use Rattle.acas_base.specs.declared.advisory.Sense.TheVariants.{Up, Down}
use Rattle.acas_base.specs.declared.advisory.Strength.{Strength}
use Rattle.acas_base.specs.declared.advisory.Strength.TheVariants.{Limit2000, Limit1000, Limit500, Level, Positive, Increase}
use Rattle.advisory_report.specs.Composite.{advice_of, advises_with, is_corrective, is_crossing, is_same_strength, strongest_of}
use Rattle.advisory_report.specs.declared.composite.Advice.{Advice}
use Rattle.advisory_report.proofs.Strongest.{Told, found-is, found-tells}

itself : (strength : Strength) → is_same_strength strength strength ≡ true
itself Limit2000 = refl
itself Limit1000 = refl
itself Limit500 = refl
itself Level = refl
itself Positive = refl
itself Increase = refl

same-sense : (sense : Sense) → is_same_sense sense sense ≡ true
same-sense Up = refl
same-sense Down = refl

pub or-false : (a : Bool) → (a || false) ≡ a
or-false true = refl
or-false false = refl

pub or-true : (a : Bool) → (a || true) ≡ true
or-true true = refl
or-true false = refl

equals : (one other : Strength) → place_of one ≡ place_of other → is_same_strength one other ≡ true
equals one other h = rw h (itself other)

differs : (one other : Strength) → (place_of one ≡ place_of other → ⊥) → is_same_strength one other ≡ false
differs one other h = ne_eqb (place_of one) (place_of other) h

-- Some cell has an advisory of this sense and strength with the test.
abbrev some_with : (Intent → Bool) → Sense → Strength → List Cell → Bool
some_with test sense strength cells = list_any (advises_with test sense strength) cells

abbrev any : Intent → Bool
any advisory = true

-- The same, with one more advisory.
one-more : (test : Intent → Bool) (strength : Strength) (cells : List Cell) (it : Intent) →
    some_with test it.sense strength (cells ++ Ra it ∷ []) ≡ (some_with test it.sense strength cells || (is_same_strength it.strength strength && test it))
one-more test strength cells it =
    let f = advises_with test it.sense strength in
    list_any-append f cells (Ra it ∷ []) ∙ ap (λ b. list_any f cells || ((b && (is_same_strength it.strength strength && test it)) || false)) (same-sense it.sense)
    ∙ ap (λ b. list_any f cells || b) (or-false (is_same_strength it.strength strength && test it))

one-equal : (test : Intent → Bool) (strength : Strength) (cells : List Cell) (it : Intent) → place_of it.strength ≡ place_of strength →
    some_with test it.sense strength (cells ++ Ra it ∷ []) ≡ (some_with test it.sense strength cells || test it)
one-equal test strength cells it h = one-more test strength cells it ∙ ap (λ b. some_with test it.sense strength cells || (b && test it)) (equals it.strength strength h)

one-other : (test : Intent → Bool) (strength : Strength) (cells : List Cell) (it : Intent) → (place_of it.strength ≡ place_of strength → ⊥) →
    some_with test it.sense strength (cells ++ Ra it ∷ []) ≡ some_with test it.sense strength cells
one-other test strength cells it h =
    one-more test strength cells it ∙ ap (λ b. some_with test it.sense strength cells || (b && test it)) (differs it.strength strength h) ∙ or-false (some_with test it.sense strength cells)

-- Where no cell has such an advisory, none has one with a test.
fewer : (a b t r s : Bool) → ((a && (b && true)) || r) ≡ false → (r ≡ false → s ≡ false) → ((a && (b && t)) || s) ≡ false
fewer true true t r s e h = absurd (grind (arith, e))
fewer true false t r s e h = h e
fewer false b t r s e h = h e

gone : (test : Intent → Bool) (sense : Sense) (strength : Strength) (cells : List Cell) → some_with any sense strength cells ≡ false → some_with test sense strength cells ≡ false
gone test sense strength [] e = refl
gone test sense strength (Clear ∷ cells) e = gone test sense strength cells e
gone test sense strength (Traffic ∷ cells) e = gone test sense strength cells e
gone test sense strength (Ra it ∷ cells) e =
    fewer (is_same_sense it.sense sense) (is_same_strength it.strength strength) (test it) (some_with any sense strength cells) (some_with test sense strength cells) e (gone test sense strength cells)

abbrev in_cells : Sense → List Cell → Strength → Bool
in_cells sense cells strength = some_with any sense strength cells

-- The strongest strength with one more advisory: one that some cell has or the advisory has, and no stronger one.
found-after : (cells : List Cell) (it : Intent) (strength : Strength) → (in_cells it.sense cells strength ≡ true) ⊎ (place_of it.strength ≡ place_of strength) → place_of it.strength ≤ place_of strength →
    ((other : Strength) → place_of strength < place_of other → in_cells it.sense cells other ≡ false) → strongest_of it.sense (cells ++ Ra it ∷ []) ≡ Some strength
found-after cells it strength is below above = found-is (in_cells it.sense (cells ++ Ra it ∷ [])) strength (record { passes = passes is; above = λ other h. one-other any other cells it (λ e. omega arith) ∙ above other h })
  where
    passes : (in_cells it.sense cells strength ≡ true) ⊎ (place_of it.strength ≡ place_of strength) → in_cells it.sense (cells ++ Ra it ∷ []) strength ≡ true
    passes (inl e) = one-more any strength cells it ∙ ap (λ b. b || (is_same_strength it.strength strength && true)) e
    passes (inr e) = one-equal any strength cells it e ∙ or-true (in_cells it.sense cells strength)

-- The parts of an advice.
parts : (strength : Option Strength) {a b c d : Bool} → a ≡ b → c ≡ d → ◌≡◌ {A = Advice} (record { strength = strength; corrective = a; crossing = c }) (record { strength = strength; corrective = b; crossing = d })
parts strength e f = rw (e, f) refl

told : (sense : Sense) (cells : List Cell) (found : Option Strength) → found ≡ strongest_of sense cells → Told (in_cells sense cells) found
told sense cells found e = subst (Told (in_cells sense cells)) (sym e) (found-tells (in_cells sense cells))

-- An advisory that no cell of its sense is as strong as.
alone-law : (cells : List Cell) (it : Intent) → ((other : Strength) → place_of it.strength ≤ place_of other → in_cells it.sense cells other ≡ false) →
    record { strength = Some it.strength; corrective = it.corrective; crossing = it.crossing } ≡ advice_of it.sense (cells ++ Ra it ∷ [])
alone-law cells it none =
    let flag : (test : Intent → Bool) → test it ≡ some_with test it.sense it.strength (cells ++ Ra it ∷ []) =
    λ test. sym (one-equal test it.strength cells it refl ∙ ap (λ b. b || test it) (gone test it.sense it.strength cells (none it.strength (omega arith)))) in
    rw (found-after cells it it.strength (inr refl) (omega arith) (λ other h. none other (omega arith))) (parts (Some it.strength) (flag is_corrective) (flag is_crossing))

-- The strength that an advice tells.
strength-told : {advice : Advice} {found : Option Strength} (sense : Sense) (cells : List Cell) → advice ≡ advice_of sense cells → advice.strength ≡ found → found ≡ strongest_of sense cells
strength-told sense cells e is = sym is ∙ ap (λ a. a.strength) e

pub first-law : (advice : Advice) (cells : List Cell) (it : Intent) → advice ≡ advice_of it.sense cells → advice.strength ≡ None →
    record { strength = Some it.strength; corrective = it.corrective; crossing = it.crossing } ≡ advice_of it.sense (cells ++ Ra it ∷ [])
first-law advice cells it e is = alone-law cells it (λ other h. told it.sense cells None (strength-told it.sense cells e is) other)

pub stronger-law : (advice : Advice) (cells : List Cell) (it : Intent) (strength : Strength) → advice ≡ advice_of it.sense cells → advice.strength ≡ Some strength → place_of strength < place_of it.strength →
    record { strength = Some it.strength; corrective = it.corrective; crossing = it.crossing } ≡ advice_of it.sense (cells ++ Ra it ∷ [])
stronger-law advice cells it strength e is h =
    let strongest = told it.sense cells (Some strength) (strength-told it.sense cells e is) in
    alone-law cells it (λ other k. strongest.above other (omega arith))

pub weaker-law : (advice : Advice) (cells : List Cell) (it : Intent) (strength : Strength) → advice ≡ advice_of it.sense cells → advice.strength ≡ Some strength → place_of it.strength < place_of strength →
    advice ≡ advice_of it.sense (cells ++ Ra it ∷ [])
weaker-law advice cells it strength e is h =
    let is_found = strength-told it.sense cells e is in
    let strongest = told it.sense cells (Some strength) is_found in
    let flag = λ (test : Intent → Bool). sym (one-other test strength cells it (λ k. omega arith)) in
    e ∙ rw (← is_found, found-after cells it strength (inl strongest.passes) (omega arith) strongest.above) (parts (Some strength) (flag is_corrective) (flag is_crossing))

pub equal-law : (advice : Advice) (cells : List Cell) (it : Intent) (strength : Strength) → advice ≡ advice_of it.sense cells → advice.strength ≡ Some strength → place_of it.strength ≡ place_of strength →
    record { strength = advice.strength; corrective = advice.corrective || it.corrective; crossing = advice.crossing || it.crossing } ≡ advice_of it.sense (cells ++ Ra it ∷ [])
equal-law advice cells it strength e is h =
    let is_found = strength-told it.sense cells e is in
    let strongest = told it.sense cells (Some strength) is_found in
    let flag = λ (test : Intent → Bool). sym (one-equal test strength cells it h) in
    ap (λ (a : Advice). record { strength = a.strength; corrective = a.corrective || it.corrective; crossing = a.crossing || it.crossing }) e
    ∙ rw (← is_found, found-after cells it strength (inl strongest.passes) (omega arith) strongest.above) (parts (Some strength) (flag is_corrective) (flag is_crossing))

-- A cell without an advisory of a sense leaves the advice of that sense.
without : (test : Intent → Bool) (sense : Sense) (strength : Strength) (cells : List Cell) (cell : Cell) → has_sense cell sense ≡ false → some_with test sense strength cells ≡ some_with test sense strength (cells ++ cell ∷ [])
without test sense strength cells cell h = sym (list_any-append (advises_with test sense strength) cells (cell ∷ []) ∙ ap (λ b. some_with test sense strength cells || (b || false)) (none cell h) ∙ or-false (some_with test sense strength cells))
  where
    none : (cell : Cell) → has_sense cell sense ≡ false → advises_with test sense strength cell ≡ false
    none Clear h = refl
    none Traffic h = refl
    none (Ra it) h = ap (λ b. b && (is_same_strength it.strength strength && test it)) h

pub left-law : (sense : Sense) (cells : List Cell) (cell : Cell) → has_sense cell sense ≡ false → advice_of sense cells ≡ advice_of sense (cells ++ cell ∷ [])
left-law sense cells cell h = same_advice (strongest_of sense cells) refl
  where
    same_found : strongest_of sense cells ≡ strongest_of sense (cells ++ cell ∷ [])
    same_found =
        let same = λ (strength : Strength). without any sense strength cells cell h in
        rw (same Increase, same Positive, same Level, same Limit500, same Limit1000, same Limit2000) refl

    same_advice : (found : Option Strength) → found ≡ strongest_of sense cells → advice_of sense cells ≡ advice_of sense (cells ++ cell ∷ [])
    same_advice None e = rw (← same_found, ← e) refl
    same_advice (Some strength) e = rw (← same_found, ← e) (parts (Some strength) (without is_corrective sense strength cells cell h) (without is_crossing sense strength cells cell h))
