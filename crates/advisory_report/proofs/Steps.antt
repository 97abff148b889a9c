-- The cells one by one.
use Rattle.std.proofs.Common.{◌≡◌, ℕ, ◌+◌, ◌<◌, Bool, true, false, ◌||◌, List, [], ◌∷◌, ◌++◌, length, get_or, take, refl, sym, ap, ◌∙◌, subst, add-one}
use Rattle.std.proofs.Math.Seq.{take-suc}
use Rattle.std.specs.List.{list_any}
use Rattle.std.proofs.lemmas.List.Folds.{list_any-append}
use Rattle.acas_base.specs.Senses.{is_same_sense}
use Rattle.acas_base.specs.declared.advisory.Cell.{Cell}
use Rattle.acas_base.specs.declared.advisory.Cell.TheVariants.{Clear, Traffic, Ra}
use Rattle.acas_base.specs.declared.advisory.Intent.{Intent}
use Rattle.acas_base.specs.declared.advisory.Sense.{Sense}
use Rattle.acas_base.specs.declared.advisory.Sense.TheVariants.{Up, Down}
use Rattle.advisory_report.specs.Composite.{advice_of, is_traffic}
use Rattle.advisory_report.specs.declared.composite.Advice.{Advice}
use Rattle.advisory_report.proofs.Adding.{left-law, or-false, or-true}

-- Traffic and the advice of both senses are those of these cells.
pub record IsSummary (cells : List Cell) (traffic : Bool) (up down : Advice) : Type 0 where
  pub traffic_is : traffic ≡ list_any is_traffic cells
  pub up_is : up ≡ advice_of Up cells
  pub down_is : down ≡ advice_of Down cells

any-more : (cells : List Cell) (cell : Cell) → list_any is_traffic (cells ++ cell ∷ []) ≡ (list_any is_traffic cells || is_traffic cell)
any-more cells cell = list_any-append is_traffic cells (cell ∷ []) ∙ ap (λ b. list_any is_traffic cells || b) (or-false (is_traffic cell))

any-same : (cells : List Cell) (cell : Cell) → is_traffic cell ≡ false → list_any is_traffic cells ≡ list_any is_traffic (cells ++ cell ∷ [])
any-same cells cell h = sym (any-more cells cell ∙ ap (λ b. list_any is_traffic cells || b) h ∙ or-false (list_any is_traffic cells))

pub with-clear : {cells : List Cell} {traffic : Bool} {up down : Advice} → IsSummary cells traffic up down → IsSummary (cells ++ Clear ∷ []) traffic up down
with-clear {cells} s = record { traffic_is = s.traffic_is ∙ any-same cells Clear refl; up_is = s.up_is ∙ left-law Up cells Clear refl; down_is = s.down_is ∙ left-law Down cells Clear refl }

pub with-traffic : {cells : List Cell} {traffic : Bool} {up down : Advice} → IsSummary cells traffic up down → IsSummary (cells ++ Traffic ∷ []) true up down
with-traffic {cells} s = record { traffic_is = sym (any-more cells Traffic ∙ or-true (list_any is_traffic cells)); up_is = s.up_is ∙ left-law Up cells Traffic refl; down_is = s.down_is ∙ left-law Down cells Traffic refl }

-- An advisory joins the advice of its sense, and leaves that of the other one.
abbrev Joins : Advice → Intent → Advice → Type 0
Joins before it after = (cells : List Cell) → before ≡ advice_of it.sense cells → after ≡ advice_of it.sense (cells ++ Ra it ∷ [])

joins : (sense : Sense) (cells : List Cell) (it : Intent) (before after : Advice) → it.sense ≡ sense → Joins before it after → before ≡ advice_of sense cells → after ≡ advice_of sense (cells ++ Ra it ∷ [])
joins sense cells it before after e join is = subst (λ s. after ≡ advice_of s (cells ++ Ra it ∷ [])) e (join cells (subst (λ s. before ≡ advice_of s cells) (sym e) is))

leaves : (sense : Sense) (cells : List Cell) (it : Intent) (before : Advice) → is_same_sense it.sense sense ≡ false → before ≡ advice_of sense cells → before ≡ advice_of sense (cells ++ Ra it ∷ [])
leaves sense cells it before h is = is ∙ left-law sense cells (Ra it) h

pub with-up : {cells : List Cell} {traffic : Bool} {up down : Advice} (it : Intent) (after : Advice) → it.sense ≡ Up → Joins up it after → IsSummary cells traffic up down → IsSummary (cells ++ Ra it ∷ []) traffic after down
with-up {cells} {traffic} {up} {down} it after e join s = record {
  traffic_is = s.traffic_is ∙ any-same cells (Ra it) refl;
  up_is = joins Up cells it up after e join s.up_is;
  down_is = leaves Down cells it down (ap (λ sense. is_same_sense sense Down) e) s.down_is;
}

pub with-down : {cells : List Cell} {traffic : Bool} {up down : Advice} (it : Intent) (after : Advice) → it.sense ≡ Down → Joins down it after → IsSummary cells traffic up down → IsSummary (cells ++ Ra it ∷ []) traffic up after
with-down {cells} {traffic} {up} {down} it after e join s = record {
  traffic_is = s.traffic_is ∙ any-same cells (Ra it) refl;
  up_is = leaves Up cells it up (ap (λ sense. is_same_sense sense Up) e) s.up_is;
  down_is = joins Down cells it down after e join s.down_is;
}

-- The cells up to the next one.
pub next-cells : (cells : List Cell) (i : ℕ) (cell : Cell) → i < length cells → get_or cells i Clear ≡ cell → take (i + 1) cells ≡ take i cells ++ cell ∷ []
next-cells cells i cell h e = ap (λ n. take n cells) (add-one i) ∙ take-suc cells i Clear h ∙ ap (λ c. take i cells ++ c ∷ []) e
