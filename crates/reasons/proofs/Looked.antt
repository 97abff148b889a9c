-- An aircraft looked in the cycle of its commit.
use Rattle.std.proofs.Common.{◌≡◌, ◌∙◌, ℕ, ◌+◌, ◌<◌, List, ◌∷◌, get_or, Option, None, ap, arith, eq-eqb, ne_eqb, refl, subst, sym}
use Rattle.acas_base.specs.Encounter.{IsEncounter, Parts}
use Rattle.acas_base.specs.declared.TheConstants.{CRAFTS}
use Rattle.acas_base.specs.declared.advisory.Cells.{Cells}
use Rattle.acas_base.specs.declared.entry.Entry.{Entry}
use Rattle.acas_base.specs.declared.entry.Entry.TheVariants.{Commit}
use Rattle.acas_base.specs.declared.view.Picture.{Picture}
use Rattle.air_journal.proofs.Bounds.{few-crafts}
use Rattle.air_rules.proofs.Pace.{count-no, count-yes}
use Rattle.air_rules.specs.Journal.{commits, is_commit_of}
use Rattle.craft_view.proofs.Looking.{moment, ready-after}
use Rattle.craft_view.proofs.Stepping.{active-within}
use Rattle.craft_view.specs.Kept.{IsActive, Kept}
use Rattle.craft_view.specs.Looking.{AreReady, IsReady, LookedOn}
use Rattle.flight.specs.Flight.{Moment}

-- An active aircraft has one of the places.
pub own-few : (e f : Parts) (own : ℕ) → f ≡ e → IsEncounter f → IsActive e own → own < CRAFTS
own-few e f own same valid active =
    let within = active-within e own active in
    let few = few-crafts e (subst IsEncounter same valid) in
    omega arith

commits-own : (own cycle : ℕ) (cells : Cells) (K : List Entry) → commits (Commit own cycle cells ∷ K) own ≡ commits K own + 1
commits-own own cycle cells K = count-yes (is_commit_of own) (Commit own cycle cells) K (eq-eqb own own refl)

-- With this commit each aircraft has looked as often as it has committed.
pub ready-looked : (e : Parts) (K : List Entry) (old new : List (Option Kept)) (own cycle : ℕ) (cells : Cells) (picture : Picture) (m : Moment) → m ≡ moment e cycle → cycle ≡ commits K own + 1 →
    AreReady e (commits K) old → LookedOn m own old new picture → AreReady e (commits (Commit own cycle cells ∷ K)) new
ready-looked e K old new own cycle cells picture m is next r l =
    ready-after e (commits K) (commits (Commit own cycle cells ∷ K)) old new own picture m (is ∙ ap (moment e) (next ∙ sym (commits-own own cycle cells K)))
    (λ a ne. sym (count-no (is_commit_of a) (Commit own cycle cells) K (ne_eqb own a ne))) r l

-- What stands at its place has looked up to the cycle of the commit.
pub ready-there : (e : Parts) (K : List Entry) (old new : List (Option Kept)) (own cycle : ℕ) (cells : Cells) (picture : Picture) (m : Moment) → own < CRAFTS → m ≡ moment e cycle → cycle ≡ commits K own + 1 →
    AreReady e (commits K) old → LookedOn m own old new picture → IsReady e own cycle (get_or new own None)
ready-there e K old new own cycle cells picture m few is next r l =
    subst (λ (k : ℕ). IsReady e own k (get_or new own None)) (commits-own own cycle cells K ∙ sym next) (ready-looked e K old new own cycle cells picture m is next r l own few)
