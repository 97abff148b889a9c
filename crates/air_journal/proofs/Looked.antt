-- The aircraft that look along a journal: each has looked as often as it has committed.
use Rattle.std.proofs.Common.{◌≡◌, ℕ, ◌+◌, ◌<◌, List, ◌∷◌, length, set, Option, sym, refl, ap, ◌∙◌, subst, eq-eqb, ne_eqb}
use Rattle.acas_base.specs.Encounter.{Parts}
use Rattle.acas_base.specs.declared.advisory.Cells.{Cells}
use Rattle.acas_base.specs.declared.entry.Entry.{Entry}
use Rattle.acas_base.specs.declared.entry.Entry.TheVariants.{Commit}
use Rattle.acas_base.specs.declared.view.Picture.{Picture}
use Rattle.air_journal.specs.Airs.{air_of}
use Rattle.air_journal.specs.Calls.{Committed}
use Rattle.air_rules.proofs.Pace.{count-no, count-yes}
use Rattle.air_rules.specs.Journal.{commits, is_commit_of}
use Rattle.craft_view.proofs.Looking.{moment, ready-after, ready-set}
use Rattle.craft_view.specs.Kept.{Kept}
use Rattle.craft_view.specs.Looking.{AreReady, IsReady, LookedOn}
use Rattle.flight.specs.Flight.{Moment}

commits-own : (own cycle : ℕ) (cells : Cells) (K : List Entry) → commits (Commit own cycle cells ∷ K) own ≡ commits K own + 1
commits-own own cycle cells K = count-yes (is_commit_of own) (Commit own cycle cells) K (eq-eqb own own refl)

commits-others : (own cycle : ℕ) (cells : Cells) (K : List Entry) (a : ℕ) → (own ≡ a → ⊥) → commits K a ≡ commits (Commit own cycle cells ∷ K) a
commits-others own cycle cells K a ne = sym (count-no (is_commit_of a) (Commit own cycle cells) K (ne_eqb own a ne))

-- What stands at the place of the aircraft that committed is what looked once more.
pub ready-commit : (e : Parts) (K : List Entry) (crafts : List (Option Kept)) (own cycle : ℕ) (cells : Cells) (craft : Option Kept) → own < length crafts →
    AreReady e (commits K) crafts → IsReady e own (commits K own + 1) craft → AreReady e (commits (Commit own cycle cells ∷ K)) (set crafts own craft)
ready-commit e K crafts own cycle cells craft n r h =
    ready-set e (commits K) (commits (Commit own cycle cells ∷ K)) crafts own craft n (commits-others own cycle cells K) r
    (subst (λ (k : ℕ). IsReady e own k craft) (sym (commits-own own cycle cells K)) h)

-- An aircraft looked and committed.
pub ready-committed : (e : Parts) (K J : List Entry) (old new : List (Option Kept)) (own position : ℕ) (picture : Picture) (m : Moment) → m ≡ moment e (commits K own + 1) →
    AreReady e (commits K) old → LookedOn m own old new picture → Committed (air_of e) K own J position → AreReady e (commits J) new
ready-committed e K J old new own position picture m em r l s =
    subst (λ (L : List Entry). AreReady e (commits L) new) (sym s.new_is)
    (ready-after e (commits K) (commits (Commit own s.cycle s.cells ∷ K)) old new own picture m
    (em ∙ ap (moment e) (sym (commits-own own s.cycle s.cells K))) (commits-others own s.cycle s.cells K) r l)
