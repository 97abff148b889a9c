-- Which aircraft are active.
use Rattle.std.proofs.Common.{ℕ, List}
use Rattle.acas_base.specs.Encounter.{Parts}
use Rattle.acas_base.specs.declared.entry.Entry.{Entry}
use Rattle.air_journal.proofs.Activity.{to-active}
use Rattle.air_journal.specs.Airs.{air_of}
use Rattle.craft_view.specs.Kept.{IsActive}
use Rattle.rec_audit.proofs.Asked.{no-commit}
use Rattle.rec_audit.specs.Asking.{NothingAbout}
use Rattle.rec_audit.specs.declared.keys.Key.TheVariants as keys

-- An aircraft that isn't active makes no commits.
pub idle-commit : (e : Parts) (K : List Entry) (own cycle : ℕ) → (IsActive e own → ⊥) → NothingAbout (air_of e) K (keys.Commit own cycle)
idle-commit e K own cycle never = no-commit (air_of e) K own cycle (λ cells may. never (to-active e own may.active))
