-- The commit that is allowed about a thing.
use Rattle.std.proofs.Common.{◌≡◌, ℕ, List, subst}
use Rattle.acas_base.specs.declared.advisory.Cells.{Cells}
use Rattle.acas_base.specs.declared.entry.Entry.{Entry}
use Rattle.acas_base.specs.declared.entry.Entry.TheVariants.{Commit, Send, Take}
use Rattle.air_rules.specs.Air.{Air}
use Rattle.air_rules.specs.Rules.{IsAllowed, MayCommit}
use Rattle.rec_audit.specs.Allowing.{IsAllowedAbout}
use Rattle.rec_audit.specs.Keys.{key}
use Rattle.rec_audit.specs.declared.keys.Key.TheVariants as keys

-- With some cells the commit is allowed.
pub record MayCommitCells (air : Air) (K : List Entry) (own cycle : ℕ) : Type 0 where
  pub cells : Cells
  pub may : MayCommit air K own cycle cells

by-entry : (air : Air) (K : List Entry) (entry : Entry) (own cycle : ℕ) → key entry ≡ keys.Commit own cycle → IsAllowed air K entry → MayCommitCells air K own cycle
by-entry air K (Commit i c cells) own cycle e may =
    let a : i ≡ own = cc in
    let b : c ≡ cycle = cc in
    record { cells = cells; may = subst (λ k. MayCommit air K own k cells) b (subst (λ k. MayCommit air K k c cells) a may) }
by-entry air K (Send i t number word) own cycle e may = absurd cc
by-entry air K (Take i s copy good) own cycle e may = absurd cc

pub commit-of : (air : Air) (K : List Entry) (own cycle : ℕ) → IsAllowedAbout air K (keys.Commit own cycle) → MayCommitCells air K own cycle
commit-of air K own cycle some = by-entry air K some.entry own cycle some.about_is some.allowed
