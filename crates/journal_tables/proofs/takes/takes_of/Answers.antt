use Rattle.std.proofs.Common.{◌*◌, ℕ, List, Option, None, [], length, replicate, sym, ap, ◌∙◌, subst}
use Rattle.acas_base.specs.Encounter.{Parts}
use Rattle.journal_tables.specs.Kept.{AreTakes}
use Rattle.journal_tables.specs.declared.takes.CopyTake.{CopyTake}
use Rattle.journal_tables.proofs.Takings.{none-kept}
use Rattle.journal_tables.proofs.takes.takes_of.Goals as goal

pub keep_all-requires : goal.keep_all-requires
keep_all-requires c =
    let state = c.args.state.now in
    let nothing : Option CopyTake = None in
    let size = ap length (c.crafts-senders.ensures.value ∙ ap (λ (p : Parts). p.crafts) c.enc.ensures) in
    subst (λ (takes : List (Option CopyTake)). AreTakes state [] takes) (sym (c.in_ok-takes.ensures ∙ ap (λ (n : ℕ). replicate (n * 28800) nothing) size))
    (none-kept state c.legal_law.ensures.valid c.legal_law.ensures.legal)
