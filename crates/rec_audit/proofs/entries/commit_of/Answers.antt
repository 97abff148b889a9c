use Rattle.std.proofs.Common.{◌≡◌, ◌∷◌, arith, sym, ap, drop, get_or, subst, []}
use Rattle.std.proofs.lemmas.Fmt.{decimal_injective}
use Rattle.std.specs.Fmt.{decimal}
use Rattle.air_journal.specs.Ranges.{AreCells}
use Rattle.rec_audit.proofs.Forms.{commit-form}
use Rattle.rec_audit.proofs.entries.commit_of.Goals as goal

pub returns-in_err-cells : goal.returns-in_err-cells
returns-in_err-cells c = rw (c.from_residual.ensures) (λ e fits same.
    let f = commit-form c.args.count e (decimal c.args.own ∷ decimal c.args.cycle ∷ c.args.fields.now) fits same in
    let own : c.args.own ≡ f.own = decimal_injective c.args.own f.own (omega arith) (omega (arith, f.fits.0)) (ap (λ t. get_or t 0 []) f.spelled) in
    let cells = subst (λ o. AreCells c.args.count o f.cells) (sym own) f.fits.2 in
    c.in_err-cells.ensures f.cells cells (sym (ap (drop 2) f.spelled)))
