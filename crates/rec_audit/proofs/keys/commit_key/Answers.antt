use Rattle.std.proofs.Common.{◌∙◌, ◌∷◌, arith, sym, ap, drop}
use Rattle.std.specs.Fmt.{decimal}
use Rattle.rec_audit.proofs.Keyed.{no-commit-key}
use Rattle.rec_audit.proofs.keys.commit_key.Goals as goal

pub returns-in_err-own : goal.returns-in_err-own
returns-in_err-own c = rw (c.from_residual.ensures) (no-commit-key c.args.count c.args.fields.now (λ own cycle after is e. c.in_err-own.ensures own (decimal cycle ∷ after) (omega arith, omega (arith, is)) e))

pub returns-in_err-cycle : goal.returns-in_err-cycle
returns-in_err-cycle c = rw (c.from_residual-in_err-cycle.ensures) (no-commit-key c.args.count c.args.fields.now (λ own cycle after is e.
    c.in_err-cycle.ensures cycle after is.1 (ap (drop 1) (sym c.in_ok-own.ensures.1 ∙ e))))
