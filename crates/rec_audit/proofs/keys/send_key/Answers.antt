use Rattle.std.proofs.Common.{◌∙◌, ◌∷◌, arith, sym, ap, drop}
use Rattle.std.specs.Fmt.{decimal}
use Rattle.rec_audit.proofs.Keyed.{no-send-key}
use Rattle.rec_audit.proofs.keys.send_key.Goals as goal

pub returns-in_err-own : goal.returns-in_err-own
returns-in_err-own c = rw (c.from_residual.ensures) (no-send-key c.args.count c.args.fields.now (λ own target after is e. c.in_err-own.ensures own (decimal target ∷ after) (omega arith, omega (arith, is)) e))

pub returns-in_err-target : goal.returns-in_err-target
returns-in_err-target c = rw (c.from_residual-in_err-target.ensures) (no-send-key c.args.count c.args.fields.now (λ own target after is e.
    c.in_err-target.ensures target after (omega arith, omega (arith, is)) (ap (drop 1) (sym c.in_ok-own.ensures.1 ∙ e))))
