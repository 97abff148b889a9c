use Rattle.std.proofs.Common.{◌∙◌, ◌∷◌, arith, sym, ap, drop}
use Rattle.std.specs.Fmt.{decimal}
use Rattle.rec_audit.proofs.Keyed.{no-take-key}
use Rattle.rec_audit.proofs.keys.take_key.Goals as goal

pub returns-in_err-own : goal.returns-in_err-own
returns-in_err-own c = rw (c.from_residual.ensures) (no-take-key c.args.count c.args.fields.now (λ own send copy after is e. c.in_err-own.ensures own (decimal send ∷ decimal copy ∷ after) (omega arith, omega (arith, is)) e))

pub returns-in_err-send : goal.returns-in_err-send
returns-in_err-send c = rw (c.from_residual-in_err-send.ensures) (no-take-key c.args.count c.args.fields.now (λ own send copy after is e.
    c.in_err-send.ensures send (decimal copy ∷ after) (omega arith, omega (arith, is)) (ap (drop 1) (sym c.in_ok-own.ensures.1 ∙ e))))

pub returns-in_err-copy : goal.returns-in_err-copy
returns-in_err-copy c = rw (c.from_residual-in_err-copy.ensures) (no-take-key c.args.count c.args.fields.now (λ own send copy after is e.
    c.in_err-copy.ensures copy after (omega arith, omega (arith, is)) (ap (drop 1) (sym c.in_ok-send.ensures.1 ∙ ap (drop 1) (sym c.in_ok-own.ensures.1 ∙ e)))))
