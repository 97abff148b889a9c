use Rattle.std.proofs.Common.{◌∙◌, ◌∷◌, sym}
use Rattle.rec_audit.proofs.Keyed.{key-and-more}
use Rattle.rec_audit.specs.Keys.{key}
use Rattle.rec_audit.proofs.entries.entry_of.Goals as goal

pub returns-in_err-own : goal.returns-in_err-own
returns-in_err-own c = rw (c.from_residual.ensures) (λ e fits same.
    let k = key-and-more c.args.count e fits in
    c.in_err-own.ensures (key e) (k.next ∷ k.more) k.is (sym same ∙ k.fields))
