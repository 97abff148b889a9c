use Rattle.std.proofs.Common.{ℕ, ◌++◌, ap, sym, ◌∙◌}
use Rattle.std.specs.Fmt.{decimal}
use Rattle.acas_text.specs.Hex.{hex}
use Rattle.fault_text.proofs.Pieces.{three}
use Rattle.idle_notes.proofs.sentence.add_same_rates.Goals as goal

pub returns-clause-added : goal.returns-clause-added
returns-clause-added c =
    three c.args.line.now c.text.new.self c.address.new.self c.text-2.new.self _ (hex 6 c.args.craft) _ c.text.ensures.added
    (c.address.ensures.added ∙ ap (λ (n : ℕ). c.text.new.self ++ hex 6 n) c.value.ensures.value) c.text-2.ensures.added
