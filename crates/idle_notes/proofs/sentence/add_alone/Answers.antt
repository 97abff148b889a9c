use Rattle.std.proofs.Common.{ℕ, ◌++◌, ap, sym, ◌∙◌}
use Rattle.std.specs.Fmt.{decimal}
use Rattle.acas_text.specs.Hex.{hex}
use Rattle.fault_text.proofs.Pieces.{four}
use Rattle.idle_notes.proofs.sentence.add_alone.Goals as goal

pub returns-clause-added : goal.returns-clause-added
returns-clause-added c =
    four c.args.line.now c.address.new.self c.text.new.self c.u32.new.self c.text-2.new.self (hex 6 c.args.craft) _ _ _
    (c.address.ensures.added ∙ ap (λ (n : ℕ). c.args.line.now ++ hex 6 n) c.value.ensures.value) c.text.ensures.added (c.u32.ensures.added ∙ ap (λ (n : ℕ). c.text.new.self ++ decimal n) c.longest_range.ensures) c.text-2.ensures.added
