use Rattle.std.proofs.Common.{◌≡◌, ◌∙◌, ◌++◌, ap, sym}
use Rattle.enc_file.specs.Earlier.{call_group, in_group}
use Rattle.enc_file.proofs.Grouped.{group-more}
use Rattle.enc_file.proofs.calls.calls_by_craft.Goals as goal

pub loop-craft-preserved : goal.loop-craft-preserved
loop-craft-preserved c =
    c.in_ok-add_own.ensures ∙ ap (λ xs. xs ++ in_group call_group c.args.calls.now c.loop-craft.craft) c.loop-craft.invariant ∙ sym (group-more call_group c.args.calls.now c.loop-craft.craft)
