use Rattle.std.proofs.Common.{◌≡◌, ℕ, ◌++◌, ◌∙◌, length, ap, arith}
use Rattle.run_losses.proofs.Adding.{craft-more}
use Rattle.std.specs.Prelude.{flat_map}
use Rattle.std.specs.List.{range_with_len}
use Rattle.run_losses.specs.Parts.{losses_from}
use Rattle.run_losses.proofs.rows.add_part.Goals as goal

pub loop-sender-preserved : goal.loop-sender-preserved
loop-sender-preserved c =
    let e = c.args.state.now.encounter in
    let J = c.args.state.now.journal in
    let part = c.args.part in
    c.in_ok-add_sender.ensures
    ∙ ap (λ l. l ++ losses_from e J part c.loop-sender.sender) c.loop-sender.invariant
    ∙ craft-more (losses_from e J part) c.args.changes.now.items c.loop-sender.sender

pub returns : goal.returns
returns c =
    let e = c.args.state.now.encounter in
    let all : c.loop-sender.sender ≡ length e.crafts = (let n = c.crafts_of-sender-end.ensures.value in let t = c.loop-sender-test.false in let high = c.loop-sender.auto.sender-end in omega arith) in
    c.loop-sender.invariant
    ∙ ap (λ (n : ℕ). c.args.changes.now.items ++ flat_map (losses_from e c.args.state.now.journal c.args.part) (range_with_len 0 n)) all
