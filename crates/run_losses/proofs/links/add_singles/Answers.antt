use Rattle.std.proofs.Common.{◌+◌, ◌++◌, ◌∷◌, [], ◌∙◌, ap, append_assoc, arith, sym}
use Rattle.std.specs.List.{range_with_len}
use Rattle.run_losses.proofs.Adding.{single-more}
use Rattle.run_losses.specs.Losses.{singles_among}
use Rattle.run_losses.proofs.links.add_singles.Goals as goal

pub loop-before-preserved : goal.loop-before-preserved
loop-before-preserved c =
    let e = c.args.encounter.now in
    let s = c.args.sender in
    let r = c.args.receiver in
    let n = c.loop-before.before in
    let old = c.args.changes.now.items in
    c.in_ok-add_single.ensures
    ∙ ap (λ l. l ++ singles_among e s r ((n + 1) ∷ [])) c.loop-before.invariant
    ∙ append_assoc old (singles_among e s r (range_with_len 1 n)) (singles_among e s r ((n + 1) ∷ []))
    ∙ ap (λ l. old ++ l) (sym (single-more e s r n (n + 1) (omega arith)))
