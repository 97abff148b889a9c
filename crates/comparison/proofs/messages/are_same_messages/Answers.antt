use Rattle.comparison.proofs.Equal.{same-messages, same-results, same-words}
use Rattle.comparison.proofs.messages.are_same_messages.Goals as goal

pub returns : goal.returns
returns c =
    let J = c.args.one.now.journal in
    let K = c.args.other.now.journal in
    let t = c.in_ok-ours.ensures in
    let u = c.in_ok-theirs.ensures in (
      λ same. (let both = c.are_same.ensures.0 same in same-messages J K _ _ _ _ t u both.0 both.1),
      λ m. c.are_same.ensures.1 (same-words J K _ _ _ _ t u m, same-results J K _ _ _ _ t u m),
    )
