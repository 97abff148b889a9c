use Rattle.seconds_panel.specs.Panel.{seconds_marks}
use Rattle.seconds_panel.proofs.panel.put_seconds.Goals as goal

pub returns : goal.returns
unfolding seconds_marks
returns g c =
    let encounter = rw c.new-seconds.ensures.encounter at c.put_named.ensures in
    let pair = rw c.new-seconds.ensures.pair at encounter in
    let own = rw c.called-own.ensures.text at pair in
    rw c.called-other.ensures.text at own
