use Rattle.std.proofs.Common.{rules}
use Rattle.std.proofs.lemmas.Fn.{always_returns_same}
use Rattle.track_file.proofs.Spans.{parts-by}
use Rattle.track_file.specs.Track.{is_by}
use Rattle.track_file.proofs.track.count_by.Goals as goal

pub returns-clause-parted : goal.returns-clause-parted
returns-clause-parted c =
    c.partition_point.ensures.partitioned (is_by c.args.time) (always_returns_same _ _ _ (λ a r f' k. search rules)) (parts-by c.args.points.now c.args.time c.requires)
