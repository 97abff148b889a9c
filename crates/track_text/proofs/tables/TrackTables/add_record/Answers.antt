use Rattle.track_text.proofs.Kept.{not-end}
use Rattle.track_text.proofs.tables.TrackTables.add_record.Goals as goal

pub add_shared-requires : goal.add_shared-requires
add_shared-requires c = record { room = c.requires.room; kept = c.requires.kept; said = c.requires.said; more = not-end c.args.now c.in_default.not-End }

pub returns-in-End : goal.returns-in-End
returns-in-End c = λ earlier begun kept. rw c.in-End.is (c.add_end.ensures earlier begun kept)
