use Rattle.track_text.proofs.tables.TrackTables.add.Goals as goal

pub returns-in-At : goal.returns-in-At
returns-in-At c = λ earlier begun kept. rw c.in-At.is (c.add_point.ensures earlier begun kept)

pub returns-in-Shared : goal.returns-in-Shared
returns-in-Shared c = λ earlier begun kept. rw c.in-Shared.is (c.add_record.ensures earlier begun kept)
