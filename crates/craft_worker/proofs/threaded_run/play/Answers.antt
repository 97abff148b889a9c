use Rattle.std.proofs.Common.{rules}
use Rattle.craft_worker.proofs.AllWorkers.{played-as}
use Rattle.craft_worker.proofs.threaded_run.play.Goals as goal

pub rounds-requires-after_bounds : goal.rounds-requires-after_bounds
rounds-requires-after_bounds g c κs within = search rules

pub returns-clause-all : goal.returns-clause-all
returns-clause-all g c =
    (played-as c.args.air.now c.args.seats.now.items c.take_seats_back.new.seats.items c.add_workers.new.workers.items c.as_mut_slice.result.now c.rounds.new.workers _ (search rules) c.as_mut_slice.ensures.value c.requires.all (search rules) c.rounds.ensures.same c.rounds.ensures.played (search rules) c.take_seats_back.ensures).all

pub returns-clause-played : goal.returns-clause-played
returns-clause-played g c =
    (played-as c.args.air.now c.args.seats.now.items c.take_seats_back.new.seats.items c.add_workers.new.workers.items c.as_mut_slice.result.now c.rounds.new.workers _ (search rules) c.as_mut_slice.ensures.value c.requires.all (search rules) c.rounds.ensures.same c.rounds.ensures.played (search rules) c.take_seats_back.ensures).played

pub returns-clause-order : goal.returns-clause-order
returns-clause-order g c =
    (played-as c.args.air.now c.args.seats.now.items c.take_seats_back.new.seats.items c.add_workers.new.workers.items c.as_mut_slice.result.now c.rounds.new.workers _ (search rules) c.as_mut_slice.ensures.value c.requires.all (search rules) c.rounds.ensures.same c.rounds.ensures.played (search rules) c.take_seats_back.ensures).order
