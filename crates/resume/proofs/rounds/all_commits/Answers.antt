use Rattle.air_journal.specs.Airs.{air_of}
use Rattle.resume.proofs.Turns.{fills-on}
use Rattle.resume.specs.Filling.{unfilled}
use Rattle.resume.proofs.rounds.all_commits.Goals as goal

pub loop-own-init : goal.loop-own-init
loop-own-init c = record { same = c.requires.same; fills = unfilled; ready = c.requires.ready; before = c.requires.before }

pub loop-own-preserved : goal.loop-own-preserved
loop-own-preserved c = record {
  same = c.commit_of.ensures.encounter;
  fills = fills-on (air_of c.args.enc.now) c.args.state.now.journal c.loop-own.state.journal c.commit_of.new.state.journal c.loop-own.invariant.fills c.commit_of.ensures.fills;
  ready = c.commit_of.ensures.ready;
  before = c.commit_of.ensures.after;
}
