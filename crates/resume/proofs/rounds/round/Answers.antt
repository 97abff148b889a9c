use Rattle.std.proofs.Common.{◌+◌, sym, ◌∙◌}
use Rattle.air_journal.proofs.Bounds.{active-is}
use Rattle.air_journal.proofs.Soundness.{sound-of}
use Rattle.air_journal.specs.Airs.{air_of}
use Rattle.air_rules.specs.Journal.{commits}
use Rattle.craft_view.proofs.Looking.{ready-same}
use Rattle.resume.proofs.Turns.{fills-on, to-commits, to-sends, to-takes}
use Rattle.resume.proofs.rounds.round.Goals as goal

pub all_sends-requires-clause-before : goal.all_sends-requires-clause-before
all_sends-requires-clause-before c = to-sends (air_of c.args.enc.now) c.all_commits.new.state.journal c.args.done (sound-of c.args.enc.now c.valid_law.ensures) c.all_commits.ensures.after

pub all_takes-requires-clause-before : goal.all_takes-requires-clause-before
all_takes-requires-clause-before c = to-takes (air_of c.args.enc.now) c.all_sends.new.state.journal (c.args.done + 1) (sound-of c.args.enc.now c.valid_law.ensures) c.all_sends.ensures.after

pub returns-clause-fills : goal.returns-clause-fills
returns-clause-fills c =
    let air = air_of c.args.enc.now in
    fills-on air c.args.state.now.journal c.all_sends.new.state.journal c.all_takes.new.state.journal
    (fills-on air c.args.state.now.journal c.all_commits.new.state.journal c.all_sends.new.state.journal c.all_commits.ensures.fills c.all_sends.ensures.fills) c.all_takes.ensures.fills

pub returns-clause-ready : goal.returns-clause-ready
returns-clause-ready c =
    let sound = sound-of c.args.enc.now c.valid_law.ensures in
    ready-same c.args.enc.now (commits c.all_commits.new.state.journal) (commits c.all_takes.new.state.journal) c.all_commits.new.surveillance.crafts
    (λ own active. let a = active-is c.args.enc.now own active in c.all_commits.ensures.after.committed own a (sound.counted own a) ∙ sym (c.all_takes.ensures.after.level own a)) c.all_commits.ensures.ready

pub returns-clause-after : goal.returns-clause-after
returns-clause-after c = to-commits (air_of c.args.enc.now) c.all_takes.new.state.journal (c.args.done + 1) (sound-of c.args.enc.now c.valid_law.ensures) c.all_takes.ensures.after
