use Rattle.std.proofs.Common.{sym, ap, ◌∙◌, option_map}
use Rattle.air_journal.specs.EntryRefs.{entry_of}
use Rattle.comparison.proofs.Helps.{commit-past, commit-step}
use Rattle.comparison.proofs.places.is_commit_at.Goals as goal

pub returns-in-Some : goal.returns-in-Some
returns-in-Some c =
    commit-step c.args.state.now.journal c.args.at c.args.own c.args.cycle (entry_of c.in-Some.entry) c.is_commit.result (sym c.entry_ref.ensures ∙ ap (option_map entry_of) c.in-Some.is) c.is_commit.ensures

pub returns-in-None : goal.returns-in-None
returns-in-None c = commit-past c.args.state.now.journal c.args.at c.args.own c.args.cycle (sym c.entry_ref.ensures ∙ ap (option_map entry_of) c.in-None.is)
