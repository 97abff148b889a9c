use Rattle.std.proofs.Common.{◌≡◌, ℕ, get_or, option_map, ap, ◌∙◌, subst}
use Rattle.air_journal.specs.Airs.{air_of}
use Rattle.air_rules.specs.Journal.{before_last_commit}
use Rattle.air_rules.specs.Takes.{last_take}
use Rattle.journal_reader.proofs.Keeping.{position-is, take-is}
use Rattle.journal_reader.specs.Links.{no_link}
use Rattle.journal_reader.specs.Reading.{Reading, read_of, taken_at, taken_of}
use Rattle.journal_reader.specs.declared.links.GoodTake.{GoodTake}
use Rattle.journal_reader.specs.declared.links.Link.{Link}
use Rattle.journal_reader.proofs.reader.Reader.take_before.Goals as goal

pub returns-clause-taken : goal.returns-clause-taken
returns-clause-taken c =
    let K = read_of c.self.inside.state.now.journal c.self.inside.at in
    let links = c.self.inside.links in
    subst (λ (r : Reading). option_map taken_of (get_or links c.pair_of.result no_link).bound ≡ last_take (air_of r.encounter) (before_last_commit r.read c.args.own) c.args.own c.args.other) c.self.view_is
    (ap (λ (n : ℕ). option_map taken_of (get_or links n no_link).bound) c.pair_of.ensures ∙ ap (λ (l : Link). option_map taken_of l.bound) (c.self.invariant.kept.link c.args.own c.args.other c.requires.own c.requires.other)
    ∙ take-is (air_of c.self.inside.state.now.encounter) (before_last_commit K c.args.own) c.args.own c.args.other)

pub returns-clause-at : goal.returns-clause-at
returns-clause-at c =
    let K = read_of c.self.inside.state.now.journal c.self.inside.at in
    let links = c.self.inside.links in
    subst (λ (r : Reading). option_map (λ (take : GoodTake). take.at) (get_or links c.pair_of.result no_link).bound ≡ taken_at (before_last_commit r.read c.args.own) c.args.own c.args.other) c.self.view_is
    (ap (λ (n : ℕ). option_map (λ (take : GoodTake). take.at) (get_or links n no_link).bound) c.pair_of.ensures
    ∙ ap (λ (l : Link). option_map (λ (take : GoodTake). take.at) l.bound) (c.self.invariant.kept.link c.args.own c.args.other c.requires.own c.requires.other)
    ∙ position-is (air_of c.self.inside.state.now.encounter) (before_last_commit K c.args.own) c.args.own c.args.other)
