use Rattle.std.proofs.Common.{◌≡◌, ◌∙◌, lt-ltb, ne_eqb}
use Rattle.acas_base.specs.Next.{following_cell}
use Rattle.air_journal.proofs.Showing.{next-enough}
use Rattle.air_journal.specs.Airs.{air_of}
use Rattle.air_journal.specs.Found.{kept_in_force}
use Rattle.air_journal.specs.Kept.{link_at, made_at}
use Rattle.air_journal.proofs.next.next_for.Goals as goal

pub returns : goal.returns
returns c =
    let kept = c.args.tables.now in
    let force : c.kept_in_force.result ≡ kept_in_force (link_at kept c.args.own c.args.target).complement (made_at kept c.args.own).commits =
    c.kept_in_force.ensures ∙ (λ i. kept_in_force (c.link-link.ensures i).complement (c.made.ensures i).commits) in
    c.next_cell.ensures
    ∙ (λ i. following_cell (c.link-link.ensures i).cell c.args.view.now (force i) (c.rank.ensures i))
    ∙ next-enough (air_of c.args.encounter.now) kept c.args.own c.args.target c.args.view.now (lt-ltb _ _ c.requires.target) (ne_eqb c.args.own c.args.target c.if-own-target.false) c.requires.view
