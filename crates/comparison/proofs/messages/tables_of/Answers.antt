use Rattle.std.proofs.Common.{◌≤◌, Bool, ℕ, List, Option, length, sym, subst, subst₂, arith}
use Rattle.acas_base.specs.declared.entry.Entry.{Entry}
use Rattle.air_rules.specs.Journal.{sent_at}
use Rattle.comparison.proofs.Slots.{tables-none}
use Rattle.comparison.specs.Messages.{AreTables}
use Rattle.journal_reader.proofs.Prefixes.{read-all}
use Rattle.comparison.proofs.messages.tables_of.Goals as goal

pub loop-at-init : goal.loop-at-init
loop-at-init c =
    let J = c.args.state.now.journal in
    subst₂ (λ (ws : List (Option ℕ)) (rs : List (Option Bool)). AreTables (sent_at J) _ ws rs) (sym c.in_ok-words.ensures) (sym c.in_ok-results.ensures) (tables-none (sent_at J))

pub returns : goal.returns
returns c =
    let J = c.args.state.now.journal in
    let end : length J ≤ c.loop-at.at = (let n = c.count-at-end.ensures.value in let t = c.loop-at-test.false in omega arith) in
    subst (λ (K : List Entry). AreTables (sent_at J) K c.loop-at.tables.words.items c.loop-at.tables.results.items) (read-all J c.loop-at.at end) c.loop-at.invariant
