use Rattle.std.proofs.Common.{rules, subst, None, sym, List}
use Rattle.acas_base.specs.declared.entry.Entry.{Entry}
use Rattle.air_turn.specs.Rule.{Grows}
use Rattle.air_journal.specs.States.{IsJournalOf}
use Rattle.air_turn.specs.Told.{first, raised}
use Rattle.air_turn.specs.Turns.{calls_of, journal_of, ticket_of}
use Rattle.air_turn.proofs.Along.{none_said, raises-along}
use Rattle.air_turn.proofs.Turning.{turn-raised}
use Rattle.air_turn.proofs.air.Air.raise.Goals as goal

pub fetch_add-requires : goal.fetch_add-requires
fetch_add-requires g c =
    let m = c.args.place.now.me in
    let gone = c.requires.gone_on in
    let is = c.requires.journal in (
      search rules,
      search rules,
      raises-along _ _ _ m m.0.encounter (first m.0.claims) (ticket_of m.0.stage) (calls_of m.0.stage) (journal_of m.0.stage) g.N.After.journal c.args.grew None gone.turn
          (subst (λ l. IsJournalOf m.0.encounter l) is (subst (λ z. IsJournalOf z c.args.state.now.journal) gone.encounter gone.stays_a_state)) (subst (λ l. Grows (first m.0.claims).own (journal_of m.0.stage) l c.args.grew) is gone.grows),
    )

pub returns-clause-ended : goal.returns-clause-ended
returns-clause-ended g c =
    let m = c.args.place.now.me in
    let gone = c.requires.gone_on in
    let Q : List Entry → Type 0 = λ l. raised l none_said m c.fetch_add.result c.fetch_add.new.seat.me in
    record { new_is = turn-raised none_said m c.fetch_add.new.seat.me c.args.state.now (ticket_of m.0.stage) c.fetch_add.result gone.turn (subst Q (sym c.requires.journal) c.fetch_add.ensures.2) }
