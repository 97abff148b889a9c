use Rattle.std.proofs.Common.{◌∙◌, Some, ap, sym}
use Rattle.std.specs.Prelude.{option_map}
use Rattle.air_journal.specs.EntryRefs.{entry_of}
use Rattle.verdict_text.proofs.Barring.{not-received, received, to-other}
use Rattle.verdict_text.proofs.takes.message_to.Goals as goal

pub returns-then-target-own : goal.returns-then-target-own
returns-then-target-own c = received c.args.state.now.journal c.args.send c.args.own _ _ _ _ (sym c.entry_ref.ensures ∙ ap (option_map entry_of) c.in-Some-Send.is ∙ ap (λ x. Some (entry_of x)) c.in-Some-Send.field-0-is) c.if-target-own.true

pub returns-else-target-own : goal.returns-else-target-own
returns-else-target-own c =
    not-received c.args.state.now.journal c.args.send c.args.own _ (sym c.entry_ref.ensures ∙ ap (option_map entry_of) c.in-Some-Send.is ∙ ap (λ x. Some (entry_of x)) c.in-Some-Send.field-0-is) (to-other _ _ _ _ c.args.own c.if-target-own.false)

pub returns-in-Some-Commit : goal.returns-in-Some-Commit
returns-in-Some-Commit c =
    not-received c.args.state.now.journal c.args.send c.args.own _ (sym c.entry_ref.ensures ∙ ap (option_map entry_of) c.in-Some-Commit.is ∙ ap (λ x. Some (entry_of x)) c.in-Some-Commit.field-0-is) (λ sent e. absurd cc)

pub returns-in-Some-Take : goal.returns-in-Some-Take
returns-in-Some-Take c =
    not-received c.args.state.now.journal c.args.send c.args.own _ (sym c.entry_ref.ensures ∙ ap (option_map entry_of) c.in-Some-Take.is ∙ ap (λ x. Some (entry_of x)) c.in-Some-Take.field-0-is) (λ sent e. absurd cc)

pub returns-in-None : goal.returns-in-None
returns-in-None c = not-received c.args.state.now.journal c.args.send c.args.own _ (sym c.entry_ref.ensures ∙ ap (option_map entry_of) c.in-None.is) (λ sent e. absurd cc)
