use Rattle.std.proofs.Common.{List, Option, ℕ, refl, subst, sym}
use Rattle.rec_audit.proofs.Texts.{first-line, first-none}
use Rattle.rec_audit.specs.Explaining.{IsToldBy, IsUnspelledIn, TellsEntryLine}
use Rattle.verdict_text.specs.declared.fault.Why.TheVariants as why
use Rattle.rec_audit.proofs.misspelled.tell_entry_line.Goals as goal

pub tell_this_entry-requires-clause-unspelled : goal.tell_this_entry-requires-clause-unspelled
tell_this_entry-requires-clause-unspelled c =
    subst (λ (o : Option (List ℕ)). IsUnspelledIn c.args.crafts o) (first-line c.args.lines.now c.again.result c.next.new.self c.in-Some.text.now c.again.ensures c.in-Some.ensures) c.requires.unspelled

pub returns-in-Some : goal.returns-in-Some
returns-in-Some c =
    subst (λ (o : Option (List ℕ)). IsToldBy c.args.line (TellsEntryLine c.args.crafts c.args.announced c.args.entries o) c.tell_this_entry.result) (sym (first-line c.args.lines.now c.again.result c.next.new.self c.in-Some.text.now c.again.ensures c.in-Some.ensures))
    c.tell_this_entry.ensures

pub returns-in-None : goal.returns-in-None
returns-in-None c =
    subst (λ (o : Option (List ℕ)). IsToldBy c.args.line (TellsEntryLine c.args.crafts c.args.announced c.args.entries o) c.sentence_of.result) (sym (first-none c.args.lines.now c.again.result c.again.ensures c.in-None.ensures.0))
    (record { why = why.NoEntry c.args.announced c.args.entries; fitting = refl; told_is = c.sentence_of.ensures })
