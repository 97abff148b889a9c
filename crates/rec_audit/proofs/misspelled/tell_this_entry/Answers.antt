use Rattle.std.proofs.Common.{◌≡◌, ◌∙◌, ℕ, List, refl, subst, sym}
use Rattle.std.specs.Prelude.{MatchBool}
use Rattle.rec_audit.specs.Explaining.{TellsLater}
use Rattle.verdict_text.specs.declared.fault.Why.{Why}
use Rattle.verdict_text.specs.declared.fault.Why.TheVariants as why
use Rattle.rec_audit.proofs.misspelled.tell_this_entry.Goals as goal

pub returns-then-begins_report : goal.returns-then-begins_report
returns-then-begins_report c =
    let early = why.EarlyReport c.args.announced c.args.entries in record {
      why = early;
      fitting = subst (λ b. MatchBool b (early ≡ early) (TellsLater c.args.crafts c.args.text.now early)) (sym (sym c.begins_report.ensures ∙ c.if-begins_report.true)) refl;
      told_is = c.sentence_of.ensures;
    }
