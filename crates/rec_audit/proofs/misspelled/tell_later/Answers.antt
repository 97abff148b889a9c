use Rattle.std.proofs.Common.{◌≡◌, ◌∙◌, ◌++◌, ◌∷◌, [], ap, arith, inl, inr, length, length-append, refl}
use Rattle.advisory_report.specs.Cells.{flag}
use Rattle.rec_audit.proofs.Rightly.{fields-line}
use Rattle.verdict_text.specs.declared.fault.Why.TheVariants as why
use Rattle.rec_audit.proofs.misspelled.tell_later.Goals as goal
use Rattle.rec_audit.proofs.misspelled.tell_later.Goals.{Then-is_whole}

whole : (c : Then-is_whole) → c.args.text.now ≡ c.before_flag-is_whole.result.0.now ++ 10 ∷ []
whole c = c.before_flag-is_whole.ensures.whole ∙ ap (λ b. c.before_flag-is_whole.result.0.now ++ flag b (10 ∷ [])) c.if-is_whole.true

pub form_why-requires-clause-few : goal.form_why-requires-clause-few
form_why-requires-clause-few c =
    let body = c.before_flag-is_whole.result.0.now in
    omega (arith, ap length (whole (goal.at.form_why-requires-clause-few c).Then-is_whole), length-append body (10 ∷ []), c.requires.unspelled.few)

pub form_why-requires-clause-unspelled : goal.form_why-requires-clause-unspelled
form_why-requires-clause-unspelled c = λ entry fits same.
    c.requires.unspelled.none entry fits (fields-line c.args.crafts entry c.before_flag-is_whole.result.0.now c.args.text.now (whole (goal.at.form_why-requires-clause-unspelled c).Then-is_whole) same)

pub returns-then-is_whole : goal.returns-then-is_whole
returns-then-is_whole c = record {
  why = c.form_why.result;
  fitting = inl (record {
    body = c.before_flag-is_whole.result.0.now;
    whole = whole (goal.at.returns-then-is_whole c).Then-is_whole;
    tells = c.form_why.ensures;
  });
  told_is = c.sentence_of.ensures;
}

pub returns : goal.returns
returns c =
    let never = rw (c.if-is_whole.false) at c.before_flag-is_whole.ensures.none in
    record {
      why = why.Unfinished c.args.text;
      fitting = inr (refl, λ whole. never whole.0 whole.1);
      told_is = c.sentence_of-2.ensures;
    }
