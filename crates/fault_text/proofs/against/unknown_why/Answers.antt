use Rattle.std.proofs.Common.{◌≡◌, ◌∙◌, sym, true, false, inl, inr}
use Rattle.std.proofs.lemmas.Bool.{false≢true}
use Rattle.enc_file.specs.Conditions.{is_stranger}
use Rattle.fault_text.specs.Before.{has_second}
use Rattle.fault_text.specs.Lines.{fields_in}
use Rattle.fault_text.specs.Rows.{records_in}
use Rattle.fault_text.proofs.AfterOthers.{equal-by, tells-equal}
use Rattle.fault_text.proofs.against.unknown_why.Goals as goal
use Rattle.fault_text.proofs.against.unknown_why.Goals.{then-has_second+in_default-stranger, else-has_second}

pub returns-in-Some : goal.returns-in-Some
returns-in-Some c = λ earlier a.
    inl (record { called = c.first_name-name.ensures; strange = c.in-Some.ensures earlier a.before })

pub returns-in-Some-stranger : goal.returns-in-Some-stranger
returns-in-Some-stranger c = λ earlier a.
    let one = rw c.in_default.is at (c.stranger.ensures earlier a.before) in
    inr (record { called = c.second_name-name.ensures; strange = c.in-Some-stranger.ensures earlier a.before }, one)

pub returns : goal.returns
returns c = λ earlier a.
    let one = rw c.in_default.is at (c.stranger.ensures earlier a.before) in
    let two : has_second c.args.kind ≡ true → is_stranger (records_in earlier) (fields_in c.args.line.now) 2 ≡ false = elim c.if-has_second.branch [
      | then-has_second+in_default-stranger w ↦ λ e. rw w.in_default-stranger.is at (w.stranger-then-has_second.ensures earlier a.before)
      | else-has_second w ↦ λ e. absurd (false≢true (sym (sym c.has_second.ensures ∙ w.if-has_second.false) ∙ e))
    ] in
    tells-equal (records_in earlier) (fields_in c.args.line.now) c.field.result.now c.field.ensures (equal-by (records_in earlier) c.args.kind (fields_in c.args.line.now) a.fault one two) one
