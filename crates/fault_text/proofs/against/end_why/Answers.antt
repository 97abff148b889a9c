use Rattle.std.proofs.Common.{◌≡◌, ◌∙◌, sym, true, nat_le, arith}
use Rattle.std.specs.List.{list_any}
use Rattle.enc_file.specs.Earlier.{version_of}
use Rattle.fault_text.specs.Before.{is_about}
use Rattle.fault_text.specs.Rows.{records_in}
use Rattle.fault_text.specs.declared.names.RecordKind.TheVariants as kind
use Rattle.fault_text.proofs.AfterOthers.{nobody-active, older-format, profile-given, profile-none, run-none, third-format}
use Rattle.fault_text.proofs.Repeats.{of-kind}
use Rattle.fault_text.specs.Lines.{fields_in}
use Rattle.fault_text.proofs.against.end_why.Goals as goal

pub returns-then-not-is_given : goal.returns-then-not-is_given
returns-then-not-is_given c = λ line earlier version a. run-none (records_in earlier) (sym (c.is_given.ensures earlier a.before) ∙ c.if-not-is_given.true)

pub returns-then-version-lt3 : goal.returns-then-version-lt3
returns-then-version-lt3 c = λ line earlier version a.
    let run : list_any (is_about (of-kind kind.Run)) (records_in earlier) ≡ true = sym (c.is_given.ensures earlier a.before) ∙ c.if-not-is_given.false in
    nobody-active (records_in earlier) (fields_in line) a.fault run (older-format (version_of (records_in earlier)) _ (omega (arith, version, c.if-version-lt3.true)))

pub returns-then-not-is_given-2 : goal.returns-then-not-is_given-2
returns-then-not-is_given-2 c = λ line earlier version a.
    let run : list_any (is_about (of-kind kind.Run)) (records_in earlier) ≡ true = sym (c.is_given.ensures earlier a.before) ∙ c.if-not-is_given.false in
    profile-none (records_in earlier) run (third-format (version_of (records_in earlier)) (omega (arith, version, c.if-version-lt3.false))) (sym (c.is_given-2.ensures earlier a.before) ∙ c.if-not-is_given-2.true)

pub returns : goal.returns
returns c = λ line earlier version a.
    let run : list_any (is_about (of-kind kind.Run)) (records_in earlier) ≡ true = sym (c.is_given.ensures earlier a.before) ∙ c.if-not-is_given.false in
    nobody-active (records_in earlier) (fields_in line) a.fault run (profile-given (nat_le 3 (version_of (records_in earlier))) _ (sym (c.is_given-2.ensures earlier a.before) ∙ c.if-not-is_given-2.false))
