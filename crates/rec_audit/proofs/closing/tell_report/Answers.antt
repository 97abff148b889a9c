use Rattle.std.proofs.Common.{◌≡◌, ◌∙◌, ◌-◌, ap, sym, take, arith}
use Rattle.std.specs.Prelude.{slice_get}
use Rattle.acas_lines.specs.Lines.{joined}
use Rattle.acas_lines.specs.Split.{lines_of}
use Rattle.rec_audit.proofs.Telling.{before-bytes, rest-within, same-state}
use Rattle.rec_audit.proofs.Texts.{legal-end, report-placed, report-told, some-line, state-there, wrong-end}
use Rattle.rec_audit.specs.declared.verdict.Loaded.TheVariants as loaded
use Rattle.rec_audit.specs.declared.verdict.Reason.TheVariants.{Report}
use Rattle.rec_audit.proofs.closing.tell_report.Goals as goal

pub lines_from-lines-requires-clause-some : goal.lines_from-lines-requires-clause-some
lines_from-lines-requires-clause-some c = some-line (lines_of c.args.bytes.now) c.args.line Report c.requires.wrong

pub returns-in-Legal : goal.returns-in-Legal
returns-in-Legal c =
    let p = report-placed c.args.bytes.now c.args.line c.requires.wrong in
    let ends = legal-end c.args.bytes.now c.args.line c.in-Legal.state c.in_ok-state.field-0 c.verdict_law.ensures.part p c.in_ok-state.ensures c.in-Legal.is in
    report-told c.args.bytes.now c.args.line c.tell_closing.result p c.in-Legal.state (slice_get c.lines_from-lines.result.left 0) 0 ends.state_is (ap (λ l. slice_get l 0) c.lines_from-lines.ensures) (sym ends.same_is) c.tell_closing.ensures

pub lines_from-rest-requires-clause-some : goal.lines_from-rest-requires-clause-some
lines_from-rest-requires-clause-some c =
    let p = report-placed c.args.bytes.now c.args.line c.requires.wrong in
    let end = wrong-end c.args.bytes.now c.args.line c.in-Wrong.end c.in-Wrong.field-1 c.in_ok-state.field-0 c.verdict_law.ensures.part p c.in_ok-state.ensures c.in-Wrong.is in
    omega (arith, end, p.stands.some)

pub slice_bounds-load_part-count : goal.slice_bounds-load_part-count
slice_bounds-load_part-count c = omega (arith, rest-within c.args.bytes.now c.rest.result.now (c.in-Wrong.end - 1) (c.rest.ensures ∙ ap joined c.lines_from-rest.ensures))

pub overflow_sub-line : goal.overflow_sub-line
overflow_sub-line c =
    let p = report-placed c.args.bytes.now c.args.line c.requires.wrong in
    let end = wrong-end c.args.bytes.now c.args.line c.in-Wrong.end c.in-Wrong.field-1 c.in_ok-state.field-0 c.verdict_law.ensures.part p c.in_ok-state.ensures c.in-Wrong.is in
    omega (arith, end, p.line_is)

pub unreachable-requires : goal.unreachable-requires
unreachable-requires c =
    let p = report-placed c.args.bytes.now c.args.line c.requires.wrong in
    let end = wrong-end c.args.bytes.now c.args.line c.in-Wrong.end c.in-Wrong.field-1 c.in_ok-state.field-0 c.verdict_law.ensures.part p c.in_ok-state.ensures c.in-Wrong.is in
    let rest = c.rest.ensures ∙ ap joined c.lines_from-rest.ensures in
    let cut = before-bytes c.args.bytes.now c.rest.result.now (c.in-Wrong.end - 1) rest ∙ ap (λ n. joined (take (n - 1) (lines_of c.args.bytes.now))) end in
    let clash : loaded.Legal p.state ≡ loaded.Wrong c.in-Wrong-2.field-0 c.in-Wrong-2.field-1 = state-there c.args.bytes.now _ c.args.line c.in_ok-state-2.field-0 c.verdict_law.ensures.part p cut c.in_ok-state-2.ensures ∙ c.in-Wrong-2.is in
    absurd cc

pub returns : goal.returns
returns c =
    let p = report-placed c.args.bytes.now c.args.line c.requires.wrong in
    let end = wrong-end c.args.bytes.now c.args.line c.in-Wrong.end c.in-Wrong.field-1 c.in_ok-state.field-0 c.verdict_law.ensures.part p c.in_ok-state.ensures c.in-Wrong.is in
    let rest = c.rest.ensures ∙ ap joined c.lines_from-rest.ensures in
    let cut = before-bytes c.args.bytes.now c.rest.result.now (c.in-Wrong.end - 1) rest ∙ ap (λ n. joined (take (n - 1) (lines_of c.args.bytes.now))) end in
    let same = same-state p.state c.in-Legal-2.state (state-there c.args.bytes.now _ c.args.line c.in_ok-state-2.field-0 c.verdict_law.ensures.part p cut c.in_ok-state-2.ensures ∙ c.in-Legal-2.is) in
    report-told c.args.bytes.now c.args.line c.tell_closing-in-Legal-2.result p c.in-Legal-2.state (slice_get c.lines_from-lines.result.left 0) (c.args.line - c.in-Wrong.end) same (ap (λ l. slice_get l 0) c.lines_from-lines.ensures)
    (omega (arith, end, p.line_is)) c.tell_closing-in-Legal-2.ensures
