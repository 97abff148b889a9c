use Rattle.std.proofs.Common.{◌≡◌, ◌∙◌, ◌-◌, ap, sym, drop, length, take, arith}
use Rattle.acas_lines.specs.Lines.{joined}
use Rattle.acas_lines.specs.Split.{lines_of}
use Rattle.rec_audit.proofs.Telling.{IsPlaced, before-bytes, placed, rest-within, same-state, stands-moved, state-before, told-after, wrong-moved}
use Rattle.rec_audit.proofs.Texts.{some-line}
use Rattle.rec_audit.specs.declared.verdict.Loaded.TheVariants as loaded
use Rattle.rec_audit.proofs.explaining.tell_after.Goals as goal
use Rattle.rec_audit.proofs.explaining.tell_after.Goals.{After-lines_from-lines, After-rest}

place : (c : After-lines_from-lines) → IsPlaced c.args.bytes.now c.args.line c.args.reason
place c = placed c.args.bytes.now c.args.line c.args.reason c.requires.after c.requires.wrong

left : (c : After-rest) → c.lines_from-lines.result.left ≡ drop (c.args.line - 1) (lines_of c.args.bytes.now)
left c = c.lines_from-lines.ensures

rest : (c : After-rest) → c.rest.result.now ≡ joined (drop (c.args.line - 1) (lines_of c.args.bytes.now))
rest c = c.rest.ensures ∙ ap joined (left c)

cut : (c : After-rest) → take (length c.args.bytes.now - length c.rest.result.now) c.args.bytes.now ≡ joined (take (c.args.line - 1) (lines_of c.args.bytes.now))
cut c = before-bytes c.args.bytes.now c.rest.result.now (c.args.line - 1) (rest c)

pub lines_from-lines-requires-clause-some : goal.lines_from-lines-requires-clause-some
lines_from-lines-requires-clause-some c = some-line (lines_of c.args.bytes.now) c.args.line c.args.reason c.requires.wrong

pub slice_bounds-before-count : goal.slice_bounds-before-count
slice_bounds-before-count c = omega (arith, rest-within c.args.bytes.now c.rest.result.now (c.args.line - 1) (rest (goal.at.slice_bounds-before-count c).After-rest))

pub tell_here-requires : goal.tell_here-requires
tell_here-requires c =
    let at = goal.at.tell_here-requires c in
    let p = place at.After-lines_from-lines in
    let same : p.state ≡ c.in-Legal.state = same-state p.state c.in-Legal.state (state-before c.args.bytes.now _ c.args.line c.args.reason c.in_ok-state.field-0 c.verdict_law.ensures.part p (cut at.After-rest) c.in_ok-state.ensures ∙ c.in-Legal.is) in
    record { wrong = wrong-moved p.state c.in-Legal.state p.left c.lines_from-lines.result.left c.args.reason same (sym (left at.After-rest ∙ p.stands.left_is)) p.wrong }

pub unreachable-requires : goal.unreachable-requires
unreachable-requires c =
    let at = goal.at.unreachable-requires c in
    let p = place at.After-lines_from-lines in
    let clash : loaded.Legal p.state ≡ loaded.Wrong c.in-Wrong.field-0 c.in-Wrong.field-1 =
    state-before c.args.bytes.now _ c.args.line c.args.reason c.in_ok-state.field-0 c.verdict_law.ensures.part p (cut at.After-rest) c.in_ok-state.ensures ∙ c.in-Wrong.is in
    absurd cc

pub returns : goal.returns
returns c =
    let at = goal.at.returns c in
    let p = place at.After-lines_from-lines in
    let same : p.state ≡ c.in-Legal.state = same-state p.state c.in-Legal.state (state-before c.args.bytes.now _ c.args.line c.args.reason c.in_ok-state.field-0 c.verdict_law.ensures.part p (cut at.After-rest) c.in_ok-state.ensures ∙ c.in-Legal.is) in
    told-after c.args.bytes.now c.args.line c.args.reason c.in-Legal.state c.lines_from-lines.result.left c.tell_here.result c.requires.after
    (stands-moved c.args.bytes.now c.args.line p.state c.in-Legal.state p.left c.lines_from-lines.result.left same (sym (left at.After-rest ∙ p.stands.left_is)) p.stands) c.tell_here.ensures
