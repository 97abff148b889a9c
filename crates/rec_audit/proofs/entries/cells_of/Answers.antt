use Rattle.std.proofs.Common.{◌≡◌, ◌∙◌, ◌++◌, ◌∷◌, [], arith, sym, ap, refl, drop, take, map, get_or, add-one, eqb-true, length-set}
use Rattle.std.proofs.lemmas.List.Elements.{All-set}
use Rattle.air_journal.specs.Ranges.{IsCell}
use Rattle.std.proofs.lemmas.List.{take_more_set, map-append}
use Rattle.acas_base.specs.declared.advisory.Cell.TheVariants.{Clear}
use Rattle.advisory_report.specs.Cells.{cell_text}
use Rattle.rec_audit.proofs.Placed.{at-rest, field-at, not-empty, past-more, past-set, own-set, rest-none, eqb-yes}
use Rattle.rec_audit.proofs.entries.cells_of.Goals as goal

pub returns-in_err-next : goal.returns-in_err-next
returns-in_err-next c = rw (c.from_residual.ensures) (λ cells are e.
    let i = c.loop-place.invariant in
    not-empty c.args.count c.loop-place.place cells.list (omega arith) (omega (arith, are.size)) (sym c.in_err-next.ensures.0 ∙ i.rest ∙ ap (drop c.loop-place.place) (sym e)))

pub returns-in_err-cell : goal.returns-in_err-cell
returns-in_err-cell c = rw (c.from_residual-in_err-cell.ensures) (λ cells are e.
    let i = c.loop-place.invariant in
    let p = c.loop-place.place in
    let field = field-at c.args.count p cells.list _ _ (omega arith) (omega (arith, are.size)) (sym c.in_ok-next.ensures ∙ i.rest ∙ ap (drop p) (sym e)) in
    c.in_err-cell.ensures (get_or cells.list p Clear) (are.each p Clear (omega (arith, are.size)))
    (λ own. ap (λ k. get_or cells.list k Clear) (eqb-true p c.args.own own) ∙ are.own_place) (sym field))

pub loop-place-preserved : goal.loop-place-preserved
loop-place-preserved c =
    let i = c.loop-place.invariant in
    let p = c.loop-place.place in
    let cells = c.loop-place.list in
    let cell = c.in_ok-cell.cell in
    let next = at-rest c.args.fields.now p c.in_ok-next.field-0.now c.next.new.self (sym c.in_ok-next.ensures ∙ i.rest) in
    let front = ap (map cell_text) (take_more_set cells p cell (omega (arith, i.room))) ∙ map-append cell_text (take p cells) (cell ∷ []) ∙ ap (λ t. t ++ cell_text cell ∷ []) i.read
    ∙ ap (λ t. take p c.args.fields.now ++ t ∷ []) (sym c.in_ok-cell.ensures.2) ∙ sym next.0 in
    rw (c.from.ensures) (record {
      room = omega (arith, i.room, length-set cells p cell);
      read = front ∙ ap (λ k. take k c.args.fields.now) (sym (add-one p));
      rest = next.1 ∙ ap (λ k. drop k c.args.fields.now) (sym (add-one p));
      each = All-set IsCell cells p cell c.in_ok-cell.ensures.0 i.each;
      own_place = own-set cells p c.args.own cell i.own_place (λ e. c.in_ok-cell.ensures.1 (eqb-yes p c.args.own e));
      past = rw add-one (past-set cells p cell ∙ past-more cells p (omega arith) i.past);
    })

pub returns : goal.returns
returns c =
    let i = c.loop-place.invariant in
    let n = c.args.count in
    let all : c.loop-place.place ≡ n = omega arith in
    let empty : [] ≡ drop n c.args.fields.now = sym (c.if-not-is_done.ensures.0 refl) ∙ i.rest ∙ ap (λ k. drop k c.args.fields.now) all in (
      record { size = i.room; each = i.each; own_place = i.own_place; past = rw all at i.past },
      sym (rest-none n c.args.fields.now empty) ∙ sym (rw all at i.read),
    )
