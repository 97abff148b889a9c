use Rattle.std.proofs.Common.{refl, ◌≡◌, ◌∙◌, ap, sym, true, false}
use Rattle.std.specs.Prelude.{is_some}
use Rattle.enc_file.specs.Values.{count_in, field}
use Rattle.fault_text.specs.Before.{alike}
use Rattle.fault_text.specs.Lines.{fields_in}
use Rattle.fault_text.specs.Rows.{rises}
use Rattle.fault_text.proofs.AfterOthers.{last-as, repeat-found, risen, tells-above, tells-again}
use Rattle.fault_text.proofs.against.repeat_why.Goals as goal

pub called_why-requires-clause-none : goal.called_why-requires-clause-none
called_why-requires-clause-none c =
    last-as c.args.text.now c.args.at c.alike-sought.result (alike c.args.kind (fields_in c.args.line.now)) c.last_before.result _ c.alike-sought.ensures c.in_default.is c.last_before.ensures

pub number_at-reached-requires : goal.number_at-reached-requires
number_at-reached-requires c =
    let up : rises c.args.kind ≡ true = sym c.rises.ensures ∙ c.if-rises.true in
    let last = last-as c.args.text.now c.args.at c.alike-sought.result (alike c.args.kind (fields_in c.args.line.now)) c.last_before.result _ c.alike-sought.ensures c.in-Some.is c.last_before.ensures in
    let f = repeat-found c.args.text.now c.args.at c.args.kind c.args.line.now c.requires.against.0 c.in-Some.place c.requires.against.1 last in
    let n = risen c.args.text.now c.args.at c.args.kind c.args.line.now c.requires.against.0 c.in-Some.place c.requires.against.1 up f in
    ap (λ p. is_some (count_in 1 600 (field (fields_in c.in-Some.place.line.now) p))) c.reached_place.ensures ∙ ap is_some n.risen.stands

pub returns-then-rises : goal.returns-then-rises
returns-then-rises c = λ earlier a.
    let up : rises c.args.kind ≡ true = sym c.rises.ensures ∙ c.if-rises.true in
    let last = last-as c.args.text.now c.args.at c.alike-sought.result (alike c.args.kind (fields_in c.args.line.now)) c.last_before.result _ c.alike-sought.ensures c.in-Some.is c.last_before.ensures in
    tells-above c.args.text.now c.args.at c.args.kind c.args.line.now earlier c.in-Some.place c.number_at-found.result c.number_at-reached.result a up last
    (ap (λ p. count_in 1 600 (field (fields_in c.args.line.now) p)) (sym c.rising_place.ensures) ∙ c.number_at-found.ensures)
    (ap (λ p. count_in 1 600 (field (fields_in c.in-Some.place.line.now) p)) (sym c.reached_place.ensures) ∙ c.number_at-reached.ensures)

pub returns : goal.returns
returns c = λ earlier a.
    let up : rises c.args.kind ≡ false = sym c.rises.ensures ∙ c.if-rises.false in
    let last = last-as c.args.text.now c.args.at c.alike-sought.result (alike c.args.kind (fields_in c.args.line.now)) c.last_before.result _ c.alike-sought.ensures c.in-Some.is c.last_before.ensures in
    tells-again c.args.text.now c.args.at c.args.kind c.args.line.now earlier c.in-Some.place c.args.line refl a up last
