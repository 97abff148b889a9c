use Rattle.std.proofs.Common.{rules, ◌≡◌, ◌∙◌, ◌++◌, ap, sym}
use Rattle.std.specs.Prelude.{codes}
use Rattle.enc_file.specs.Values.{address_in}
use Rattle.fault_text.specs.LeavingText.{leaving_text}
use Rattle.fault_text.specs.Sentences.{named_text, wanted, why_text}
use Rattle.fault_text.specs.Hints.{address_hint}
use Rattle.fault_text.proofs.Pieces.{four, three, two}
use Rattle.fault_text.proofs.sentence.add_why.Goals as goal

pub returns-in-NoHeader-clause-added : goal.returns-in-NoHeader-clause-added
returns-in-NoHeader-clause-added c =
    two c.args.line.now c.text-in-NoHeader.new.self c.add_shown.new.line _ _ c.text-in-NoHeader.ensures.added c.add_shown.ensures.added ∙ ap (λ w. c.args.line.now ++ why_text w) (sym c.in-NoHeader.is)

pub returns-in-NoValue-clause-added : goal.returns-in-NoValue-clause-added
returns-in-NoValue-clause-added c =
    three c.args.line.now c.add_found.new.line c.text-in-NoValue.new.self c.add_wanted.new.line _ _ _ c.add_found.ensures.added c.text-in-NoValue.ensures.added
    (c.add_wanted.ensures.added ∙ ap (λ k. c.text-in-NoValue.new.self ++ wanted c.in-NoValue.name k c.in-NoValue.found.now) c.content.ensures)
    ∙ ap (λ w. c.args.line.now ++ why_text w) (sym c.in-NoValue.is)

pub returns-in-Turned-clause-added : goal.returns-in-Turned-clause-added
returns-in-Turned-clause-added c =
    four c.args.line.now c.text-in-Turned.new.self c.u16.new.self c.text-in-Turned-2.new.self c.u16-in-Turned.new.self _ _ _ _
    c.text-in-Turned.ensures.added c.u16.ensures.added c.text-in-Turned-2.ensures.added c.u16-in-Turned.ensures.added
    ∙ ap (λ w. c.args.line.now ++ why_text w) (sym c.in-Turned.is)

pub returns-in-NoAddress-clause-added : goal.returns-in-NoAddress-clause-added
returns-in-NoAddress-clause-added c =
    three c.args.line.now c.add_found-in-NoAddress.new.line c.text-in-NoAddress.new.self c.text-in-NoAddress-2.new.self _ _ (address_hint c.in-NoAddress.found.now) c.add_found-in-NoAddress.ensures.added c.text-in-NoAddress.ensures.added
    (c.text-in-NoAddress-2.ensures.added ∙ ap (λ t. c.text-in-NoAddress.new.self ++ t) c.address_hint.ensures.text)
    ∙ ap (λ w. c.args.line.now ++ why_text w) (sym c.in-NoAddress.is)

pub returns-in-NoEnd-clause-added : goal.returns-in-NoEnd-clause-added
returns-in-NoEnd-clause-added c = c.text-in-NoEnd.ensures.added ∙ ap (λ w. c.args.line.now ++ why_text w) (sym c.in-NoEnd.is)

pub returns-in-After-clause-added : goal.returns-in-After-clause-added
returns-in-After-clause-added c =
    two c.args.line.now c.text-in-After.new.self c.u32-in-After.new.self _ _ c.text-in-After.ensures.added c.u32-in-After.ensures.added ∙ ap (λ w. c.args.line.now ++ why_text w) (sym c.in-After.is)

pub returns-in-Equal-clause-added : goal.returns-in-Equal-clause-added
returns-in-Equal-clause-added c =
    two c.args.line.now c.text-in-Equal.new.self c.add_shown-in-Equal.new.line _ _ c.text-in-Equal.ensures.added c.add_shown-in-Equal.ensures.added ∙ ap (λ w. c.args.line.now ++ why_text w) (sym c.in-Equal.is)

pub returns-in-NoRun-clause-added : goal.returns-in-NoRun-clause-added
returns-in-NoRun-clause-added c = c.text-in-NoRun.ensures.added ∙ ap (λ w. c.args.line.now ++ why_text w) (sym c.in-NoRun.is)

pub returns-in-NoneActive-clause-added : goal.returns-in-NoneActive-clause-added
returns-in-NoneActive-clause-added c = c.text-in-NoneActive.ensures.added ∙ ap (λ w. c.args.line.now ++ why_text w) (sym c.in-NoneActive.is)

pub returns-in-Outside-clause-added : goal.returns-in-Outside-clause-added
returns-in-Outside-clause-added c =
    let added : c.add_leaving.new.line ≡ c.add_named.new.line ++ leaving_text c.in-Outside.cycle c.in-Outside.axis c.in-Outside.value = search rules in
    three c.args.line.now c.text-in-Outside.new.self c.add_named.new.line c.add_leaving.new.line (codes "aircraft") (named_text (codes " ") (address_in c.in-Outside.craft.now)) _
    c.text-in-Outside.ensures.added (c.add_named.ensures.added ∙ ap (λ o. c.text-in-Outside.new.self ++ named_text (codes " ") o) c.address_in.ensures) added
    ∙ ap (λ w. c.args.line.now ++ why_text w) (sym c.in-Outside.is)

pub returns-in-Called-clause-added : goal.returns-in-Called-clause-added
returns-in-Called-clause-added c =
    three c.args.line.now c.add_found-in-Called.new.line c.text-in-Called.new.self c.u32-in-Called.new.self _ _ _ c.add_found-in-Called.ensures.added c.text-in-Called.ensures.added c.u32-in-Called.ensures.added
    ∙ ap (λ w. c.args.line.now ++ why_text w) (sym c.in-Called.is)

pub returns-in-NoProfile-clause-added : goal.returns-in-NoProfile-clause-added
returns-in-NoProfile-clause-added c = c.text-in-NoProfile.ensures.added ∙ ap (λ w. c.args.line.now ++ why_text w) (sym c.in-NoProfile.is)
