use Rattle.std.proofs.Common.{◌&&◌, eqb, not, sym, ap, ◌∙◌, length, arith}
use Rattle.std.specs.Prelude.{nat_lt}
use Rattle.acas_base.specs.Fates.{fate_of}
use Rattle.air_journal.proofs.WellFormed.{entries-fit}
use Rattle.air_rules.specs.Journal.{sent_at}
use Rattle.deliveries.proofs.Befalling.{lost-is, repeated-is, spoilt-is, untaken-is}
use Rattle.deliveries.proofs.Slots.{sends-few-by}
use Rattle.deliveries.specs.Mishaps.{befalls}
use Rattle.deliveries.specs.Noted.{some_copy, some_left, takes_by}
use Rattle.deliveries.specs.declared.mishap.Mishap.{Mishap}
use Rattle.deliveries.specs.declared.takes.Copies.{Copies}
use Rattle.deliveries.specs.declared.takes.Takes.{Takes}
use Rattle.deliveries.proofs.deliveries.Deliveries.befalls.Goals as goal

pub takes-takes-requires-clause-number : goal.takes-takes-requires-clause-number
takes-takes-requires-clause-number c =
    let e = c.args.self.now.encounter in
    let few = sends-few-by e c.args.self.now.journal c.legal_law.ensures.valid c.legal_law.ensures.legal c.args.sender c.args.receiver in
    let last = c.requires.last in
    (c.requires.first, omega arith)

pub returns-in-Lost : goal.returns-in-Lost
returns-in-Lost c =
    let e = c.args.self.now.encounter in
    let J = c.args.self.now.journal in
    let s = c.args.sender in
    let r = c.args.receiver in
    let n = c.args.number in
    let fate = fate_of e s r n in
    ap (λ (it : Copies). eqb it.count 0) c.copies-copies.ensures ∙ lost-is fate.copies fate.first fate.second fate.third ∙ ap (λ (m : Mishap). befalls e J m s r n) (sym c.in-Lost.is)

pub returns-in-Spoilt : goal.returns-in-Spoilt
returns-in-Spoilt c =
    let e = c.args.self.now.encounter in
    let J = c.args.self.now.journal in
    let s = c.args.sender in
    let r = c.args.receiver in
    let n = c.args.number in
    c.is_spoilt.ensures ∙ ap (λ (it : Takes). some_copy it && not it.good) c.takes-takes.ensures
    ∙ spoilt-is (length e.crafts) J s r n (entries-fit e J c.legal_law.ensures.valid c.legal_law.ensures.legal)
    ∙ ap (λ (m : Mishap). befalls e J m s r n) (sym c.in-Spoilt.is)

pub returns-in-HeldBack : goal.returns-in-HeldBack
returns-in-HeldBack c =
    let e = c.args.self.now.encounter in
    let J = c.args.self.now.journal in
    ap (λ (it : Copies). it.held) c.copies-copies.ensures ∙ ap (λ (m : Mishap). befalls e J m c.args.sender c.args.receiver c.args.number) (sym c.in-HeldBack.is)

pub returns-in-Repeated : goal.returns-in-Repeated
returns-in-Repeated c =
    let e = c.args.self.now.encounter in
    let J = c.args.self.now.journal in
    let s = c.args.sender in
    let r = c.args.receiver in
    let n = c.args.number in
    let fate = fate_of e s r n in
    ap (λ (it : Copies). nat_lt 1 it.count) c.copies-copies.ensures ∙ repeated-is fate.copies fate.first fate.second fate.third ∙ ap (λ (m : Mishap). befalls e J m s r n) (sym c.in-Repeated.is)

pub returns-in-Untaken : goal.returns-in-Untaken
returns-in-Untaken c =
    let e = c.args.self.now.encounter in
    let J = c.args.self.now.journal in
    let s = c.args.sender in
    let r = c.args.receiver in
    let n = c.args.number in
    let fate = fate_of e s r n in
    c.some_left.ensures ∙ ap (λ (it : Takes). some_left it c.copies-copies.result.count) c.takes-takes.ensures
    ∙ ap (λ (it : Copies). some_left (takes_by (sent_at J) J s r n) it.count) c.copies-copies.ensures
    ∙ untaken-is J s r n fate.copies fate.first fate.second fate.third
    ∙ ap (λ (m : Mishap). befalls e J m s r n) (sym c.in-Untaken.is)
