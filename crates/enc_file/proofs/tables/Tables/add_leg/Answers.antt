use Rattle.std.proofs.Common.{◌≡◌, ◌∙◌, sym, ap, arith, refl, subst, Some, None}
use Rattle.acas_base.specs.Order.{leg_below}
use Rattle.acas_base.specs.declared.TheConstants.{CRAFTS}
use Rattle.acas_base.specs.declared.craft.Leg.{Leg}
use Rattle.enc_file.specs.Earlier.{crafts_of, index_of, leg_by, leg_group, legs_of}
use Rattle.enc_file.specs.Faults.{fault_of}
use Rattle.enc_file.specs.Groups.{Lists, leg_masked}
use Rattle.enc_file.specs.declared.record.Record.TheVariants as said
use Rattle.enc_file.specs.declared.refusal.Code.TheVariants as code
use Rattle.enc_file.proofs.Refused.{leg-unknown, refuses, wanting}
use Rattle.enc_file.proofs.Tabled.{craft-within, groups-length, held-leg, leg-kept, listed, settled}
use Rattle.enc_file.proofs.tables.Tables.add_leg.Goals as goal

pub returns-in_default : goal.returns-in_default
returns-in_default c = λ earlier going h.
    let at : index_of (crafts_of earlier) c.args.address ≡ None = ap (λ crafts. index_of crafts c.args.address) (sym h.crafts) ∙ sym c.index_of.ensures ∙ c.in_default.is in
    refuses earlier c.args.self.now (λ why. fault_of earlier (said.Leg c.args.address c.args.course) ≡ Some why) code.Unknown c.refused.result h (leg-unknown earlier c.args.address c.args.course at) c.refused.ensures

pub overflow_cast-craft : goal.overflow_cast-craft
overflow_cast-craft c =
    let h = c.requires.held.holds in
    let earlier = c.requires.held.earlier in
    let at : index_of (crafts_of earlier) c.args.address ≡ Some c.in-Some.craft = ap (λ crafts. index_of crafts c.args.address) (sym h.crafts) ∙ sym c.index_of.ensures ∙ c.in-Some.is in
    omega (arith, craft-within earlier c.args.address c.in-Some.craft h.read at)

pub add_listed-requires : goal.add_listed-requires
add_listed-requires c =
    let h = c.requires.held.holds in
    let earlier = c.requires.held.earlier in
    let at : index_of (crafts_of earlier) c.args.address ≡ Some c.in-Some.craft = ap (λ crafts. index_of crafts c.args.address) (sym h.crafts) ∙ sym c.index_of.ensures ∙ c.in-Some.is in
    rw (c.leg_by.ensures) (omega (arith, craft-within earlier c.args.address c.in-Some.craft h.read at, groups-length leg_group (legs_of earlier) c.args.self.now.legs CRAFTS h.legs))

pub returns-in_err-fault : goal.returns-in_err-fault
returns-in_err-fault c = λ earlier going h. wanting _ _ _ c.from_residual.result c.from_residual.ensures.1

pub returns : goal.returns
returns c = λ earlier going h.
    let at : index_of (crafts_of earlier) c.args.address ≡ Some c.in-Some.craft = ap (λ crafts. index_of crafts c.args.address) (sym h.crafts) ∙ sym c.index_of.ensures ∙ c.in-Some.is in
    let lists : Lists leg_group leg_below leg_masked c.args.self.now.legs (leg_by c.args.course c.in-Some.craft) c.add_listed.new.self c.in_ok-fault.fault =
    subst (λ (x : Leg). Lists leg_group leg_below leg_masked c.args.self.now.legs x c.add_listed.new.self c.in_ok-fault.fault) c.leg_by.ensures c.in_ok-fault.ensures in
    let fault = lists.0 ∙ leg-kept earlier c.args.self.now c.args.address c.args.course c.in-Some.craft h at in
    settled earlier (said.Leg c.args.address c.args.course) c.args.self.now (record c.args.self.now { legs = c.add_listed.new.self }) c.settle.new.self c.in_ok-fault.fault c.settle.result h refl fault
    (λ none. held-leg earlier c.args.self.now c.args.address c.args.course c.in-Some.craft c.add_listed.new.self h going (c.requires.said, tt, sym fault ∙ none) at
    (listed leg_group leg_below leg_masked c.args.self.now.legs c.add_listed.new.self (leg_by c.args.course c.in-Some.craft) c.in_ok-fault.fault lists none)) c.settle.ensures
