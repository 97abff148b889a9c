use Rattle.std.proofs.Common.{◌≡◌, ◌∙◌, sym, ap, arith, refl, subst, Some, None, ◌*◌}
use Rattle.acas_base.specs.Order.{fate_below}
use Rattle.acas_base.specs.declared.TheConstants.{CRAFTS}
use Rattle.acas_base.specs.declared.link.Fate.{Fate}
use Rattle.enc_file.specs.Earlier.{crafts_of, fate_by, fate_group, fates_of}
use Rattle.enc_file.specs.Faults.{fault_of}
use Rattle.enc_file.specs.Groups.{Lists, fate_masked}
use Rattle.enc_file.specs.declared.record.Record.TheVariants as said
use Rattle.enc_file.specs.declared.refusal.Code.TheVariants as code
use Rattle.enc_file.proofs.Named.{pair-of}
use Rattle.enc_file.proofs.Refused.{fate-unknown, refuses, wanting}
use Rattle.enc_file.proofs.Tabled.{fate-kept, groups-length, held-fate, listed, number-within, pair-in, settled, still-holds}
use Rattle.enc_file.proofs.tables.Tables.add_fate.Goals as goal

pub returns-in_default : goal.returns-in_default
returns-in_default c = λ earlier going h.
    let at : pair-of (crafts_of earlier) c.args.pair ≡ None = ap (λ crafts. pair-of crafts c.args.pair) (sym h.crafts) ∙ sym c.pair_of.ensures.found ∙ c.in_default.is in
    refuses earlier c.pair_of.new.self (λ why. fault_of earlier (said.Fate c.args.pair c.args.number c.args.copies) ≡ Some why) code.Unknown c.refused.result (still-holds earlier c.args.self.now c.pair_of.new.self c.pair_of.ensures.kept h) (fate-unknown earlier c.args.pair c.args.number c.args.copies at) c.refused.ensures

pub overflow_cast-sender : goal.overflow_cast-sender
overflow_cast-sender c =
    let h = c.requires.held.holds in
    let earlier = c.requires.held.earlier in
    let at : pair-of (crafts_of earlier) c.args.pair ≡ Some (c.in-Some.sender, c.in-Some.receiver) = ap (λ crafts. pair-of crafts c.args.pair) (sym h.crafts) ∙ sym c.pair_of.ensures.found ∙ c.in-Some.is in
    omega (arith, (pair-in earlier c.args.pair (c.in-Some.sender, c.in-Some.receiver) h.read at).0)

pub overflow_cast-receiver : goal.overflow_cast-receiver
overflow_cast-receiver c =
    let h = c.requires.held.holds in
    let earlier = c.requires.held.earlier in
    let at : pair-of (crafts_of earlier) c.args.pair ≡ Some (c.in-Some.sender, c.in-Some.receiver) = ap (λ crafts. pair-of crafts c.args.pair) (sym h.crafts) ∙ sym c.pair_of.ensures.found ∙ c.in-Some.is in
    omega (arith, (pair-in earlier c.args.pair (c.in-Some.sender, c.in-Some.receiver) h.read at).1)

pub add_listed-requires : goal.add_listed-requires
add_listed-requires c =
    let h = c.requires.held.holds in
    let earlier = c.requires.held.earlier in
    let at : pair-of (crafts_of earlier) c.args.pair ≡ Some (c.in-Some.sender, c.in-Some.receiver) = ap (λ crafts. pair-of crafts c.args.pair) (sym h.crafts) ∙ sym c.pair_of.ensures.found ∙ c.in-Some.is in
    rw (c.fate_by-fate.ensures) (omega (arith, number-within earlier c.args.pair (c.in-Some.sender, c.in-Some.receiver) h.read at, groups-length fate_group (fates_of earlier) c.pair_of.new.self.fates (CRAFTS * CRAFTS) (still-holds earlier c.args.self.now c.pair_of.new.self c.pair_of.ensures.kept h).fates))

pub returns-in_err-fault : goal.returns-in_err-fault
returns-in_err-fault c = λ earlier going h. wanting _ _ _ c.from_residual.result c.from_residual.ensures.1

pub returns : goal.returns
returns c = λ earlier going h.
    let at : pair-of (crafts_of earlier) c.args.pair ≡ Some (c.in-Some.sender, c.in-Some.receiver) = ap (λ crafts. pair-of crafts c.args.pair) (sym h.crafts) ∙ sym c.pair_of.ensures.found ∙ c.in-Some.is in
    let tables = c.pair_of.new.self in
    let held = still-holds earlier c.args.self.now tables c.pair_of.ensures.kept h in
    let lists : Lists fate_group fate_below fate_masked tables.fates (fate_by c.args.number c.args.copies c.in-Some.sender c.in-Some.receiver) c.add_listed.new.self c.in_ok-fault.fault =
    subst (λ (x : Fate). Lists fate_group fate_below fate_masked tables.fates x c.add_listed.new.self c.in_ok-fault.fault) c.fate_by-fate.ensures c.in_ok-fault.ensures in
    let fault = lists.0 ∙ fate-kept earlier tables c.args.pair c.args.number c.args.copies (c.in-Some.sender, c.in-Some.receiver) held at in
    settled earlier (said.Fate c.args.pair c.args.number c.args.copies) tables (record tables { fates = c.add_listed.new.self }) c.settle.new.self c.in_ok-fault.fault c.settle.result held refl fault
    (λ none. held-fate earlier tables c.args.pair c.args.number c.args.copies (c.in-Some.sender, c.in-Some.receiver) c.add_listed.new.self held going (c.requires.said, tt, sym fault ∙ none) at
    (listed fate_group fate_below fate_masked tables.fates c.add_listed.new.self (fate_by c.args.number c.args.copies c.in-Some.sender c.in-Some.receiver) c.in_ok-fault.fault lists none)) c.settle.ensures
