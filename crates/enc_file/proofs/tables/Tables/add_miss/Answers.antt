use Rattle.std.proofs.Common.{◌≡◌, ◌∙◌, sym, ap, arith, refl, subst, Some, None, ◌*◌}
use Rattle.acas_base.specs.Order.{miss_below}
use Rattle.acas_base.specs.declared.TheConstants.{CRAFTS}
use Rattle.acas_base.specs.declared.craft.Miss.{Miss}
use Rattle.enc_file.specs.Earlier.{crafts_of, miss_by, miss_group, misses_of}
use Rattle.enc_file.specs.Faults.{fault_of}
use Rattle.enc_file.specs.Groups.{Lists, miss_masked}
use Rattle.enc_file.specs.declared.record.Record.TheVariants as said
use Rattle.enc_file.specs.declared.refusal.Code.TheVariants as code
use Rattle.enc_file.proofs.Named.{pair-of}
use Rattle.enc_file.proofs.Refused.{miss-unknown, refuses, wanting}
use Rattle.enc_file.proofs.Tabled.{groups-length, held-miss, listed, miss-kept, number-within, pair-in, settled, still-holds}
use Rattle.enc_file.proofs.tables.Tables.add_miss.Goals as goal

pub returns-in_default : goal.returns-in_default
returns-in_default c = λ earlier going h.
    let at : pair-of (crafts_of earlier) c.args.pair ≡ None = ap (λ crafts. pair-of crafts c.args.pair) (sym h.crafts) ∙ sym c.pair_of.ensures.found ∙ c.in_default.is in
    refuses earlier c.pair_of.new.self (λ why. fault_of earlier (said.Miss c.args.pair c.args.from c.args.to) ≡ Some why) code.Unknown c.refused.result (still-holds earlier c.args.self.now c.pair_of.new.self c.pair_of.ensures.kept h) (miss-unknown earlier c.args.pair c.args.from c.args.to at) c.refused.ensures

pub overflow_cast-own : goal.overflow_cast-own
overflow_cast-own c =
    let h = c.requires.held.holds in
    let earlier = c.requires.held.earlier in
    let at : pair-of (crafts_of earlier) c.args.pair ≡ Some (c.in-Some.own, c.in-Some.target) = ap (λ crafts. pair-of crafts c.args.pair) (sym h.crafts) ∙ sym c.pair_of.ensures.found ∙ c.in-Some.is in
    omega (arith, (pair-in earlier c.args.pair (c.in-Some.own, c.in-Some.target) h.read at).0)

pub overflow_cast-target : goal.overflow_cast-target
overflow_cast-target c =
    let h = c.requires.held.holds in
    let earlier = c.requires.held.earlier in
    let at : pair-of (crafts_of earlier) c.args.pair ≡ Some (c.in-Some.own, c.in-Some.target) = ap (λ crafts. pair-of crafts c.args.pair) (sym h.crafts) ∙ sym c.pair_of.ensures.found ∙ c.in-Some.is in
    omega (arith, (pair-in earlier c.args.pair (c.in-Some.own, c.in-Some.target) h.read at).1)

pub add_listed-requires : goal.add_listed-requires
add_listed-requires c =
    let h = c.requires.held.holds in
    let earlier = c.requires.held.earlier in
    let at : pair-of (crafts_of earlier) c.args.pair ≡ Some (c.in-Some.own, c.in-Some.target) = ap (λ crafts. pair-of crafts c.args.pair) (sym h.crafts) ∙ sym c.pair_of.ensures.found ∙ c.in-Some.is in
    rw (c.miss_by-miss.ensures) (omega (arith, number-within earlier c.args.pair (c.in-Some.own, c.in-Some.target) h.read at, groups-length miss_group (misses_of earlier) c.pair_of.new.self.misses (CRAFTS * CRAFTS) (still-holds earlier c.args.self.now c.pair_of.new.self c.pair_of.ensures.kept h).misses))

pub returns-in_err-fault : goal.returns-in_err-fault
returns-in_err-fault c = λ earlier going h. wanting _ _ _ c.from_residual.result c.from_residual.ensures.1

pub returns : goal.returns
returns c = λ earlier going h.
    let at : pair-of (crafts_of earlier) c.args.pair ≡ Some (c.in-Some.own, c.in-Some.target) = ap (λ crafts. pair-of crafts c.args.pair) (sym h.crafts) ∙ sym c.pair_of.ensures.found ∙ c.in-Some.is in
    let tables = c.pair_of.new.self in
    let held = still-holds earlier c.args.self.now tables c.pair_of.ensures.kept h in
    let lists : Lists miss_group miss_below miss_masked tables.misses (miss_by c.args.from c.args.to c.in-Some.own c.in-Some.target) c.add_listed.new.self c.in_ok-fault.fault =
    subst (λ (x : Miss). Lists miss_group miss_below miss_masked tables.misses x c.add_listed.new.self c.in_ok-fault.fault) c.miss_by-miss.ensures c.in_ok-fault.ensures in
    let fault = lists.0 ∙ miss-kept earlier tables c.args.pair c.args.from c.args.to (c.in-Some.own, c.in-Some.target) held at in
    settled earlier (said.Miss c.args.pair c.args.from c.args.to) tables (record tables { misses = c.add_listed.new.self }) c.settle.new.self c.in_ok-fault.fault c.settle.result held refl fault
    (λ none. held-miss earlier tables c.args.pair c.args.from c.args.to (c.in-Some.own, c.in-Some.target) c.add_listed.new.self held going (c.requires.said, tt, sym fault ∙ none) at
    (listed miss_group miss_below miss_masked tables.misses c.add_listed.new.self (miss_by c.args.from c.args.to c.in-Some.own c.in-Some.target) c.in_ok-fault.fault lists none)) c.settle.ensures
