-- Whether a record comes too late, told by the last one of its group.
use Rattle.std.proofs.Common.{◌≡◌, List, length}
use Rattle.acas_base.specs.Encounter.{IsFate, IsLeg, IsMiss, IsPlan}
use Rattle.acas_base.specs.Order.{fate_below, leg_below, miss_below, plan_below}
use Rattle.acas_base.specs.declared.craft.Leg.{Leg}
use Rattle.acas_base.specs.declared.craft.Miss.{Miss}
use Rattle.acas_base.specs.declared.link.Fate.{Fate}
use Rattle.acas_base.specs.declared.link.LinkPlan.{LinkPlan}
use Rattle.enc_file.specs.Earlier.{crafts_of, fate_group, fates_of, in_group, leg_group, legs_of, miss_group, misses_of, plan_group, plans_of}
use Rattle.enc_file.specs.Faults.{comes_late}
use Rattle.enc_file.specs.Groups.{is_late, last_of}
use Rattle.enc_file.specs.WellRead.{AreRead}
use Rattle.enc_file.specs.declared.record.Record.{Record}
use Rattle.enc_file.proofs.Crafted.{crafts-few}
use Rattle.enc_file.proofs.Lasting.{late-by-last}
use Rattle.enc_file.proofs.Listed.{lists-read}
use Rattle.enc_file.proofs.Orders.{fate-order, leg-order, miss-order, plan-order}

pub leg-late : (earlier : List Record) → AreRead earlier → (x : Leg) → comes_late leg_group leg_below (legs_of earlier) x ≡ is_late leg_below (last_of (in_group leg_group (legs_of earlier) (leg_group x))) x
leg-late earlier read x =
    let n = length (crafts_of earlier) in
    let all = (lists-read earlier read).legs in
    late-by-last (IsLeg n) leg_group leg_below (legs_of earlier) x (leg-order n (crafts-few earlier read)).trans all.0 all.1

pub miss-late : (earlier : List Record) → AreRead earlier → (x : Miss) → comes_late miss_group miss_below (misses_of earlier) x ≡ is_late miss_below (last_of (in_group miss_group (misses_of earlier) (miss_group x))) x
miss-late earlier read x =
    let n = length (crafts_of earlier) in
    let all = (lists-read earlier read).misses in
    late-by-last (IsMiss n) miss_group miss_below (misses_of earlier) x (miss-order n (crafts-few earlier read)).trans all.0 all.1

pub plan-late : (earlier : List Record) → AreRead earlier → (x : LinkPlan) → comes_late plan_group plan_below (plans_of earlier) x ≡ is_late plan_below (last_of (in_group plan_group (plans_of earlier) (plan_group x))) x
plan-late earlier read x =
    let n = length (crafts_of earlier) in
    let all = (lists-read earlier read).plans in
    late-by-last (IsPlan n) plan_group plan_below (plans_of earlier) x (plan-order n (crafts-few earlier read)).trans all.0 all.1

pub fate-late : (earlier : List Record) → AreRead earlier → (x : Fate) → comes_late fate_group fate_below (fates_of earlier) x ≡ is_late fate_below (last_of (in_group fate_group (fates_of earlier) (fate_group x))) x
fate-late earlier read x =
    let n = length (crafts_of earlier) in
    let all = (lists-read earlier read).fates in
    late-by-last (IsFate n) fate_group fate_below (fates_of earlier) x (fate-order n (crafts-few earlier read)).trans all.0 all.1
