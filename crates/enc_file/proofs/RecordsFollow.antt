-- When a record stands well after what earlier ones give, and what is known then.
use Rattle.std.proofs.Common.{◌≡◌, ℕ, ◌<◌, ◌≤◌, ◌==◌, ◌&&◌, not, Bool, true, false, ℤ, List, [], ◌∷◌, ◌++◌, length, map, Some, None, count_ones, nat_le, refl, arith}
use Rattle.std.specs.List.{AllByRecursion}
use Rattle.std.proofs.Math.Bool.{and-false}
use Rattle.std.proofs.lemmas.Bool.Decides.{nat_tests}
use Rattle.acas_base.specs.Encounter.{AreCopies, most_crafts}
use Rattle.acas_base.specs.Order.{fate_below, leg_below, miss_below, plan_below}
use Rattle.acas_base.specs.declared.craft.CraftSpec.{CraftSpec}
use Rattle.acas_base.specs.declared.craft.Leg.{Leg}
use Rattle.acas_base.specs.declared.craft.Miss.{Miss}
use Rattle.acas_base.specs.declared.label.Call.{Call}
use Rattle.acas_base.specs.declared.link.CopyPlan.{CopyPlan}
use Rattle.acas_base.specs.declared.link.Fate.{Fate}
use Rattle.acas_base.specs.declared.link.LinkPlan.{LinkPlan}
use Rattle.acas_base.specs.declared.setting.Profile.{Profile}
use Rattle.std.specs.Option.{option_to_list}
use Rattle.enc_file.specs.Earlier.{call_by, fate_by, fate_group, for_index, for_pair, index_of, leg_by, leg_group, miss_by, miss_group, plan_by, plan_group, with_ceiling}
use Rattle.enc_file.specs.Faults.{are_masks_bad, comes_late, has_call, has_ceiling, is_called, is_mask_bad}
use Rattle.enc_file.specs.declared.record.Addresses.{Addresses}
use Rattle.enc_file.specs.declared.record.Record.TheVariants as said
use Rattle.enc_file.specs.declared.record.Run.{Run}
use Rattle.enc_file.specs.declared.record.TrackGains.{TrackGains}
use Rattle.enc_file.proofs.AircraftFound.{ArePair, IsOther, index-none}
use Rattle.enc_file.proofs.Pairwise.{any-fails}
use Rattle.enc_file.proofs.ReadBack.{Follows, Known}
use Rattle.enc_file.proofs.SaidByLines.{course-of, fate-copies, plan-copies}

-- What the text says of itself.
pub profile-follows : (known : Known) (profile : Profile) → known.heading.profile ≡ None
    → Follows (said.Profile profile) known (record known { heading = record known.heading { profile = Some profile } })
profile-follows known profile none = record {
  sound = λ earlier g. rw (g.heading, none) refl;
  adds = λ k. record k { heading = record k.heading { profile = Some profile } };
  is = λ earlier. refl;
  unended = λ earlier. refl;
  gives = refl;
}

pub name-follows : (known : Known) (text : List ℕ) → known.heading.name ≡ None → Follows (said.Name text) known (record known { heading = record known.heading { name = Some text } })
name-follows known text none = record {
  sound = λ earlier g. rw (g.heading, none) refl;
  adds = λ k. record k { heading = record k.heading { name = Some text } };
  is = λ earlier. refl;
  unended = λ earlier. refl;
  gives = refl;
}

pub clock-follows : (known : Known) (second : ℕ) → known.heading.clock ≡ None
    → Follows (said.Clock second) known (record known { heading = record known.heading { clock = Some second } })
clock-follows known second none = record {
  sound = λ earlier g. rw (g.heading, none) refl;
  adds = λ k. record k { heading = record k.heading { clock = Some second } };
  is = λ earlier. refl;
  unended = λ earlier. refl;
  gives = refl;
}

pub run-follows : (known : Known) (run : Run) → known.run ≡ None → Follows (said.Run run) known (record known { run = Some run })
run-follows known run none = record {
  sound = λ earlier g. rw (g.run, none) refl;
  adds = λ k. record k { run = Some run };
  is = λ earlier. refl;
  unended = λ earlier. refl;
  gives = refl;
}

pub gains-follow : (known : Known) (gains : TrackGains) → known.gains ≡ None → Follows (said.Gains gains) known (record known { gains = Some gains })
gains-follow known gains none = record {
  sound = λ earlier g. rw (g.gains, none) refl;
  adds = λ k. record k { gains = Some gains };
  is = λ earlier. refl;
  unended = λ earlier. refl;
  gives = refl;
}

-- An aircraft of a new address, where there is room for one more.
pub craft-follows : (known : Known) (craft : CraftSpec) → AllByRecursion (IsOther craft.address) known.crafts → length known.crafts < most_crafts known.version
    → Follows (said.Craft craft) known (record known { crafts = known.crafts ++ craft ∷ [] })
craft-follows known craft other room =
    let fits : nat_le (most_crafts known.version) (length known.crafts) ≡ false = grind (arith, nat_tests, room) in
    record {
      sound = λ earlier g. rw (g.crafts, g.version, index-none known.crafts craft.address other, fits) refl;
      adds = λ k. record k { crafts = k.crafts ++ craft ∷ [] };
      is = λ earlier. refl;
      unended = λ earlier. refl;
      gives = refl;
    }

-- A ceiling of an aircraft that has none.
pub climb-follows : (known : Known) (n : ℕ) (limit : ℤ) (i : ℕ) → index_of known.crafts n ≡ Some i → has_ceiling known.crafts i ≡ false
    → Follows (said.Climb n limit) known (record known { crafts = map (with_ceiling n limit) known.crafts })
climb-follows known n limit i found none = record {
  sound = λ earlier g. rw (g.crafts, found, none) refl;
  adds = λ k. record k { crafts = map (with_ceiling n limit) k.crafts };
  is = λ earlier. refl;
  unended = λ earlier. refl;
  gives = refl;
}

in-time : (same below : Bool) → below ≡ true → (same && not below) ≡ false
in-time same below h = rw h (and-false same)

-- What stands after all of a list comes late after none.
not-late : {X : Type 0} (group : X → ℕ) (below : X → X → Bool) (x : X) (xs : List X) → AllByRecursion (λ other. below other x ≡ true) xs → comes_late group below xs x ≡ false
not-late group below x xs h =
    any-fails (λ other. group other == group x && not (below other x)) (λ other. below other x ≡ true) (λ other k. in-time (group other == group x) (below other x) k) xs h

-- A call sign that no aircraft has, of an aircraft that has none.
pub call-follows : (known : Known) (n : ℕ) (call : Call) → index_of known.crafts n ≡ Some call.craft → has_call known.calls call.craft ≡ false → is_called known.calls call.sign ≡ false
    → Follows (said.Call n call.sign) known (record known { calls = known.calls ++ call ∷ [] })
call-follows known n call found bare new = record {
  sound = λ earlier g. rw (g.crafts, g.calls, found, bare, new) refl;
  adds = λ k. record k { calls = k.calls ++ option_to_list (for_index k.crafts n (call_by call.sign)) };
  is = λ earlier. refl;
  unended = λ earlier. refl;
  gives = rw found refl;
}

-- A leg that begins after those of its aircraft.
pub leg-follows : (known : Known) (n : ℕ) (leg : Leg) → index_of known.crafts n ≡ Some leg.craft → AllByRecursion (λ other. leg_below other leg ≡ true) known.legs
    → Follows (said.Leg n (course-of leg)) known (record known { legs = known.legs ++ leg ∷ [] })
leg-follows known n leg found later = record {
  sound = λ earlier g. rw (g.crafts, g.legs, found, not-late leg_group leg_below leg known.legs later) refl;
  adds = λ k. record k { legs = k.legs ++ option_to_list (for_index k.crafts n (leg_by (course-of leg))) };
  is = λ earlier. refl;
  unended = λ earlier. refl;
  gives = rw found refl;
}

-- A miss that begins after those of its pair have ended.
pub miss-follows : (known : Known) (pair : Addresses) (miss : Miss) → ArePair known.crafts pair miss.own miss.target → AllByRecursion (λ other. miss_below other miss ≡ true) known.misses
    → Follows (said.Miss pair miss.from miss.to) known (record known { misses = known.misses ++ miss ∷ [] })
miss-follows known pair miss found later = record {
  sound = λ earlier g. rw (g.crafts, g.misses, found.apart, found.first, found.second, not-late miss_group miss_below miss known.misses later) refl;
  adds = λ k. record k { misses = k.misses ++ option_to_list (for_pair k.crafts pair (miss_by miss.from miss.to)) };
  is = λ earlier. refl;
  unended = λ earlier. refl;
  gives = rw (found.apart, found.first, found.second) refl;
}

mask-good : (copy : CopyPlan) → count_ones copy.mask ≤ 3 → is_mask_bad copy ≡ false
mask-good copy h = grind (arith, nat_tests, h)

masks-good : (count : ℕ) (one two three : CopyPlan) → AreCopies count one two three → are_masks_bad one two three ≡ false
masks-good count one two three h = rw (mask-good one h.first.mask, mask-good two h.second.mask, mask-good three h.third.mask) refl

-- A plan of a pair that has none.
pub plan-follows : (known : Known) (pair : Addresses) (plan : LinkPlan) → ArePair known.crafts pair plan.sender plan.receiver → AllByRecursion (λ other. plan_below other plan ≡ true) known.plans
    → AreCopies plan.copies plan.first plan.second plan.third → Follows (said.Plan pair (plan-copies plan)) known (record known { plans = known.plans ++ plan ∷ [] })
plan-follows known pair plan found later copies =
    let masks = masks-good plan.copies plan.first plan.second plan.third copies in
    record {
      sound = λ earlier g. rw (g.crafts, g.plans, found.apart, found.first, found.second, not-late plan_group plan_below plan known.plans later, masks) refl;
      adds = λ k. record k { plans = k.plans ++ option_to_list (for_pair k.crafts pair (plan_by (plan-copies plan))) };
      is = λ earlier. refl;
      unended = λ earlier. refl;
      gives = rw (found.apart, found.first, found.second) refl;
    }

-- A fate of a greater number than those of its pair.
pub fate-follows : (known : Known) (pair : Addresses) (fate : Fate) → ArePair known.crafts pair fate.sender fate.receiver → AllByRecursion (λ other. fate_below other fate ≡ true) known.fates
    → AreCopies fate.copies fate.first fate.second fate.third → Follows (said.Fate pair fate.number (fate-copies fate)) known (record known { fates = known.fates ++ fate ∷ [] })
fate-follows known pair fate found later copies =
    let masks = masks-good fate.copies fate.first fate.second fate.third copies in
    record {
      sound = λ earlier g. rw (g.crafts, g.fates, found.apart, found.first, found.second, not-late fate_group fate_below fate known.fates later, masks) refl;
      adds = λ k. record k { fates = k.fates ++ option_to_list (for_pair k.crafts pair (fate_by fate.number (fate-copies fate))) };
      is = λ earlier. refl;
      unended = λ earlier. refl;
      gives = rw (found.apart, found.first, found.second) refl;
    }
