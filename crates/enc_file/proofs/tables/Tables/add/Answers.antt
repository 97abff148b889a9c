use Rattle.std.proofs.Common.{◌≤◌, arith, pos, neg_ℤ, subst, w32}
use Rattle.std.proofs.lemmas.Int.{to_z-of_z}
use Rattle.acas_base.specs.Encounter.{IsAltitude}
use Rattle.enc_file.proofs.Spelled.{fits-between}
use Rattle.enc_file.proofs.tables.Tables.add.Goals as goal

pub add_craft-requires-clause-said : goal.add_craft-requires-clause-said
add_craft-requires-clause-said c = rw c.in-Craft.is at c.requires.said

pub add_climb-requires-clause-said : goal.add_climb-requires-clause-said
add_climb-requires-clause-said c =
    let said : IsAltitude c.in-Climb.limit = rw c.in-Climb.is at c.requires.said in
    let fits = fits-between (neg_ℤ (pos 1000)) (pos 60000) c.in-Climb.limit (record { sfits = omega arith }) (record { sfits = omega arith }) said in
    rw (to_z-of_z w32 c.in-Climb.limit fits) said

pub returns-in-Run : goal.returns-in-Run
returns-in-Run c = λ earlier going h. rw c.in-Run.is (c.add_run.ensures earlier going h)

pub returns-in-Gains : goal.returns-in-Gains
returns-in-Gains c = λ earlier going h. rw c.in-Gains.is (c.add_gains.ensures earlier going h)

pub returns-in-Craft : goal.returns-in-Craft
returns-in-Craft c = λ earlier going h. rw c.in-Craft.is (c.add_craft.ensures earlier going h)

pub returns-in-Leg : goal.returns-in-Leg
returns-in-Leg c = λ earlier going h. rw c.in-Leg.is (c.add_leg.ensures earlier going h)

pub returns-in-Miss : goal.returns-in-Miss
returns-in-Miss c = λ earlier going h. rw c.in-Miss.is (c.add_miss.ensures earlier going h)

pub returns-in-Fate : goal.returns-in-Fate
returns-in-Fate c = λ earlier going h. rw c.in-Fate.is (c.add_fate.ensures earlier going h)

pub returns-in-End : goal.returns-in-End
returns-in-End c = λ earlier going h. rw c.in-End.is (c.add_end.ensures earlier going h)

pub returns-in-Plan : goal.returns-in-Plan
returns-in-Plan c = λ earlier going h.
    let format : 2 ≤ c.args.self.now.version = rw c.in-Plan.is at c.requires.format in
    rw c.in-Plan.is (c.add_plan.ensures earlier going (subst (λ n. 2 ≤ n) h.version format) h)

pub returns-in-Climb : goal.returns-in-Climb
returns-in-Climb c = λ earlier going h.
    let said : IsAltitude c.in-Climb.limit = rw c.in-Climb.is at c.requires.said in
    let fits = fits-between (neg_ℤ (pos 1000)) (pos 60000) c.in-Climb.limit (record { sfits = omega arith }) (record { sfits = omega arith }) said in
    let format : 2 ≤ c.args.self.now.version = rw c.in-Climb.is at c.requires.format in
    rw c.in-Climb.is (rw (to_z-of_z w32 c.in-Climb.limit fits) at (c.add_climb.ensures earlier going (subst (λ n. 2 ≤ n) h.version format) h))

pub returns-in-Profile : goal.returns-in-Profile
returns-in-Profile c = λ earlier going h.
    let format : 3 ≤ c.args.self.now.version = rw c.in-Profile.is at c.requires.format in
    rw c.in-Profile.is (c.add_profile.ensures earlier going (subst (λ n. 3 ≤ n) h.version format) h)

pub returns-in-Name : goal.returns-in-Name
returns-in-Name c = λ earlier going h.
    let format : 3 ≤ c.args.self.now.version = rw c.in-Name.is at c.requires.format in
    rw c.in-Name.is (c.add_name.ensures earlier going (subst (λ n. 3 ≤ n) h.version format) h)

pub returns-in-Clock : goal.returns-in-Clock
returns-in-Clock c = λ earlier going h.
    let format : 3 ≤ c.args.self.now.version = rw c.in-Clock.is at c.requires.format in
    rw c.in-Clock.is (c.add_clock.ensures earlier going (subst (λ n. 3 ≤ n) h.version format) h)

pub returns-in-Call : goal.returns-in-Call
returns-in-Call c = λ earlier going h.
    let format : 3 ≤ c.args.self.now.version = rw c.in-Call.is at c.requires.format in
    rw c.in-Call.is (c.add_call.ensures earlier going (subst (λ n. 3 ≤ n) h.version format) h)
