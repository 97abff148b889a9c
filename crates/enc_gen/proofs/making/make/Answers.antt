use Rattle.std.proofs.Common.{◌≡◌, ◌∙◌, sym, subst, Option, None}
use Rattle.std.specs.Prelude.{IsSome}
use Rattle.acas_base.specs.Encounter.{IsEncounter, Parts, encounter_of}
use Rattle.enc_gen.proofs.Parts.{made-inside, made-valid, parts-made}
use Rattle.enc_gen.specs.Generated.{generated}
use Rattle.flight.specs.Inside.{IsInside}
use Rattle.enc_gen.proofs.making.make.Goals as goal
use Rattle.enc_gen.proofs.making.make.Goals.{After-make}

-- The lists make up the encounter.
whole : (c : After-make)
    → encounter_of c.setting_for-setting.result c.new-calls.result.items
    c.in_ok-begin.begin.items c.in_ok-legs.legs.items c.in_ok-misses.misses.items c.new-plans.result.items c.in_ok-fates.fates.items
    ≡ generated c.args.profile c.args.number c.args.crafts c.args.cycles
whole c =
    parts-made c.args.profile c.args.number c.args.crafts c.args.cycles c.new-draws.result c.draw_drafts.new.draws c.draw_misses.new.draws c.draw_fates.new.draws
    c.in_ok-drafts.drafts.items c.deref.result.now c.deref-2.result.now c.deref-5.result.now c.in_ok-list.list.items c.deref-3.result.now c.deref-4.result.now
    c.in_ok-begin.begin.items c.in_ok-legs.legs.items c.in_ok-misses.misses.items c.in_ok-fates.fates.items c.setting_for-setting.result c.new-calls.result.items c.new-plans.result.items
    (record {
      seeded = c.new-draws.ensures;
      drawn = c.in_ok-drafts.ensures.made;
      read = c.deref.ensures.value;
      listed = c.in_ok-list.ensures.made;
      again = c.deref-2.ensures.value;
      flown = c.in_ok-legs.ensures;
      first = c.deref-3.ensures.value;
      miss = c.in_ok-misses.ensures;
      second = c.deref-4.ensures.value;
      fate = c.in_ok-fates.ensures;
      third = c.deref-5.ensures.value;
      begins = c.in_ok-begin.ensures;
    })
    c.setting_for-setting.ensures c.new-calls.ensures.items c.new-plans.ensures.items

neither : {X : Type 0} (made : Option X) → IsSome made → made ≡ None → ⊥
neither {X} made some none = cc (some, none)

pub unreachable-requires : goal.unreachable-requires
unreachable-requires c =
    let P : Parts → Type 0 = λ e. IsEncounter e in
    let valid = subst P (sym (whole (goal.at.unreachable-requires c).After-make)) (made-valid c.args.profile c.args.number c.args.crafts c.args.cycles c.requires.some c.requires.few c.requires.cycles) in
    neither c.make.result (c.make.ensures.some.1 valid) c.in-None.is

pub returns-clause-value : goal.returns-clause-value
returns-clause-value c = c.in-Some.ensures.value ∙ whole (goal.at.returns-clause-value c).After-make

pub returns-clause-inside : goal.returns-clause-inside
returns-clause-inside c =
    let P : Parts → Type 0 = λ e. IsInside e in
    subst P (sym (c.in-Some.ensures.value ∙ whole (goal.at.returns-clause-inside c).After-make)) (made-inside c.args.profile c.args.number c.args.crafts c.args.cycles c.requires.few c.requires.cycles)
