use Rattle.std.proofs.Common.{◌≤◌, ℤ, unsigned_abs, w64, rules, refl, sym, ap, ◌∙◌, subst, inl}
use Rattle.std.proofs.lemmas.Int.{to_z-of_z}
use Rattle.advisory_report.specs.Composite.{shown}
use Rattle.air_journal.proofs.Adding.{no-cells}
use Rattle.air_journal.specs.Airs.{air_of}
use Rattle.response.specs.Flown.{flight_of}
use Rattle.response.specs.Flying.{IsAdvised}
use Rattle.response.proofs.flier.Flier.new.Goals as goal

pub invariant_of-result : goal.invariant_of-result
invariant_of-result c =
    let e = c.args.plan.now in
    let journal = c.args.state.now.journal in
    let z = to_z-of_z w64 c.planned_z.result (search rules) in
    let nothing = sym (ap shown (no-cells (air_of c.args.state.now.encounter) journal c.legal_law.ensures.legal c.args.own 0 (inl refl))) in
    record {
      own = c.requires;
      begun = search rules;
      in_run = c.valid_law.ensures.run.length.0;
      responds_is = c.is_ra.ensures;
      planned_is = z ∙ c.planned_z.ensures.value;
      advised_is = subst (IsAdvised (flight_of e journal c.args.own) 0) (sym c.nothing.ensures) (record { shown = nothing; changed_is = refl; before = nothing });
      motion_is = refl;
      near = subst (λ (z : ℤ). unsigned_abs z ≤ 9590000) (sym z) c.planned_z.ensures.bound;
      bounds = tt;
    }
