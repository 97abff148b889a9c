use Rattle.std.proofs.Common.{◌≡◌, pos, ◌-ℤ◌, ◌∙◌, true, false, refl, not, ap, sym, rules, w64}
use Rattle.std.proofs.lemmas.Int.{to_z-of_z}
use Rattle.acas_base.specs.declared.advisory.Sense.TheVariants.{Down, Up}
use Rattle.acas_base.specs.declared.view.View.{View}
use Rattle.craft_view.specs.ProfileTwo.{chases_in, crosses_at, holds_in_range, threatens}
use Rattle.craft_view.proofs.profile_two.put_outline.Goals as goal
use Rattle.craft_view.proofs.profile_two.put_outline.Goals.{then-view+then-not-view, then-view+else-not-view, else-view}

pub returns-clause-value : goal.returns-clause-value
returns-clause-value c =
    let own = c.args.own.now in
    let m = c.args.motion.now in
    let row = c.args.row.now in
    let near = c.holds_in_range-view.ensures in
    let far = c.passes_far-view.ensures in
    let threat : c.if-view.view ≡ threatens own m row = elim c.if-view.branch [
      | then-view+then-not-view w ↦
          let h : holds_in_range own m row ≡ true = sym near ∙ w.if-view.true in
          let f : c.passes_far-view.result ≡ false = search rules in
          w.view-is ∙ w.holds_in_altitude.ensures ∙ (rw (h, sym far ∙ f) refl)
      | then-view+else-not-view w ↦
          let h : holds_in_range own m row ≡ true = sym near ∙ w.if-view.true in
          let f : c.passes_far-view.result ≡ true = search rules in
          w.view-is ∙ ap not f ∙ (rw (h, sym far ∙ f) refl)
      | else-view w ↦ let h : holds_in_range own m row ≡ false = sym near ∙ w.if-view.false in w.view-is ∙ w.if-view.false ∙ (rw h refl)
    ] in
    let traffic = ap (λ (v : View). v.traffic) c.put_plain.ensures ∙ c.shows_traffic.ensures in
    let halves = ap (λ a. a.halves) c.approach_to-approach.ensures.value in
    let kept = to_z-of_z w64 c.difference-view.result (search rules) in
    let difference : c.difference-view.result ≡ m.own.est -ℤ m.target.est = rw (to_z-of_z w64 m.own.est (search rules), to_z-of_z w64 m.target.est (search rules)) at c.difference-view.ensures in
    let gap = kept ∙ difference in
    let crosses : c.crosses_at-view.result ≡ crosses_at (m.own.est -ℤ m.target.est) = (rw (kept, kept) at c.crosses_at-view.ensures) ∙ ap crosses_at difference in
    let up = c.chases_in.ensures ∙ ap (λ n. chases_in m n Up) halves in
    let down = c.chases_in-2.ensures ∙ ap (λ n. chases_in m n Down) halves in
    let alim = to_z-of_z w64 own.level.alim (search rules) in
    let rate = to_z-of_z w64 m.own.rate (search rules) in
    λ i. record {
      tested = (c.put_plain.ensures i).tested;
      traffic = traffic i;
      resolves = (c.put_plain.ensures i).resolves;
      threat = threat i;
      lasts = near i;
      far = far i;
      climbs = own.climbs;
      descends = own.descends;
      descends_faster = own.descends_faster;
      side = c.side_of-view.ensures i;
      crosses = crosses i;
      halves = halves i;
      hurries = (c.put_plain.ensures i).hurries;
      chases = record { up = up i; down = down i };
      settled_at = 10;
      looks_ahead = true;
      alim = alim i;
      enough = pos 204800;
      gap = gap i;
      rate = rate i;
      first = (c.put_plain.ensures i).first;
      later = (c.put_plain.ensures i).later;
    }
