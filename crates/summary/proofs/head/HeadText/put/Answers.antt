use Rattle.std.proofs.Common.{rules, ℕ, List, [], ◌∷◌, w32, ap, ap₂, ◌∙◌, subst}
use Rattle.std.proofs.lemmas.Int.{to_z-of_z}
use Rattle.acas_base.specs.Encounter.{Parts}
use Rattle.summary.specs.Head.{crafts_line, entries_line, run_line}
use Rattle.summary.proofs.head.HeadText.put.Goals as goal

pub returns : goal.returns
returns g c =
    let enc = c.enc-encounter.ensures in
    let crafts = c.crafts_line.ensures ∙ ap crafts_line (c.crafts.ensures.value ∙ ap (λ (p : Parts). p.crafts) enc) in
    let ground = to_z-of_z w32 c.ground.result (search rules) ∙ c.ground.ensures.value ∙ ap (λ (p : Parts). p.elevation) enc in
    let run = c.run_line.ensures ∙ ap₂ run_line (c.cycles.ensures.value ∙ ap (λ (p : Parts). p.cycles) enc) ground in
    let entries = c.entries_line.ensures ∙ ap₂ entries_line c.count.ensures.value c.entries_in.ensures in
    let one = rw c.fixed_line.ensures at c.line.ensures in
    let two = subst (λ (l : List ℕ). g.S.LineSink.took c.line.new.self c.line-2.new.self (l ∷ [])) crafts c.line-2.ensures in
    let three = subst (λ (l : List ℕ). g.S.LineSink.took c.line-2.new.self c.line-3.new.self (l ∷ [])) run c.line-3.ensures in
    let four = subst (λ (l : List ℕ). g.S.LineSink.took c.line-3.new.self c.line-4.new.self (l ∷ [])) entries c.line-4.ensures in
    g.met.S.LineSink.then _ _ _ _ _ one (g.met.S.LineSink.then _ _ _ _ _ two (g.met.S.LineSink.then _ _ _ _ _ three four))
