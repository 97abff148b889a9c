use Rattle.std.proofs.Common.{rules, ◌≡◌, ◌/◌, ℕ, ap, ◌∙◌, to_z, of_z, w64, unsigned_abs}
use Rattle.std.proofs.lemmas.Int.{to_z-of_z}
use Rattle.acas_base.specs.declared.level.Level.{Level}
use Rattle.pair_panels.specs.Distances.{alim_of}
use Rattle.pair_panels.proofs.distance.alim_of.Goals as goal

pub returns-clause-value : goal.returns-clause-value
unfolding alim_of
returns-clause-value c =
    let alim : to_z w64 (of_z w64 c.level_in-level.result.alim) ≡ c.level_in-level.result.alim = to_z-of_z w64 c.level_in-level.result.alim (search rules) in
    ap (λ (n : ℕ). n / 1024) (c.unsigned_abs.ensures.value ∙ ap unsigned_abs (alim ∙ ap (λ (l : Level). l.alim) c.level_in-level.ensures.value))
