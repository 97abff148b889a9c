-- What a picture shows.
use Rattle.std.proofs.Common.{◌≡◌, ℕ, ◌<◌, get_or, ap, ◌∙◌, arith}
use Rattle.std.proofs.lemmas.List.FromFn.{get_or-map-range_with_len}
use Rattle.acas_base.specs.Encounter.{Parts}
use Rattle.acas_base.specs.declared.TheConstants.{CRAFTS}
use Rattle.acas_base.specs.declared.view.Picture.{Picture}
use Rattle.acas_base.specs.declared.view.View.{View}
use Rattle.craft_view.specs.Views.{picture_of, view_of}

pub seen : (e : Parts) (own cycle : ℕ) (p : Picture) → p ≡ picture_of e own cycle → (target : ℕ) → target < CRAFTS → (d : View) → get_or p.views target d ≡ view_of e own target cycle
unfolding picture_of
seen e own cycle p is target h d = ap (λ (q : Picture). get_or q.views target d) is ∙ get_or-map-range_with_len (λ t. view_of e own t cycle) 0 CRAFTS target target d h (omega arith)
