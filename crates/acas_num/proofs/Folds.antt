-- A track is what its steps make of an empty one.
use Rattle.std.proofs.Common.{◌≡◌, ℕ, ℤ, List, [], ◌∷◌, ◌∙◌, ap, sym, refl, Option}
use Rattle.std.specs.Prelude.{fold, reverse}
use Rattle.std.proofs.lemmas.List.Sums.{fold_push}
use Rattle.std.proofs.lemmas.List.{reverse-append}
use Rattle.acas_num.specs.declared.limits.Limits.{Limits}
use Rattle.acas_num.specs.declared.track.TrackState.TheVariants.{Empty}
use Rattle.acas_num.specs.Tracks.{step, track}

pub track-fold : (limits : Limits) (alpha beta : ℕ) (ms : List (Option ℤ)) → track limits alpha beta ms ≡ fold (step limits alpha beta) Empty (reverse ms)
track-fold limits alpha beta [] = refl
track-fold limits alpha beta (m ∷ ms) =
    ap (λ s. step limits alpha beta s m) (track-fold limits alpha beta ms)
    ∙ sym (fold_push (step limits alpha beta) Empty (reverse ms) m)
    ∙ ap (fold (step limits alpha beta) Empty) (sym (reverse-append (m ∷ []) ms))
