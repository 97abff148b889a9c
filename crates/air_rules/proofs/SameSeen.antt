-- What is seen is the same in airs that are alike but for the copies of messages.
use Rattle.std.proofs.Common.{◌≡◌, ℕ, zero, suc, ◌+◌, not, ◌&&◌, ◌||◌, cond, eqb, ltb, refl}
use Rattle.acas_base.specs.Messages.{has_advisory}
use Rattle.acas_base.specs.Next.{following_cell}
use Rattle.acas_base.specs.declared.advisory.Cell.TheVariants.{Clear}
use Rattle.acas_base.specs.declared.advisory.Vrc.TheVariants.{Nil}
use Rattle.air_rules.proofs.SameAircraft.{same-ra, same-rank}
use Rattle.air_rules.specs.Air.{Air}
use Rattle.air_rules.specs.Alike.{AreAlikeButCopies}
use Rattle.air_rules.specs.Shape.{coordinate, messages_to, untold_cell}

pub same-untold : (one two : Air) → AreAlikeButCopies one two → (i j n : ℕ) → untold_cell one i j n ≡ untold_cell two i j n
same-untold one two h i j zero = refl
same-untold one two h i j (suc n) =
    let ih = same-untold one two h i j n in
    let rank = same-rank h.aircraft i j in
    λ t. cond (ltb j (h.aircraft.places t) && (ltb j (h.aircraft.count t) && not (eqb i j))) (following_cell (ih t) (h.view i j (n + 1) t) Nil (rank t)) Clear

same-coordinate : (one two : Air) → AreAlikeButCopies one two → (i j : ℕ) → coordinate one i j ≡ coordinate two i j
same-coordinate one two h i j =
    let mine = same-ra h.aircraft i in
    let theirs = same-ra h.aircraft j in
    λ t. mine t && (theirs t && not (eqb i j))

pub same-messages : (one two : Air) → AreAlikeButCopies one two → (i j n : ℕ) → messages_to one i j n ≡ messages_to two i j n
same-messages one two h i j zero = refl
same-messages one two h i j (suc n) =
    let ih = same-messages one two h i j n in
    let both = same-coordinate one two h i j in
    let now = same-untold one two h i j (suc n) in
    let was = same-untold one two h i j n in
    λ t. cond (both t && (has_advisory (now t) || has_advisory (was t))) (ih t + 1) (ih t)
