-- Who is watched.
use Rattle.std.proofs.Common.{◌≡◌, ◌≢◌, ℕ, ◌&&◌, true, false, refl, sym, ◌∙◌, subst}
use Rattle.std.proofs.lemmas.Bool.{and_parts}
use Rattle.acas_base.specs.declared.advisory.Rank.{Rank}
use Rattle.acas_base.specs.declared.advisory.Rank.TheVariants.{First, Second, Free}
use Rattle.air_rules.specs.Air.{Air, IsSecond, rank_of}
use Rattle.pair_watch.specs.Watching.{is_first, is_second, is_watched}

second-is : (r : Rank) → is_second r ≡ true → r ≡ Second
second-is First e = absurd (cc)
second-is Second e = refl
second-is Free e = absurd (cc)

not-both : (r : Rank) → (is_second r && is_first r) ≡ false
not-both First = refl
not-both Second = refl
not-both Free = refl

-- No aircraft is watched with itself.
pub unwatched : (air : Air) (low high : ℕ) → low ≡ high → is_watched air low high ≡ false
unwatched air low high same = subst (λ (n : ℕ). is_watched air low n ≡ false) same (not-both (rank_of air low low))

pub apart : (air : Air) (low high : ℕ) → is_watched air low high ≡ true → low ≢ high
apart air low high watched same = let f : true ≡ false = sym watched ∙ unwatched air low high same in cc

-- The one of two that are watched gives way.
pub gives-way : (air : Air) (low high : ℕ) → is_watched air low high ≡ true → IsSecond air high low
gives-way air low high watched = record {
  apart = λ same. apart air low high watched (sym same);
  rank = second-is (rank_of air high low) (and_parts (is_second (rank_of air high low)) (is_first (rank_of air low high)) watched).0;
}
