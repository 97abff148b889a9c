-- Two airs with the same aircraft: kinds and ranks are the same in both.
use Rattle.std.proofs.Common.{◌≡◌, ℕ, false, sym, ap}
use Rattle.std.specs.Option.{option_map_or}
use Rattle.acas_base.specs.Encounter.{is_active_kind, is_ra_kind}
use Rattle.acas_base.specs.Next.{rank_by}
use Rattle.acas_base.specs.declared.advisory.Rank.TheVariants.{Free}
use Rattle.air_rules.specs.Air.{Air, is_active, is_ra, rank_of}
use Rattle.air_rules.specs.Alike.{AreAlikeUpTo, HaveTheSameAircraft}

pub same-active : {one two : Air} → HaveTheSameAircraft one two → (i : ℕ) → is_active one i ≡ is_active two i
same-active h i = ap (λ k. option_map_or is_active_kind k false) (h.kind i)

pub same-ra : {one two : Air} → HaveTheSameAircraft one two → (i : ℕ) → is_ra one i ≡ is_ra two i
same-ra h i = ap (λ k. option_map_or is_ra_kind k false) (h.kind i)

pub same-rank : {one two : Air} → HaveTheSameAircraft one two → (i j : ℕ) → rank_of one i j ≡ rank_of two i j
same-rank h i j = λ t. option_map_or (rank_by (h.address i t) (h.address j t)) (h.kind j t) Free

-- ---- the other way round

turned-aircraft : {one two : Air} → HaveTheSameAircraft one two → HaveTheSameAircraft two one
turned-aircraft h = record {
  count = sym h.count;
  places = sym h.places;
  cycles = sym h.cycles;
  kind = λ i. sym (h.kind i);
  address = λ i. sym (h.address i);
  word = λ m. sym (h.word m);
  read = λ w. sym (h.read w);
  flip = λ w m. sym (h.flip w m);
}

pub turned : {one two : Air} {last : ℕ} → AreAlikeUpTo one two last → AreAlikeUpTo two one last
turned h = record {
  aircraft = turned-aircraft h.aircraft;
  copies = λ s r n. sym (h.copies s r n);
  view = λ i j k low high. sym (h.view i j k low high);
}
