-- Equal sights are the same in the airs of two encounters.
use Rattle.std.proofs.Common.{◌≡◌, ℕ, ◌<◌, Bool, false, cond, eqb, Option, Some, None, refl, sym, ◌∙◌, ap, arith, inl, inr, ltb, ltb-true, ne_eqb}
use Rattle.std.specs.Prelude.{option_map, slice_get, unwrap_or}
use Rattle.std.specs.Option.{option_map_or}
use Rattle.std.proofs.lemmas.Bool.{cases_eq, false_from_ne_true}
use Rattle.acas_base.specs.Encounter.{Parts}
use Rattle.acas_base.specs.Next.{rank_by}
use Rattle.acas_base.specs.declared.advisory.Rank.{Rank}
use Rattle.acas_base.specs.declared.advisory.Rank.TheVariants.{Second, Free}
use Rattle.acas_base.specs.declared.craft.CraftSpec.{CraftSpec}
use Rattle.acas_base.specs.declared.craft.Kind.{Kind}
use Rattle.acas_base.specs.declared.craft.Kind.TheVariants as kinds
use Rattle.air_journal.specs.Airs.{air_of}
use Rattle.air_rules.specs.Air as airs
use Rattle.air_rules.specs.Worlds.{SeesTheSame}
use Rattle.craft_view.proofs.Alike.{sights-alike}
use Rattle.craft_view.specs.Facts.{SeesAlike}
use Rattle.craft_view.specs.Sight.{Sight, address_of, rank_of}

-- The rank against another aircraft is the one in the sight.
rank-known : (e : Parts) (own other : ℕ) → eqb other own ≡ false → airs.rank_of (air_of e) own other ≡ unwrap_or (rank_of e own other) Free
rank-known e own other apart = by_craft (slice_get e.crafts other) ∙ sym (ap (λ (b : Bool). unwrap_or (option_map (λ (craft : CraftSpec). rank_by (address_of e own) craft.address craft.kind) (cond b None (slice_get e.crafts other))) Free) apart)
  where
    by_craft : (o : Option CraftSpec) → option_map_or (rank_by (address_of e own) (option_map_or (λ (craft : CraftSpec). craft.address) o 0)) (option_map (λ (craft : CraftSpec). craft.kind) o) Free
        ≡ unwrap_or (option_map (λ (craft : CraftSpec). rank_by (address_of e own) craft.address craft.kind) o) Free
    by_craft None = refl
    by_craft (Some craft) = refl

-- The rank against itself, which nobody uses, follows from the kind alone.
rank-of-kind : Option Kind → Rank
rank-of-kind None = Free
rank-of-kind (Some kinds.Ra) = Second
rank-of-kind (Some kinds.Ta) = Free
rank-of-kind (Some kinds.Xpdr) = Free

not-below : (n : ℕ) → ltb n n ≡ false
not-below n = false_from_ne_true (ltb n n) (λ e. let h : n < n = ltb-true n n e in omega arith)

rank-itself : (address : ℕ) (kind : Option Kind) → option_map_or (rank_by address address) kind Free ≡ rank-of-kind kind
unfolding rank-of-kind
rank-itself address None = refl
rank-itself address (Some kinds.Ra) = rw (not-below address) refl
rank-itself address (Some kinds.Ta) = refl
rank-itself address (Some kinds.Xpdr) = refl

pub sees-the-same : (e f : Parts) (own last : ℕ) → SeesAlike e f own last → SeesTheSame (air_of e) (air_of f) own last
sees-the-same e f own last alike = record {
  count = (sights-alike e f own last alike).count;
  places = refl;
  ranks = ranks;
  views = (sights-alike e f own last alike).views;
}
  where
    ranks : (other : ℕ) → airs.rank_of (air_of e) own other ≡ airs.rank_of (air_of f) own other
    ranks other = elim (cases_eq other own) [
      | inl same ↦ rw same (rank-itself (address_of e own) _ ∙ ap (λ (s : Sight). rank-of-kind s.kind) alike ∙ sym (rank-itself (address_of f own) _))
      | inr apart ↦
          let ne : eqb other own ≡ false = ne_eqb other own apart in
          rank-known e own other ne ∙ ap (λ o. unwrap_or o Free) ((sights-alike e f own last alike).ranks other) ∙ sym (rank-known f own other ne)
    ]
