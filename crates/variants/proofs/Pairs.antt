-- The exchanges of more aircraft.
use Rattle.std.proofs.Common.{◌≡◌, ℕ, zero, suc, ◌+◌, List, [], ◌∷◌, ◌++◌, sym, ap, ◌∙◌, arith}
use Rattle.std.specs.Prelude.{filter, flat_map, map}
use Rattle.std.specs.List.{range_with_len}
use Rattle.std.proofs.lemmas.List.{map-append}
use Rattle.std.proofs.lemmas.List.Concat.{flat_map-append}
use Rattle.std.proofs.lemmas.List.Elements.{filter-append}
use Rattle.acas_base.specs.declared.craft.CraftSpec.{CraftSpec}
use Rattle.variants.specs.Rows.{exchange_of, exchanges_among, exchanges_by, exchanges_from, is_ra_at}

range-more : (a n : ℕ) → range_with_len a (n + 1) ≡ range_with_len a n ++ (a + n) ∷ []
range-more a zero = ap (λ k. k ∷ []) (omega arith)
range-more a (suc n) =
    let next : suc n + 1 ≡ suc (n + 1) = omega arith in
    let end : (a + 1) + n ≡ a + suc n = omega arith in
    ap (range_with_len a) next ∙ ap (λ l. a ∷ l) (range-more (a + 1) n ∙ ap (λ k. range_with_len (a + 1) n ++ k ∷ []) end)

pub among-more : (crafts : List CraftSpec) (one first n k : ℕ) → k ≡ first + n
    → exchanges_among crafts one (range_with_len first (n + 1)) ≡ exchanges_among crafts one (range_with_len first n) ++ exchanges_among crafts one (k ∷ [])
among-more crafts one first n k is =
    ap (exchanges_among crafts one) (range-more first n ∙ ap (λ m. range_with_len first n ++ m ∷ []) (sym is))
    ∙ ap (map (exchange_of one)) (filter-append (is_ra_at crafts) (range_with_len first n) (k ∷ []))
    ∙ map-append (exchange_of one) (filter (is_ra_at crafts) (range_with_len first n)) (filter (is_ra_at crafts) (k ∷ []))

pub by-more : (crafts : List CraftSpec) (n : ℕ) → exchanges_by crafts (range_with_len 0 (n + 1)) ≡ exchanges_by crafts (range_with_len 0 n) ++ exchanges_by crafts (n ∷ [])
by-more crafts n =
    ap (exchanges_by crafts) (range-more 0 n ∙ ap (λ m. range_with_len 0 n ++ m ∷ []) (omega arith))
    ∙ ap (flat_map (exchanges_from crafts)) (filter-append (is_ra_at crafts) (range_with_len 0 n) (n ∷ []))
    ∙ flat_map-append (exchanges_from crafts) (filter (is_ra_at crafts) (range_with_len 0 n)) (filter (is_ra_at crafts) (n ∷ []))
