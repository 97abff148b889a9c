use Rattle.std.proofs.Common.{◌≡◌, ◌≢◌, ◌+◌, ◌*◌, ◌<◌, ◌≤◌, ℕ, get_or, length, arith, below_more, get_or-set_other, get_or-set_same, length-set, set, subst, inl, inr, ◌∙◌}
use Rattle.std.proofs.lemmas.Bool.{cases_lt}
use Rattle.flight.specs.Flight.{nowhere}
use Rattle.flight.specs.Measurement.{AreSlantRanges, slant_range}
use Rattle.flight.proofs.Slants.{slant-none, slant-swap}
use Rattle.flight.proofs.ranges.put_ranges_of.Goals as goal

pub loop-earlier-preserved : goal.loop-earlier-preserved
loop-earlier-preserved c =
    let i = c.loop-earlier.invariant in
    let e = c.loop-earlier.earlier in
    let n = c.args.index in
    let r = c.range_of-range.result in
    let xs = c.loop-earlier.ranges in
    let p = c.pair_of-in-loop-earlier.result in
    let q = c.pair_of-in-loop-earlier-2.result in
    let at-p : p ≡ e * 16 + n = c.pair_of-in-loop-earlier.ensures in
    let at-q : q ≡ n * 16 + e = c.pair_of-in-loop-earlier-2.ensures in
    let below : e < n = c.loop-earlier-test.true in
    let few : n < 16 = c.requires.index in
    let kept : (k : ℕ) → k ≢ p → k ≢ q → get_or (set (set xs p r) q r) k 0 ≡ get_or xs k 0 =
    λ k g h. get_or-set_other (set xs p r) q k r 0 h ∙ get_or-set_other xs p k r 0 g in
    let places = c.args.places.now in
    let measured : r ≡ slant_range (get_or places e nowhere) (get_or places n nowhere) = rw (c.from.ensures, c.from-in-loop-earlier.ensures) at c.range_of-range.ensures in
    let apart : p ≢ q = omega (arith, at-p, at-q, below, few) in
    let p-within : p < length xs = omega (arith, at-p, below, few, i.size) in
    let size : length (set xs p r) ≡ 256 = length-set xs p r ∙ i.size in
    let q-within : q < length (set xs p r) = omega (arith, at-q, below, few, size) in
    record {
      size = length-set (set xs p r) q r ∙ length-set xs p r ∙ i.size;
      before = λ were a b g h. kept (a * 16 + b) (omega (arith, at-p, below, few, g, h)) (omega (arith, at-q, below, few, g, h)) ∙ i.before were a b g h;
      own = kept (n * 16 + n) (omega (arith, at-p, below, few)) (omega (arith, at-q, below, few)) ∙ i.own;
      to = below_more _ _
          (λ k h. kept (k * 16 + n) (omega (arith, at-p, h)) (omega (arith, at-q, below, few, h)) ∙ i.to k h)
          (subst (λ k. get_or (set (set xs p r) q r) k 0 ≡ slant_range (get_or places e nowhere) (get_or places n nowhere)) at-p
          (get_or-set_other (set xs p r) q p r 0 apart ∙ get_or-set_same xs p r 0 p-within ∙ measured));
      from = below_more _ _
          (λ k h. kept (n * 16 + k) (omega (arith, at-p, below, few, h)) (omega (arith, at-q, h)) ∙ i.from k h)
          (subst (λ k. get_or (set (set xs p r) q r) k 0 ≡ slant_range (get_or places n nowhere) (get_or places e nowhere)) at-q
          (get_or-set_same (set xs p r) q r 0 q-within ∙ measured ∙ slant-swap (get_or places e nowhere) (get_or places n nowhere)));
    }

pub returns : goal.returns
returns c = λ were a b g h.
    let i = c.loop-earlier.invariant in
    let n = c.args.index in
    let few : n < 16 = c.requires.index in
    let places = c.args.places.now in
    let end : n ≤ c.loop-earlier.earlier = c.loop-earlier-test.false in
    let own : c.pair_of.result ≡ n * 16 + n = c.pair_of.ensures in
    let still : AreSlantRanges places n (set c.args.ranges.now c.pair_of.result 0) =
    λ j k f l. let ne : j * 16 + k ≢ c.pair_of.result = omega (arith, own, few, f, l) in get_or-set_other c.args.ranges.now c.pair_of.result (j * 16 + k) 0 0 ne ∙ were j k f l in
    elim (cases_lt a n) [
      | inl before ↦ elim (cases_lt b n) [
        | inl earlier ↦ i.before still a b before earlier
        | inr last ↦ let same : b ≡ n = omega (arith, h, last) in rw same (i.to a (omega (arith, before, end)))
      ]
      | inr last ↦
          let one : a ≡ n = omega (arith, g, last) in
          elim (cases_lt b n) [
            | inl earlier ↦ rw one (i.from b (omega (arith, earlier, end)))
            | inr other ↦ let same : b ≡ n = omega (arith, h, other) in rw (one, same) (i.own ∙ slant-none (get_or places n nowhere))
          ]
    ]
