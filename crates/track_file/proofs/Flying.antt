-- An encounter whose aircraft fly along tracks.
use Rattle.std.proofs.Common.{◌≡◌, ℕ, ◌-◌, ◌<◌, ◌≤◌, ℤ, pos, ◌*◌, ◌+ℤ◌, ◌*ℤ◌, List, [], length, get_or, Option, Some, None, true, refl, sym, ap, ◌∙◌, arith, subst}
use Rattle.std.specs.Prelude.{All}
use Rattle.std.specs.Int.{int_div_euclid}
use Rattle.std.specs.Option.{option_map_or}
use Rattle.std.proofs.lemmas.Int.{ints}
use Rattle.std.proofs.lemmas.List.{get_or-map, length-map}
use Rattle.std.proofs.lemmas.List.Elements.{All-map}
use Rattle.std.proofs.lemmas.List.FromFn.{get_or-map-range_with_len, length-map-range_with_len}
use Rattle.acas_base.specs.Encounter.{IsEncounter, Parts}
use Rattle.acas_num.specs.Division.{IsQuotient}
use Rattle.acas_num.proofs.Quotients.{quotient}
use Rattle.flight.specs.Flight.{nowhere, position}
use Rattle.flight.specs.Inside.{IsInBox}
use Rattle.flight.specs.declared.place.Place.{Place}
use Rattle.leg_rows.specs.Flights.{CanFly, FliesThrough, IsWholeFoot, unplaced}
use Rattle.leg_rows.specs.Rows.{AreFlyable, place_of}
use Rattle.track_file.specs.Along.{FliesAlong, IsFast, IsFaultOf, rounded_row, rounded_rows}
use Rattle.track_file.specs.Track.{covers, first_from, last_by, on_line, rounded, rounded_between, time_of}
use Rattle.track_file.specs.declared.along.TrackFault.{TrackFault}
use Rattle.track_file.specs.declared.along.TrackFault.TheVariants.{Cover, Rate}
use Rattle.track_file.specs.declared.track.Point.{Point}

sixty-back : (q : ℤ) → int_div_euclid (pos 60 *ℤ q) (pos 60) ≡ q
sixty-back q = let is = quotient (pos 60 *ℤ q) (pos 60) (omega (arith, ints)) in one q (int_div_euclid (pos 60 *ℤ q) (pos 60)) is where
  one : (q r : ℤ) → IsQuotient (pos 60 *ℤ q) (pos 60) r → r ≡ q
  one q r is = omega (arith, ints, is.within, is.no_more)

sixty-whole : (q : ℤ) → pos 60 *ℤ int_div_euclid (pos 60 *ℤ q) (pos 60) ≡ pos 60 *ℤ q
sixty-whole q = ap (λ z. pos 60 *ℤ z) (sixty-back q)

-- An aircraft begins at a whole foot.
whole-by : (a b : Option Point) → IsWholeFoot (option_map_or (λ p. option_map_or (λ q. rounded_between p q 1) b nowhere) a nowhere)
whole-by None b = refl
whole-by (Some p) None = refl
whole-by (Some p) (Some q) =
    let f = on_line (λ p. p.z) p q (time_of 1) in
    sixty-whole (int_div_euclid ((pos 2 *ℤ f.top) +ℤ pos (60 * f.bottom)) (pos (2 * (60 * f.bottom))))

whole-start : (points : List Point) → IsWholeFoot (rounded points 1)
unfolding rounded
whole-start points = whole-by (last_by points (time_of 1)) (first_from points (time_of 1))

pub row-long : (cycles : ℕ) (points : List Point) → length (rounded_row cycles points) ≡ cycles
row-long cycles points = length-map-range_with_len (rounded points) 1 cycles

pub row-at : (cycles : ℕ) (points : List Point) (cycle : ℕ) → 1 ≤ cycle → cycle ≤ cycles → place_of (rounded_row cycles points) cycle ≡ rounded points cycle
row-at cycles points cycle first last = get_or-map-range_with_len (rounded points) 1 cycles (cycle - 1) cycle nowhere (omega arith) (omega arith)

pub rows-fly : (e : Parts) (tracks : List (List Point)) → IsEncounter e → length tracks ≡ length e.crafts → All (All IsInBox) (rounded_rows e.cycles tracks) → All AreFlyable (rounded_rows e.cycles tracks)
    → CanFly e (rounded_rows e.cycles tracks)
rows-fly e tracks is count boxed flyable = record {
  count = length-map tracks (rounded_row e.cycles) ∙ count;
  long = All-map (λ (places : List Place). length places ≡ e.cycles) (rounded_row e.cycles) tracks (λ k d h. row-long e.cycles (get_or tracks k d));
  boxed = boxed;
  feet = All-map (λ (places : List Place). IsWholeFoot (place_of places 1)) (rounded_row e.cycles) tracks
      (λ k d h. subst IsWholeFoot (sym (row-at e.cycles (get_or tracks k d) 1 (omega arith) is.run.length.0)) (whole-start (get_or tracks k d)));
  flyable = flyable;
}

pub along-rows : (e like : Parts) (tracks : List (List Point)) → length tracks ≡ length like.crafts → All (All IsInBox) (rounded_rows like.cycles tracks) → FliesThrough e like (rounded_rows like.cycles tracks)
    → FliesAlong e like tracks
along-rows e like tracks count boxed flies = record {
  alike = flies.alike;
  needed = flies.needed;
  place = there;
  in_box = λ craft cycle within first last.
      let craft_in : craft < length like.crafts = omega (arith, within, same) in
      let track_in : craft < length tracks = omega (arith, craft_in, count) in
      let cycle_in : cycle ≤ like.cycles = omega (arith, last, flies.alike.cycles) in
      let row : get_or (rounded_rows like.cycles tracks) craft [] ≡ rounded_row like.cycles (get_or tracks craft []) = get_or-map (rounded_row like.cycles) tracks craft [] [] track_in in
      let box : IsInBox (place_of (get_or (rounded_rows like.cycles tracks) craft []) cycle) =
      boxed craft [] (omega (arith, track_in, length-map tracks (rounded_row like.cycles))) (cycle - 1) nowhere (omega (arith, ap length row, row-long like.cycles (get_or tracks craft []), first, cycle_in)) in
      subst IsInBox (sym (flies.place craft cycle craft_in first cycle_in)) box;
} where
  same : length e.crafts ≡ length like.crafts
  same = sym (length-map e.crafts unplaced) ∙ ap length flies.alike.crafts ∙ length-map like.crafts unplaced

  there : (craft cycle : ℕ) → craft < length like.crafts → 1 ≤ cycle → cycle ≤ like.cycles → position e craft cycle ≡ rounded (get_or tracks craft []) cycle
  there craft cycle within first last =
      flies.place craft cycle within first last
      ∙ ap (λ l. place_of l cycle) (get_or-map (rounded_row like.cycles) tracks craft [] [] (omega (arith, within, count)))
      ∙ row-at like.cycles (get_or tracks craft []) cycle first last

pub fault-fast : (cycles : ℕ) (tracks : List (List Point)) (fault : TrackFault) → All (λ points. covers points cycles ≡ true) tracks → IsFast (rounded_rows cycles tracks) fault → IsFaultOf cycles tracks fault
fault-fast cycles tracks (Cover craft) covered fast = absurd fast
fault-fast cycles tracks (Rate craft cycle) covered fast = (covered, fast)
