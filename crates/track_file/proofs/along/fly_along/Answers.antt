use Rattle.std.proofs.Common.{◌≡◌, ◌≤◌, ◌∙◌, List, Global, Vec, get_or, ap, arith, length, subst, sym, true, refl}
use Rattle.std.specs.Prelude.{All, map}
use Rattle.std.proofs.lemmas.List.{length-map}
use Rattle.std.proofs.lemmas.List.Elements.{All-map}
use Rattle.flight.specs.Inside.{IsInBox}
use Rattle.flight.specs.declared.place.Place.{Place}
use Rattle.leg_rows.proofs.Begun.{all-back}
use Rattle.leg_rows.specs.Flights.{CanFly, FliesThrough}
use Rattle.leg_rows.specs.Rows.{AreFlyable}
use Rattle.track_file.proofs.Flying.{along-rows, fault-fast, row-long, rows-fly}
use Rattle.track_file.specs.Along.{IsFast, rounded_row, rounded_rows}
use Rattle.track_file.specs.Track.{covers}
use Rattle.track_file.specs.declared.track.Point.{Point}
use Rattle.track_file.proofs.along.fly_along.Goals as goal

pub first_fast-requires-clause-few : goal.first_fast-requires-clause-few
first_fast-requires-clause-few c =
    let tracks : List (List Point) = map (λ points. points.items) c.args.tracks.now in
    let rows = c.as_slice.result.now in
    let same : map (λ row. row.items) rows ≡ rounded_rows c.cycles-cycles.result tracks = ap (map (λ (row : Vec Place Global). row.items)) c.as_slice.ensures.value ∙ c.in_ok-rows.ensures.value in
    let long : All (λ (l : List Place). length l ≤ 600) (rounded_rows c.cycles-cycles.result tracks) =
    All-map (λ (l : List Place). length l ≤ 600) (rounded_row c.cycles-cycles.result) tracks (λ k d h. let exact = row-long c.cycles-cycles.result (get_or tracks k d) in omega (arith, exact, c.cycles-cycles.ensures.value, c.cycles-cycles.ensures.valid.run.length.1)) in
    all-back (λ (l : List Place). length l ≤ 600) (λ (row : Vec Place Global). row.items) rows (subst (λ (l : List (List Place)). All (λ (p : List Place). length p ≤ 600) l) (sym same) long)

pub returns-in-Some-first_fast-clause-fault : goal.returns-in-Some-first_fast-clause-fault
returns-in-Some-first_fast-clause-fault c =
    let e = c.args.encounter.now in
    let items : Vec Place Global → List Place = λ v. v.items in
    let points : Vec Point Global → List Point = λ v. v.items in
    let tracks : List (List Point) = map points c.args.tracks.now in
    let is : c.cycles-cycles.result ≡ e.cycles = c.cycles-cycles.ensures.value in
    let covered : All (λ (track : List Point). covers track e.cycles ≡ true) tracks =
    All-map (λ (track : List Point). covers track e.cycles ≡ true) points c.args.tracks.now (λ k d h. rw (← is) (c.in_default.ensures.none refl k d h)) in
    let same : map items c.as_slice.result.now ≡ rounded_rows e.cycles tracks = ap (map items) c.as_slice.ensures.value ∙ c.in_ok-rows.ensures.value ∙ ap (λ n. rounded_rows n tracks) is in
    fault-fast e.cycles tracks c.in-Some-first_fast.fault covered (subst (λ (l : List (List Place)). IsFast l c.in-Some-first_fast.fault) same c.in-Some-first_fast.ensures.first)

pub fly_through-requires : goal.fly_through-requires
fly_through-requires c =
    let e = c.args.encounter.now in
    let items : Vec Place Global → List Place = λ v. v.items in
    let points : Vec Point Global → List Point = λ v. v.items in
    let tracks : List (List Point) = map points c.args.tracks.now in
    let is : c.cycles-cycles.result ≡ e.cycles = c.cycles-cycles.ensures.value in
    let same : map items c.as_slice-2.result.now ≡ rounded_rows e.cycles tracks = ap (map items) c.as_slice-2.ensures.value ∙ c.in_ok-rows.ensures.value ∙ ap (λ n. rounded_rows n tracks) is in
    let boxed : All (All IsInBox) (rounded_rows e.cycles tracks) =
    subst (λ (l : List (List Place)). All (All IsInBox) l) (c.in_ok-rows.ensures.value ∙ ap (λ n. rounded_rows n tracks) is) (All-map (All IsInBox) items c.in_ok-rows.rows.items c.in_ok-rows.ensures.boxed) in
    let flyable : All AreFlyable (rounded_rows e.cycles tracks) =
    subst (λ (l : List (List Place)). All AreFlyable l) (ap (map items) c.as_slice.ensures.value ∙ c.in_ok-rows.ensures.value ∙ ap (λ n. rounded_rows n tracks) is)
    (All-map AreFlyable items c.as_slice.result.now (c.in_default-first_fast.ensures.none refl)) in
    let count : length tracks ≡ length e.crafts = length-map c.args.tracks.now points ∙ c.requires.count in
    subst (λ (l : List (List Place)). CanFly e l) (sym same) (rows-fly e tracks c.cycles-cycles.ensures.valid count boxed flyable)

pub returns-clause-flyable : goal.returns-clause-flyable
returns-clause-flyable c =
    let e = c.args.encounter.now in
    let items : Vec Place Global → List Place = λ v. v.items in
    let points : Vec Point Global → List Point = λ v. v.items in
    let tracks : List (List Point) = map points c.args.tracks.now in
    let is : c.cycles-cycles.result ≡ e.cycles = c.cycles-cycles.ensures.value in
    let covered : All (λ (track : List Point). covers track e.cycles ≡ true) tracks =
    All-map (λ (track : List Point). covers track e.cycles ≡ true) points c.args.tracks.now (λ k d h. rw (← is) (c.in_default.ensures.none refl k d h)) in
    let flyable : All AreFlyable (rounded_rows e.cycles tracks) =
    subst (λ (l : List (List Place)). All AreFlyable l) (ap (map items) c.as_slice.ensures.value ∙ c.in_ok-rows.ensures.value ∙ ap (λ n. rounded_rows n tracks) is)
    (All-map AreFlyable items c.as_slice.result.now (c.in_default-first_fast.ensures.none refl)) in
    record { covered = covered; flyable = flyable }

pub returns-clause-flies : goal.returns-clause-flies
returns-clause-flies c =
    let e = c.args.encounter.now in
    let items : Vec Place Global → List Place = λ v. v.items in
    let points : Vec Point Global → List Point = λ v. v.items in
    let tracks : List (List Point) = map points c.args.tracks.now in
    let is : c.cycles-cycles.result ≡ e.cycles = c.cycles-cycles.ensures.value in
    let same : map items c.as_slice-2.result.now ≡ rounded_rows e.cycles tracks = ap (map items) c.as_slice-2.ensures.value ∙ c.in_ok-rows.ensures.value ∙ ap (λ n. rounded_rows n tracks) is in
    let boxed : All (All IsInBox) (rounded_rows e.cycles tracks) =
    subst (λ (l : List (List Place)). All (All IsInBox) l) (c.in_ok-rows.ensures.value ∙ ap (λ n. rounded_rows n tracks) is) (All-map (All IsInBox) items c.in_ok-rows.rows.items c.in_ok-rows.ensures.boxed) in
    let count : length tracks ≡ length e.crafts = length-map c.args.tracks.now points ∙ c.requires.count in
    along-rows c.in_ok-made.made e tracks count boxed (subst (λ (l : List (List Place)). FliesThrough c.in_ok-made.made e l) same c.in_ok-made.ensures.flies)
