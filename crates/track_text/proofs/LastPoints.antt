-- The last point of an aircraft is its latest one.
use Rattle.std.proofs.Common.{◌≡◌, ◌∙◌, ℕ, ◌+◌, ◌<◌, Bool, true, false, ◌||◌, not, ℤ, cond, List, [], ◌∷◌, ◌++◌, length, map, Option, Some, None, refl, sym, ap, arith, length-append, eqb-true}
use Rattle.std.specs.Prelude.{◌==◌, ◌≤ℤ◌, find, if◌then◌else◌, int_le, is_some, nat_lt, option_map}
use Rattle.std.specs.List.{list_any, position_or_len}
use Rattle.std.proofs.lemmas.Bool.{both_ways, false≢true, ltb-true}
use Rattle.std.proofs.lemmas.Bool.Decides.{nat_tests}
use Rattle.std.proofs.lemmas.Int.{ints}
use Rattle.std.proofs.lemmas.List.{append-nil, length-map}
use Rattle.std.proofs.lemmas.List.Folds.{list_any-append}
use Rattle.std.proofs.lemmas.Option.{cond_some, none-some, same_Some}
use Rattle.acas_base.specs.declared.craft.CraftSpec.{CraftSpec}
use Rattle.enc_file.specs.Conditions.{is_given}
use Rattle.enc_file.specs.Earlier.{crafts_of, index_of, with_ceiling}
use Rattle.enc_file.specs.Faults.{holds}
use Rattle.enc_file.specs.declared.record.Record.{Record}
use Rattle.enc_file.specs.declared.record.Record.TheVariants as said
use Rattle.enc_file.proofs.Named.{index-address}
use Rattle.enc_file.proofs.Stated.{given-is}
use Rattle.track_file.specs.Track.{is_from}
use Rattle.track_file.specs.declared.track.Point.{Point}
use Rattle.track_file.proofs.Spans.{order-tested}
use Rattle.track_text.specs.Conditions.{has_point_since}
use Rattle.track_text.specs.Earlier.{shared_of, track_of}
use Rattle.track_text.specs.Told.{is_point_of}
use Rattle.track_text.specs.declared.record.TrackRecord.{TrackRecord}
use Rattle.track_text.specs.declared.record.TrackRecord.TheVariants.{Shared, At}
use Rattle.track_text.proofs.Pointed.{track-more}

-- The index of an aircraft stays.
first-more : (f : CraftSpec → Bool) (xs ys : List CraftSpec) → position_or_len f xs < length xs → position_or_len f (xs ++ ys) ≡ position_or_len f xs
first-more f [] ys h = absurd (omega (arith, h))
first-more f (x ∷ xs) ys h = by (f x) (first-more f xs ys) h where
  by : (b : Bool) → (position_or_len f xs < length xs → position_or_len f (xs ++ ys) ≡ position_or_len f xs) → cond (not b) (1 + position_or_len f xs) 0 < length (x ∷ xs)
      → cond (not b) (1 + position_or_len f (xs ++ ys)) 0 ≡ cond (not b) (1 + position_or_len f xs) 0
  by true later within = refl
  by false later within = ap (λ n. 1 + n) (later (omega (arith, within)))

index-more : (crafts : List CraftSpec) (x : CraftSpec) (a i : ℕ) → index_of crafts a ≡ Some i → index_of (crafts ++ x ∷ []) a ≡ Some i
index-more crafts x a i is =
    let test : CraftSpec → Bool = λ craft. craft.address == a in
    let found = cond_some (nat_lt (position_or_len test crafts) (length crafts)) (position_or_len test crafts) i is in
    let low = ltb-true (position_or_len test crafts) (length crafts) found.0 in
    let long = length-append crafts (x ∷ []) in
    let within : nat_lt (position_or_len test crafts) (length (crafts ++ x ∷ [])) ≡ true = grind (arith, nat_tests, long, low) in
    rw (first-more test crafts (x ∷ []) low, within) (ap Some found.1)

ceiling-address : (b : Bool) (limit : ℤ) (craft : CraftSpec) (a : ℕ) → ((if b then record craft { ceiling = Some limit } else craft).address == a) ≡ (craft.address == a)
ceiling-address true limit craft a = refl
ceiling-address false limit craft a = refl

first-climbed : (crafts : List CraftSpec) (n a : ℕ) (limit : ℤ) → position_or_len (λ (craft : CraftSpec). craft.address == a) (map (with_ceiling n limit) crafts) ≡ position_or_len (λ (craft : CraftSpec). craft.address == a) crafts
first-climbed [] n a limit = refl
first-climbed (x ∷ xs) n a limit =
    ap (λ (b : Bool). cond (not b) (1 + position_or_len (λ (craft : CraftSpec). craft.address == a) (map (with_ceiling n limit) xs)) 0) (ceiling-address (x.address == n) limit x a)
    ∙ ap (λ (m : ℕ). cond (not (x.address == a)) (1 + m) 0) (first-climbed xs n a limit)

index-climbed : (crafts : List CraftSpec) (n a : ℕ) (limit : ℤ) → index_of (map (with_ceiling n limit) crafts) a ≡ index_of crafts a
index-climbed crafts n a limit = rw (first-climbed crafts n a limit, length-map crafts (with_ceiling n limit)) refl

index-stays : (s : List Record) (now : Record) (a i : ℕ) → index_of (crafts_of s) a ≡ Some i → index_of (crafts_of (now ∷ s)) a ≡ Some i
index-stays s (said.Craft craft) a i is = index-more (crafts_of s) craft a i is
index-stays s (said.Climb n limit) a i is = index-climbed (crafts_of s) n a limit ∙ is
index-stays s (said.Header version) a i is = is
index-stays s (said.Run run) a i is = is
index-stays s (said.Gains gains) a i is = is
index-stays s (said.Leg address course) a i is = is
index-stays s (said.Miss pair from to) a i is = is
index-stays s (said.Plan pair copies) a i is = is
index-stays s (said.Fate pair number copies) a i is = is
index-stays s (said.Profile profile) a i is = is
index-stays s (said.Name text) a i is = is
index-stays s (said.Clock second) a i is = is
index-stays s (said.Call address sign) a i is = is
index-stays s said.End a i is = is

-- Each point belongs to an aircraft, and comes after the earlier points of it.
abbrev pub ArePoints : List TrackRecord → Type 0
ArePoints [] = Unit {0}
ArePoints (Shared now ∷ earlier) = ArePoints earlier
ArePoints (At address point ∷ earlier) = (is_given (shared_of earlier) address ≡ true) × (has_point_since earlier address point.ms ≡ false) × ArePoints earlier

-- The indices of the aircraft so far are those among all aircraft.
abbrev AreIndices : List CraftSpec → List TrackRecord → Type 0
AreIndices all earlier = (a i : ℕ) → index_of (crafts_of (shared_of earlier)) a ≡ Some i → index_of all a ≡ Some i

-- The last point of an aircraft is at a time or after it.
pub record IsReached (earlier : List TrackRecord) (a : ℕ) (ms : ℤ) : Type 0 where
  pub point : Point
  pub found : find (is_point_of a) earlier ≡ Some (At a point)
  pub reaches : ms ≤ℤ point.ms

one-address : (all : List CraftSpec) (a b i : ℕ) → index_of all a ≡ Some i → index_of all b ≡ Some i → b ≡ a
one-address [] a b i one two = absurd (cc one)
one-address (x ∷ xs) a b i one two = sym (index-address (x ∷ xs) b i x two) ∙ index-address (x ∷ xs) a i x one

no-late : (points : List Point) (early ms : ℤ) → early ≤ℤ ms → list_any (is_from early) points ≡ false → list_any (is_from ms) points ≡ true → ⊥
no-late [] early ms le none some = false≢true some
no-late (p ∷ ps) early ms le none some = by (int_le early p.ms) (int_le ms p.ms) refl refl none some (no-late ps early ms le) where
  by : (b c : Bool) → int_le early p.ms ≡ b → int_le ms p.ms ≡ c → (b || list_any (is_from early) ps) ≡ false → (c || list_any (is_from ms) ps) ≡ true
      → (list_any (is_from early) ps ≡ false → list_any (is_from ms) ps ≡ true → ⊥) → ⊥
  by true c e f none some later = false≢true (sym none)
  by false true e f none some later =
      let after : ms ≤ℤ p.ms = (order-tested ms p.ms).0 f in
      let before : early ≤ℤ p.ms = omega (arith, ints, le, after) in
      both_ways _ e ((order-tested early p.ms).1 before)
  by false false e f none some later = later none some

late-point : (points : List Point) (p : Point) (ms : ℤ) → list_any (is_from p.ms) points ≡ false → list_any (is_from ms) (points ++ p ∷ []) ≡ true → ms ≤ℤ p.ms
late-point points p ms none some = by (int_le ms p.ms) refl where
  either : (b c d : Bool) → (b || (c || false)) ≡ true → c ≡ false → b ≡ true
  either true c d h e = refl
  either false true d h e = absurd (false≢true (sym e))
  either false false d h e = absurd (false≢true h)

  by : (b : Bool) → int_le ms p.ms ≡ b → ms ≤ℤ p.ms
  by true e = (order-tested ms p.ms).0 e
  by false e =
      let earlier : list_any (is_from ms) points ≡ true = either (list_any (is_from ms) points) (int_le ms p.ms) false (sym (list_any-append (is_from ms) points (p ∷ [])) ∙ some) e in
      let no : (ms ≤ℤ p.ms) → ⊥ = λ h. both_ways _ e ((order-tested ms p.ms).1 h) in
      let le : p.ms ≤ℤ ms = omega (arith, ints, no) in
      absurd (no-late points p.ms ms le none earlier)

same-number : (n : ℕ) → (n == n) ≡ true
same-number n = grind (arith, nat_tests)

same-point : (a b : ℕ) (p : Point) (rest : Option TrackRecord) → b ≡ a → cond (b == a) (Some (At b p)) rest ≡ Some (At a p)
same-point a b p rest e = ap (λ n. cond (n == a) (Some (At n p)) rest) e ∙ ap (λ t. cond t (Some (At a p)) rest) (same-number a)

some-index : (o : Option ℕ) → is_some o ≡ true → (i : ℕ) × (o ≡ Some i)
some-index None h = absurd (false≢true h)
some-index (Some i) h = (i, refl)

-- A point of the aircraft itself, and a point of another one.
reached-here : (all : List CraftSpec) (a b craft i : ℕ) (ms : ℤ) (p : Point) (earlier : List TrackRecord) → (i == craft) ≡ true → index_of (crafts_of (shared_of earlier)) b ≡ Some i → index_of all b ≡ Some i → index_of all a ≡ Some craft
    → has_point_since earlier b p.ms ≡ false → list_any (is_from ms) (track_of craft (At b p ∷ earlier)) ≡ true → IsReached (At b p ∷ earlier) a ms
reached-here all a b craft i ms p earlier e found here is late some =
    let same : i ≡ craft = eqb-true i craft e in
    let one : b ≡ a = one-address all a b craft is (here ∙ ap Some same) in
    let index : index_of (crafts_of (shared_of earlier)) b ≡ Some craft = found ∙ ap Some same in
    let none : list_any (is_from p.ms) (track_of craft earlier) ≡ false = ap (λ o. holds (option_map (λ k. list_any (is_from p.ms) (track_of k earlier)) o)) (sym index) ∙ late in
    let track = track-more earlier b i craft p true found e in
    record {
      point = p;
      found = same-point a b p (find (is_point_of a) earlier) one;
      reaches = late-point (track_of craft earlier) p ms none (ap (list_any (is_from ms)) (sym track) ∙ some);
    }

reached-before : (all : List CraftSpec) (a b craft i : ℕ) (ms : ℤ) (p : Point) (earlier : List TrackRecord) → (i == craft) ≡ false → index_of (crafts_of (shared_of earlier)) b ≡ Some i → index_of all b ≡ Some i → index_of all a ≡ Some craft
    → (list_any (is_from ms) (track_of craft earlier) ≡ true → IsReached earlier a ms) → list_any (is_from ms) (track_of craft (At b p ∷ earlier)) ≡ true → IsReached (At b p ∷ earlier) a ms
reached-before all a b craft i ms p earlier e found here is later some =
    let track = track-more earlier b i craft p false found e ∙ append-nil (track_of craft earlier) in
    let more = later (ap (list_any (is_from ms)) (sym track) ∙ some) in
    record { point = more.point; found = by (b == a) refl more.point more.found; reaches = more.reaches } where
      by : (t : Bool) → (b == a) ≡ t → (q : Point) → find (is_point_of a) earlier ≡ Some (At a q) → cond t (Some (At b p)) (find (is_point_of a) earlier) ≡ Some (At a q)
      by false apart q f = f
      by true same q f =
          let one : i ≡ craft = same_Some i craft (sym here ∙ ap (index_of all) (eqb-true b a same) ∙ is) in
          absurd (both_ways _ e (ap (λ n. n == craft) one ∙ same-number craft))

pub last-reached : (all : List CraftSpec) (a craft : ℕ) (ms : ℤ) (earlier : List TrackRecord) → index_of all a ≡ Some craft → ArePoints earlier → AreIndices all earlier → list_any (is_from ms) (track_of craft earlier) ≡ true → IsReached earlier a ms
last-reached all a craft ms [] is points indices some = absurd (false≢true some)
last-reached all a craft ms (Shared now ∷ earlier) is points indices some =
    let less : AreIndices all earlier = λ b i e. indices b i (index-stays (shared_of earlier) now b i e) in
    let more = last-reached all a craft ms earlier is points less some in
    record { point = more.point; found = more.found; reaches = more.reaches }
last-reached all a craft ms (At b p ∷ earlier) is points indices some =
    let index = some-index (index_of (crafts_of (shared_of earlier)) b) (sym (given-is (shared_of earlier) b) ∙ points.0) in
    by (index.0 == craft) refl (λ h. last-reached all a craft ms earlier is points.2 indices h) where
      by : (t : Bool) → ((some-index (index_of (crafts_of (shared_of earlier)) b) (sym (given-is (shared_of earlier) b) ∙ points.0)).0 == craft) ≡ t → (list_any (is_from ms) (track_of craft earlier) ≡ true → IsReached earlier a ms)
          → IsReached (At b p ∷ earlier) a ms
      by true e later =
          let index = some-index (index_of (crafts_of (shared_of earlier)) b) (sym (given-is (shared_of earlier) b) ∙ points.0) in
          reached-here all a b craft index.0 ms p earlier e index.1 (indices b index.0 index.1) is points.1 some
      by false e later =
          let index = some-index (index_of (crafts_of (shared_of earlier)) b) (sym (given-is (shared_of earlier) b) ∙ points.0) in
          reached-before all a b craft index.0 ms p earlier e index.1 (indices b index.0 index.1) is later some

-- The aircraft of a point that isn't above the last one was found.
pub record IsLate (earlier : List TrackRecord) (a : ℕ) (ms : ℤ) : Type 0 where
  pub craft : ℕ
  pub index : index_of (crafts_of (shared_of earlier)) a ≡ Some craft
  pub since : list_any (is_from ms) (track_of craft earlier) ≡ true

late-by : (earlier : List TrackRecord) (a : ℕ) (ms : ℤ) (o : Option ℕ) → index_of (crafts_of (shared_of earlier)) a ≡ o → holds (option_map (λ craft. list_any (is_from ms) (track_of craft earlier)) o) ≡ true → IsLate earlier a ms
late-by earlier a ms None e h = absurd (false≢true h)
late-by earlier a ms (Some craft) e h = record { craft = craft; index = e; since = h }

pub late-reached : (earlier : List TrackRecord) (a : ℕ) (ms : ℤ) → ArePoints earlier → has_point_since earlier a ms ≡ true → IsReached earlier a ms
late-reached earlier a ms points late =
    let l = late-by earlier a ms (index_of (crafts_of (shared_of earlier)) a) refl late in
    last-reached (crafts_of (shared_of earlier)) a l.craft ms earlier l.index points (λ b i e. e) l.since

-- The last of what passes a test is the first one from the end.
pub find-last : (test : TrackRecord → Bool) (newer older : List TrackRecord) (now : TrackRecord) → list_any test newer ≡ false → test now ≡ true → find test (newer ++ now ∷ older) ≡ Some now
find-last test [] older now none is = rw is refl
find-last test (x ∷ newer) older now none is = by (test x) (find-last test newer older now) none where
  by : (b : Bool) → (list_any test newer ≡ false → test now ≡ true → find test (newer ++ now ∷ older) ≡ Some now) → (b || list_any test newer) ≡ false → cond b (Some x) (find test (newer ++ now ∷ older)) ≡ Some now
  by true later h = absurd (false≢true (sym h))
  by false later h = later h is

pub find-none : (test : TrackRecord → Bool) (earlier : List TrackRecord) (now : TrackRecord) → list_any test earlier ≡ false → find test earlier ≡ Some now → ⊥
find-none test [] now none some = none-some now some
find-none test (x ∷ earlier) now none some = by (test x) none some (find-none test earlier now) where
  by : (b : Bool) → (b || list_any test earlier) ≡ false → cond b (Some x) (find test earlier) ≡ Some now → (list_any test earlier ≡ false → find test earlier ≡ Some now → ⊥) → ⊥
  by true h e later = false≢true (sym h)
  by false h e later = later h e
