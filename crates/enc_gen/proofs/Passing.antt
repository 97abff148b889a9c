-- The aircraft, where they begin: each is the one that was drawn, or it is moved aside.
use Rattle.std.proofs.Common.{◌≡◌, ℕ, zero, suc, ◌+◌, ◌<◌, ◌≤◌, Bool, true, false, List, [], ◌∷◌, length, get_or, arith, refl, ap}
use Rattle.std.specs.Prelude.{◌==◌, if◌then◌else◌, ℤ, pos, ◌+ℤ◌, ◌-ℤ◌}
use Rattle.std.proofs.lemmas.Int.{ints}
use Rattle.std.proofs.lemmas.List.{get_or-map, length-map}
use Rattle.acas_base.specs.Ranges.{IsWithin}
use Rattle.acas_base.specs.declared.craft.CraftSpec.{CraftSpec}
use Rattle.acas_base.specs.declared.craft.Kind.TheVariants.{Ra}
use Rattle.acas_base.specs.declared.craft.Leg.{Leg}
use Rattle.acas_base.specs.declared.setting.Profile.{Profile}
use Rattle.acas_base.specs.declared.setting.Profile.TheVariants.{One, Two}
use Rattle.enc_gen.proofs.Numbers.{number-small}
use Rattle.enc_gen.specs.Crafts.{spec_of}
use Rattle.enc_gen.specs.Draws.{next_state, number_below}
use Rattle.enc_gen.specs.Making.{each_of, one}
use Rattle.enc_gen.specs.Near.{IsNear}
use Rattle.enc_gen.specs.Passing.{aside, most_aside, moved, placed}
use Rattle.enc_gen.specs.declared.crafts.Draft.{Draft}
use Rattle.flight.specs.Flight.{place_in, start_of}

abbrev pub any-draft : Draft
any-draft = record { craft = 0; kind = Ra; x = pos 0; y = pos 0; alt = pos 0; climb = pos 0 }

-- One aircraft, and the same one moved by at most so many ft along x and along y.
pub record IsBeside (most : ℕ) (a b : CraftSpec) : Type 0 where
  pub address : b.address ≡ a.address
  pub kind : b.kind ≡ a.kind
  pub alt : b.alt ≡ a.alt
  pub ceiling : b.ceiling ≡ a.ceiling
  pub x : IsWithin most (b.x -ℤ a.x)
  pub y : IsWithin most (b.y -ℤ a.y)

none-moved : (most : ℕ) (x : ℤ) → IsWithin most (x -ℤ x)
none-moved most x = (omega (arith, ints), omega (arith, ints))

more-moved : (x : ℤ) (by : ℕ) → by < 24305 → IsWithin 24304 ((x +ℤ pos by) -ℤ x)
more-moved x by h = (omega (arith, ints, h), omega (arith, ints, h))

less-moved : (x : ℤ) (by : ℕ) → by < 24305 → IsWithin 24304 ((x -ℤ pos by) -ℤ x)
less-moved x by h = (omega (arith, ints, h), omega (arith, ints, h))

moved-beside : (way by : ℕ) (spec : CraftSpec) → by < 24305 → IsBeside 24304 spec (moved way by spec)
moved-beside way by spec h = by_test (way == 0) (way == 1) (way == 2) where
  by_test : (a b c : Bool)
      → IsBeside 24304 spec (if a then record spec { x = spec.x +ℤ pos by }
      else if b then record spec { y = spec.y +ℤ pos by }
      else if c then record spec { x = spec.x -ℤ pos by }
      else record spec { y = spec.y -ℤ pos by })
  by_test true b c = record { address = refl; kind = refl; alt = refl; ceiling = refl; x = more-moved spec.x by h; y = none-moved 24304 spec.y }
  by_test false true c = record { address = refl; kind = refl; alt = refl; ceiling = refl; x = none-moved 24304 spec.x; y = more-moved spec.y by h }
  by_test false false true = record { address = refl; kind = refl; alt = refl; ceiling = refl; x = less-moved spec.x by h; y = none-moved 24304 spec.y }
  by_test false false false = record { address = refl; kind = refl; alt = refl; ceiling = refl; x = none-moved 24304 spec.x; y = less-moved spec.y by h }

stays-beside : (most : ℕ) (a : CraftSpec) → IsBeside most a a
stays-beside most a = record { address = refl; kind = refl; alt = refl; ceiling = refl; x = none-moved most a.x; y = none-moved most a.y }

-- One aircraft is made of one that was drawn.
aside-one : (d : Draft) (s : ℕ) → (b : CraftSpec) × (((aside d s).items ≡ b ∷ []) × IsBeside 24304 (spec_of d) b)
unfolding aside
aside-one d s = by_test (d.craft == 0) where
  by_test : (zeroth : Bool)
      → (b : CraftSpec) × (((if zeroth then one (spec_of d) s
      else one (moved (number_below 4 (next_state (next_state s))) (number_below 24305 (next_state s)) (spec_of d)) (next_state (next_state s))).items ≡ b ∷ []) × IsBeside 24304 (spec_of d) b)
  by_test true = (spec_of d, (refl, stays-beside 24304 (spec_of d)))
  by_test false = (
    moved (number_below 4 (next_state (next_state s))) (number_below 24305 (next_state s)) (spec_of d),
    (refl, moved-beside (number_below 4 (next_state (next_state s))) (number_below 24305 (next_state s)) (spec_of d) (number-small 24305 (next_state s) (omega arith))),
  )

asides-long : (ds : List Draft) (s : ℕ) → length (each_of aside ds s).items ≡ length ds
unfolding each_of
asides-long [] s = refl
asides-long (d ∷ ds) s =
    let here = aside-one d s in
    let t = (aside d s).state in
    rw here.1.0 (ap suc (asides-long ds t))

asides-beside : (ds : List Draft) (s k : ℕ) (d : Draft) (b : CraftSpec) → k < length ds → IsBeside 24304 (spec_of (get_or ds k d)) (get_or (each_of aside ds s).items k b)
unfolding each_of
asides-beside [] s k d b h = absurd (omega arith)
asides-beside (x ∷ ds) s zero d b h = let here = aside-one x s in rw here.1.0 here.1.1
asides-beside (x ∷ ds) s (suc k) d b h =
    let here = aside-one x s in
    rw here.1.0 (asides-beside ds (aside x s).state k d b (omega arith))

pub placed-long : (profile : Profile) (ds : List Draft) (s : ℕ) → length (placed profile ds s) ≡ length ds
unfolding placed
placed-long One ds s = length-map ds spec_of
placed-long Two ds s = asides-long ds s

pub placed-beside : (profile : Profile) (ds : List Draft) (s k : ℕ) (d : Draft) (b : CraftSpec) → k < length ds → IsBeside (most_aside profile) (spec_of (get_or ds k d)) (get_or (placed profile ds s) k b)
unfolding placed
placed-beside One ds s k d b h = rw (get_or-map spec_of ds k d b h) (stays-beside 0 (spec_of (get_or ds k d)))
placed-beside Two ds s k d b h = asides-beside ds s k d b h

pub aside-few : (profile : Profile) → most_aside profile ≤ 24304
aside-few One = omega arith
aside-few Two = omega arith

-- With the same legs it stays beside.
pub near-beside : (most : ℕ) (a b : CraftSpec) (legs : List Leg) (k : ℕ) → IsBeside most a b → IsNear 60000 (place_in (start_of a) legs k) → IsNear (60000 + most) (place_in (start_of b) legs k)
near-beside most a b legs k is near = record {
  x = (omega (arith, ints, is.x.0, near.x.0), omega (arith, ints, is.x.1, near.x.1));
  y = (omega (arith, ints, is.y.0, near.y.0), omega (arith, ints, is.y.1, near.y.1));
  z = rw is.alt near.z;
}
