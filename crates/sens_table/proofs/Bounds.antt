-- The level of own aircraft without a memory.
use Rattle.std.proofs.Common.{◌≡◌, ℤ, pos, negsuc, ◌+ℤ◌, ◌-ℤ◌, List, [], ◌∷◌, Bool, true, false, refl, ap, arith}
use Rattle.std.proofs.lemmas.Bool.Decides.{nat_tests}
use Rattle.std.proofs.lemmas.Int.{ints}
use Rattle.std.specs.Prelude.{not, ◌&&◌, ◌||◌, if◌then◌else◌, int_le, int_lt, Option, Some, None, option_map, unwrap_or}
use Rattle.acas_base.specs.declared.level.Level.{Level}
use Rattle.acas_base.specs.declared.setting.Profile.{Profile}
use Rattle.acas_base.specs.declared.setting.Profile.TheVariants.{One}
use Rattle.sens_table.specs.Above.{above_after, above_of, heights_over, is_above, level_of}
use Rattle.sens_table.specs.Levels.{Band, level_at}

or-self : (t u : Bool) → (t || (u && t)) ≡ t
or-self true u = refl
or-self false true = refl
or-self false false = refl

add-none : (b n : ℤ) → int_le (b +ℤ pos 0) n ≡ int_le b n
add-none b n = ap (λ x. int_le x n) (omega (arith, ints))

-- With a width of 0 only the newest number counts.
pub newest-alone : (bound n : ℤ) (earlier : List ℤ) → is_above 0 bound (n ∷ earlier) ≡ int_le bound n
newest-alone bound n [] = refl
newest-alone bound n (m ∷ earlier) = rw (add-none bound n) (or-self (int_le bound n) (is_above 0 bound (m ∷ earlier)))

not-below : (b n : ℤ) → int_lt n b ≡ not (int_le b n)
not-below (pos b) (pos n) = grind (arith, nat_tests)
not-below (pos b) (negsuc n) = refl
not-below (negsuc b) (pos n) = refl
not-below (negsuc b) (negsuc n) = grind (arith, nat_tests)

in-band : (b t : Bool) (band : Band) (rest : Option Band) (above here : Level) → b ≡ not t → here ≡ unwrap_or (option_map (λ (x : Band). x.level) rest) above
    → (if t then here else band.level) ≡ unwrap_or (option_map (λ (x : Band). x.level) (if b then Some band else rest)) above
in-band b true band rest above here e is = rw e is
in-band b false band rest above here e is = rw e refl

-- In profile 1 the level is that of the newest altitude.
pub level-alone : (elevation altitude : ℤ) (earlier : List ℤ) → level_of (above_of One elevation (altitude ∷ earlier)) ≡ level_at altitude (altitude -ℤ elevation)
unfolding above_of level_of
level-alone elevation altitude earlier =
    let height = altitude -ℤ elevation in
    let heights = heights_over elevation earlier in
    rw (
      newest-alone (pos 1000) height heights,
      newest-alone (pos 2350) height heights,
      newest-alone (pos 5000) altitude earlier,
      newest-alone (pos 10000) altitude earlier,
      newest-alone (pos 20000) altitude earlier,
      newest-alone (pos 42000) altitude earlier,
    )
    (in-band _ (int_le (pos 1000) height) _ _ _ _ (not-below (pos 1000) height) (in-band _ (int_le (pos 2350) height) _ None _ _ (not-below (pos 2350) height)
    (in-band _ (int_le (pos 5000) altitude) _ _ _ _ (not-below (pos 5000) altitude) (in-band _ (int_le (pos 10000) altitude) _ _ _ _ (not-below (pos 10000) altitude)
    (in-band _ (int_le (pos 20000) altitude) _ _ _ _ (not-below (pos 20000) altitude) (in-band _ (int_le (pos 42000) altitude) _ None _ _ (not-below (pos 42000) altitude) refl))))))

pub descends-alone : (elevation altitude : ℤ) (earlier : List ℤ) → (above_of One elevation (altitude ∷ earlier)).descends ≡ int_le (pos 1100) (altitude -ℤ elevation)
unfolding above_of
descends-alone elevation altitude earlier = newest-alone (pos 1100) (altitude -ℤ elevation) (heights_over elevation earlier)

pub faster-alone : (elevation altitude : ℤ) (earlier : List ℤ) → (above_of One elevation (altitude ∷ earlier)).descends_faster ≡ int_le (pos 1550) (altitude -ℤ elevation)
unfolding above_of
faster-alone elevation altitude earlier = newest-alone (pos 1550) (altitude -ℤ elevation) (heights_over elevation earlier)

-- One cycle more.
pub above-more : (profile : Profile) (elevation altitude before : ℤ) (earlier : List ℤ) → above_after profile elevation (above_of profile elevation (before ∷ earlier)) altitude ≡ above_of profile elevation (altitude ∷ before ∷ earlier)
unfolding above_of
above-more profile elevation altitude before earlier = refl
