-- A text is refused in one way at most.
use Rattle.std.proofs.Common.{◌≡◌, ◌∙◌, ℕ, zero, suc, List, [], ◌∷◌, length, Option, Some, refl, sym, ap, subst, arith, inl, inr}
use Rattle.std.specs.Prelude.{◌+◌, ◌<◌, slice_get, slice_index_or, take}
use Rattle.std.proofs.lemmas.Bool.{both_ways, cases_order}
use Rattle.flight.specs.declared.place.Place.{Place}
use Rattle.leg_rows.specs.Rows.{AreFlyable, IsFirstExcess}
use Rattle.enc_file.specs.Earlier.{crafts_of}
use Rattle.track_file.specs.Along.{IsFast, IsFaultOf, craft_at, rounded_rows}
use Rattle.track_file.specs.declared.along.TrackFault.{TrackFault}
use Rattle.track_file.specs.declared.along.TrackFault.TheVariants.{Cover, Rate}
use Rattle.track_file.specs.declared.track.Point.{Point}
use Rattle.enc_file.proofs.LowestCode.{number-within, same-code}
use Rattle.track_text.specs.Codes.{fault_number, track_number}
use Rattle.track_text.specs.Conditions.{ArePassed, HasFault, IsLowestFault, IsRefused, address_at, said_by}
use Rattle.track_text.specs.Earlier.{shared_of}
use Rattle.track_text.specs.declared.record.TrackRecord.{TrackRecord}
use Rattle.track_text.specs.declared.refusal.Fault.{Fault}
use Rattle.track_text.specs.declared.refusal.Fault.TheVariants.{Text, Track}
use Rattle.track_text.specs.declared.refusal.Refusal.{Refusal}
use Rattle.track_text.proofs.Lowest.{track-late}
use Rattle.track_text.proofs.Once.{said-same}

-- Two places up to which records are passed, each with a fault, are one.
place-same : (before : List TrackRecord) (rows : List (List (List ℕ))) (m n : ℕ) (a b : List TrackRecord) (why other : Fault) → ArePassed before (take m rows) a → ArePassed before (take n rows) b
    → HasFault a (slice_get rows m) why → HasFault b (slice_get rows n) other → (a ≡ b) × (slice_get rows m ≡ slice_get rows n)
place-same before [] zero zero a b why other first second has too = (sym first ∙ second, refl)
place-same before [] zero (suc n) a b why other first second has too = (sym first ∙ second, refl)
place-same before [] (suc m) zero a b why other first second has too = (sym first ∙ second, refl)
place-same before [] (suc m) (suc n) a b why other first second has too = (sym first ∙ second, refl)
place-same before (fields ∷ rest) zero zero a b why other first second has too = (sym first ∙ second, refl)
place-same before (fields ∷ rest) zero (suc n) a b why other first second has too = absurd (second.0 why (subst (λ l. HasFault l (Some fields) why) (sym first) has))
place-same before (fields ∷ rest) (suc m) zero a b why other first second has too = absurd (first.0 other (subst (λ l. HasFault l (Some fields) other) (sym second) too))
place-same before (fields ∷ rest) (suc m) (suc n) a b why other first second has too =
    let same : second.1.0 ≡ first.1.0 = said-same (said_by before fields) second.1.0 first.1.0 second.1.1 first.1.1 in
    place-same (first.1.0 ∷ before) rest m n a b why other first.1.2 (subst (λ now. ArePassed (now ∷ before) (take n rest) b) same second.1.2) has too

excess-before : (places : List Place) (c d : ℕ) → c < d → IsFirstExcess places c → IsFirstExcess places d → ⊥
excess-before places c d less one two = one.excess (two.first c one.begun less)

not-flyable : (places : List Place) (c : ℕ) → IsFirstExcess places c → AreFlyable places → ⊥
not-flyable places c one flyable = one.excess (flyable c one.begun one.in_run)

-- Of the faults of tracks with one number there is one at most.
fast-same : (rows : List (List Place)) (x c y d : ℕ) → IsFast rows (Rate x c) → IsFast rows (Rate y d) → Rate x c ≡ Rate y d
fast-same rows x c y d one two = elim (cases_order x y) [
  | inr (inl h) ↦ absurd (not-flyable (slice_index_or rows x []) c one.1 (two.2 x h))
  | inr (inr h) ↦ absurd (not-flyable (slice_index_or rows y []) d two.1 (one.2 y h))
  | inl same ↦
      let here : IsFirstExcess (slice_index_or rows y []) c = subst (λ k. IsFirstExcess (slice_index_or rows k []) c) same one.1 in
      elim (cases_order c d) [
        | inr (inl h) ↦ absurd (excess-before (slice_index_or rows y []) c d h here two.1)
        | inr (inr h) ↦ absurd (excess-before (slice_index_or rows y []) d c h two.1 here)
        | inl alike ↦ ap (λ k. Rate k c) same ∙ ap (Rate y) alike
      ]
]

track-same : (cycles : ℕ) (tracks : List (List Point)) (a b : TrackFault) → track_number a ≡ track_number b → IsFaultOf cycles tracks a → IsFaultOf cycles tracks b → a ≡ b
track-same cycles tracks (Cover x) (Cover y) same one two = elim (cases_order x y) [
  | inl e ↦ ap Cover e
  | inr (inl h) ↦ absurd (both_ways _ one.1 (two.2 x h))
  | inr (inr h) ↦ absurd (both_ways _ two.1 (one.2 y h))
]
track-same cycles tracks (Cover x) (Rate y d) same one two = absurd (omega (arith, same))
track-same cycles tracks (Rate x c) (Cover y) same one two = absurd (omega (arith, same))
track-same cycles tracks (Rate x c) (Rate y d) same one two = fast-same (rounded_rows cycles tracks) x c y d one.1 two.1

same-address : (x y : ℕ) → Some x ≡ Some y → x ≡ y
same-address x y is = cc is

number-same : (earlier : List TrackRecord) (next : Option (List (List ℕ))) (a b : Fault) → fault_number a ≡ fault_number b → HasFault earlier next a → HasFault earlier next b → a ≡ b
number-same earlier next (Text a) (Text b) same one two = ap Text (same-code a b same)
number-same earlier next (Text a) (Track b y) same one two = absurd (omega (arith, same, track-late b, (number-within a).1))
number-same earlier next (Track a x) (Text b) same one two = absurd (omega (arith, same, track-late a, (number-within b).1))
number-same earlier next (Track a x) (Track b y) same one two =
    let alike = track-same _ _ a b same one.1 two.1 in
    ap (λ fault. Track fault x) alike ∙ ap (Track b) (same-address x y (sym one.2 ∙ ap (λ fault. address_at (crafts_of (shared_of earlier)) (craft_at fault)) alike ∙ two.2))

lowest-same : (earlier : List TrackRecord) (next : Option (List (List ℕ))) (a b : Fault) → IsLowestFault earlier next a → IsLowestFault earlier next b → a ≡ b
lowest-same earlier next a b one two = elim (cases_order (fault_number a) (fault_number b)) [
  | inl same ↦ number-same earlier next a b same one.faulty two.faulty
  | inr (inl h) ↦ absurd (two.lowest a h one.faulty)
  | inr (inr h) ↦ absurd (one.lowest b h two.faulty)
]

refusal-is : (a b : Refusal) → a.at ≡ b.at → a.fault ≡ b.fault → a ≡ b
refusal-is a b at fault = ap (λ n. record { at = n; fault = a.fault }) at ∙ ap (λ f. record { at = b.at; fault = f }) fault

pub refused-once : (rows : List (List (List ℕ))) (a b : Refusal) → IsRefused rows a → IsRefused rows b → a ≡ b
refused-once rows a b one two =
    let place = place-same [] rows (length one.earlier) (length two.earlier) one.earlier two.earlier a.fault b.fault one.passed two.passed one.fault.faulty two.fault.faulty in
    let there : IsLowestFault one.earlier (slice_get rows (length one.earlier)) b.fault =
    subst (λ o. IsLowestFault one.earlier o b.fault) (sym place.1) (subst (λ l. IsLowestFault l (slice_get rows (length two.earlier)) b.fault) (sym place.0) two.fault) in
    refusal-is a b (one.at ∙ ap (λ l. length l + 1) place.0 ∙ sym two.at) (lowest-same one.earlier (slice_get rows (length one.earlier)) a.fault b.fault one.fault there)
