-- The aircraft of the records.
use Rattle.std.proofs.Common.{◌≡◌, ℕ, ◌≤◌, suc, Bool, true, false, List, [], ◌∷◌, ◌++◌, length, get_or, map, Some, None, refl, sym, ◌∙◌, arith, cond, length-append}
use Rattle.std.specs.Prelude.{ℤ, All, AllPairs, ◌==◌, if◌then◌else◌, is_some, nat_le, nat_lt}
use Rattle.std.specs.List.{position, position_or_len}
use Rattle.std.proofs.lemmas.Bool.{eqb-false, leb-false, ltb-false}
use Rattle.std.proofs.lemmas.Bool.Decides.{nat_tests}
use Rattle.std.proofs.lemmas.List.{length-map}
use Rattle.std.proofs.lemmas.List.Elements.{All-map, All-nil, All-push}
use Rattle.std.proofs.lemmas.List.Kept.{AllPairs-cons}
use Rattle.std.proofs.lemmas.List.Quantifiers.{all_pairs_push}
use Rattle.std.proofs.lemmas.List.Sums.{fails_before_first}
use Rattle.acas_base.specs.Encounter.{AreApart, IsAltitude, IsCraft, most_crafts}
use Rattle.acas_base.specs.declared.TheConstants.{CRAFTS}
use Rattle.acas_base.specs.declared.craft.CraftSpec.{CraftSpec}
use Rattle.enc_file.specs.Earlier.{crafts_of, index_of, version_of, with_ceiling}
use Rattle.enc_file.specs.WellRead.{AreRead, IsNext}
use Rattle.enc_file.specs.declared.record.Record.{Record}
use Rattle.enc_file.specs.declared.record.Record.TheVariants as said
use Rattle.enc_file.proofs.Faultless.{by-read, faultless}

pub record AreCraftsRead (version : ℕ) (crafts : List CraftSpec) : Type 0 where
  pub few : length crafts ≤ most_crafts version
  pub ranges : All IsCraft crafts
  pub apart : AllPairs AreApart crafts

cond-none : (b : Bool) (n : ℕ) → is_some (cond b (Some n) None) ≡ false → b ≡ false
cond-none true n e = e
cond-none false n e = refl

-- Where no place is found, no element passes.
pub position-none : {X : Type 0} (test : X → Bool) (xs : List X) → is_some (position test xs) ≡ false → All (λ x. test x ≡ false) xs
position-none test xs none k d h =
    let past = ltb-false (position_or_len test xs) (length xs) (cond-none (nat_lt (position_or_len test xs) (length xs)) (position_or_len test xs) none) in
    fails_before_first test xs k d (omega (arith, past, h))

-- No format has more than have room.
pub most-few : (version : ℕ) → most_crafts version ≤ CRAFTS
most-few version = grind (arith, nat_tests)

-- The addresses stay different with one that is new.
pub apart-push : (crafts : List CraftSpec) (craft : CraftSpec) → AllPairs AreApart crafts → is_some (index_of crafts craft.address) ≡ false → AllPairs AreApart (crafts ++ craft ∷ [])
apart-push crafts craft before new =
    all_pairs_push AreApart crafts craft before
    (λ k d h. eqb-false (get_or crafts k d).address craft.address (position-none (λ (other : CraftSpec). other.address == craft.address) crafts new k d h))

craft-add : (version : ℕ) (crafts : List CraftSpec) (craft : CraftSpec) → AreCraftsRead version crafts → IsCraft craft → is_some (index_of crafts craft.address) ≡ false
    → nat_le (most_crafts version) (length crafts) ≡ false → AreCraftsRead version (crafts ++ craft ∷ [])
craft-add version crafts craft before fits new counted =
    let room = leb-false (most_crafts version) (length crafts) counted in
    record {
      few = omega (arith, room, length-append crafts (craft ∷ []));
      ranges = All-push IsCraft crafts craft before.ranges fits;
      apart = apart-push crafts craft before.apart new;
    }

ceiling-fits : (b : Bool) (limit : ℤ) (craft : CraftSpec) → IsCraft craft → IsAltitude limit → IsCraft (if b then record craft { ceiling = Some limit } else craft)
ceiling-fits true limit craft fits high = record { address = fits.address; x = fits.x; y = fits.y; alt = fits.alt; ceiling = high }
ceiling-fits false limit craft fits high = fits

ceiling-same : (b : Bool) (limit : ℤ) (craft : CraftSpec) → (if b then record craft { ceiling = Some limit } else craft).address ≡ craft.address
ceiling-same true limit craft = refl
ceiling-same false limit craft = refl

-- What holds of each two that are mapped.
pairs-map : {X Y : Type 0} (R : Y → Y → Type 0) (f : X → Y) (xs : List X) → AllPairs (λ a b. R (f a) (f b)) xs → AllPairs R (map f xs)
pairs-map R f [] pairs = λ i j d order end. absurd (omega (arith, end))
pairs-map R f (x ∷ xs) pairs =
    AllPairs-cons R (f x) (map f xs) (All-map (R (f x)) f xs (λ k d h. pairs 0 (suc k) d (omega arith) (omega arith)))
    (pairs-map R f xs (λ i j d order within. pairs (suc i) (suc j) d (omega arith) (omega arith)))

-- And with a ceiling.
pub apart-climb : (crafts : List CraftSpec) (address : ℕ) (limit : ℤ) → AllPairs AreApart crafts → AllPairs AreApart (map (with_ceiling address limit) crafts)
apart-climb crafts address limit before =
    pairs-map AreApart (with_ceiling address limit) crafts
    (λ i j d order within same. before i j d order within
    (sym (ceiling-same ((get_or crafts i d).address == address) limit (get_or crafts i d)) ∙ same ∙ ceiling-same ((get_or crafts j d).address == address) limit (get_or crafts j d)))

craft-climb : (version : ℕ) (crafts : List CraftSpec) (address : ℕ) (limit : ℤ) → AreCraftsRead version crafts → IsAltitude limit → AreCraftsRead version (map (with_ceiling address limit) crafts)
craft-climb version crafts address limit before high = record {
  few = omega (arith, before.few, length-map crafts (with_ceiling address limit));
  ranges =
      All-map IsCraft (with_ceiling address limit) crafts
      (λ k d h. ceiling-fits ((get_or crafts k d).address == address) limit (get_or crafts k d) (before.ranges k d h) high);
  apart = apart-climb crafts address limit before.apart;
}

crafts-next : (earlier : List Record) (now : Record) → AreCraftsRead (version_of earlier) (crafts_of earlier) → IsNext earlier now → AreCraftsRead (version_of (now ∷ earlier)) (crafts_of (now ∷ earlier))
crafts-next earlier (said.Header version) before next = absurd next.format
crafts-next earlier (said.Craft craft) before next =
    let sound = faultless earlier (said.Craft craft) next in
    craft-add (version_of earlier) (crafts_of earlier) craft before next.ranges.ranges sound.new sound.counted
crafts-next earlier (said.Climb address limit) before next = craft-climb (version_of earlier) (crafts_of earlier) address limit before next.ranges
crafts-next earlier other before next = before

no-crafts : (version : ℕ) → AreCraftsRead version []
no-crafts version = record { few = omega arith; ranges = All-nil IsCraft; apart = λ i j d order end. absurd (omega (arith, end)) }

-- The aircraft that were read: not too many, in their ranges, and of different addresses.
pub crafts-read : (earlier : List Record) → AreRead earlier → AreCraftsRead (version_of earlier) (crafts_of earlier)
crafts-read = by-read (λ earlier. AreCraftsRead (version_of earlier) (crafts_of earlier)) (no-crafts 0) no-crafts crafts-next

pub crafts-few : (earlier : List Record) → AreRead earlier → length (crafts_of earlier) ≤ CRAFTS
crafts-few earlier read = omega (arith, (crafts-read earlier read).few, most-few (version_of earlier))
