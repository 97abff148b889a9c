-- The canonical text of an encounter ends with its first line `end`.
use Rattle.std.proofs.Common.{◌≡◌, ◌≢◌, ℕ, Bool, true, false, List, [], ◌∷◌, ◌++◌, drop, get_or, map, Option, Some, None, ℤ, refl, sym, ap, ap₂, ◌∙◌, arith}
use Rattle.std.specs.Prelude.{if◌then◌else◌, nat_le}
use Rattle.std.specs.List.{AllByRecursion, flat_map}
use Rattle.std.proofs.lemmas.List.{append_assoc, map-append}
use Rattle.acas_base.specs.Encounter.{Parts}
use Rattle.acas_base.specs.declared.craft.CraftSpec.{CraftSpec}
use Rattle.acas_base.specs.declared.setting.Profile.{Profile}
use Rattle.enc_file.specs.Canonical.{canonical_lines, canonical_records}
use Rattle.enc_file.specs.Spelling.{call_record, climb_of, climb_records, clock_records, craft_record, end_record, fate_record, gains_record, header_record, leg_record, line_of, miss_record, name_records, plan_record, profile_record, profile_records, run_record}
use Rattle.rec_text.proofs.Whole.{each-append, each-map}

abbrev pub end_line : List ℕ
end_line = line_of end_record

abbrev pub IsOther : List ℕ → Type 0
IsOther line = line ≢ end_line

-- A front of lines other than `end`, and then that.
pub record EndsOnce (lines : List (List ℕ)) : Type 0 where
  pub front : List (List ℕ)
  pub others : AllByRecursion IsOther front
  pub is : lines ≡ front ++ end_line ∷ []

-- ---- records

abbrev IsOtherRecord : List (List ℕ) → Type 0
IsOtherRecord fields = IsOther (line_of fields)

climb-other : (n : ℕ) (limit : Option ℤ) → AllByRecursion IsOtherRecord (climb_of n limit)
climb-other n None = tt
climb-other n (Some limit) = (λ same. absurd (omega (arith, ap (λ t. get_or t 0 0) same)), tt)

climbs-other : (crafts : List CraftSpec) → AllByRecursion IsOtherRecord (flat_map climb_records crafts)
climbs-other [] = tt
climbs-other (craft ∷ crafts) = each-append IsOtherRecord (climb_records craft) (flat_map climb_records crafts) (climb-other craft.address craft.ceiling) (climbs-other crafts)

-- A record for each element of a list.
each-other : {X : Type 0} (f : X → List (List ℕ)) (xs : List X) → ((x : X) → IsOtherRecord (f x)) → AllByRecursion IsOtherRecord (map f xs)
each-other f [] h = tt
each-other f (x ∷ xs) h = (h x, each-other f xs h)

profile-other : (b : Bool) (profile : Profile) → AllByRecursion IsOtherRecord (if b then profile_record profile ∷ [] else [])
profile-other true profile = (λ same. absurd (omega (arith, ap (λ t. get_or t 0 0) same)), tt)
profile-other false profile = tt

name-other : (name : Option (List ℕ)) → AllByRecursion IsOtherRecord (name_records name)
name-other None = tt
name-other (Some text) = (λ same. absurd (omega (arith, ap (λ t. get_or t 0 0) same)), tt)

clock-other : (clock : Option ℕ) → AllByRecursion IsOtherRecord (clock_records clock)
clock-other None = tt
clock-other (Some second) = (λ same. absurd (omega (arith, ap (λ t. get_or t 0 0) same)), tt)

-- The records before those of the aircraft, and the ones between these and the end.
abbrev heading_records : Parts → List (List (List ℕ))
heading_records e = profile_records e.version e.profile ++ (name_records e.name ++ (clock_records e.clock ++ run_record e.cycles e.elevation ∷ gains_record e.range e.altitude ∷ []))

abbrev first_records : Parts → List (List (List ℕ))
first_records e = header_record e.version ∷ heading_records e

abbrev later_records : Parts → List (List (List ℕ))
later_records e =
    map craft_record e.crafts ++ (map (call_record e.crafts) e.calls ++ (flat_map climb_records e.crafts
    ++ (map (leg_record e.crafts) e.legs ++ (map (miss_record e.crafts) e.misses ++ (map (plan_record e.crafts) e.plans ++ map (fate_record e.crafts) e.fates)))))

later-other : (e : Parts) → AllByRecursion IsOtherRecord (later_records e)
later-other e =
    let crafts = each-other craft_record e.crafts (λ x same. absurd (omega (arith, ap (λ t. get_or t 0 0) same))) in
    let calls = each-other (call_record e.crafts) e.calls (λ x same. absurd (omega (arith, ap (λ t. get_or t 0 0) same))) in
    let legs = each-other (leg_record e.crafts) e.legs (λ x same. absurd (omega (arith, ap (λ t. get_or t 0 0) same))) in
    let misses = each-other (miss_record e.crafts) e.misses (λ x same. absurd (omega (arith, ap (λ t. get_or t 0 0) same))) in
    let plans = each-other (plan_record e.crafts) e.plans (λ x same. absurd (omega (arith, ap (λ t. get_or t 0 0) same))) in
    let fates = each-other (fate_record e.crafts) e.fates (λ x same. absurd (omega (arith, ap (λ t. get_or t 0 0) same))) in
    each-append IsOtherRecord _ _ crafts (each-append IsOtherRecord _ _ calls (each-append IsOtherRecord _ _ (climbs-other e.crafts)
    (each-append IsOtherRecord _ _ legs (each-append IsOtherRecord _ _ misses (each-append IsOtherRecord _ _ plans fates)))))

heading-other : (e : Parts) → AllByRecursion IsOtherRecord (heading_records e)
heading-other e =
    each-append IsOtherRecord _ _ (profile-other (nat_le 3 e.version) e.profile) (each-append IsOtherRecord _ _ (name-other e.name) (each-append IsOtherRecord _ _ (clock-other e.clock)
    (λ same. absurd (omega (arith, ap (λ t. get_or t 0 0) same)), (λ same. absurd (omega (arith, ap (λ t. get_or t 0 0) same)), tt))))

first-other : (e : Parts) → AllByRecursion IsOtherRecord (first_records e)
first-other e = (λ same. absurd (omega (arith, ap (λ t. get_or t 2 0) same)), heading-other e)

regroup : (p n k g a s b c d q f z : List (List (List ℕ))) → p ++ n ++ k ++ g ++ a ++ s ++ b ++ c ++ d ++ q ++ f ++ z ≡ ((p ++ (n ++ (k ++ g))) ++ (a ++ (s ++ (b ++ (c ++ (d ++ (q ++ f))))))) ++ z
regroup p n k g a s b c d q f z = simp append_assoc

pub canonical-ends : (e : Parts) → EndsOnce (canonical_lines e)
canonical-ends e =
    let same : canonical_records e ≡ (first_records e ++ later_records e) ++ end_record ∷ [] =
    ap (λ rest. header_record e.version ∷ rest) (regroup (profile_records e.version e.profile) (name_records e.name) (clock_records e.clock) (run_record e.cycles e.elevation ∷ gains_record e.range e.altitude ∷ [])
    (map craft_record e.crafts) (map (call_record e.crafts) e.calls) (flat_map climb_records e.crafts) (map (leg_record e.crafts) e.legs) (map (miss_record e.crafts) e.misses) (map (plan_record e.crafts) e.plans) (map (fate_record e.crafts) e.fates) (end_record ∷ [])) in
    record {
      front = map line_of (first_records e ++ later_records e);
      others = each-map IsOther line_of IsOtherRecord (λ fields h. h) (first_records e ++ later_records e) (each-append IsOtherRecord (first_records e) (later_records e) (first-other e) (later-other e));
      is = ap (map line_of) same ∙ map-append line_of (first_records e ++ later_records e) (end_record ∷ []);
    }

-- ---- where the first line `end` stands

pub first-end : (xs ys r s : List (List ℕ)) → AllByRecursion IsOther xs → AllByRecursion IsOther ys → xs ++ end_line ∷ r ≡ ys ++ end_line ∷ s → (xs ≡ ys) × (r ≡ s)
first-end [] [] r s h k e = (refl, ap (drop 1) e)
first-end [] (y ∷ ys) r s h k e = absurd (k.0 (sym (ap (λ t. get_or t 0 []) e)))
first-end (x ∷ xs) [] r s h k e = absurd (h.0 (ap (λ t. get_or t 0 []) e))
first-end (x ∷ xs) (y ∷ ys) r s h k e =
    let rest = first-end xs ys r s h.1 k.1 (ap (drop 1) e) in
    (ap₂ (λ (z : List ℕ) (zs : List (List ℕ)). z ∷ zs) (ap (λ t. get_or t 0 []) e) rest.0, rest.1)
