-- Aircraft that are named by their addresses.
use Rattle.std.proofs.Common.{◌≡◌, ℕ, ◌<◌, Bool, true, false, List, [], ◌∷◌, length, get_or, Option, Some, None, refl, sym, ◌∙◌, ap, arith}
use Rattle.std.specs.Prelude.{◌==◌, if◌then◌else◌, nat_lt, option_map}
use Rattle.std.specs.List.{position_or_len}
use Rattle.std.specs.Option.{option_and_then}
use Rattle.std.proofs.lemmas.Bool.{eqb-false, eqb-true, ltb-true}
use Rattle.std.proofs.lemmas.List.Quantifiers.{position-Some}
use Rattle.std.proofs.lemmas.Option.{cond_some, none-some, same_Some}
use Rattle.acas_base.specs.Encounter.{IsPair}
use Rattle.acas_base.specs.declared.craft.CraftSpec.{CraftSpec}
use Rattle.enc_file.specs.Earlier.{for_pair, index_of}
use Rattle.enc_file.specs.declared.record.Addresses.{Addresses}

-- The indices of two aircraft.
abbrev pub pair-of : List CraftSpec → Addresses → Option (ℕ × ℕ)
pair-of crafts pair = for_pair crafts pair (λ first second. (first, second))

pair-by : {X : Type 0} (f : ℕ → ℕ → X) (same : Bool) (one two : Option ℕ)
    → (if same then None else option_and_then (λ first. option_map (λ second. f first second) two) one)
    ≡ option_map (λ (p : ℕ × ℕ). f p.0 p.1) (if same then None else option_and_then (λ first. option_map (λ second. (first, second)) two) one)
pair-by f true one two = refl
pair-by f false None two = refl
pair-by f false (Some first) None = refl
pair-by f false (Some first) (Some second) = refl

-- What two aircraft give is made of their indices.
pub for-pair-by : {X : Type 0} (crafts : List CraftSpec) (pair : Addresses) (f : ℕ → ℕ → X) → for_pair crafts pair f ≡ option_map (λ (p : ℕ × ℕ). f p.0 p.1) (pair-of crafts pair)
for-pair-by crafts pair f = pair-by f (pair.first == pair.second) (index_of crafts pair.first) (index_of crafts pair.second)

pair-parts : (same : Bool) (one two : Option ℕ) (p : ℕ × ℕ) → (if same then None else option_and_then (λ first. option_map (λ second. (first, second)) two) one) ≡ Some p
    → (same ≡ false) × (one ≡ Some p.0) × (two ≡ Some p.1)
pair-parts true one two p is = absurd (none-some p is)
pair-parts false None two p is = absurd (none-some p is)
pair-parts false (Some first) None p is = absurd (none-some p is)
pair-parts false (Some first) (Some second) p is =
    let e = same_Some (first, second) p is in
    (refl, ap (λ (q : ℕ × ℕ). Some q.0) e, ap (λ (q : ℕ × ℕ). Some q.1) e)

-- The index is one of an aircraft.
pub index-within : (crafts : List CraftSpec) (address i : ℕ) → index_of crafts address ≡ Some i → i < length crafts
index-within crafts address i is =
    let test : CraftSpec → Bool = λ craft. craft.address == address in
    let found = cond_some (nat_lt (position_or_len test crafts) (length crafts)) (position_or_len test crafts) i is in
    let low = ltb-true (position_or_len test crafts) (length crafts) found.0 in
    omega (arith, low, found.1)

pub index-address : (crafts : List CraftSpec) (address i : ℕ) (d : CraftSpec) → index_of crafts address ≡ Some i → (get_or crafts i d).address ≡ address
index-address crafts address i d is =
    eqb-true (get_or crafts i d).address address (position-Some (λ (craft : CraftSpec). craft.address == address) crafts i d is).1

-- They are two of the aircraft.
pub pair-known : (crafts : List CraftSpec) (pair : Addresses) (p : ℕ × ℕ) → pair-of crafts pair ≡ Some p → IsPair (length crafts) p.0 p.1
pair-known [] pair p is =
    let parts = pair-parts (pair.first == pair.second) (index_of [] pair.first) (index_of [] pair.second) p is in
    absurd (none-some p.0 parts.1)
pair-known (craft ∷ crafts) pair p is =
    let all = craft ∷ crafts in
    let parts = pair-parts (pair.first == pair.second) (index_of all pair.first) (index_of all pair.second) p is in
    record {
      first = index-within all pair.first p.0 parts.1;
      second = index-within all pair.second p.1 parts.2;
      apart = λ same. eqb-false pair.first pair.second parts.0
          (sym (index-address all pair.first p.0 craft parts.1) ∙ ap (λ i. (get_or all i craft).address) same ∙ index-address all pair.second p.1 craft parts.2);
    }

-- What is made of the indices, where both aircraft were given, and where they weren't.
pub for-pair-some : {X : Type 0} (crafts : List CraftSpec) (pair : Addresses) (f : ℕ → ℕ → X) (p : ℕ × ℕ) → pair-of crafts pair ≡ Some p → for_pair crafts pair f ≡ Some (f p.0 p.1)
for-pair-some crafts pair f p is = for-pair-by crafts pair f ∙ ap (option_map (λ (q : ℕ × ℕ). f q.0 q.1)) is

pub for-pair-none : {X : Type 0} (crafts : List CraftSpec) (pair : Addresses) (f : ℕ → ℕ → X) → pair-of crafts pair ≡ None → for_pair crafts pair f ≡ None
for-pair-none crafts pair f is = for-pair-by crafts pair f ∙ ap (option_map (λ (q : ℕ × ℕ). f q.0 q.1)) is
