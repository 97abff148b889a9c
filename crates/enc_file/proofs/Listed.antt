-- The legs, misses, plans and fates of the records.
use Rattle.std.proofs.Common.{◌≡◌, ℕ, ◌≤◌, Bool, true, false, not, ◌||◌, ◌&&◌, List, [], ◌∷◌, ◌++◌, length, get_or, map, Option, Some, None, refl, sym, ◌∙◌, ap, subst, arith, length-append, eq-eqb}
use Rattle.std.specs.Prelude.{All, AllPairs, ◌==◌, count_ones, option_map}
use Rattle.std.specs.List.{list_any}
use Rattle.std.specs.Option.{option_to_list}
use Rattle.std.proofs.lemmas.Bool.{false≢true, ltb-false, or_parts}
use Rattle.std.proofs.lemmas.List.{append-nil, length-map}
use Rattle.std.proofs.lemmas.List.Elements.{All-cons, All-nil, All-push, All-weaker}
use Rattle.std.proofs.lemmas.List.Quantifiers.{all_pairs_push}
use Rattle.acas_base.specs.Encounter.{AreCopies, IsCopy, IsFate, IsLeg, IsMiss, IsPair, IsPlan}
use Rattle.acas_base.specs.Order.{fate_below, leg_below, miss_below, plan_below}
use Rattle.acas_base.specs.declared.craft.CraftSpec.{CraftSpec}
use Rattle.acas_base.specs.declared.craft.Leg.{Leg}
use Rattle.acas_base.specs.declared.craft.Miss.{Miss}
use Rattle.acas_base.specs.declared.link.CopyPlan.{CopyPlan}
use Rattle.acas_base.specs.declared.link.Fate.{Fate}
use Rattle.acas_base.specs.declared.link.LinkPlan.{LinkPlan}
use Rattle.enc_file.specs.Earlier.{crafts_of, fate_by, fate_group, fates_of, for_pair, index_of, leg_by, leg_group, legs_of, miss_by, miss_group, misses_of, plan_by, plan_group, plans_of, with_ceiling}
use Rattle.enc_file.specs.Faults.{are_masks_bad, comes_late, holds, is_mask_bad}
use Rattle.enc_file.specs.WellRead.{AreCopiesSaid, AreRead, IsCopySaid, IsCourse, IsNext}
use Rattle.enc_file.specs.declared.record.Addresses.{Addresses}
use Rattle.enc_file.specs.declared.record.Copies.{Copies}
use Rattle.enc_file.specs.declared.record.Course.{Course}
use Rattle.enc_file.specs.declared.record.Record.{Record}
use Rattle.enc_file.specs.declared.record.Record.TheVariants as said
use Rattle.enc_file.proofs.Faultless.{by-read, faultless}
use Rattle.enc_file.proofs.Named.{for-pair-by, index-within, pair-known, pair-of}

-- Each fits, and each two of one group stand in order.
abbrev pub AreInOrder : {X : Type 0} → (X → Type 0) → (X → ℕ) → (X → X → Bool) → List X → Type 0
AreInOrder Fits group below xs = All Fits xs × AllPairs (λ a b. group a ≡ group b → below a b ≡ true) xs

pub record AreListsRead (count : ℕ) (xs : List Leg) (ys : List Miss) (zs : List LinkPlan) (ws : List Fate) : Type 0 where
  pub legs : AreInOrder (IsLeg count) leg_group leg_below xs
  pub misses : AreInOrder (IsMiss count) miss_group miss_below ys
  pub plans : AreInOrder (IsPlan count) plan_group plan_below zs
  pub fates : AreInOrder (IsFate count) fate_group fate_below ws

-- No element passes.
pub any-false : {X : Type 0} (test : X → Bool) (xs : List X) → list_any test xs ≡ false → All (λ x. test x ≡ false) xs
any-false test [] none = All-nil (λ x. test x ≡ false)
any-false test (x ∷ xs) none =
    let both = or_parts (test x) (list_any test xs) none in
    All-cons (λ y. test y ≡ false) x xs both.0 (any-false test xs both.1)

in-time : (same below : Bool) → (same && not below) ≡ false → same ≡ true → below ≡ true
in-time true true h e = refl
in-time true false h e = absurd (false≢true (sym h))
in-time false below h e = absurd (false≢true e)

-- What an index gives is added, where it doesn't come too late.
pub list-add : {I X : Type 0} (Fits : X → Type 0) (group : X → ℕ) (below : X → X → Bool) (f : I → X) (o : Option I) (xs : List X)
    → AreInOrder Fits group below xs → ((i : I) → o ≡ Some i → Fits (f i))
    → holds (option_map (λ i. comes_late group below xs (f i)) o) ≡ false → AreInOrder Fits group below (xs ++ option_to_list (option_map f o))
list-add Fits group below f None xs before fits new = subst (AreInOrder Fits group below) (sym (append-nil xs)) before
list-add {I} {X} Fits group below f (Some i) xs before fits new =
    let x : X = f i in
    let none = any-false (λ last. group last == group x && not (below last x)) xs new in (
      All-push Fits xs x before.0 (fits i refl),
      all_pairs_push (λ a b. group a ≡ group b → below a b ≡ true) xs x before.1
          (λ k d h same. in-time (group (get_or xs k d) == group x) (below (get_or xs k d) x) (none k d h) (eq-eqb (group (get_or xs k d)) (group x) same)),
    )

-- The same of what a pair gives.
pair-add : {X : Type 0} (crafts : List CraftSpec) (pair : Addresses) (Fits : X → Type 0) (group : X → ℕ) (below : X → X → Bool) (f : ℕ → ℕ → X) (xs : List X)
    → AreInOrder Fits group below xs → ((i j : ℕ) → IsPair (length crafts) i j → Fits (f i j))
    → holds (for_pair crafts pair (λ i j. comes_late group below xs (f i j))) ≡ false → AreInOrder Fits group below (xs ++ option_to_list (for_pair crafts pair f))
pair-add crafts pair Fits group below f xs before fits new =
    let P : Option _ → Type 0 = λ o. AreInOrder Fits group below (xs ++ option_to_list o) in
    subst P (sym (for-pair-by crafts pair f))
    (list-add Fits group below (λ (p : ℕ × ℕ). f p.0 p.1) (pair-of crafts pair) xs before
    (λ p is. fits p.0 p.1 (pair-known crafts pair p is))
    (sym (ap holds (for-pair-by crafts pair (λ i j. comes_late group below xs (f i j)))) ∙ new))

leg-fits : (crafts : List CraftSpec) (address : ℕ) (course : Course) → IsCourse course → (i : ℕ) → index_of crafts address ≡ Some i → IsLeg (length crafts) (leg_by course i)
leg-fits crafts address course ranges i is =
    record { craft = index-within crafts address i is; from = ranges.from; rates = record { vx = ranges.vx; vy = ranges.vy; vz = ranges.vz } }

copy-fits : (place count : ℕ) (copy : CopyPlan) → IsCopySaid place count copy → is_mask_bad copy ≡ false → IsCopy place count copy
copy-fits place count copy ranges mask = record { hold = ranges.hold; byte = ranges.byte; mask = ltb-false 3 (count_ones copy.mask) mask; unused = ranges.unused }

copies-fit : (copies : Copies) → AreCopiesSaid copies → are_masks_bad copies.first copies.second copies.third ≡ false → AreCopies copies.count copies.first copies.second copies.third
copies-fit copies ranges masks =
    let first = or_parts (is_mask_bad copies.first) (is_mask_bad copies.second || is_mask_bad copies.third) masks in
    let later = or_parts (is_mask_bad copies.second) (is_mask_bad copies.third) first.1 in
    record {
      few = ranges.few;
      first = copy-fits 0 copies.count copies.first ranges.first first.0;
      second = copy-fits 1 copies.count copies.second ranges.second later.0;
      third = copy-fits 2 copies.count copies.third ranges.third later.1;
    }

pair-more : (n m a b : ℕ) → n ≤ m → IsPair n a b → IsPair m a b
pair-more n m a b more two = record { first = omega (arith, two.first, more); second = omega (arith, two.second, more); apart = two.apart }

-- They fit more aircraft too.
lists-more : (n m : ℕ) (xs : List Leg) (ys : List Miss) (zs : List LinkPlan) (ws : List Fate) → n ≤ m → AreListsRead n xs ys zs ws → AreListsRead m xs ys zs ws
lists-more n m xs ys zs ws more before = record {
  legs = (All-weaker (IsLeg n) (IsLeg m) (λ x is. record { craft = omega (arith, is.craft, more); from = is.from; rates = is.rates }) xs before.legs.0, before.legs.1);
  misses =
      (All-weaker (IsMiss n) (IsMiss m) (λ x is. record { pair = pair-more n m x.own x.target more is.pair; from = is.from; to = is.to; order = is.order }) ys before.misses.0, before.misses.1);
  plans = (All-weaker (IsPlan n) (IsPlan m) (λ x is. record { pair = pair-more n m x.sender x.receiver more is.pair; copies = is.copies }) zs before.plans.0, before.plans.1);
  fates =
      (All-weaker (IsFate n) (IsFate m) (λ x is. record { pair = pair-more n m x.sender x.receiver more is.pair; number = is.number; copies = is.copies }) ws before.fates.0, before.fates.1);
}

abbrev pub AreListsOf : List Record → Type 0
AreListsOf earlier = AreListsRead (length (crafts_of earlier)) (legs_of earlier) (misses_of earlier) (plans_of earlier) (fates_of earlier)

lists-next : (earlier : List Record) (now : Record) → AreListsOf earlier → IsNext earlier now → AreListsOf (now ∷ earlier)
lists-next earlier (said.Craft craft) before next =
    lists-more (length (crafts_of earlier)) (length (crafts_of earlier ++ craft ∷ [])) (legs_of earlier) (misses_of earlier) (plans_of earlier) (fates_of earlier)
    (omega (arith, length-append (crafts_of earlier) (craft ∷ []))) before
lists-next earlier (said.Climb address limit) before next =
    lists-more (length (crafts_of earlier)) (length (map (with_ceiling address limit) (crafts_of earlier))) (legs_of earlier) (misses_of earlier) (plans_of earlier) (fates_of earlier)
    (omega (arith, length-map (crafts_of earlier) (with_ceiling address limit))) before
lists-next earlier (said.Leg address course) before next = record {
  legs =
      list-add (IsLeg (length (crafts_of earlier))) leg_group leg_below (leg_by course) (index_of (crafts_of earlier) address) (legs_of earlier) before.legs
      (leg-fits (crafts_of earlier) address course next.ranges) (faultless earlier (said.Leg address course) next).new;
  misses = before.misses;
  plans = before.plans;
  fates = before.fates;
}
lists-next earlier (said.Miss pair from to) before next = record {
  legs = before.legs;
  misses =
      pair-add (crafts_of earlier) pair (IsMiss (length (crafts_of earlier))) miss_group miss_below (miss_by from to) (misses_of earlier) before.misses
      (λ i j two. record { pair = two; from = next.ranges.from; to = next.ranges.to; order = next.ranges.order }) (faultless earlier (said.Miss pair from to) next).new;
  plans = before.plans;
  fates = before.fates;
}
lists-next earlier (said.Plan pair copies) before next =
    let sound = faultless earlier (said.Plan pair copies) next in
    record {
      legs = before.legs;
      misses = before.misses;
      plans =
          pair-add (crafts_of earlier) pair (IsPlan (length (crafts_of earlier))) plan_group plan_below (plan_by copies) (plans_of earlier) before.plans
          (λ i j two. record { pair = two; copies = copies-fit copies next.ranges sound.masks }) sound.new;
      fates = before.fates;
    }
lists-next earlier (said.Fate pair number copies) before next =
    let sound = faultless earlier (said.Fate pair number copies) next in
    record {
      legs = before.legs;
      misses = before.misses;
      plans = before.plans;
      fates =
          pair-add (crafts_of earlier) pair (IsFate (length (crafts_of earlier))) fate_group fate_below (fate_by number copies) (fates_of earlier) before.fates
          (λ i j two. record { pair = two; number = next.ranges.0; copies = copies-fit copies next.ranges.1 sound.masks }) sound.new;
    }
lists-next earlier other before next = before

none-in-order : {X : Type 0} (Fits : X → Type 0) (group : X → ℕ) (below : X → X → Bool) → AreInOrder Fits group below []
none-in-order Fits group below = (All-nil Fits, λ i j d order end. absurd (omega (arith, end)))

no-lists : AreListsRead 0 [] [] [] []
no-lists = record {
  legs = none-in-order (IsLeg 0) leg_group leg_below;
  misses = none-in-order (IsMiss 0) miss_group miss_below;
  plans = none-in-order (IsPlan 0) plan_group plan_below;
  fates = none-in-order (IsFate 0) fate_group fate_below;
}

-- The lists that were read: each of so many aircraft and in its ranges, and each group in its order.
pub lists-read : (earlier : List Record) → AreRead earlier → AreListsOf earlier
lists-read = by-read AreListsOf no-lists (λ version. no-lists) lists-next
