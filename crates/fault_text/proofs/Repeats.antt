-- A record that repeats an earlier one is about the same as some earlier record of its kind.
use Rattle.std.proofs.Common.{◌≡◌, ◌∙◌, ℕ, Bool, true, false, ℤ, List, [], ◌∷◌, ◌++◌, map, Option, Some, None, inl, inr, refl, sym, ap}
use Rattle.std.specs.Prelude.{◌⊎◌, ◌==◌, ◌&&◌, ◌||◌, nat_le, is_some, if◌then◌else◌}
use Rattle.std.specs.List.{list_any}
use Rattle.std.proofs.Math.Bool.{and-true, or_comm, or-false, or-true}
use Rattle.std.proofs.lemmas.Bool.{false≢true, eqb-true}
use Rattle.std.proofs.lemmas.List.Folds.{list_any-append}
use Rattle.acas_base.specs.Labels.{is_call_sign}
use Rattle.acas_base.specs.declared.craft.CraftSpec.{CraftSpec}
use Rattle.enc_file.specs.Conditions.{has_climb, if_said, is_call_by, is_call_for, is_fate_since, is_given, is_leg_since, is_miss_until, is_plan_for, is_repeat}
use Rattle.enc_file.specs.Earlier as gives
use Rattle.enc_file.specs.Values.{address_in, count_in, field}
use Rattle.enc_file.specs.declared.record.Addresses.{Addresses}
use Rattle.enc_file.specs.declared.record.Record.{Record}
use Rattle.enc_file.specs.declared.record.Record.TheVariants as said
use Rattle.fault_text.specs.Before.{alike, is_about, reached_said}
use Rattle.fault_text.specs.Names.{stated_kind}
use Rattle.fault_text.specs.Rows.{AreSaid, SaysRow, records_in}
use Rattle.fault_text.specs.declared.earlier.Sought.{Sought}
use Rattle.fault_text.specs.declared.names.RecordKind.{RecordKind}
use Rattle.fault_text.specs.declared.names.RecordKind.TheVariants as kind

pub any-weaken : (f g : Record → Bool) → ((x : Record) → f x ≡ true → g x ≡ true) → (xs : List Record) → list_any f xs ≡ true → list_any g xs ≡ true
any-weaken f g more [] h = absurd (false≢true h)
any-weaken f g more (x ∷ xs) h = by (f x) refl (any-weaken f g more xs) h where
  by : (b : Bool) → f x ≡ b → (list_any f xs ≡ true → list_any g xs ≡ true) → (b || list_any f xs) ≡ true → (g x || list_any g xs) ≡ true
  by true e later h = ap (λ b. b || list_any g xs) (more x e)
  by false e later h = ap (λ b. g x || b) (later h) ∙ or-true (g x)

pub any-none : (f g : Record → Bool) → ((x : Record) → f x ≡ true → g x ≡ true) → (xs : List Record) → list_any g xs ≡ false → list_any f xs ≡ false
any-none f g more xs h = by (list_any f xs) refl where
  by : (b : Bool) → list_any f xs ≡ b → b ≡ false
  by true e = absurd (false≢true (sym h ∙ any-weaken f g more xs e))
  by false e = refl

any-same : (f g : Record → Bool) → ((x : Record) → f x ≡ g x) → (xs : List Record) → list_any f xs ≡ list_any g xs
any-same f g same [] = refl
any-same f g same (x ∷ xs) = ap (λ b. b || list_any f xs) (same x) ∙ ap (λ b. g x || b) (any-same f g same xs)

-- What is sought.
abbrev pub of-kind : RecordKind → Sought
of-kind k = record { kind = k; first = None; second = None }

abbrev pub of-craft : RecordKind → ℕ → Sought
of-craft k address = record { kind = k; first = Some address; second = None }

abbrev pub of-pair : RecordKind → ℕ → ℕ → Sought
of-pair k first second = record { kind = k; first = Some first; second = Some second }

-- The run and the gains.
pub run-any : (earlier : List Record) → is_some (gives.run_of earlier) ≡ list_any (is_about (of-kind kind.Run)) earlier
run-any [] = refl
run-any (said.Run run ∷ earlier) = refl
run-any (other ∷ earlier) = run-any earlier

gains-any : (earlier : List Record) → is_some (gives.gains_of earlier) ≡ list_any (is_about (of-kind kind.Gains)) earlier
gains-any [] = refl
gains-any (said.Gains gains ∷ earlier) = refl
gains-any (other ∷ earlier) = gains-any earlier

-- What the text says of itself.
pub profile-any : (earlier : List Record) → is_some (gives.heading_of earlier).profile ≡ list_any (is_about (of-kind kind.Profile)) earlier
profile-any [] = refl
profile-any (said.Profile profile ∷ earlier) = refl
profile-any (said.Name text ∷ earlier) = profile-any earlier
profile-any (said.Clock second ∷ earlier) = profile-any earlier
profile-any (other ∷ earlier) = profile-any earlier

name-any : (earlier : List Record) → is_some (gives.heading_of earlier).name ≡ list_any (is_about (of-kind kind.Name)) earlier
name-any [] = refl
name-any (said.Profile profile ∷ earlier) = name-any earlier
name-any (said.Name text ∷ earlier) = refl
name-any (said.Clock second ∷ earlier) = name-any earlier
name-any (other ∷ earlier) = name-any earlier

clock-any : (earlier : List Record) → is_some (gives.heading_of earlier).clock ≡ list_any (is_about (of-kind kind.Clock)) earlier
clock-any [] = refl
clock-any (said.Profile profile ∷ earlier) = clock-any earlier
clock-any (said.Name text ∷ earlier) = clock-any earlier
clock-any (said.Clock second ∷ earlier) = refl
clock-any (other ∷ earlier) = clock-any earlier

-- Call signs.
call-about : (a : ℕ) (now : Record) → is_call_for a now ≡ is_about (of-craft kind.Call a) now
call-about a (said.Call b sign) = sym (and-true (b == a))
call-about a other = refl

either-true : (a b : Bool) → (a || b) ≡ true → (a ≡ true) ⊎ (b ≡ true)
either-true true b h = inl refl
either-true false b h = inr h

call-first : (earlier : List Record) (one : Option ℕ) → if_said one (λ a. list_any (is_call_for a) earlier) ≡ true → list_any (is_about (record { kind = kind.Call; first = one; second = None })) earlier ≡ true
call-first earlier None h = absurd (false≢true h)
call-first earlier (Some a) h = sym (any-same (is_call_for a) (is_about (of-craft kind.Call a)) (call-about a) earlier) ∙ h

sign-said : (b : Bool) (bytes : List ℕ) (earlier : List Record) → if_said (if b then Some bytes else None) (λ sign. list_any (is_call_by sign) earlier) ≡ true → list_any (is_call_by bytes) earlier ≡ true
sign-said true bytes earlier h = h
sign-said false bytes earlier h = absurd (false≢true h)

-- Aircraft.
with-ceiling-address : (b : Bool) (limit : ℤ) (craft : CraftSpec) (a : ℕ) → ((if b then record craft { ceiling = Some limit } else craft).address == a) ≡ (craft.address == a)
with-ceiling-address true limit craft a = refl
with-ceiling-address false limit craft a = refl

any-climbed : (a n : ℕ) (limit : ℤ) (crafts : List CraftSpec) → list_any (λ (craft : CraftSpec). craft.address == a) (map (gives.with_ceiling n limit) crafts) ≡ list_any (λ (craft : CraftSpec). craft.address == a) crafts
any-climbed a n limit [] = refl
any-climbed a n limit (craft ∷ crafts) =
    ap (λ b. b || list_any (λ (other : CraftSpec). other.address == a) (map (gives.with_ceiling n limit) crafts)) (with-ceiling-address (craft.address == n) limit craft a)
    ∙ ap (λ b. (craft.address == a) || b) (any-climbed a n limit crafts)

last-any : (f : CraftSpec → Bool) (crafts : List CraftSpec) (craft : CraftSpec) → list_any f (crafts ++ craft ∷ []) ≡ (f craft || list_any f crafts)
last-any f crafts craft = list_any-append f crafts (craft ∷ []) ∙ or_comm (list_any f crafts) (f craft || false) ∙ ap (λ c. c || list_any f crafts) (or-false (f craft))

pub given-any : (a : ℕ) (earlier : List Record) → is_given earlier a ≡ list_any (is_about (of-craft kind.Craft a)) earlier
given-any a [] = refl
given-any a (said.Craft craft ∷ earlier) =
    last-any (λ (other : CraftSpec). other.address == a) (gives.crafts_of earlier) craft
    ∙ ap (λ b. b || is_given earlier a) (sym (and-true (craft.address == a))) ∙ ap (λ b. ((craft.address == a) && true) || b) (given-any a earlier)
given-any a (said.Climb n limit ∷ earlier) = any-climbed a n limit (gives.crafts_of earlier) ∙ given-any a earlier
given-any a (other ∷ earlier) = given-any a earlier

-- Ceilings.
abbrev pub AreBare : List Record → Type 0
AreBare [] = Unit {0}
AreBare (said.Craft craft ∷ earlier) = (craft.ceiling ≡ None) × AreBare earlier
AreBare (other ∷ earlier) = AreBare earlier

abbrev climbs : ℕ → CraftSpec → Bool
climbs a craft = craft.address == a && is_some craft.ceiling

climb-other : (a n : ℕ) (limit : ℤ) (craft : CraftSpec) (b : Bool) → (n == a) ≡ false → (craft.address == n) ≡ b → climbs a (if b then record craft { ceiling = Some limit } else craft) ≡ climbs a craft
climb-other a n limit craft false apart e = refl
climb-other a n limit craft true apart e =
    let other : (craft.address == a) ≡ false = ap (λ m. m == a) (eqb-true craft.address n e) ∙ apart in
    rw other refl

climbs-other : (a n : ℕ) (limit : ℤ) (crafts : List CraftSpec) → (n == a) ≡ false → list_any (climbs a) (map (gives.with_ceiling n limit) crafts) ≡ list_any (climbs a) crafts
climbs-other a n limit [] apart = refl
climbs-other a n limit (craft ∷ crafts) apart =
    ap (λ b. b || list_any (climbs a) (map (gives.with_ceiling n limit) crafts)) (climb-other a n limit craft (craft.address == n) apart refl)
    ∙ ap (λ b. climbs a craft || b) (climbs-other a n limit crafts apart)

bare-climbs : (a : ℕ) (craft : CraftSpec) → craft.ceiling ≡ None → climbs a craft ≡ false
bare-climbs a craft e = by (craft.address == a) where
  by : (b : Bool) → (b && is_some craft.ceiling) ≡ false
  by true = ap is_some e
  by false = refl

climb-any : (a : ℕ) (earlier : List Record) → AreBare earlier → has_climb earlier a ≡ true → list_any (is_about (of-craft kind.Climb a)) earlier ≡ true
climb-any a [] bare h = absurd (false≢true h)
climb-any a (said.Craft craft ∷ earlier) bare h =
    climb-any a earlier bare.1 (ap (λ b. b || list_any (climbs a) (gives.crafts_of earlier)) (sym (bare-climbs a craft bare.0)) ∙ sym (last-any (climbs a) (gives.crafts_of earlier) craft) ∙ h)
climb-any a (said.Climb n limit ∷ earlier) bare h = by (n == a) refl (climb-any a earlier bare) where
  by : (b : Bool) → (n == a) ≡ b → (has_climb earlier a ≡ true → list_any (is_about (of-craft kind.Climb a)) earlier ≡ true) → ((b && true) || list_any (is_about (of-craft kind.Climb a)) earlier) ≡ true
  by true e later = refl
  by false e later = later (sym (climbs-other a n limit (gives.crafts_of earlier) e) ∙ h)
climb-any a (other ∷ earlier) bare h = climb-any a earlier bare h

bare-more : (older earlier : List (Option Record)) (now : Option Record) (row : List (List ℕ)) → SaysRow older row now → AreBare (records_in earlier) → AreBare (records_in (now ∷ earlier))
bare-more older earlier None row is bare = bare
bare-more older earlier (Some (said.Craft craft)) row is bare = (is.says.1, bare)
bare-more older earlier (Some (said.Header version)) row is bare = bare
bare-more older earlier (Some (said.Run run)) row is bare = bare
bare-more older earlier (Some (said.Gains gains)) row is bare = bare
bare-more older earlier (Some (said.Climb address limit)) row is bare = bare
bare-more older earlier (Some (said.Leg address course)) row is bare = bare
bare-more older earlier (Some (said.Miss pair from to)) row is bare = bare
bare-more older earlier (Some (said.Plan pair copies)) row is bare = bare
bare-more older earlier (Some (said.Fate pair number copies)) row is bare = bare
bare-more older earlier (Some said.End) row is bare = bare
bare-more older earlier (Some (said.Profile profile)) row is bare = bare
bare-more older earlier (Some (said.Name text)) row is bare = bare
bare-more older earlier (Some (said.Clock second)) row is bare = bare
bare-more older earlier (Some (said.Call address sign)) row is bare = bare

pub said-bare : (before : List (Option Record)) (rows : List (List (List ℕ))) (all : List (Option Record)) → AreSaid SaysRow before rows all → AreBare (records_in before) → AreBare (records_in all)
said-bare before [] all says bare = rw (← says) bare
said-bare before (row ∷ rows) all says bare = said-bare (says.0 ∷ before) rows all says.2 (bare-more before before says.0 row says.1 bare)

-- A record of a kind and about an aircraft or pair, that reaches a number.
abbrev pub is_since : Sought → ℕ → Record → Bool
is_since sought n now = is_about sought now && if_said (reached_said now) (λ reached. nat_le n reached)

and-left : (a b : Bool) → (a && b) ≡ true → a ≡ true
and-left true b h = refl
and-left false b h = absurd (false≢true h)

and-right : (a b : Bool) → (a && b) ≡ true → b ≡ true
and-right true b h = h
and-right false b h = absurd (false≢true h)

pub since-about : (sought : Sought) (n : ℕ) (now : Record) → is_since sought n now ≡ true → is_about sought now ≡ true
since-about sought n now h = and-left (is_about sought now) _ h

leg-since : (a n : ℕ) (now : Record) → is_leg_since a n now ≡ is_since (of-craft kind.Leg a) n now
leg-since a n (said.Leg b course) = ap (λ c. c && nat_le n course.from) (sym (and-true (b == a)))
leg-since a n other = refl

miss-since : (pair : Addresses) (n : ℕ) (now : Record) → is_miss_until pair n now ≡ is_since (of-pair kind.Miss pair.first pair.second) n now
miss-since pair n (said.Miss other from to) = refl
miss-since pair n other = refl

fate-since : (pair : Addresses) (n : ℕ) (now : Record) → is_fate_since pair n now ≡ is_since (of-pair kind.Fate pair.first pair.second) n now
fate-since pair n (said.Fate other number copies) = refl
fate-since pair n other = refl

plan-about : (pair : Addresses) (now : Record) → is_plan_for pair now ≡ is_about (of-pair kind.Plan pair.first pair.second) now
plan-about pair (said.Plan other copies) = refl
plan-about pair other = refl

-- The same of a list.
pub legs-since : (a n : ℕ) (earlier : List Record) → list_any (is_leg_since a n) earlier ≡ list_any (is_since (of-craft kind.Leg a) n) earlier
legs-since a n earlier = any-same (is_leg_since a n) (is_since (of-craft kind.Leg a) n) (leg-since a n) earlier

pub misses-since : (pair : Addresses) (n : ℕ) (earlier : List Record) → list_any (is_miss_until pair n) earlier ≡ list_any (is_since (of-pair kind.Miss pair.first pair.second) n) earlier
misses-since pair n earlier = any-same (is_miss_until pair n) (is_since (of-pair kind.Miss pair.first pair.second) n) (miss-since pair n) earlier

pub fates-since : (pair : Addresses) (n : ℕ) (earlier : List Record) → list_any (is_fate_since pair n) earlier ≡ list_any (is_since (of-pair kind.Fate pair.first pair.second) n) earlier
fates-since pair n earlier = any-same (is_fate_since pair n) (is_since (of-pair kind.Fate pair.first pair.second) n) (fate-since pair n) earlier

-- What is sought of a leg, a miss and a fate. A leg has no second address.
abbrev pub leg-sought : ℕ → ℕ → Sought
leg-sought first second = of-craft kind.Leg first

abbrev pub miss-sought : ℕ → ℕ → Sought
miss-sought first second = of-pair kind.Miss first second

abbrev pub fate-sought : ℕ → ℕ → Sought
fate-sought first second = of-pair kind.Fate first second

-- A record that rises repeats where an earlier one reaches its number.
pub record Rises (earlier : List Record) (make : ℕ → ℕ → Sought) (k : RecordKind) (fields : List (List ℕ)) (place : ℕ) : Type 0 where
  pub first : ℕ
  pub second : ℕ
  pub number : ℕ
  pub same : alike k fields ≡ make first second
  pub said-at : count_in 1 600 (field fields place) ≡ Some number
  pub any : list_any (is_since (make first second) number) earlier ≡ true

two-sought : (k : RecordKind) (one two : Option ℕ) (a b : ℕ) → one ≡ Some a → two ≡ Some b → record { kind = k; first = one; second = two } ≡ of-pair k a b
two-sought k one two a b e f = rw (e, f) refl

leg-at : (earlier : List Record) (fields : List (List ℕ)) (one two : Option ℕ) → address_in (field fields 1) ≡ one → count_in 1 600 (field fields 2) ≡ two
    → if_said one (λ address. if_said two (λ from. list_any (is_leg_since address from) earlier)) ≡ true → Rises earlier leg-sought kind.Leg fields 2
leg-at earlier fields None two e f h = absurd (false≢true h)
leg-at earlier fields (Some a) None e f h = absurd (false≢true h)
leg-at earlier fields (Some a) (Some n) e f h = record { first = a; second = 0; number = n; same = ap (λ (o : Option ℕ). record { kind = kind.Leg; first = o; second = None }) e; said-at = f; any = sym (legs-since a n earlier) ∙ h }

pub leg-rises : (earlier : List Record) (fields : List (List ℕ)) → is_repeat earlier (stated_kind kind.Leg) fields ≡ true → Rises earlier leg-sought kind.Leg fields 2
leg-rises earlier fields h = leg-at earlier fields (address_in (field fields 1)) (count_in 1 600 (field fields 2)) refl refl h

miss-at : (earlier : List Record) (fields : List (List ℕ)) (one two three : Option ℕ) → address_in (field fields 1) ≡ one → address_in (field fields 2) ≡ two → count_in 1 600 (field fields 3) ≡ three
    → if_said one (λ a. if_said two (λ b. if_said three (λ from. list_any (is_miss_until (record { first = a; second = b }) from) earlier))) ≡ true → Rises earlier miss-sought kind.Miss fields 3
miss-at earlier fields None two three e f g h = absurd (false≢true h)
miss-at earlier fields (Some a) None three e f g h = absurd (false≢true h)
miss-at earlier fields (Some a) (Some b) None e f g h = absurd (false≢true h)
miss-at earlier fields (Some a) (Some b) (Some n) e f g h =
    record { first = a; second = b; number = n; same = two-sought kind.Miss (address_in (field fields 1)) (address_in (field fields 2)) a b e f; said-at = g; any = sym (misses-since (record { first = a; second = b }) n earlier) ∙ h }

pub miss-rises : (earlier : List Record) (fields : List (List ℕ)) → is_repeat earlier (stated_kind kind.Miss) fields ≡ true → Rises earlier miss-sought kind.Miss fields 3
miss-rises earlier fields h = miss-at earlier fields (address_in (field fields 1)) (address_in (field fields 2)) (count_in 1 600 (field fields 3)) refl refl refl h

fate-at : (earlier : List Record) (fields : List (List ℕ)) (one two three : Option ℕ) → address_in (field fields 1) ≡ one → address_in (field fields 2) ≡ two → count_in 1 600 (field fields 3) ≡ three
    → if_said one (λ a. if_said two (λ b. if_said three (λ number. list_any (is_fate_since (record { first = a; second = b }) number) earlier))) ≡ true → Rises earlier fate-sought kind.Fate fields 3
fate-at earlier fields None two three e f g h = absurd (false≢true h)
fate-at earlier fields (Some a) None three e f g h = absurd (false≢true h)
fate-at earlier fields (Some a) (Some b) None e f g h = absurd (false≢true h)
fate-at earlier fields (Some a) (Some b) (Some n) e f g h =
    record { first = a; second = b; number = n; same = two-sought kind.Fate (address_in (field fields 1)) (address_in (field fields 2)) a b e f; said-at = g; any = sym (fates-since (record { first = a; second = b }) n earlier) ∙ h }

pub fate-rises : (earlier : List Record) (fields : List (List ℕ)) → is_repeat earlier (stated_kind kind.Fate) fields ≡ true → Rises earlier fate-sought kind.Fate fields 3
fate-rises earlier fields h = fate-at earlier fields (address_in (field fields 1)) (address_in (field fields 2)) (count_in 1 600 (field fields 3)) refl refl refl h

rises-any : (earlier : List Record) (make : ℕ → ℕ → Sought) (k : RecordKind) (fields : List (List ℕ)) (place : ℕ) → Rises earlier make k fields place → list_any (is_about (alike k fields)) earlier ≡ true
rises-any earlier make k fields place r =
    let sought : Sought = make r.first r.second in
    ap (λ (s : Sought). list_any (is_about s) earlier) r.same ∙ any-weaken (is_since sought r.number) (is_about sought) (since-about sought r.number) earlier r.any

plan-at : (earlier : List Record) (one two : Option ℕ) → if_said one (λ a. if_said two (λ b. list_any (is_plan_for (record { first = a; second = b })) earlier)) ≡ true
    → list_any (is_about (record { kind = kind.Plan; first = one; second = two })) earlier ≡ true
plan-at earlier None two h = absurd (false≢true h)
plan-at earlier (Some a) None h = absurd (false≢true h)
plan-at earlier (Some a) (Some b) h = sym (any-same (is_plan_for (record { first = a; second = b })) (is_about (of-pair kind.Plan a b)) (plan-about (record { first = a; second = b })) earlier) ∙ h

craft-at : (earlier : List Record) (one : Option ℕ) → if_said one (is_given earlier) ≡ true → list_any (is_about (record { kind = kind.Craft; first = one; second = None })) earlier ≡ true
craft-at earlier None h = absurd (false≢true h)
craft-at earlier (Some a) h = sym (given-any a earlier) ∙ h

climb-at : (earlier : List Record) (one : Option ℕ) → AreBare earlier → if_said one (has_climb earlier) ≡ true → list_any (is_about (record { kind = kind.Climb; first = one; second = None })) earlier ≡ true
climb-at earlier None bare h = absurd (false≢true h)
climb-at earlier (Some a) bare h = climb-any a earlier bare h

-- A call sign of another aircraft.
abbrev pub IsSigned : List Record → RecordKind → List (List ℕ) → Type 0
IsSigned earlier k fields = (k ≡ kind.Call) × (list_any (is_call_by (field fields 2)) earlier ≡ true)

call-at : (earlier : List Record) (fields : List (List ℕ)) → is_repeat earlier (stated_kind kind.Call) fields ≡ true → (list_any (is_about (alike kind.Call fields)) earlier ≡ true) ⊎ IsSigned earlier kind.Call fields
call-at earlier fields h = elim (either-true (if_said (address_in (field fields 1)) (λ a. list_any (is_call_for a) earlier)) _ h) [
  | inl one ↦ inl (call-first earlier (address_in (field fields 1)) one)
  | inr two ↦ inr (refl, sign-said (is_call_sign (field fields 2)) (field fields 2) earlier two)
]

pub repeat-any : (earlier : List Record) (k : RecordKind) (fields : List (List ℕ)) → AreBare earlier → is_repeat earlier (stated_kind k) fields ≡ true → (list_any (is_about (alike k fields)) earlier ≡ true) ⊎ IsSigned earlier k fields
repeat-any earlier kind.Run fields bare h = inl (sym (run-any earlier) ∙ h)
repeat-any earlier kind.Gains fields bare h = inl (sym (gains-any earlier) ∙ h)
repeat-any earlier kind.Craft fields bare h = inl (craft-at earlier (address_in (field fields 1)) h)
repeat-any earlier kind.Climb fields bare h = inl (climb-at earlier (address_in (field fields 1)) bare h)
repeat-any earlier kind.Leg fields bare h = inl (rises-any earlier leg-sought kind.Leg fields 2 (leg-rises earlier fields h))
repeat-any earlier kind.Miss fields bare h = inl (rises-any earlier miss-sought kind.Miss fields 3 (miss-rises earlier fields h))
repeat-any earlier kind.Plan fields bare h = inl (plan-at earlier (address_in (field fields 1)) (address_in (field fields 2)) h)
repeat-any earlier kind.Fate fields bare h = inl (rises-any earlier fate-sought kind.Fate fields 3 (fate-rises earlier fields h))
repeat-any earlier kind.End fields bare h = absurd (false≢true h)
repeat-any earlier kind.Profile fields bare h = inl (sym (profile-any earlier) ∙ h)
repeat-any earlier kind.Name fields bare h = inl (sym (name-any earlier) ∙ h)
repeat-any earlier kind.Clock fields bare h = inl (sym (clock-any earlier) ∙ h)
repeat-any earlier kind.Call fields bare h = call-at earlier fields h
