-- The canonical records of an encounter are read one after the other, and give its parts.
use Rattle.std.proofs.Common.{◌≡◌, ℕ, ◌+◌, ◌<◌, ◌≤◌, ◌==◌, if◌then◌else◌, nat_le, inl, inr, Bool, true, false, ℤ, List, [], ◌∷◌, ◌++◌, length, map, Option, Some, None, IfSome, Ok, refl, sym, ap, ◌∙◌, subst, arith, append_assoc, append-nil, length-append, eq-eqb}
use Rattle.std.specs.List.{AllByRecursion, flat_map, position_or_len}
use Rattle.std.specs.Str.{bytes_eq}
use Rattle.std.proofs.lemmas.Bool.{cases_lt, leb-true}
use Rattle.std.proofs.lemmas.Bool.Decides.{nat_tests}
use Rattle.std.proofs.lemmas.List.{length-map, map-append}
use Rattle.std.proofs.lemmas.List.Elements.{recursion_from_All}
use Rattle.std.proofs.lemmas.Slice.Eq.{bytes_eq-Decides}
use Rattle.acas_base.specs.Encounter.{AreCalledApart, IsAltitude, IsCall, IsCraft, IsEncounter, IsUnlabelled, IsVersion, Parts, address_in, most_crafts}
use Rattle.acas_base.specs.Labels.{is_label}
use Rattle.acas_base.specs.Order.{call_below, is_below}
use Rattle.acas_base.specs.declared.TheConstants.{CRAFTS}
use Rattle.acas_base.specs.declared.craft.CraftSpec.{CraftSpec}
use Rattle.acas_base.specs.declared.craft.Leg.{Leg}
use Rattle.acas_base.specs.declared.craft.Miss.{Miss}
use Rattle.acas_base.specs.declared.label.Call.{Call}
use Rattle.acas_base.specs.declared.link.Fate.{Fate}
use Rattle.acas_base.specs.declared.link.LinkPlan.{LinkPlan}
use Rattle.acas_base.specs.declared.setting.Profile.{Profile}
use Rattle.enc_file.specs.Earlier.{by_group, call_group, index_of, no_heading, with_ceiling}
use Rattle.enc_file.specs.Faults.{has_ceiling}
use Rattle.enc_file.specs.Saying.{record_of}
use Rattle.enc_file.specs.Spelling.{call_record, climb_of, climb_record, climb_records, clock_record, clock_records, craft_record, gains_record, name_record, name_records, profile_record, profile_records, run_record}
use Rattle.enc_file.specs.declared.record.Heading.{Heading}
use Rattle.enc_file.specs.declared.record.Record.TheVariants as said
use Rattle.enc_file.proofs.AircraftFound.{Differ, IsOther, address-within, apart-differ, get-here, index-found, index-here}
use Rattle.enc_file.proofs.Orders.{call-order}
use Rattle.enc_file.proofs.OwnOrder.{IsInOrder, in-order}
use Rattle.enc_file.proofs.Pairwise.{Pairs, all-here, any-fails, pairs-after, pairs-before, pairs-from-places}
use Rattle.enc_file.proofs.ReadBack.{Goes, Known, goes-each, goes-join, goes-map, goes-none, goes-one}
use Rattle.enc_file.proofs.RecordsFollow.{call-follows, climb-follows, clock-follows, craft-follows, gains-follow, name-follows, profile-follows, run-follows}
use Rattle.enc_file.proofs.SaidByLines.{call-said, climb-said, clock-said, craft-said, gains-said, name-said, profile-said, run-said, unlimited}

-- After the header, and after these records of the heading.
abbrev pub begun-by : Parts → Heading → Known
begun-by e heading = record { version = e.version; heading = heading; run = None; gains = None; crafts = []; calls = []; legs = []; misses = []; plans = []; fates = [] }

abbrev pub begun : Parts → Known
begun e = begun-by e no_heading

-- The heading of an encounter. The older formats have no record for the profile.
abbrev pub profile_said : ℕ → Profile → Option Profile
profile_said version profile = if nat_le 3 version then Some profile else None

abbrev pub whole-heading : Parts → Heading
whole-heading e = record { profile = profile_said e.version e.profile; name = e.name; clock = e.clock }

-- After the run.
abbrev pub with-run : Parts → Known
with-run e = record (begun-by e (whole-heading e)) { run = Some (record { cycles = e.cycles; elevation = e.elevation }) }

-- After the gains and these aircraft.
abbrev pub with-crafts : Parts → List CraftSpec → Known
with-crafts e crafts = record (with-run e) { gains = Some (record { range = e.range; altitude = e.altitude }); crafts = crafts }

-- After all aircraft, and these call signs.
abbrev pub with-calls : Parts → List CraftSpec → List Call → Known
with-calls e crafts calls = record (with-crafts e crafts) { calls = calls }

-- After all call signs, and these legs, misses, plans and fates.
abbrev pub with-lists : Parts → List Leg → List Miss → List LinkPlan → List Fate → Known
with-lists e legs misses plans fates = record (with-calls e e.crafts e.calls) { legs = legs; misses = misses; plans = plans; fates = fates }

-- The heading.

goes-profile : (e : Parts) → Goes (profile_records e.version e.profile) (begun e) (begun-by e (record no_heading { profile = profile_said e.version e.profile }))
goes-profile e = at (nat_le 3 e.version) refl where
  at : (b : Bool) → nat_le 3 e.version ≡ b → Goes (if b then profile_record e.profile ∷ [] else []) (begun e) (begun-by e (record no_heading { profile = if b then Some e.profile else None }))
  at false is = goes-none (begun e)
  at true is =
      goes-one (profile_record e.profile) (said.Profile e.profile) (begun e) (begun-by e (record no_heading { profile = Some e.profile }))
      (profile-said e.version e.profile (leb-true 3 e.version is)) (profile-follows (begun e) e.profile refl)

-- Where something is said of the labels, the format is the third.
third-format : (e : Parts) → IsEncounter e → (IsUnlabelled e → ⊥) → 3 ≤ e.version
third-format e h labelled = elim (cases_lt e.version 3) [
  | inl less ↦ absurd (labelled (h.older (omega (arith, less))))
  | inr more ↦ more
]

goes-name : (e : Parts) → IsEncounter e → (o : Option (List ℕ)) → e.name ≡ o
    → Goes (name_records o) (begun-by e (record no_heading { profile = profile_said e.version e.profile }))
    (begun-by e (record { profile = profile_said e.version e.profile; name = o; clock = None }))
goes-name e h None is = goes-none (begun-by e (record no_heading { profile = profile_said e.version e.profile }))
goes-name e h (Some text) is =
    let known = begun-by e (record no_heading { profile = profile_said e.version e.profile }) in
    let third = third-format e h (λ u. cc (u.name, is)) in
    let label : is_label text ≡ true = subst (λ o. IfSome o (λ t. is_label t ≡ true)) is h.labels.name in
    goes-one (name_record text) (said.Name text) known (begun-by e (record { profile = profile_said e.version e.profile; name = Some text; clock = None }))
    (name-said e.version text third label) (name-follows known text refl)

goes-clock : (e : Parts) → IsEncounter e → (o : Option ℕ) → e.clock ≡ o
    → Goes (clock_records o) (begun-by e (record { profile = profile_said e.version e.profile; name = e.name; clock = None }))
    (begun-by e (record { profile = profile_said e.version e.profile; name = e.name; clock = o }))
goes-clock e h None is = goes-none (begun-by e (record { profile = profile_said e.version e.profile; name = e.name; clock = None }))
goes-clock e h (Some second) is =
    let known = begun-by e (record { profile = profile_said e.version e.profile; name = e.name; clock = None }) in
    let third = third-format e h (λ u. cc (u.clock, is)) in
    let day : second < 86400 = subst (λ o. IfSome o (λ s. s < 86400)) is h.labels.clock in
    goes-one (clock_record second) (said.Clock second) known (begun-by e (record { profile = profile_said e.version e.profile; name = e.name; clock = Some second }))
    (clock-said e.version second third day) (clock-follows known second refl)

pub goes-heading : (e : Parts) → IsEncounter e → Goes ([] ++ profile_records e.version e.profile ++ name_records e.name ++ clock_records e.clock) (begun e) (begun-by e (whole-heading e))
goes-heading e h =
    let profile = goes-join [] (profile_records e.version e.profile) (begun e) (begun e) _ (goes-none (begun e)) (goes-profile e) in
    let name = goes-join _ (name_records e.name) (begun e) _ _ profile (goes-name e h e.name refl) in
    goes-join _ (clock_records e.clock) (begun e) _ (begun-by e (whole-heading e)) name (goes-clock e h e.clock refl)

pub goes-run : (e : Parts) → IsEncounter e → Goes (run_record e.cycles e.elevation ∷ []) (begun-by e (whole-heading e)) (with-run e)
goes-run e h =
    goes-one (run_record e.cycles e.elevation) (said.Run (record { cycles = e.cycles; elevation = e.elevation })) (begun-by e (whole-heading e)) (with-run e)
    (run-said e.version e.cycles e.elevation h.run.length h.run.terrain) (run-follows (begun-by e (whole-heading e)) (record { cycles = e.cycles; elevation = e.elevation }) refl)

pub goes-gains : (e : Parts) → IsEncounter e → Goes (gains_record e.range e.altitude ∷ []) (with-run e) (with-crafts e [])
goes-gains e h =
    goes-one (gains_record e.range e.altitude) (said.Gains (record { range = e.range; altitude = e.altitude })) (with-run e) (with-crafts e [])
    (gains-said e.version e.range e.altitude h.range h.altitude) (gains-follow (with-run e) (record { range = e.range; altitude = e.altitude }) refl)

-- Aircraft.

others-unlimited : (n : ℕ) (crafts : List CraftSpec) → AllByRecursion (IsOther n) crafts → AllByRecursion (IsOther n) (map unlimited crafts)
others-unlimited n [] h = tt
others-unlimited n (x ∷ xs) h = (h.0, others-unlimited n xs h.1)

pub all-crafts : (e : Parts) → IsEncounter e → AllByRecursion IsCraft e.crafts
all-crafts e h = recursion_from_All IsCraft e.crafts h.crafts.ranges

pub all-differ : (e : Parts) → IsEncounter e → Pairs Differ e.crafts
all-differ e h = apart-differ e.crafts h.crafts.addresses

most-crafts : (version : ℕ) → most_crafts version ≤ 16
most-crafts version = grind (arith, nat_tests)

pub few-crafts : (e : Parts) → IsEncounter e → length e.crafts ≤ 16
few-crafts e h = omega (arith, h.crafts.few, most-crafts e.version)

-- Aircraft without their ceilings have their addresses.
first-unlimited : (crafts : List CraftSpec) (n : ℕ) → position_or_len (λ (craft : CraftSpec). craft.address == n) (map unlimited crafts) ≡ position_or_len (λ (craft : CraftSpec). craft.address == n) crafts
first-unlimited [] n = refl
first-unlimited (x ∷ xs) n = rw (first-unlimited xs n) refl

index-unlimited : (crafts : List CraftSpec) (n : ℕ) → index_of (map unlimited crafts) n ≡ index_of crafts n
index-unlimited crafts n = rw (first-unlimited crafts n, length-map) refl

pub goes-crafts : (e : Parts) → IsEncounter e → Goes (map craft_record e.crafts) (with-crafts e []) (with-crafts e (map unlimited e.crafts))
goes-crafts e h = goes-map craft_record e.crafts (λ done _. with-crafts e (map unlimited done)) step where
  step : (done : List CraftSpec) (x : CraftSpec) (rest : List CraftSpec) → done ++ x ∷ rest ≡ e.crafts
      → Goes (craft_record x ∷ []) (with-crafts e (map unlimited done)) (with-crafts e (map unlimited (done ++ x ∷ [])))
  step done x rest w =
      let is = all-here IsCraft e.crafts done x rest w (all-crafts e h) in
      let other = others-unlimited x.address done (pairs-before Differ e.crafts done x rest w (all-differ e h)) in
      let long : length e.crafts ≡ length done + length (x ∷ rest) = ap length (sym w) ∙ length-append done (x ∷ rest) in
      let room : length (map unlimited done) < most_crafts e.version = rw length-map (omega (arith, h.crafts.few)) in
      let follows = craft-follows (with-crafts e (map unlimited done)) (unlimited x) other room in
      let more : map unlimited done ++ unlimited x ∷ [] ≡ map unlimited (done ++ x ∷ []) = sym (map-append unlimited done (x ∷ [])) in
      subst (λ crafts. Goes (craft_record x ∷ []) (with-crafts e (map unlimited done)) (with-crafts e crafts)) more
      (goes-one (craft_record x) (said.Craft (unlimited x)) (with-crafts e (map unlimited done)) (with-crafts e (map unlimited done ++ unlimited x ∷ [])) (craft-said e.version x is) follows)

-- Call signs.

call-order-of : (e : Parts) → IsEncounter e → IsInOrder call_group CRAFTS call_below e.calls
call-order-of e h = in-order IsCall call_group CRAFTS call_below (length e.crafts) (call-order (length e.crafts) (few-crafts e h)) e.calls h.labels.calls

pub calls-own : (e : Parts) → IsEncounter e → by_group call_group CRAFTS e.calls ≡ e.calls
calls-own e h = (call-order-of e h).own

call-apart : (a b : ℕ) → is_below (a, 0, 0) (b, 0, 0) ≡ true → (a == b) ≡ false
call-apart a b h = grind (arith, nat_tests, h)

sign-apart : (a b : List ℕ) → (a ≡ b → ⊥) → bytes_eq a b ≡ false
sign-apart a b other = at (bytes_eq a b) refl where
  at : (t : Bool) → bytes_eq a b ≡ t → t ≡ false
  at true is = absurd (other ((bytes_eq-Decides a b).0 is))
  at false is = refl

pub goes-calls : (e : Parts) → IsEncounter e → Goes (map (call_record e.crafts) e.calls) (with-calls e (map unlimited e.crafts) []) (with-calls e (map unlimited e.crafts) e.calls)
goes-calls e h = goes-map (call_record e.crafts) e.calls (λ done _. with-calls e (map unlimited e.crafts) done) step where
  step : (done : List Call) (x : Call) (rest : List Call) → done ++ x ∷ rest ≡ e.calls
      → Goes (call_record e.crafts x ∷ []) (with-calls e (map unlimited e.crafts) done) (with-calls e (map unlimited e.crafts) (done ++ x ∷ []))
  step done x rest w =
      let is = all-here (IsCall (length e.crafts)) e.calls done x rest w (recursion_from_All (IsCall (length e.crafts)) e.calls h.labels.calls.0) in
      let lower = pairs-before (λ a b. call_below a b ≡ true) e.calls done x rest w (call-order-of e h).later in
      let others = pairs-before AreCalledApart e.calls done x rest w (pairs-from-places AreCalledApart e.calls (λ i j d order within. h.labels.apart i j d order within)) in
      let bare = any-fails (λ (call : Call). call.craft == x.craft) (λ other. call_below other x ≡ true) (λ other k. call-apart other.craft x.craft k) done lower in
      let new = any-fails (λ (call : Call). bytes_eq call.sign x.sign) (λ other. AreCalledApart other x) (λ other k. sign-apart other.sign x.sign k) done others in
      let n = address_in e.crafts x.craft in
      let found : index_of (map unlimited e.crafts) n ≡ Some x.craft = index-unlimited e.crafts n ∙ index-found e.crafts x.craft (all-differ e h) is.craft in
      let third = third-format e h (λ u. some-call done (w ∙ u.calls)) in
      goes-one (call_record e.crafts x) (said.Call n x.sign) (with-calls e (map unlimited e.crafts) done) (with-calls e (map unlimited e.crafts) (done ++ x ∷ []))
      (call-said e.version n x.sign third (address-within e.crafts x.craft (all-crafts e h) is.craft) is.sign)
      (call-follows (with-calls e (map unlimited e.crafts) done) n x found bare new) where
        some-call : (before : List Call) → before ++ x ∷ rest ≡ [] → ⊥
        some-call [] same = cc
        some-call (y ∷ ys) same = cc

-- Ceilings.

pub least-two : (version : ℕ) → IsVersion version → (version ≡ 1 → ⊥) → 2 ≤ version
least-two version h other = omega (arith, h.0, other)

other-way : (a b : ℕ) → (a == b) ≡ false → (b == a) ≡ false
other-way a b h = grind (arith, nat_tests)

others-behind : (x : CraftSpec) (rest : List CraftSpec) → AllByRecursion (Differ x) rest → AllByRecursion (IsOther x.address) rest
others-behind x [] h = tt
others-behind x (y ∷ ys) h = (other-way x.address y.address h.0, others-behind x ys h.1)

-- Other aircraft keep theirs.
ceilings-kept : (n : ℕ) (limit : ℤ) (crafts : List CraftSpec) → AllByRecursion (IsOther n) crafts → map (with_ceiling n limit) crafts ≡ crafts
ceilings-kept n limit [] h = refl
ceilings-kept n limit (x ∷ xs) h = rw (h.0, ceilings-kept n limit xs h.1) refl

ceiling-given : (x : CraftSpec) (limit : ℤ) → x.ceiling ≡ Some limit → with_ceiling x.address limit (unlimited x) ≡ x
ceiling-given x limit same =
    let own : (x.address == x.address) ≡ true = eq-eqb x.address x.address refl in
    rw own (ap (λ (o : Option ℤ). record x { ceiling = o }) (sym same))

ceilings-after : (done : List CraftSpec) (x : CraftSpec) (rest : List CraftSpec) (limit : ℤ) → x.ceiling ≡ Some limit
    → AllByRecursion (IsOther x.address) done → AllByRecursion (IsOther x.address) (map unlimited rest)
    → map (with_ceiling x.address limit) (done ++ unlimited x ∷ map unlimited rest) ≡ (done ++ x ∷ []) ++ map unlimited rest
ceilings-after done x rest limit same before behind =
    map-append (with_ceiling x.address limit) done (unlimited x ∷ map unlimited rest)
    ∙ rw (ceilings-kept x.address limit done before, ceiling-given x limit same, ceilings-kept x.address limit (map unlimited rest) behind) (sym (append_assoc done (x ∷ []) (map unlimited rest)))

-- The aircraft up to this one have their ceilings.
abbrev limited : Parts → List CraftSpec → List CraftSpec → Known
limited e done rest = with-calls e (done ++ map unlimited rest) e.calls

no-climb : (e : Parts) (done : List CraftSpec) (x : CraftSpec) (rest : List CraftSpec) → x.ceiling ≡ None → Goes [] (limited e done (x ∷ rest)) (limited e (done ++ x ∷ []) rest)
no-climb e done x rest none =
    let same : unlimited x ≡ x = ap (λ (o : Option ℤ). record x { ceiling = o }) (sym none) in
    let whole : done ++ unlimited x ∷ map unlimited rest ≡ (done ++ x ∷ []) ++ map unlimited rest = ap (λ y. done ++ y ∷ map unlimited rest) same ∙ sym (append_assoc done (x ∷ []) (map unlimited rest)) in
    subst (λ crafts. Goes [] (limited e done (x ∷ rest)) (with-calls e crafts e.calls)) whole (goes-none (limited e done (x ∷ rest)))

one-climb : (e : Parts) → IsEncounter e → (done : List CraftSpec) (x : CraftSpec) (rest : List CraftSpec) → done ++ x ∷ rest ≡ e.crafts → (limit : ℤ) → x.ceiling ≡ Some limit → 2 ≤ e.version
    → Goes (climb_record x.address limit ∷ []) (limited e done (x ∷ rest)) (limited e (done ++ x ∷ []) rest)
one-climb e h done x rest w limit same two =
    let is = all-here IsCraft e.crafts done x rest w (all-crafts e h) in
    let before = pairs-before Differ e.crafts done x rest w (all-differ e h) in
    let behind = others-unlimited x.address rest (others-behind x rest (pairs-after Differ e.crafts done x rest w (all-differ e h))) in
    let within : IsAltitude limit = subst (λ o. IfSome o IsAltitude) same is.ceiling in
    let crafts = done ++ unlimited x ∷ map unlimited rest in
    let found = index-here done (unlimited x) (map unlimited rest) x.address before refl in
    let none : has_ceiling crafts (length done) ≡ false = rw (get-here done (unlimited x) (map unlimited rest)) refl in
    let says : record_of e.version (climb_record x.address limit) ≡ Ok (said.Climb x.address limit) = climb-said e.version x.address limit two is.address within in
    subst (λ after. Goes (climb_record x.address limit ∷ []) (limited e done (x ∷ rest)) (with-calls e after e.calls)) (ceilings-after done x rest limit same before behind)
    (goes-one (climb_record x.address limit) (said.Climb x.address limit) (with-calls e crafts e.calls) (with-calls e (map (with_ceiling x.address limit) crafts) e.calls) says
    (climb-follows (with-calls e crafts e.calls) x.address limit (length done) found none))

has-format-2 : (e : Parts) → IsEncounter e → (done : List CraftSpec) (x : CraftSpec) (rest : List CraftSpec) → done ++ x ∷ rest ≡ e.crafts → (limit : ℤ) → x.ceiling ≡ Some limit → 2 ≤ e.version
has-format-2 e h done x rest w limit same = least-two e.version h.run.format first where
  first : e.version ≡ 1 → ⊥
  first one =
      let none = all-here (λ (craft : CraftSpec). craft.ceiling ≡ None) e.crafts done x rest w (recursion_from_All _ e.crafts (h.format one).no_ceiling) in
      cc (none, same)

climb-each : (e : Parts) → IsEncounter e → (done : List CraftSpec) (x : CraftSpec) (rest : List CraftSpec) → done ++ x ∷ rest ≡ e.crafts → (ceiling : Option ℤ) → x.ceiling ≡ ceiling
    → Goes (climb_of x.address ceiling) (limited e done (x ∷ rest)) (limited e (done ++ x ∷ []) rest)
climb-each e h done x rest w None same = no-climb e done x rest same
climb-each e h done x rest w (Some limit) same = one-climb e h done x rest w limit same (has-format-2 e h done x rest w limit same)

pub goes-climbs : (e : Parts) → IsEncounter e → Goes (flat_map climb_records e.crafts) (with-calls e (map unlimited e.crafts) e.calls) (with-calls e e.crafts e.calls)
goes-climbs e h =
    subst (λ crafts. Goes (flat_map climb_records e.crafts) (with-calls e (map unlimited e.crafts) e.calls) (with-calls e crafts e.calls)) (append-nil e.crafts)
    (goes-each climb_records e.crafts (limited e) (λ done x rest w. climb-each e h done x rest w x.ceiling refl) [] e.crafts refl)
