-- The legs, misses, plans and fates of an encounter are read from its canonical records.
use Rattle.std.proofs.Common.{◌≡◌, ℕ, ◌*◌, ◌<◌, ◌≤◌, true, List, [], ◌∷◌, ◌++◌, length, map, ap, ◌∙◌, arith}
use Rattle.std.proofs.lemmas.List.Elements.{recursion_from_All}
use Rattle.acas_base.specs.Encounter.{IsEncounter, IsFate, IsLeg, IsMiss, IsPlan, Parts, address_in}
use Rattle.acas_base.specs.Order.{fate_below, leg_below, miss_below, plan_below}
use Rattle.acas_base.specs.Ranges.{IsAddress}
use Rattle.acas_base.specs.declared.TheConstants.{CRAFTS}
use Rattle.acas_base.specs.declared.craft.Leg.{Leg}
use Rattle.acas_base.specs.declared.craft.Miss.{Miss}
use Rattle.acas_base.specs.declared.link.Fate.{Fate}
use Rattle.acas_base.specs.declared.link.LinkPlan.{LinkPlan}
use Rattle.enc_file.specs.Earlier.{fate_group, leg_group, miss_group, plan_group}
use Rattle.enc_file.specs.Spelling.{fate_record, leg_record, miss_record, plan_record}
use Rattle.enc_file.specs.declared.record.Addresses.{Addresses}
use Rattle.enc_file.specs.declared.record.Record.TheVariants as said
use Rattle.enc_file.proofs.AircraftFound.{address-within, index-found, pair-found}
use Rattle.enc_file.proofs.CanonicalSaid.{all-crafts, all-differ, few-crafts, least-two, with-lists}
use Rattle.enc_file.proofs.Orders.{fate-order, leg-order, miss-order, plan-order}
use Rattle.enc_file.proofs.OwnOrder.{IsInOrder, in-order}
use Rattle.enc_file.proofs.Pairwise.{all-here, pairs-before}
use Rattle.enc_file.proofs.ReadBack.{Goes, goes-map, goes-one}
use Rattle.enc_file.proofs.RecordsFollow.{fate-follows, leg-follows, miss-follows, plan-follows}
use Rattle.enc_file.proofs.SaidByLines.{course-of, fate-said, fate-copies, leg-said, miss-said, plan-said, plan-copies}

-- Its lists in their order.
pub legs-own : (e : Parts) → IsEncounter e → IsInOrder leg_group CRAFTS leg_below e.legs
legs-own e h = in-order IsLeg leg_group CRAFTS leg_below (length e.crafts) (leg-order (length e.crafts) (few-crafts e h)) e.legs h.records.legs

pub misses-own : (e : Parts) → IsEncounter e → IsInOrder miss_group (CRAFTS * CRAFTS) miss_below e.misses
misses-own e h = in-order IsMiss miss_group (CRAFTS * CRAFTS) miss_below (length e.crafts) (miss-order (length e.crafts) (few-crafts e h)) e.misses h.records.misses

pub plans-own : (e : Parts) → IsEncounter e → IsInOrder plan_group (CRAFTS * CRAFTS) plan_below e.plans
plans-own e h = in-order IsPlan plan_group (CRAFTS * CRAFTS) plan_below (length e.crafts) (plan-order (length e.crafts) (few-crafts e h)) e.plans h.records.plans

pub fates-own : (e : Parts) → IsEncounter e → IsInOrder fate_group (CRAFTS * CRAFTS) fate_below e.fates
fates-own e h = in-order IsFate fate_group (CRAFTS * CRAFTS) fate_below (length e.crafts) (fate-order (length e.crafts) (few-crafts e h)) e.fates h.records.fates

address-in : (e : Parts) → IsEncounter e → (i : ℕ) → i < length e.crafts → IsAddress (address_in e.crafts i)
address-in e h i within = address-within e.crafts i (all-crafts e h) within

-- The addresses of two aircraft.
abbrev pair-of : Parts → ℕ → ℕ → Addresses
pair-of e a b = record { first = address_in e.crafts a; second = address_in e.crafts b }

pub goes-legs : (e : Parts) → IsEncounter e → Goes (map (leg_record e.crafts) e.legs) (with-lists e [] [] [] []) (with-lists e e.legs [] [] [])
goes-legs e h = goes-map (leg_record e.crafts) e.legs (λ done _. with-lists e done [] [] []) step where
  step : (done : List Leg) (x : Leg) (rest : List Leg) → done ++ x ∷ rest ≡ e.legs → Goes (leg_record e.crafts x ∷ []) (with-lists e done [] [] []) (with-lists e (done ++ x ∷ []) [] [] [])
  step done x rest w =
      let is = all-here (IsLeg (length e.crafts)) e.legs done x rest w (recursion_from_All (IsLeg (length e.crafts)) e.legs h.records.legs.0) in
      let later = pairs-before (λ a b. leg_below a b ≡ true) e.legs done x rest w (legs-own e h).later in
      let found = index-found e.crafts x.craft (all-differ e h) is.craft in
      goes-one (leg_record e.crafts x) (said.Leg (address_in e.crafts x.craft) (course-of x)) (with-lists e done [] [] []) (with-lists e (done ++ x ∷ []) [] [] [])
      (leg-said e.version (address_in e.crafts x.craft) x (address-in e h x.craft is.craft) is.from is.rates) (leg-follows (with-lists e done [] [] []) (address_in e.crafts x.craft) x found later)

pub goes-misses : (e : Parts) → IsEncounter e → Goes (map (miss_record e.crafts) e.misses) (with-lists e e.legs [] [] []) (with-lists e e.legs e.misses [] [])
goes-misses e h = goes-map (miss_record e.crafts) e.misses (λ done _. with-lists e e.legs done [] []) step where
  step : (done : List Miss) (x : Miss) (rest : List Miss) → done ++ x ∷ rest ≡ e.misses → Goes (miss_record e.crafts x ∷ []) (with-lists e e.legs done [] []) (with-lists e e.legs (done ++ x ∷ []) [] [])
  step done x rest w =
      let is = all-here (IsMiss (length e.crafts)) e.misses done x rest w (recursion_from_All (IsMiss (length e.crafts)) e.misses h.records.misses.0) in
      let later = pairs-before (λ a b. miss_below a b ≡ true) e.misses done x rest w (misses-own e h).later in
      let found = pair-found e.crafts x.own x.target (all-differ e h) is.pair in
      goes-one (miss_record e.crafts x) (said.Miss (pair-of e x.own x.target) x.from x.to) (with-lists e e.legs done [] []) (with-lists e e.legs (done ++ x ∷ []) [] [])
      (miss-said e.version (address_in e.crafts x.own) (address_in e.crafts x.target) x.from x.to (address-in e h x.own is.pair.first) (address-in e h x.target is.pair.second) is.from is.to is.order)
      (miss-follows (with-lists e e.legs done [] []) (pair-of e x.own x.target) x found later)

-- Where there is a plan, the format is not the first.
plan-format : (e : Parts) → IsEncounter e → (done : List LinkPlan) (x : LinkPlan) (rest : List LinkPlan) → done ++ x ∷ rest ≡ e.plans → 2 ≤ e.version
plan-format e h done x rest w = least-two e.version h.run.format (λ one. none done (w ∙ (h.format one).no_plan)) where
  none : (before : List LinkPlan) → before ++ x ∷ rest ≡ [] → ⊥
  none [] same = cc
  none (y ∷ ys) same = cc

pub goes-plans : (e : Parts) → IsEncounter e → Goes (map (plan_record e.crafts) e.plans) (with-lists e e.legs e.misses [] []) (with-lists e e.legs e.misses e.plans [])
goes-plans e h = goes-map (plan_record e.crafts) e.plans (λ done _. with-lists e e.legs e.misses done []) step where
  step : (done : List LinkPlan) (x : LinkPlan) (rest : List LinkPlan) → done ++ x ∷ rest ≡ e.plans
      → Goes (plan_record e.crafts x ∷ []) (with-lists e e.legs e.misses done []) (with-lists e e.legs e.misses (done ++ x ∷ []) [])
  step done x rest w =
      let is = all-here (IsPlan (length e.crafts)) e.plans done x rest w (recursion_from_All (IsPlan (length e.crafts)) e.plans h.records.plans.0) in
      let later = pairs-before (λ a b. plan_below a b ≡ true) e.plans done x rest w (plans-own e h).later in
      let found = pair-found e.crafts x.sender x.receiver (all-differ e h) is.pair in
      let says = plan-said e.version (address_in e.crafts x.sender) (address_in e.crafts x.receiver) x (plan-format e h done x rest w) (address-in e h x.sender is.pair.first) (address-in e h x.receiver is.pair.second) is.copies in
      goes-one (plan_record e.crafts x) (said.Plan (pair-of e x.sender x.receiver) (plan-copies x)) (with-lists e e.legs e.misses done []) (with-lists e e.legs e.misses (done ++ x ∷ []) [])
      says
      (plan-follows (with-lists e e.legs e.misses done []) (pair-of e x.sender x.receiver) x found later is.copies)

pub goes-fates : (e : Parts) → IsEncounter e → Goes (map (fate_record e.crafts) e.fates) (with-lists e e.legs e.misses e.plans []) (with-lists e e.legs e.misses e.plans e.fates)
goes-fates e h = goes-map (fate_record e.crafts) e.fates (λ done _. with-lists e e.legs e.misses e.plans done) step where
  step : (done : List Fate) (x : Fate) (rest : List Fate) → done ++ x ∷ rest ≡ e.fates
      → Goes (fate_record e.crafts x ∷ []) (with-lists e e.legs e.misses e.plans done) (with-lists e e.legs e.misses e.plans (done ++ x ∷ []))
  step done x rest w =
      let is = all-here (IsFate (length e.crafts)) e.fates done x rest w (recursion_from_All (IsFate (length e.crafts)) e.fates h.records.fates.0) in
      let later = pairs-before (λ a b. fate_below a b ≡ true) e.fates done x rest w (fates-own e h).later in
      let found = pair-found e.crafts x.sender x.receiver (all-differ e h) is.pair in
      goes-one (fate_record e.crafts x) (said.Fate (pair-of e x.sender x.receiver) x.number (fate-copies x)) (with-lists e e.legs e.misses e.plans done) (with-lists e e.legs e.misses e.plans (done ++ x ∷ []))
      (fate-said e.version (address_in e.crafts x.sender) (address_in e.crafts x.receiver) x (address-in e h x.sender is.pair.first) (address-in e h x.receiver is.pair.second) is.number is.copies)
      (fate-follows (with-lists e e.legs e.misses e.plans done) (pair-of e x.sender x.receiver) x found later is.copies)
