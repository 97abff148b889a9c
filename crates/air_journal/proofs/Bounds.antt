-- How long a journal gets, and how much of all else there is.
use Rattle.std.proofs.Common.{◌≡◌, ℕ, zero, suc, ◌+◌, ◌-◌, ◌*◌, ◌<◌, ◌≤◌, Bool, true, false, eqb, List, [], ◌∷◌, length, Option, Some, None, sym, refl, ap, ◌∙◌, arith, inl, inr, zero-le, ne_eqb, get_or, ap₂, ◌≢◌}
use Rattle.std.specs.Option.{option_map_or}
use Rattle.std.specs.Prelude.{AllPairs, option_map, slice_get}
use Rattle.std.proofs.lemmas.Bool.{cases_lt, cond_both}
use Rattle.std.proofs.lemmas.List.{get_or_read}
use Rattle.std.proofs.Math.Nat.{mul-le-mul}
use Rattle.acas_base.specs.Encounter.{AreApart, IsEncounter, Parts, most_crafts}
use Rattle.acas_base.specs.Next.{rank_by}
use Rattle.acas_base.specs.declared.TheConstants.{CRAFTS}
use Rattle.acas_base.specs.declared.advisory.Rank.TheVariants.{Free}
use Rattle.acas_base.specs.declared.craft.CraftSpec.{CraftSpec}
use Rattle.acas_base.specs.declared.entry.Entry.{Entry}
use Rattle.acas_base.specs.declared.entry.Entry.TheVariants as kinds
use Rattle.air_journal.proofs.Soundness.{sound-of}
use Rattle.air_journal.specs.Airs.{air_of}
use Rattle.air_rules.proofs.Legal.{allowed, earlier}
use Rattle.air_rules.proofs.Longest.{bounded}
use Rattle.air_rules.proofs.Pace.{count-no}
use Rattle.air_rules.proofs.Waiting.{commits-within}
use Rattle.air_rules.specs.Air.{is_active, rank_of}
use Rattle.air_rules.specs.Journal.{commits, is_commit_of}
use Rattle.air_rules.specs.Length.{active_count, count_below, most_entries, ra_count}
use Rattle.air_rules.specs.Rules.{IsAllowed, IsLegal, extended}
use Rattle.craft_view.specs.Kept.{IsActive}

pub active-is : (e : Parts) (own : ℕ) → IsActive e own → is_active (air_of e) own ≡ true
active-is e own a = go (slice_get e.crafts own) refl
  where
    go : (o : Option CraftSpec) → slice_get e.crafts own ≡ o → is_active (air_of e) own ≡ true
    go None f = absurd (let z : false ≡ true = rw f at a in cc)
    go (Some craft) f = rw f (rw f at a)

pub few-crafts : (e : Parts) → IsEncounter e → length e.crafts ≤ CRAFTS
few-crafts e is = let a : length e.crafts ≤ most_crafts e.version = is.crafts.few in let b : most_crafts e.version ≤ CRAFTS = cond_both (eqb e.version 1) 8 CRAFTS (λ n. n ≤ CRAFTS) (λ _. omega arith) (λ _. omega arith) in omega arith

pub below : (e : Parts) → IsEncounter e → (own : ℕ) → is_active (air_of e) own ≡ true → own < length e.crafts
below e is own a = (sound-of e is).counted own a

pub below-all : (e : Parts) → IsEncounter e → (own : ℕ) → is_active (air_of e) own ≡ true → own < CRAFTS
below-all e is own a = let f = below e is own a in let g = few-crafts e is in omega arith

pub count-few : (test : ℕ → Bool) (n : ℕ) → count_below test n ≤ n
count-few test zero = zero-le
count-few test (suc n) = let ih = count-few test n in cond_both (test n) (count_below test n + 1) (count_below test n) (λ k. k ≤ suc n) (λ _. omega arith) (λ _. omega arith)

pub most-few : (e : Parts) → IsEncounter e → most_entries (air_of e) ≤ 585600
most-few e is =
    let air = air_of e in
    let c : length e.crafts ≤ 16 = few-crafts e is in
    let k : e.cycles ≤ 600 = is.run.length.1 in
    let a : active_count air ≤ length e.crafts = count-few (is_active air) (length e.crafts) in
    let r : ra_count air ≤ length e.crafts = count-few _ (length e.crafts) in
    let a16 : active_count air ≤ 16 = omega arith in
    let r16 : ra_count air ≤ 16 = omega arith in
    let r15 : ra_count air - 1 ≤ 15 = omega arith in
    let one : e.cycles * active_count air ≤ 600 * 16 = mul-le-mul k a16 in
    let pairs : ra_count air * (ra_count air - 1) ≤ 16 * 15 = mul-le-mul r16 r15 in
    let two : e.cycles * (ra_count air * (ra_count air - 1)) ≤ 600 * (16 * 15) = mul-le-mul k pairs in
    omega arith

pub fits : (e : Parts) (K : List Entry) → IsEncounter e → IsLegal (air_of e) K → length K ≤ most_entries (air_of e)
fits e K is legal = bounded (air_of e) K (sound-of e is) legal

-- Before an entry that is allowed.
pub entry-fits : (e : Parts) (K : List Entry) (entry : Entry) → IsEncounter e → IsLegal (air_of e) K → IsAllowed (air_of e) K entry → length K + 1 ≤ most_entries (air_of e)
entry-fits e K entry is legal may = let f : length (entry ∷ K) ≤ most_entries (air_of e) = fits e (entry ∷ K) is (extended legal may) in omega arith

pub few-commits : (e : Parts) (K : List Entry) → IsEncounter e → IsLegal (air_of e) K → (i : ℕ) → commits K i ≤ 600
few-commits e K is legal i = let a : commits K i ≤ e.cycles = commits-within (air_of e) K legal i in let b : e.cycles ≤ 600 = is.run.length.1 in omega arith

-- An aircraft that isn't there makes no commits.
pub commits-past : (e : Parts) (K : List Entry) → IsEncounter e → IsLegal (air_of e) K → (i : ℕ) → length e.crafts ≤ i → commits K i ≡ 0
commits-past e [] is l i h = refl
commits-past e (kinds.Commit own cycle cells ∷ K) is l i h =
    let a = below e is own (allowed l).active in
    count-no (is_commit_of i) (kinds.Commit own cycle cells) K (ne_eqb own i (omega arith)) ∙ commits-past e K is (earlier l) i h
commits-past e (kinds.Send own target number word ∷ K) is l i h = commits-past e K is (earlier l) i h
commits-past e (kinds.Take own p c good ∷ K) is l i h = commits-past e K is (earlier l) i h

-- ---- addresses

pub apart : (xs : List CraftSpec) → AllPairs AreApart xs → (i j : ℕ) → i < length xs → j < length xs → i ≢ j → (a b : CraftSpec) → a ≡ get_or xs i a → b ≡ get_or xs j b → a.address ≢ b.address
apart xs all i j hi hj ne a b ea eb q = elim (cases_lt i j) [
  | inl lt ↦ all i j b lt hj same
  | inr ge ↦ all j i b (omega arith) hi (sym same)
]
  where
    same : (get_or xs i b).address ≡ (get_or xs j b).address
    same = ap (λ (c : CraftSpec). c.address) (sym (get_or_read xs i a hi ea b)) ∙ q ∙ ap (λ (c : CraftSpec). c.address) eb

pub rank-is : (e : Parts) (i j : ℕ) (a b : CraftSpec) → slice_get e.crafts i ≡ Some a → slice_get e.crafts j ≡ Some b → rank_by a.address b.address b.kind ≡ rank_of (air_of e) i j
rank-is e i j a b f g = ap₂ (λ (o p : Option CraftSpec). option_map_or (rank_by (option_map_or (λ (c : CraftSpec). c.address) o 0) (option_map_or (λ (c : CraftSpec). c.address) p 0)) (option_map (λ (c : CraftSpec). c.kind) p) Free) (sym f) (sym g)
