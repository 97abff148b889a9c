-- What holds of each loss of a run, and how many there are.
use Rattle.std.proofs.Common.{◌≡◌, ℕ, ◌+◌, ◌-◌, ◌*◌, ◌<◌, ◌≤◌, List, [], ◌∷◌, length, length-append, get_or, sym, ap, subst, arith, zero-le}
use Rattle.std.specs.Prelude.{All, filter, flat_map}
use Rattle.std.specs.List.{range_with_len}
use Rattle.std.proofs.lemmas.List.{length-map}
use Rattle.std.proofs.lemmas.List.Elements.{All-append, All-filter, All-head, All-map, All-nil, All-tail}
use Rattle.std.proofs.lemmas.List.FromFn.{get_or-range_with_len, length-range_with_len}
use Rattle.std.proofs.lemmas.List.Sums.{count_by-le-length, length-filter}
use Rattle.std.proofs.Math.Nat.{mul-le-mul}
use Rattle.acas_base.specs.Encounter.{IsEncounter, Parts}
use Rattle.acas_base.specs.declared.entry.Entry.{Entry}
use Rattle.air_journal.proofs.Bounds.{few-crafts}
use Rattle.air_journal.specs.Airs.{air_of}
use Rattle.air_rules.specs.Journal.{sends}
use Rattle.air_rules.specs.Rules.{IsLegal}
use Rattle.run_losses.proofs.Noting.{sends-few-by}
use Rattle.run_losses.specs.Laws.{IsOfRun}
use Rattle.run_losses.specs.Losses.{front_loss, fronts_of, has_copy, losses_of, of_links, one_loss, singles_of}
use Rattle.variants.specs.Variants.{IsSmall}
use Rattle.variants.specs.declared.change.Change.{Change}
use Rattle.variants.specs.declared.change.Change.TheVariants.{Exchanged, Lost, Shifted}

-- ---- what holds of each

all-range : (P : ℕ → Type 0) (a n : ℕ) → ((k : ℕ) → a ≤ k → k < a + n → P k) → All P (range_with_len a n)
all-range P a n each k d within =
    let small : k < n = (let size = length-range_with_len a n in omega arith) in
    subst P (sym (get_or-range_with_len a n k d small)) (each (a + k) (omega arith) (omega arith))

all-flat : (P : Change → Type 0) (f : ℕ → List Change) (xs : List ℕ) → All (λ x. All P (f x)) xs → All P (flat_map f xs)
all-flat P f [] each = All-nil P
all-flat P f (x ∷ xs) each = All-append P (f x) (flat_map f xs) (All-head (λ y. All P (f y)) x xs each) (all-flat P f xs (All-tail (λ y. All P (f y)) x xs each))

all-links : (P : Change → Type 0) (count : ℕ) (losses : ℕ → ℕ → List Change) → ((s r : ℕ) → s < count → r < count → All P (losses s r)) → All P (of_links count losses)
all-links P count losses each =
    all-flat P (λ s. flat_map (losses s) (range_with_len 0 count)) (range_with_len 0 count)
    (all-range (λ s. All P (flat_map (losses s) (range_with_len 0 count))) 0 count (λ s low high.
    all-flat P (losses s) (range_with_len 0 count) (all-range (λ r. All P (losses s r)) 0 count (λ r low2 high2. each s r (omega arith) (omega arith)))))

singles-of-run : (e : Parts) (J : List Entry) (s r : ℕ) → s < length e.crafts → r < length e.crafts → All (IsOfRun e J) (singles_of e J s r)
singles-of-run e J s r hs hr =
    let numbers = range_with_len 1 (sends J s r) in
    All-map (IsOfRun e J) (one_loss s r) (filter (has_copy e s r) numbers)
    (All-filter (has_copy e s r) (λ n. IsOfRun e J (one_loss s r n)) numbers
    (all-range (λ n. IsOfRun e J (one_loss s r n)) 1 (sends J s r) (λ n low high. record { sender = hs; receiver = hr; first = low; order = omega arith; last = omega arith })))

fronts-of-run : (e : Parts) (J : List Entry) (s r : ℕ) → s < length e.crafts → r < length e.crafts → All (IsOfRun e J) (fronts_of J s r)
fronts-of-run e J s r hs hr =
    All-map (IsOfRun e J) (front_loss s r) (range_with_len 2 (sends J s r - 1))
    (all-range (λ n. IsOfRun e J (front_loss s r n)) 2 (sends J s r - 1) (λ n low high. record { sender = hs; receiver = hr; first = omega arith; order = omega arith; last = omega arith }))

pub all-of-run : (e : Parts) (J : List Entry) → All (IsOfRun e J) (losses_of e J)
all-of-run e J =
    let count = length e.crafts in
    All-append (IsOfRun e J) (of_links count (singles_of e J)) (of_links count (fronts_of J)) (all-links (IsOfRun e J) count (singles_of e J) (singles-of-run e J)) (all-links (IsOfRun e J) count (fronts_of J) (fronts-of-run e J))

small-one : (e : Parts) (J : List Entry) (change : Change) → IsOfRun e J change → IsSmall change
small-one e J (Shifted shift) is = absurd is
small-one e J (Lost loss) is = tt
small-one e J (Exchanged pair) is = absurd is

pub all-small : (e : Parts) (J : List Entry) → All IsSmall (losses_of e J)
all-small e J k d within = small-one e J (get_or (losses_of e J) k d) (all-of-run e J k d within)

-- ---- how many there are

few-flat : (f : ℕ → List Change) (most : ℕ) (xs : List ℕ) → ((x : ℕ) → length (f x) ≤ most) → length (flat_map f xs) ≤ length xs * most
few-flat f most [] each = zero-le
few-flat f most (x ∷ xs) each =
    let both = length-append (f x) (flat_map f xs) in
    let one = each x in
    let rest = few-flat f most xs each in
    let times : length (x ∷ xs) * most ≡ most + length xs * most = omega arith in
    omega arith

few-range : (f : ℕ → List Change) (most count : ℕ) → count ≤ 16 → ((x : ℕ) → length (f x) ≤ most) → length (flat_map f (range_with_len 0 count)) ≤ 16 * most
few-range f most count few each =
    let all = few-flat f most (range_with_len 0 count) each in
    let size = length-range_with_len 0 count in
    let same : length (range_with_len 0 count) * most ≡ count * most = ap (λ (n : ℕ). n * most) size in
    let up : count * most ≤ 16 * most = mul-le-mul few (omega arith) in
    omega arith

few-links : (losses : ℕ → ℕ → List Change) (count : ℕ) → count ≤ 16 → ((s r : ℕ) → length (losses s r) ≤ 600) → length (of_links count losses) ≤ 153600
few-links losses count few each = few-range (λ s. flat_map (losses s) (range_with_len 0 count)) 9600 count few (λ s. few-range (losses s) 600 count few (each s))

pub all-few : (e : Parts) (J : List Entry) → IsEncounter e → IsLegal (air_of e) J → length (losses_of e J) ≤ 307200
all-few e J valid legal =
    let count = length e.crafts in
    let few : count ≤ 16 = few-crafts e valid in
    let singles = few-links (singles_of e J) count few single in
    let fronts = few-links (fronts_of J) count few front in
    let both = length-append (of_links count (singles_of e J)) (of_links count (fronts_of J)) in
    omega arith
  where
    single : (s r : ℕ) → length (singles_of e J s r) ≤ 600
    single s r =
        let sent = sends-few-by e J valid legal s r in
        let numbers = range_with_len 1 (sends J s r) in
        let mapped = length-map (filter (has_copy e s r) numbers) (one_loss s r) in
        let kept = length-filter (has_copy e s r) numbers in
        let most = count_by-le-length (has_copy e s r) numbers in
        let size = length-range_with_len 1 (sends J s r) in
        omega arith

    front : (s r : ℕ) → length (fronts_of J s r) ≤ 600
    front s r =
        let sent = sends-few-by e J valid legal s r in
        let mapped = length-map (range_with_len 2 (sends J s r - 1)) (front_loss s r) in
        let size = length-range_with_len 2 (sends J s r - 1) in
        omega arith
