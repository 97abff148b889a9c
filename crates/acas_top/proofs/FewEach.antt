-- What is counted of an encounter fits, also in sums over many.
use Rattle.std.proofs.Common.{ℕ, ◌≡◌, ◌*◌, ◌^◌, ◌<◌, ◌≤◌, List, [], ◌∷◌, length, ap, arith}
use Rattle.std.specs.List.{All, AllZip}
use Rattle.std.proofs.Math.Nat.{le_refl, le_trans, mul-le-mul}
use Rattle.std.proofs.lemmas.List.Elements.{All-cons, All-nil}
use Rattle.std.proofs.lemmas.List.Sums.{count_by-le-length, sum_by-le}
use Rattle.std.proofs.lemmas.Slice.Zip.{AllZip-long}
use Rattle.acas_base.specs.Encounter.{IsEncounter, Parts}
use Rattle.acas_base.specs.Ranges.{IsCycle}
use Rattle.acas_base.specs.declared.TheConstants.{CRAFTS}
use Rattle.acas_top.specs.Counted.{AreSerial}
use Rattle.acas_top.specs.Sweeping.{HasCounted, Sizes}
use Rattle.air_journal.proofs.Bounds.{most-few}
use Rattle.air_journal.proofs.Soundness.{sound-of}
use Rattle.air_journal.specs.Airs.{air_of}
use Rattle.air_rules.proofs.InOrder.{in-order-legal}
use Rattle.air_rules.proofs.Longest.{bounded}
use Rattle.enc_gen.proofs.Parts.{made-valid}
use Rattle.enc_gen.specs.Generated.{generated}
use Rattle.rec_text.proofs.Reporting.{few-lines}
use Rattle.rec_text.specs.EntryCounts.{is_commit, is_send, is_take}
use Rattle.sweep.specs.Totals.{Fit, total}
use Rattle.sweep.specs.declared.counts.Counts.{Counts}

-- No count is above what any run has.
record AreFew (counts : Counts) : Type 0 where
  pub commits : counts.commits ≤ 585600
  pub sends : counts.sends ≤ 585600
  pub takes : counts.takes ≤ 585600
  pub lines : counts.lines ≤ 585600

few : (most count entries same : ℕ) → count ≤ entries → entries ≤ most → same ≡ count → same ≤ most
few most count entries same below within is = omega arith

serial-few : (e : Parts) → IsEncounter e → (counts : Counts) → AreSerial e counts → AreFew counts
serial-few e is counts s =
    let sound = sound-of e is in
    let legal = in-order-legal (air_of e) s.journal sound s.serial.in_order in
    let entries : length s.journal ≤ 585600 = le_trans (bounded (air_of e) s.journal sound legal) (most-few e is) in
    record {
      commits = few 585600 _ _ _ (count_by-le-length is_commit s.journal) entries (ap (λ (x : Counts). x.commits) s.counts_are);
      sends = few 585600 _ _ _ (count_by-le-length is_send s.journal) entries (ap (λ (x : Counts). x.sends) s.counts_are);
      takes = few 585600 _ _ _ (count_by-le-length is_take s.journal) entries (ap (λ (x : Counts). x.takes) s.counts_are);
      lines = few 585600 _ _ _ (few-lines e s.journal is) (omega arith) (ap (λ (x : Counts). x.lines) s.counts_are);
    }

all-few : (sizes : Sizes) → 1 ≤ sizes.crafts → sizes.crafts ≤ CRAFTS → IsCycle sizes.cycles → (row : List ℕ) (list : List Counts) → AllZip (HasCounted sizes) row list → All AreFew list
all-few sizes some few cycles [] [] h = All-nil AreFew
all-few sizes some few cycles [] (counts ∷ list) h = absurd h
all-few sizes some few cycles (number ∷ row) [] h = absurd h
all-few sizes some few cycles (number ∷ row) (counts ∷ list) h =
    All-cons AreFew counts list (serial-few (generated sizes.profile number sizes.crafts sizes.cycles) (made-valid sizes.profile number sizes.crafts sizes.cycles some few cycles) counts h.0) (all-few sizes some few cycles row list h.1)

fits : (sum length : ℕ) → sum ≤ length * 585600 → length * 585600 ≤ 4096 * 585600 → sum < 2 ^ 32
fits sum length below within = omega arith

-- The sums over a sweep.
pub total-fits : (sizes : Sizes) → 1 ≤ sizes.crafts → sizes.crafts ≤ CRAFTS → IsCycle sizes.cycles → (row : List ℕ) (list : List Counts) → length row ≤ 4096 → AllZip (HasCounted sizes) row list → Fit (total list)
total-fits sizes some few cycles row list short h =
    let all = all-few sizes some few cycles row list h in
    let long : length list ≤ 4096 = (let same = AllZip-long (HasCounted sizes) row list h in omega arith) in
    let most : length list * 585600 ≤ 4096 * 585600 = mul-le-mul long (le_refl 585600) in (
      fits _ _ (sum_by-le (λ (x : Counts). x.commits) 585600 list (λ k d lt. (all k d lt).commits)) most,
      fits _ _ (sum_by-le (λ (x : Counts). x.sends) 585600 list (λ k d lt. (all k d lt).sends)) most,
      fits _ _ (sum_by-le (λ (x : Counts). x.takes) 585600 list (λ k d lt. (all k d lt).takes)) most,
      fits _ _ (sum_by-le (λ (x : Counts). x.lines) 585600 list (λ k d lt. (all k d lt).lines)) most,
    )
