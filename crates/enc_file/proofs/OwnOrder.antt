-- The lists of an encounter: each record comes after those before it, and the lists are their own lists by groups.
use Rattle.std.proofs.Common.{◌≡◌, ℕ, ◌<◌, ◌≤◌, Bool, true, List}
use Rattle.std.proofs.lemmas.List.Elements.{recursion_from_All}
use Rattle.acas_base.specs.Encounter.{AreListed}
use Rattle.enc_file.specs.Earlier.{by_group}
use Rattle.enc_file.proofs.Orders.{IsOrder}
use Rattle.enc_file.proofs.OwnGroups.{own-groups}
use Rattle.enc_file.proofs.Pairwise.{Pairs, all-weaken, pairs-weaken, rising-all}

-- Each record comes after those before it, and the list is its own list by groups.
pub record IsInOrder {X : Type 0} (group : X → ℕ) (groups : ℕ) (below : X → X → Bool) (xs : List X) : Type 0 where
  pub later : Pairs (λ a b. below a b ≡ true) xs
  pub own : by_group group groups xs ≡ xs

pub in-order : {X : Type 0} (Fits : ℕ → X → Type 0) (group : X → ℕ) (groups : ℕ) (below : X → X → Bool) (count : ℕ) → IsOrder (Fits count) group groups below
    → (xs : List X) → AreListed Fits below count xs → IsInOrder group groups below xs
in-order Fits group groups below count order xs h =
    let all = recursion_from_All (Fits count) xs h.0 in
    let rising = rising-all below (Fits count) order.trans xs all h.1 in
    record {
      later = rising;
      own = own-groups group groups xs (all-weaken (Fits count) (λ a. group a < groups) order.few xs all)
          (pairs-weaken (Fits count) (λ a b. below a b ≡ true) (λ a b. group a ≤ group b) order.rises xs all rising);
    }
