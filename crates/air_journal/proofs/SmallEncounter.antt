-- The small encounter is one.
use Rattle.std.proofs.Common.{ℕ, zero, suc, ◌≤◌, [], ◌∷◌, AllPairs, refl, arith}
use Rattle.std.specs.Int.Count.{ones}
use Rattle.std.proofs.lemmas.List.Elements.{All-cons, All-nil}
use Rattle.acas_base.specs.Encounter.{AreApart, AreCopies, IsCall, IsCopy, IsCraft, IsEncounter, IsFate, IsLeg, IsMiss, IsPair, IsPlan, plain_copy}
use Rattle.air_journal.specs.Pinned.{craft_at, damaged, fate, later, plan, small}

is-craft : (address : ℕ) → 1 ≤ address → address ≤ 16777214 → IsCraft (craft_at address)
is-craft address low high = record {
  address = (low, high);
  x = (omega arith, omega arith);
  y = (omega arith, omega arith);
  alt = (omega arith, omega arith);
  ceiling = tt;
}

no : (place copies : ℕ) → IsCopy place copies plain_copy
unfolding ones
no place copies = record { hold = omega arith; byte = omega arith; mask = omega arith; unused = λ _. refl }

one : AreCopies 1 later plain_copy plain_copy
unfolding ones
one = record { few = omega arith; first = record { hold = omega arith; byte = omega arith; mask = omega arith; unused = λ h. absurd (omega arith) }; second = no 1 1; third = no 2 1 }

two : AreCopies 2 plain_copy damaged plain_copy
unfolding ones
two = record { few = omega arith; first = no 0 2; second = record { hold = omega arith; byte = omega arith; mask = omega arith; unused = λ h. absurd (omega arith) }; third = no 2 2 }

pub is-encounter : IsEncounter small
is-encounter = record {
  run = record { format = (omega arith, omega arith); length = (omega arith, omega arith); terrain = (omega arith, omega arith) };
  range = (omega arith, omega arith);
  altitude = (omega arith, omega arith);
  crafts = record {
    some = omega arith;
    few = omega arith;
    ranges = All-cons IsCraft (craft_at 10) (craft_at 20 ∷ []) (is-craft 10 (omega arith) (omega arith)) (All-cons IsCraft (craft_at 20) [] (is-craft 20 (omega arith) (omega arith)) (All-nil IsCraft));
    addresses = apart;
    active = refl;
  };
  format = λ e. absurd (omega (arith, e));
  older = λ early. record { profile = refl; name = refl; clock = refl; calls = refl };
  labels = record {
    name = tt;
    clock = tt;
    calls = (All-nil (IsCall 2), λ k d h. absurd (omega arith));
    apart = λ i j d order h. absurd (omega arith);
  };
  records = record {
    legs = (All-nil (IsLeg 2), λ k d h. absurd (omega arith));
    misses = (All-nil (IsMiss 2), λ k d h. absurd (omega arith));
    plans = (All-cons (IsPlan 2) plan [] (record { pair = pair; copies = one }) (All-nil (IsPlan 2)), λ k d h. absurd (omega arith));
    fates = (All-cons (IsFate 2) fate [] (record { pair = pair; number = (omega arith, omega arith); copies = two }) (All-nil (IsFate 2)), λ k d h. absurd (omega arith));
  };
}
  where
    apart : AllPairs AreApart small.crafts
    apart zero zero d h k = absurd (omega arith)
    apart zero (suc zero) d h k = λ e. omega (arith, e)
    apart zero (suc (suc j)) d h k = absurd (omega arith)
    apart (suc i) j d h k = absurd (omega arith)

    pair : IsPair 2 0 1
    pair = record { first = omega arith; second = omega arith; apart = λ e. omega (arith, e) }
