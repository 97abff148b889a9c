-- A legal journal is complete or goes on.
use Rattle.std.proofs.Common.{◌≡◌, ◌⊎◌, ℕ, ◌+◌, ◌≤◌, true, List, is_some, refl, arith, inl, inr}
use Rattle.std.proofs.lemmas.Bool.{cases_lt}
use Rattle.acas_base.specs.declared.entry.Entry.{Entry}
use Rattle.air_rules.proofs.Waiting.{FirstDueTo, FirstOwing, commits-within, first-due-to, first-owing, owed-within, slowest}
use Rattle.air_rules.specs.Air.{Air, IsSound, is_active}
use Rattle.air_rules.specs.Due.{NobodyIsDue}
use Rattle.air_rules.specs.Journal.{commits, sends, sent_at}
use Rattle.air_rules.specs.Onward.{IsNeverStuck, by_commit, by_send, by_take}
use Rattle.air_rules.specs.Owed.{NobodyOwes}
use Rattle.air_rules.specs.Rules.{IsLegal, cells_for}
use Rattle.air_rules.specs.Serial.{IsSlowest}
use Rattle.air_rules.specs.Takes.{read_copy}

pub never-stuck : (air : Air) (J : List Entry) → IsSound air → IsLegal air J → IsNeverStuck air J
never-stuck air J sound l = at_sends (first-owing air sound J)
  where
    at_commits : NobodyOwes air J → NobodyIsDue air J → ((k : ℕ) × IsSlowest air J k) ⊎ ((i : ℕ) → is_active air i ≡ true → ⊥) → IsNeverStuck air J
    at_commits owes due (inr none) = inl (λ i a. absurd (none i a))
    at_commits owes due (inl (k, slow)) = elim (cases_lt (commits J k) air.cycles) [
      | inl h ↦ inr (by_commit owes due k (commits J k + 1) (cells_for air J k) (record {
        active = slow.active;
        cycle_is = refl;
        in_run = omega arith;
        owes_nothing = owes k;
        nothing_due = due k slow.active;
        not_ahead = slow.fewest;
        cells_are = refl;
      }))
      | inr h ↦ inl (λ i ai.
          let up : commits J i ≤ air.cycles = commits-within air J l i in
          let down : commits J k ≤ commits J i = slow.fewest i ai in
          record { all_cycles = omega arith; owes_nothing = owes i })
    ]

    at_takes : NobodyOwes air J → ((i : ℕ) × FirstDueTo air J i) ⊎ NobodyIsDue air J → IsNeverStuck air J
    at_takes owes (inl (k, f)) =
        let d = f.holds.due in
        inr (by_take owes k d.send d.copy (is_some (read_copy air (sent_at J d.send) d.copy)) (record { active = f.holds.active; due = d.first.due; good_is = refl }))
    at_takes owes (inr none) = at_commits owes none (slowest air sound J)

    at_sends : ((i : ℕ) × FirstOwing air J i) ⊎ NobodyOwes air J → IsNeverStuck air J
    at_sends (inl (k, f)) =
        let o = f.holds in
        inr (by_send k o.target (sends J k o.target + 1) (air.word o.message) (record {
          active = (owed-within air sound J k o.target o.message o.first.owes).active;
          message = o.message;
          first_owed = o.first;
          number_is = refl;
          word_is = refl;
        }))
    at_sends (inr none) = at_takes none (first-due-to air sound J)
