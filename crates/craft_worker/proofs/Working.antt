-- How a worker goes on.
use Rattle.std.proofs.Common.{◌≡◌, ◌+◌, ◌<◌, ◌≤◌, Bool, refl, sym, ap, ◌∙◌, subst, arith}
use Rattle.acas_base.specs.Encounter.{Parts}
use Rattle.air_journal.specs.Airs.{air_of}
use Rattle.air_rules.specs.Journal.{commits}
use Rattle.air_rules.specs.Owed.{OwesNothing}
use Rattle.air_rules.specs.Rules.{IsLegal}
use Rattle.air_turn.specs.Seats.{IsSameSeat, SeatState, SharedAir}
use Rattle.craft_view.specs.Views.{picture_of}
use Rattle.craft_worker.specs.Workers.{HasCommitted, HasPlayed, IsReady, IsWorkerOf, MakesNoCommit}
use Rattle.craft_worker.specs.declared.worker.Worker.{Worker}

pub same-self : (s : SeatState) → IsSameSeat s s
same-self s = record { table = refl; own = refl; encounter = refl }

pub same-on : {s t u : SeatState} → IsSameSeat s t → IsSameSeat t u → IsSameSeat s u
same-on a b = record { table = b.table ∙ a.table; own = b.own ∙ a.own; encounter = b.encounter ∙ a.encounter }

module _ (air : SharedAir) (e : Parts) where
  -- The worker with the seat as a call left it.
  abbrev pub seated : Worker → SeatState → Worker
  seated w t = record w { seat = t }

  pub still-of : (w : Worker) (t : SeatState) → IsWorkerOf air e w → IsSameSeat w.seat t → IsWorkerOf air e (seated w t)
  still-of w t is same = record { seat = record { table = same.table ∙ is.seat.table; encounter = same.encounter ∙ is.seat.encounter }; encounter = same.encounter ∙ is.encounter; belongs = is.belongs; own = is.own ∙ sym same.own }

  pub ready-after : (w : Worker) (t : SeatState) → IsReady air e w → IsSameSeat w.seat t → commits t.front t.own ≡ commits w.seat.front w.seat.own → IsReady air e (seated w t)
  ready-after w t ready same count = record {
    is = still-of w t ready.is same;
    made = ready.made ∙ sym count;
    in_run = ready.in_run;
    looked = λ left. let seen = ready.looked left in record { cycle = seen.cycle; picture = subst (λ own. w.picture ≡ picture_of e own (w.made + 1)) (sym same.own) seen.picture };
  }

  pub goes-self : (w : Worker) → IsReady air e w → MakesNoCommit air e w w
  goes-self w ready = record { goes_on = record { same = same-self w.seat; ready = ready; done = refl }; made = refl }

  -- A call that made no commit.
  pub goes-after : (first w : Worker) (t : SeatState) → MakesNoCommit air e first w → IsSameSeat w.seat t → commits t.front t.own ≡ commits w.seat.front w.seat.own → MakesNoCommit air e first (seated w t)
  goes-after first w t goes same count = record {
    goes_on = record { same = same-on goes.goes_on.same same; ready = ready-after w t goes.goes_on.ready same count; done = goes.goes_on.done };
    made = goes.made;
  }

  -- What is noted of being done doesn't matter.
  pub ready-noted : (w : Worker) (noted : Bool) → IsReady air e w → IsReady air e (record w { done = noted })
  ready-noted w noted ready = record {
    is = record { seat = ready.is.seat; encounter = ready.is.encounter; belongs = ready.is.belongs; own = ready.is.own };
    made = ready.made;
    in_run = ready.in_run;
    looked = λ left. let seen = ready.looked left in record { cycle = seen.cycle; picture = seen.picture };
  }

  -- Who has made all commits and owes nothing has played.
  pub played-now : (w : Worker) → IsReady air e w → e.cycles ≤ w.made → OwesNothing (air_of e) w.seat.front w.seat.own → IsLegal (air_of w.seat.encounter) w.seat.front → HasPlayed w.seat
  played-now w ready over owes legal =
      let cycles : commits w.seat.front w.seat.own ≡ e.cycles = sym ready.made ∙ all_made ready.in_run over in
      let Q : Parts → Type 0 = λ z. (commits w.seat.front w.seat.own ≡ z.cycles) × OwesNothing (air_of z) w.seat.front w.seat.own in
      let there = subst Q (sym ready.is.encounter) (cycles, owes) in
      record { legal = legal; done = record { all_cycles = there.0; owes_nothing = there.1 } }
    where
      all_made : w.made ≤ e.cycles → e.cycles ≤ w.made → w.made ≡ e.cycles
      all_made a b = omega arith

  -- A commit that was made.
  pub committed-after : (w : Worker) (t : SeatState) → IsReady air e w → w.made < e.cycles → IsSameSeat w.seat t → commits t.front t.own ≡ commits w.seat.front w.seat.own + 1 → HasCommitted air e (seated w t)
  committed-after w t ready left same count = record {
    is = still-of w t ready.is same;
    made = ap (λ n. n + 1) ready.made ∙ sym count;
    left = left;
    cycle = (ready.looked left).cycle;
  }
