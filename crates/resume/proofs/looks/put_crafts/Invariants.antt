use Rattle.std.proofs.Common.{◌≡◌, ℕ, ◌<◌, ◌≤◌, None, get_or, length}
use Rattle.acas_base.specs.declared.TheConstants.{CRAFTS}
use Rattle.air_rules.specs.Journal.{commits}
use Rattle.resume.proofs.looks.put_crafts.Given as goal
use Rattle.craft_view.specs.Looking.{IsReady}

abbrev pub invariant-loop-own : goal.invariant-loop-own
invariant-loop-own l = record {
  size : length l.surveillance.crafts ≡ CRAFTS;
  done : (k : ℕ) → k < l.own → IsReady l.enc k (commits l.state.journal k) (get_or l.surveillance.crafts k None);
  rest : (k : ℕ) → l.own ≤ k → k < CRAFTS → get_or l.surveillance.crafts k None ≡ None;
}
