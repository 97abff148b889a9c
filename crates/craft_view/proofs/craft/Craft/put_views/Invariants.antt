use Rattle.std.proofs.Common.{◌≡◌, ℕ, ◌<◌, ◌≤◌, length, get_or}
use Rattle.std.specs.Option.{option_copied}
use Rattle.acas_base.specs.declared.TheConstants.{CRAFTS}
use Rattle.acas_base.specs.declared.view.View.{View}
use Rattle.craft_view.specs.Views.{SayNothingFrom, asks_for, shown, view_of}
use Rattle.craft_view.proofs.craft.Craft.put_views.Given as goal

abbrev pub invariant-loop-target : goal.invariant-loop-target
invariant-loop-target l = record {
  few : length l.encounter.crafts ≤ CRAFTS;
  size : length l.views ≡ CRAFTS;
  done : (k : ℕ) (d : View) → k < l.target → get_or l.views k d ≡ shown (asks_for (option_copied l.before) k) (view_of l.encounter l.self.own k l.self.cycle);
  rest : SayNothingFrom (length l.encounter.crafts) l.views;
}
