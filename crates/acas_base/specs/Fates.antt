-- What happens to a message: its copies.
use Rattle.std.specs.Prelude.{ℕ, ◌==◌, ◌&&◌, Bool, List, [], ◌∷◌, take, find, unwrap_or}
use Rattle.std.specs.Option.{option_map_or}
use Rattle.acas_base.specs.Encounter.{Parts, plain_copy}
use Rattle.acas_base.specs.declared.link.CopyPlan.{CopyPlan}
use Rattle.acas_base.specs.declared.link.Fate.{Fate}
use Rattle.acas_base.specs.declared.link.LinkPlan.{LinkPlan}

abbrev pub is_fate_of : ℕ → ℕ → ℕ → Fate → Bool
is_fate_of sender receiver number fate = fate.sender == sender && (fate.receiver == receiver && fate.number == number)

abbrev pub is_plan_of : ℕ → ℕ → LinkPlan → Bool
is_plan_of sender receiver plan = plan.sender == sender && plan.receiver == receiver

-- A link's plan, as the fate of one of its messages.
abbrev pub fate_by : ℕ → LinkPlan → Fate
fate_by number plan = record {
  sender = plan.sender;
  receiver = plan.receiver;
  number = number;
  copies = plan.copies;
  first = plan.first;
  second = plan.second;
  third = plan.third;
}

-- The one plain copy, which is neither held back nor damaged.
abbrev pub plain_fate : ℕ → ℕ → ℕ → Fate
plain_fate sender receiver number = record {
  sender = sender;
  receiver = receiver;
  number = number;
  copies = 1;
  first = plain_copy;
  second = plain_copy;
  third = plain_copy;
}

-- The fate of a message that has no record of its own.
abbrev pub usual_fate : Parts → ℕ → ℕ → ℕ → Fate
usual_fate e sender receiver number = option_map_or (fate_by number) (find (is_plan_of sender receiver) e.plans) (plain_fate sender receiver number)

-- The fate of a message: its record, else its link's plan, else the one plain copy.
abbrev pub fate_of : Parts → ℕ → ℕ → ℕ → Fate
fate_of e sender receiver number = unwrap_or (find (is_fate_of sender receiver number) e.fates) (usual_fate e sender receiver number)

-- The plans of the copies of a fate, in order.
abbrev pub copies_of : Fate → List CopyPlan
copies_of fate = take fate.copies (fate.first ∷ fate.second ∷ fate.third ∷ [])
