-- The air of an encounter.
use Rattle.std.specs.Prelude.{ℕ, List, Option, length, option_map, slice_get}
use Rattle.acas_base.specs.Encounter.{Parts}
use Rattle.acas_base.specs.Fates.{copies_of, fate_of}
use Rattle.acas_base.specs.declared.TheConstants.{CRAFTS}
use Rattle.acas_base.specs.declared.craft.CraftSpec.{CraftSpec}
use Rattle.acas_base.specs.declared.craft.Kind.{Kind}
use Rattle.acas_base.specs.declared.link.CopyPlan.{CopyPlan}
use Rattle.air_rules.specs.Air.{Air}
pub use Rattle.craft_view.specs.Sight.{address_of}
use Rattle.craft_view.specs.Views.{view_of}
use Rattle.res_message.specs.Words.{flip_word, read_word, word_of}

-- The kind of the aircraft at an index, where there is one.
abbrev pub kind_of : Parts → ℕ → Option Kind
kind_of e own = option_map (λ (craft : CraftSpec). craft.kind) (slice_get e.crafts own)

-- The plans of the copies of a message.
abbrev pub plans_of : Parts → ℕ → ℕ → ℕ → List CopyPlan
plans_of e sender receiver number = copies_of (fate_of e sender receiver number)

-- The air of an encounter: its aircraft and cycles, what becomes of each message, what each aircraft sees of each
-- other one, and the words of messages.
abbrev pub air_of : Parts → Air
air_of e = record {
  count = length e.crafts;
  places = CRAFTS;
  cycles = e.cycles;
  kind = kind_of e;
  address = address_of e;
  copies = plans_of e;
  view = view_of e;
  word = word_of;
  read = read_word;
  flip = flip_word;
}
