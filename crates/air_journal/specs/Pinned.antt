-- What an air is by itself, and the air of a small encounter.
use Rattle.std.specs.Prelude.{◌≡◌, ℕ, pos, [], ◌∷◌, length, None, option_map, slice_get}
use Rattle.std.specs.Option.{option_map_or}
use Rattle.acas_base.specs.Encounter.{IsEncounter, Parts, plain_copy}
use Rattle.acas_base.specs.declared.TheConstants.{CRAFTS}
use Rattle.acas_base.specs.declared.craft.CraftSpec.{CraftSpec}
use Rattle.acas_base.specs.declared.craft.Kind.TheVariants as kinds
use Rattle.acas_base.specs.declared.link.CopyPlan.{CopyPlan}
use Rattle.acas_base.specs.declared.link.Fate.{Fate}
use Rattle.acas_base.specs.declared.link.LinkPlan.{LinkPlan}
use Rattle.acas_base.specs.declared.setting.Profile.TheVariants.{One}
use Rattle.air_journal.specs.Airs.{air_of}
use Rattle.air_rules.specs.Air.{Air}
use Rattle.craft_view.specs.Views.{view_of}
use Rattle.res_message.specs.Words.{flip_word, read_word, word_of}

-- As many aircraft and cycles as the encounter has, and a cell for each aircraft that there can be; the kind and the
-- address of each aircraft; the view of each other one in each cycle; and the words of messages.
pub record IsAirOf (e : Parts) (air : Air) : Type 0 where
  pub count : air.count ≡ length e.crafts
  pub places : air.places ≡ CRAFTS
  pub cycles : air.cycles ≡ e.cycles
  pub kind : (own : ℕ) → air.kind own ≡ option_map (λ (craft : CraftSpec). craft.kind) (slice_get e.crafts own)
  pub address : (own : ℕ) → air.address own ≡ option_map_or (λ (craft : CraftSpec). craft.address) (slice_get e.crafts own) 0
  pub view : (own other cycle : ℕ) → air.view own other cycle ≡ view_of e own other cycle
  pub word : air.word ≡ word_of
  pub read : air.read ≡ read_word
  pub flip : air.flip ≡ flip_word

-- A small encounter. The messages of the first aircraft to the second one are held for a commit, but the second of them
-- comes twice, the first time at once and the second time damaged.
abbrev pub craft_at : ℕ → CraftSpec
craft_at address = record { address = address; kind = kinds.Ra; x = pos 0; y = pos 0; alt = pos 8000; ceiling = None }

abbrev pub later : CopyPlan
later = record { hold = 1; mask = 0 }

abbrev pub damaged : CopyPlan
damaged = record { hold = 0; mask = 7 }

abbrev pub plan : LinkPlan
plan = record { sender = 0; receiver = 1; copies = 1; first = later; second = plain_copy; third = plain_copy }

abbrev pub fate : Fate
fate = record { sender = 0; receiver = 1; number = 2; copies = 2; first = plain_copy; second = damaged; third = plain_copy }

abbrev pub small : Parts
small = record {
  version = 2;
  profile = One;
  cycles = 3;
  elevation = pos 0;
  range = record { alpha = 683; beta = 200 };
  altitude = record { alpha = 600; beta = 256 };
  name = None;
  clock = None;
  calls = [];
  crafts = craft_at 10 ∷ craft_at 20 ∷ [];
  legs = [];
  misses = [];
  plans = plan ∷ [];
  fates = fate ∷ [];
}

-- What becomes of the messages in both directions: of the second one by its own record, of those before and after it by
-- the link's plan, and of those of the other aircraft by neither.
pub record HasSmallCopies : Type 0 where
  pub encounter : IsEncounter small
  pub before : (air_of small).copies 0 1 1 ≡ later ∷ []
  pub own : (air_of small).copies 0 1 2 ≡ plain_copy ∷ damaged ∷ []
  pub after : (air_of small).copies 0 1 3 ≡ later ∷ []
  pub back_before : (air_of small).copies 1 0 1 ≡ plain_copy ∷ []
  pub back : (air_of small).copies 1 0 2 ≡ plain_copy ∷ []
  pub back_after : (air_of small).copies 1 0 3 ≡ plain_copy ∷ []
