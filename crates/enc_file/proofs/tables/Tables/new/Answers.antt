use Rattle.std.proofs.Common.{◌*◌, ◌∙◌, refl}
use Rattle.acas_base.specs.declared.TheConstants.{CRAFTS}
use Rattle.enc_file.specs.Earlier.{fate_group, leg_group, miss_group, plan_group}
use Rattle.enc_file.proofs.Grouped.{groups-none}
use Rattle.enc_file.proofs.tables.Tables.new.Goals as goal

pub returns : goal.returns
returns c = record {
  read = tt;
  count = refl;
  version = refl;
  heading = refl;
  run = refl;
  gains = refl;
  crafts = c.new.ensures.items;
  calls = c.new-2.ensures.items;
  legs = c.in_ok-new.ensures ∙ groups-none leg_group CRAFTS;
  misses = c.in_ok-new-2.ensures ∙ groups-none miss_group (CRAFTS * CRAFTS);
  plans = c.in_ok-new-3.ensures ∙ groups-none plan_group (CRAFTS * CRAFTS);
  fates = c.in_ok-new-4.ensures ∙ groups-none fate_group (CRAFTS * CRAFTS);
  made = refl;
}
