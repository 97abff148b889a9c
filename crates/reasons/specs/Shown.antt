-- What a line tells of what own aircraft saw. Lengths and rates of tracks and separations are in tenths, rounded down.
use Rattle.std.specs.Prelude.{Bool, ◌&&◌, if◌then◌else◌, ◌/◌, ◌-ℤ◌, unsigned_abs, Option, Some, None, option_map}
use Rattle.acas_base.specs.Choice.{choice_after, chosen_sense, has_alim, least_strength, separation_of, strongest}
use Rattle.acas_base.specs.Senses.{other_sense}
use Rattle.acas_base.specs.Strengths.{is_fresh}
use Rattle.acas_base.specs.declared.advisory.Cell.{Cell}
use Rattle.acas_base.specs.declared.advisory.Cell.TheVariants.{Clear, Traffic, Ra}
use Rattle.acas_base.specs.declared.advisory.Intent.{Intent}
use Rattle.acas_base.specs.declared.advisory.Sense.{Sense}
use Rattle.acas_base.specs.declared.advisory.Sense.TheVariants.{Up, Down}
use Rattle.acas_base.specs.declared.choice.Choice.TheVariants.{Fresh, Steady, Urgent}
use Rattle.acas_base.specs.declared.view.View.{View}
use Rattle.craft_view.specs.declared.motion.Motion.{Motion}
use Rattle.craft_view.specs.declared.own.OwnAircraft.{OwnAircraft}
use Rattle.reasons.specs.Fields.{tenths_a_minute_of, tenths_of}
use Rattle.reasons.specs.declared.seen.Seen.{Seen}
use Rattle.reasons.specs.declared.shown.Best.{Best}
use Rattle.reasons.specs.declared.shown.Continued.{Continued}
use Rattle.reasons.specs.declared.shown.Projected.{Projected}
use Rattle.reasons.specs.declared.shown.Shown.{Shown}
use Rattle.reasons.specs.declared.shown.Tested.{Tested}
use Rattle.test_seconds.specs.Pair.{pair_seconds}

-- ---- where the pair is tested

-- What is tracked, and what is tested with the thresholds of own aircraft.
unfoldable pub tested_of : OwnAircraft → View → Motion → Tested
tested_of own view m = record {
  range = tenths_of m.range.est;
  range_rate = tenths_of m.range.rate;
  height = tenths_of (m.target.est -ℤ m.own.est);
  height_rate = tenths_a_minute_of (m.target.rate -ℤ m.own.rate);
  own_rate = tenths_a_minute_of m.own.rate;
  ta = (pair_seconds own m).ta;
  ra = (pair_seconds own m).ra;
  traffic = view.traffic;
  threat = view.threat;
}

-- ---- where the pair is tested and own aircraft resolves

-- Lines tell of the choice of a sense and a strength in this case alone.
abbrev pub is_projected : View → Bool
is_projected view = view.tested && view.resolves

-- The strongest allowed strength of a fresh choice, and what it gives.
unfoldable pub best_of : View → Sense → Best
best_of view sense = record { strength = strongest view sense Fresh; separation = tenths_of (separation_of view sense (strongest view sense Fresh) Fresh) }

-- What the senses would give, and the sense that a new choice has.
unfoldable pub projected_of : View → Projected
projected_of view = record {
  halves = view.halves;
  alim = unsigned_abs view.alim / 1024;
  side = view.side;
  up = best_of view Up;
  down = best_of view Down;
  chosen = chosen_sense view;
}

-- What an advisory may go on with: whether the choice of its strength is fresh, the least strength of that choice and
-- what it gives; what the strongest allowed strengths give with the later response, in its sense and, freshly chosen,
-- in the other one; and whether its sense has ALIM already.
unfoldable pub continued_of : View → Intent → Continued
continued_of view before =
    let choice = choice_after before view in
    let need = least_strength view before.sense choice in
    let other = other_sense before.sense in
    record {
      fresh = is_fresh choice;
      need = need;
      separation = tenths_of (separation_of view before.sense need choice);
      same_later = tenths_of (separation_of view before.sense (strongest view before.sense Urgent) Urgent);
      other_later = tenths_of (separation_of view other (strongest view other Fresh) Steady);
      has_alim = has_alim view before.sense;
    }

-- The same, where there was an advisory.
abbrev pub continued_after : View → Cell → Option Continued
continued_after view Clear = None
continued_after view Traffic = None
continued_after view (Ra before) = if is_projected view then Some (continued_of view before) else None

-- ---- all together

unfoldable pub shown_of : Seen → Shown
shown_of seen = record {
  rank = seen.rank;
  reply = seen.reply;
  altitude = seen.own.altitude;
  height = seen.own.aircraft.height;
  level = seen.own.level;
  climbs = seen.own.aircraft.climbs;
  tested = option_map (tested_of seen.own.aircraft seen.view) seen.motion;
  projected = if is_projected seen.view then Some (projected_of seen.view) else None;
}
