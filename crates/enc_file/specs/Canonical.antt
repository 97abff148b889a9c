-- The canonical text of an encounter.
use Rattle.std.specs.Prelude.{ℕ, List, [], ◌∷◌, ◌++◌, map, All, IfSome, IsTrue}
use Rattle.std.specs.List.{flat_map}
use Rattle.acas_base.specs.Encounter.{Parts}
use Rattle.acas_base.specs.Labels.{is_label}
use Rattle.acas_base.specs.declared.label.Call.{Call}
use Rattle.acas_lines.specs.Lines.{joined}
use Rattle.enc_file.specs.Spelling.{header_record, profile_records, name_records, clock_records, run_record, gains_record, craft_record, call_record, climb_records, leg_record, miss_record, plan_record, fate_record, end_record, line_of}

-- Its name and its call signs are labels, and so have no comma and no end of line.
pub record IsLabelled (e : Parts) : Type 0 where
  pub name : IfSome e.name (λ text. IsTrue (is_label text))
  pub signs : All (λ (call : Call). IsTrue (is_label call.sign)) e.calls

-- All records of an encounter, in this order: the version; the profile in format 3; the name and the time of day, if
-- any; the run and the gains; the aircraft; their call signs; the ceilings of the aircraft that have one; the legs,
-- misses, plans and fates, each list in the encounter's order; the end.
abbrev pub canonical_records : Parts → List (List (List ℕ))
canonical_records e =
    header_record e.version ∷ [] ++ profile_records e.version e.profile ++ name_records e.name ++ clock_records e.clock
    ++ run_record e.cycles e.elevation ∷ gains_record e.range e.altitude ∷ [] ++ map craft_record e.crafts ++ map (call_record e.crafts) e.calls ++ flat_map climb_records e.crafts
    ++ map (leg_record e.crafts) e.legs ++ map (miss_record e.crafts) e.misses ++ map (plan_record e.crafts) e.plans ++ map (fate_record e.crafts) e.fates ++ end_record ∷ []

-- One line for each.
abbrev pub canonical_lines : Parts → List (List ℕ)
canonical_lines e = map line_of (canonical_records e)

abbrev pub canonical_text : Parts → List ℕ
canonical_text e = joined (canonical_lines e)
