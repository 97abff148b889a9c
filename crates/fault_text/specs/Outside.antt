-- What is told of an aircraft that leaves the box.
use Rattle.std.specs.Prelude.{◌≡◌, ℕ, ◌+◌, ◌≤◌, ℤ, true, List, Some, length}
use Rattle.acas_base.specs.Encounter as given
use Rattle.acas_base.specs.Encounter.{Parts}
use Rattle.enc_file.specs.Conditions.{IsRefused, is_given}
use Rattle.enc_file.specs.Earlier.{encounter_by}
use Rattle.enc_file.specs.Records.{records_of}
use Rattle.enc_file.specs.Values.{address_in}
use Rattle.enc_file.specs.declared.refusal.Refusal.{Refusal}
use Rattle.fault_text.specs.Leaving.{LeavesFirst}
use Rattle.fault_text.specs.Lines.{file_lines, written}
use Rattle.fault_text.specs.declared.fault.Why.{Why}
use Rattle.fault_text.specs.declared.fault.Why.TheVariants as why
use Rattle.fault_text.specs.declared.leaving.Axis.{Axis}

-- Before a refused record an aircraft with this address was given.
pub record IsGivenBefore (text : List ℕ) (refusal : Refusal) (address : ℕ) : Type 0 where
  pub refused : IsRefused (records_of text) refusal
  pub given : is_given refused.earlier address ≡ true
  pub enough : refusal.at ≤ length (written (file_lines text)) + 1

-- The bytes spell the address of the first aircraft of an encounter that isn't in the box; and the cycle, the axis and
-- the number there are the first ones.
pub record TellsLeaving (e : Parts) (craft : List ℕ) (cycle : ℕ) (axis : Axis) (value : ℤ) : Type 0 where
  pub index : ℕ
  pub spelled : address_in craft ≡ Some (given.address_in e.crafts index)
  pub first : LeavesFirst e (record { craft = index; cycle = cycle; axis = axis; value = value })

abbrev pub TellsWhere : Parts → Why → Type 0
TellsWhere e (why.Outside craft cycle axis value) = TellsLeaving e craft.now cycle axis value
TellsWhere e other = ⊥

-- The encounter is the one that the records before the refused one say.
pub record TellsOutside (text : List ℕ) (refusal : Refusal) (w : Why) : Type 0 where
  pub refused : IsRefused (records_of text) refusal
  pub tells : TellsWhere (encounter_by refused.earlier) w
