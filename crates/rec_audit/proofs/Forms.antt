-- Fields that begin as those of a commit.
use Rattle.std.proofs.Common.{◌≡◌, ℕ, List, [], ◌∷◌, map, take, drop, get_or, refl, sym, ap, arith}
use Rattle.std.specs.Prelude.{codes}
use Rattle.std.specs.Fmt.{decimal}
use Rattle.acas_base.specs.declared.advisory.Cells.{Cells}
use Rattle.acas_base.specs.declared.entry.Entry.{Entry}
use Rattle.acas_base.specs.declared.entry.Entry.TheVariants.{Commit, Send, Take}
use Rattle.rec_text.specs.Entries.{entry_fields}
use Rattle.advisory_report.specs.Cells.{cell_text}
use Rattle.air_journal.specs.Ranges.{IsEntry}

-- The first byte of the first field.
abbrev first : List (List ℕ) → ℕ
first fields = get_or (get_or fields 0 []) 0 0

pub record CommitForm (count : ℕ) (e : Entry) (fields : List (List ℕ)) : Type 0 where
  pub own : ℕ
  pub cycle : ℕ
  pub cells : Cells
  pub is : e ≡ Commit own cycle cells
  pub fits : IsEntry count (Commit own cycle cells)
  pub spelled : fields ≡ decimal own ∷ decimal cycle ∷ map cell_text (take count cells.list)

pub commit-form : (count : ℕ) (e : Entry) (fields : List (List ℕ)) → IsEntry count e → entry_fields count e ≡ codes "c" ∷ fields → CommitForm count e fields
commit-form count (Send own target number word) fields fits e = absurd (omega (arith, ap first e))
commit-form count (Take own send copy good) fields fits e = absurd (omega (arith, ap first e))
commit-form count (Commit own cycle cells) fields fits e = record { own = own; cycle = cycle; cells = cells; is = refl; fits = fits; spelled = sym (ap (drop 1) e) }
