-- What is found says that nothing differs exactly where nothing does.
use Rattle.std.proofs.Common.{◌≡◌, ℕ, Bool, true, List, length, refl, sym, ap, ◌∙◌, subst, Option, Some, None}
use Rattle.std.specs.Prelude.{◌&&◌, ◌↔◌, IsTrue, is_none, slice_get}
use Rattle.std.proofs.lemmas.Bool.{and_parts}
use Rattle.acas_base.specs.Encounter.{Parts}
use Rattle.acas_base.specs.declared.entry.Entry.{Entry}
use Rattle.acas_lines.specs.Lines.{joined}
use Rattle.air_journal.specs.States.{State}
use Rattle.comparison.specs.Cells.{AreSameCells, IsFirstCellFound}
use Rattle.comparison.specs.Encounters.{AreAlike}
use Rattle.comparison.specs.Found.{AreEqual, IsFound, IsRunFound, IsRunFoundWhereAlike, is_equal, is_same_run}
use Rattle.comparison.specs.Texts.{IsFirstDifference}
use Rattle.comparison.specs.declared.cells.CellPlace.{CellPlace}
use Rattle.comparison.specs.declared.finding.Found.{Found}
use Rattle.comparison.specs.declared.finding.RunFound.{RunFound}
use Rattle.enc_file.specs.Canonical.{canonical_lines, canonical_text}
use Rattle.enc_file.specs.Reading.{Says, reading_of}

encounters-same : (e f : Parts) → Says (canonical_text e) e → Says (canonical_text f) f → canonical_lines e ≡ canonical_lines f → e ≡ f
encounters-same e f h k same = let both = sym h ∙ ap (λ lines. reading_of (joined lines)) same ∙ k in cc

-- ---- the runs

no-cell : (cycles count : ℕ) (J K : List Entry) (found : Option CellPlace) → IsFirstCellFound cycles count J K found → is_none found ≡ true → AreSameCells cycles count J K
no-cell cycles count J K None h e = h
no-cell cycles count J K (Some place) h e = absurd cc

cell-none : (cycles count : ℕ) (J K : List Entry) (found : Option CellPlace) → IsFirstCellFound cycles count J K found → AreSameCells cycles count J K → is_none found ≡ true
cell-none cycles count J K None h same = refl
cell-none cycles count J K (Some place) h same = absurd (h.differs (same place.cycle h.first h.last place.own place.other h.own h.other))

three : (a b c : Bool) → a ≡ true → b ≡ true → c ≡ true → (a && (b && c)) ≡ true
three a b c p q r = ap (λ (x : Bool). x && (b && c)) p ∙ ap (λ (x : Bool). x && c) q ∙ r

alike : (e f : Parts) → e ≡ f → AreAlike e f
alike e f same = subst (AreAlike e) same (record { cycles = refl; elevation = refl; crafts = refl })

-- ---- both directions

to-equal : (one other : State) (encounter : Option ℕ) (run : Option RunFound) → Says (canonical_text one.encounter) one.encounter → Says (canonical_text other.encounter) other.encounter →
    IsFirstDifference (canonical_lines one.encounter) (canonical_lines other.encounter) encounter → IsRunFoundWhereAlike one other run → (is_none encounter && is_same_run run) ≡ true → AreEqual one other
to-equal one other (Some n) run h k d r e = absurd cc
to-equal one other None None h k d r e = absurd cc
to-equal one other None (Some run) h k d r e =
    let first = and_parts (is_none run.cell) (run.same_report && run.same_messages) e in
    let second = and_parts run.same_report run.same_messages first.1 in
    let is : IsRunFound one other run = r.1 in
    record {
      encounters = encounters-same one.encounter other.encounter h k d;
      cells = no-cell one.encounter.cycles (length one.encounter.crafts) one.journal other.journal run.cell is.cell first.0;
      reports = is.report.0 second.0;
      messages = is.messages.0 second.1;
    }

from-equal : (one other : State) (encounter : Option ℕ) (run : Option RunFound) → IsFirstDifference (canonical_lines one.encounter) (canonical_lines other.encounter) encounter → IsRunFoundWhereAlike one other run → AreEqual one other →
    (is_none encounter && is_same_run run) ≡ true
from-equal one other (Some n) run d r q = absurd (d.here (ap (λ (e : Parts). slice_get (canonical_lines e) n) q.encounters))
from-equal one other None None d r q = absurd (r (alike one.encounter other.encounter q.encounters))
from-equal one other None (Some run) d r q =
    let is : IsRunFound one other run = r.1 in
    three (is_none run.cell) run.same_report run.same_messages (cell-none one.encounter.cycles (length one.encounter.crafts) one.journal other.journal run.cell is.cell q.cells) (is.report.1 q.reports) (is.messages.1 q.messages)

pub equal-law : (one other : State) (found : Found) → Says (canonical_text one.encounter) one.encounter → Says (canonical_text other.encounter) other.encounter → IsFound one other found → IsTrue (is_equal found) ↔ AreEqual one other
equal-law one other found h k f = (to-equal one other found.encounter found.run h k f.encounter f.run, from-equal one other found.encounter found.run f.encounter f.run)
