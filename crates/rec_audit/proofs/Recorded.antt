-- The bytes of a recording and its lines.
use Rattle.std.proofs.Common.{◌≡◌, ℕ, List, ◌∷◌, ◌++◌, length, sym, ap, ◌∙◌, subst}
use Rattle.std.proofs.lemmas.List.{append-nil}
use Rattle.acas_base.specs.Encounter.{Parts}
use Rattle.acas_base.specs.declared.entry.Entry.{Entry}
use Rattle.acas_lines.proofs.Splitting.{joined-split}
use Rattle.acas_lines.specs.Split.{lines_of}
use Rattle.acas_lines.specs.Lines.{joined}
use Rattle.air_journal.specs.States.{State}
use Rattle.enc_file.specs.Canonical.{canonical_lines}
use Rattle.rec_audit.specs.Cursors.{Cursor}
use Rattle.rec_audit.specs.Engine.{IsLoadedAs, IsOpened, IsReplayed, ReplayedAll, ReplayedFirst}
use Rattle.rec_audit.specs.Judging.{IsBeginningOf, IsRecordingOf, after_opening, after_opening_of_part, at_opening, at_opening_of_part}
use Rattle.rec_audit.specs.Opening.{IsWrongOpening}
use Rattle.rec_audit.specs.declared.endings.Extent.{Extent}
use Rattle.rec_audit.specs.declared.endings.Extent.TheVariants.{Whole, Beginning}
use Rattle.rec_audit.specs.declared.verdict.Reason.{Reason}
use Rattle.rec_audit.specs.declared.verdict.Loaded.{Loaded}
use Rattle.rec_audit.specs.declared.verdict.Loaded.TheVariants as loaded
use Rattle.rec_text.specs.Entries.{entry_lines}
use Rattle.rec_text.specs.Recording.{closing_lines, head_line, journal_line, recording_lines}

-- The lines are those of the recording.
pub recorded-lines : (e : Parts) (count : ℕ) (J : List Entry) (lines rest : List (List ℕ)) → lines ≡ head_line ∷ (canonical_lines e ++ journal_line count ∷ rest) → ReplayedAll e rest count J → lines ≡ recording_lines e J
recorded-lines e count J lines rest is r =
    is ∙ ap (λ t. head_line ∷ (canonical_lines e ++ journal_line count ∷ t)) r.replays.begins
    ∙ ap (λ n. head_line ∷ (canonical_lines e ++ journal_line n ∷ (entry_lines (length e.crafts) J ++ closing_lines e J))) (sym r.count_is)

pub recorded : (bytes : List ℕ) (e : Parts) (count : ℕ) (after : Cursor) (state : State) → IsOpened (lines_of bytes) e count after → state.encounter ≡ e → ReplayedAll e after.left count state.journal → IsRecordingOf bytes state
recorded bytes e count after state o same r = subst (λ f. IsRecordingOf bytes (let s : State = record { encounter = f; journal = state.journal } in s)) (sym same) (record {
  is_journal = record { valid = o.opens.encounter; inside = o.opens.inside; legal = r.replays.legal };
  complete = r.complete;
  bytes_are = sym (joined-split bytes) ∙ ap joined (recorded-lines e count state.journal (lines_of bytes) after.left o.opens.begins r);
})

-- ---- beginnings

pub first-recorded : (bytes : List ℕ) (e : Parts) (count : ℕ) (after : Cursor) (state : State) → IsOpened (lines_of bytes) e count after → state.encounter ≡ e → ReplayedFirst e after.left count state.journal → IsBeginningOf bytes state
first-recorded bytes e count after state o same r = subst (λ f. IsBeginningOf bytes (let s : State = record { encounter = f; journal = state.journal } in s)) (sym same) (record {
  is_journal = record { valid = o.opens.encounter; inside = o.opens.inside; legal = r.replays.legal };
  count = count;
  told = o.opens.told;
  within = r.within;
  bytes_are = sym (joined-split bytes) ∙ ap joined (o.opens.begins ∙ ap (λ t. head_line ∷ (canonical_lines e ++ journal_line count ∷ t)) (r.replays.begins ∙ append-nil (entry_lines (length e.crafts) state.journal)));
})

-- ---- both

-- What was opened and replayed is loaded.
pub replayed-loaded : (extent : Extent) (bytes : List ℕ) (e : Parts) (count : ℕ) (after : Cursor) (r : Loaded) → IsOpened (lines_of bytes) e count after → IsReplayed extent e count after.left r → IsLoadedAs extent bytes r
replayed-loaded Whole bytes e count after (loaded.Legal state) o h = recorded bytes e count after state o h.0 h.1
replayed-loaded Whole bytes e count after (loaded.Wrong line reason) o h = after_opening o.opens h
replayed-loaded Beginning bytes e count after (loaded.Legal state) o h = first-recorded bytes e count after state o h.0 h.1
replayed-loaded Beginning bytes e count after (loaded.Wrong line reason) o h = after_opening_of_part o.opens h

-- What is wrong before the entries is wrong with both.
pub wrong-opening : (extent : Extent) (bytes : List ℕ) (line : ℕ) (reason : Reason) → IsWrongOpening (lines_of bytes) line reason → IsLoadedAs extent bytes (loaded.Wrong line reason)
wrong-opening Whole bytes line reason h = at_opening h
wrong-opening Beginning bytes line reason h = at_opening_of_part h
