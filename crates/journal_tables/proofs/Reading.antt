-- A journal that is read entry by entry, and the lines of its messages.
use Rattle.std.proofs.Common.{◌≡◌, ◌+◌, ◌-◌, ◌<◌, ◌≤◌, List, [], ◌∷◌, ◌++◌, length, Option, Some, None, option_map, refl, sym, ap, ◌∙◌, subst, subst₂, arith}
use Rattle.std.specs.Prelude.{MatchOption}
use Rattle.acas_base.specs.Encounter.{Parts}
use Rattle.acas_base.specs.declared.entry.Entry.{Entry}
use Rattle.air_journal.specs.EntryRefs.{entry_of}
use Rattle.air_journal.specs.declared.entry_ref.EntryRef.{EntryRef}
use Rattle.air_rules.proofs.Beginnings.{begins-length}
use Rattle.air_rules.specs.Journal.{Begins, more, whole}
use Rattle.journal_reader.specs.Reading.{Reading, next_entry}
use Rattle.journal_tables.specs.Messages.{lines_of_entry, sent_lines}

pub nothing-begins : (journal : List Entry) → Begins [] journal
nothing-begins [] = whole
nothing-begins (entry ∷ journal) = more (nothing-begins journal)

-- The entry that was looked at is the one that is read.
pub record ReadsOn (old new : Reading) (entry : Entry) : Type 0 where
  pub next : Begins (entry ∷ old.read) old.journal
  pub read : new.read ≡ entry ∷ old.read
  pub begins : Begins new.read new.journal
  pub smaller : length new.journal - length new.read < length old.journal - length old.read

pub next-is : (old new : Reading) (entry : EntryRef) (found : Option EntryRef) → option_map entry_of (Some entry) ≡ next_entry old → option_map entry_of found ≡ next_entry old →
    MatchOption found ((old.read ≡ old.journal) × (new.read ≡ old.read)) (λ it. new.read ≡ entry_of it ∷ old.read) → new.read ≡ entry_of entry ∷ old.read
next-is old new entry None looked read is = absurd (let z = looked ∙ sym read in cc)
next-is old new entry (Some it) looked read is = is ∙ ap (λ (x : Entry). x ∷ old.read) (let z : Some (entry_of it) ≡ Some (entry_of entry) = read ∙ sym looked in cc)

pub begins-next : (old : Reading) (entry : EntryRef) (looked : Option EntryRef) → looked ≡ Some entry →
    MatchOption looked (old.read ≡ old.journal) (λ it. Begins (entry_of it ∷ old.read) old.journal) → Begins (entry_of entry ∷ old.read) old.journal
begins-next old entry looked is end = subst (λ (o : Option EntryRef). MatchOption o (old.read ≡ old.journal) (λ it. Begins (entry_of it ∷ old.read) old.journal)) is end

pub reads-on : (old new : Reading) (entry : EntryRef) (looked found : Option EntryRef) → looked ≡ Some entry → option_map entry_of looked ≡ next_entry old →
    MatchOption looked (old.read ≡ old.journal) (λ it. Begins (entry_of it ∷ old.read) old.journal) → option_map entry_of found ≡ next_entry old → new.journal ≡ old.journal →
    MatchOption found ((old.read ≡ old.journal) × (new.read ≡ old.read)) (λ it. new.read ≡ entry_of it ∷ old.read) → ReadsOn old new (entry_of entry)
reads-on old new entry looked found is seen end next journal reads =
    let read : new.read ≡ entry_of entry ∷ old.read = next-is old new entry found (sym (ap (option_map entry_of) is) ∙ seen) next reads in
    let begins : Begins (entry_of entry ∷ old.read) old.journal = begins-next old entry looked is end in
    let size : length new.read ≡ length old.read + 1 = ap length read ∙ (omega arith) in
    let same : length new.journal ≡ length old.journal = ap length journal in
    let within : length old.read + 1 ≤ length old.journal = (let b = begins-length _ _ begins in omega arith) in
    record {
      next = begins;
      read = read;
      begins = subst₂ (λ (K J : List Entry). Begins K J) (sym read) (sym journal) begins;
      smaller = omega arith;
    }

-- One entry more was read, so fewer are left.
pub reads-smaller : (J old new : List Entry) (x : Entry) → Begins (x ∷ old) J → new ≡ x ∷ old → length J - length new < length J - length old
reads-smaller J old new x begins read =
    let size : length new ≡ length old + 1 = ap length read ∙ (omega arith) in
    let within : length old + 1 ≤ length J = (let b = begins-length _ _ begins in omega arith) in
    omega arith

-- ---- the lines

pub lines-more : (e : Parts) (J K : List Entry) (x : Entry) → sent_lines e J K ++ lines_of_entry e J K x ≡ sent_lines e J (x ∷ K)
unfolding sent_lines
lines-more e J K x = refl

pub lines-start : (e : Parts) (J : List Entry) → sent_lines e J [] ≡ []
unfolding sent_lines
lines-start e J = refl
