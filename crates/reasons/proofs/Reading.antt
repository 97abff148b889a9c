-- A journal that is read on.
use Rattle.std.proofs.Common.{◌≡◌, ◌∙◌, ◌++◌, List, [], ◌∷◌, Option, Some, None, sym, ap, subst}
use Rattle.std.specs.Prelude.{MatchOption, map, option_map}
use Rattle.std.proofs.lemmas.List.{map-append}
use Rattle.acas_base.specs.Encounter.{Parts}
use Rattle.acas_base.specs.declared.entry.Entry.{Entry}
use Rattle.air_journal.specs.EntryRefs.{entry_of}
use Rattle.air_journal.specs.declared.entry_ref.EntryRef.{EntryRef}
use Rattle.air_rules.specs.Journal.{Begins, commits, more, whole}
use Rattle.craft_view.specs.Kept.{Kept}
use Rattle.craft_view.specs.Looking.{AreReady}
use Rattle.reasons.specs.Columns.{reason_line}
use Rattle.reasons.specs.Reasons.{entry_reasons, reasons_of}

pub begins-empty : (journal : List Entry) → Begins [] journal
begins-empty [] = whole
begins-empty (entry ∷ journal) = more (begins-empty journal)

-- What comes next was seen, and then it was read.
pub read-on : (read : Option EntryRef) (entry : EntryRef) (next : Option Entry) (journal old new : List Entry) → option_map entry_of (Some entry) ≡ next → option_map entry_of read ≡ next
    → MatchOption read ((old ≡ journal) × (new ≡ old)) (λ it. new ≡ entry_of it ∷ old) → new ≡ entry_of entry ∷ old
read-on None entry next journal old new s r h = absurd (let e = s ∙ sym r in cc)
read-on (Some it) entry next journal old new s r h = let e : entry_of it ≡ entry_of entry = (let f = r ∙ sym s in cc) in h ∙ ap (λ (x : Entry). x ∷ old) e

pub lines-on : (e f : Parts) (read new : List Entry) (entry : Entry) → f ≡ e → new ≡ entry ∷ read
    → map (reason_line e.profile) (reasons_of e read) ++ map (reason_line f.profile) (entry_reasons f read entry) ≡ map (reason_line e.profile) (reasons_of e new)
lines-on e f read new entry same is =
    ap (λ (x : Parts). map (reason_line e.profile) (reasons_of e read) ++ map (reason_line x.profile) (entry_reasons x read entry)) same
    ∙ sym (map-append (reason_line e.profile) (reasons_of e read) (entry_reasons e read entry))
    ∙ ap (λ (L : List Entry). map (reason_line e.profile) (reasons_of e L)) (sym is)

pub ready-on : (e f : Parts) (read new : List Entry) (entry : Entry) (crafts : List (Option Kept)) → f ≡ e → new ≡ entry ∷ read
    → AreReady f (commits (entry ∷ read)) crafts → AreReady e (commits new) crafts
ready-on e f read new entry crafts same is r = subst (λ (L : List Entry). AreReady e (commits L) crafts) (sym is) (subst (λ (x : Parts). AreReady x (commits (entry ∷ read)) crafts) same r)
