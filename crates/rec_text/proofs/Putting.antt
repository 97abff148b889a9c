-- What was put, line by line.
use Rattle.std.proofs.Common.{◌≡◌, ℕ, ◌+◌, List, [], ◌∷◌, ◌++◌, map, take, reverse, get_or, Some, sym, ap, ◌∙◌, subst, add-one}
use Rattle.std.specs.Prelude.{All, slice_get}
use Rattle.std.proofs.lemmas.List.{map-append, reverse-append}
use Rattle.std.proofs.lemmas.List.Elements.{All-get_or, All-head, All-nil, All-push, All-tail}
use Rattle.std.proofs.lemmas.Option.{get_or_from_slice_get, slice_get_within}
use Rattle.std.proofs.Math.Seq.{take-suc}
use Rattle.acas_base.specs.declared.entry.Entry.{Entry}
use Rattle.rec_text.specs.Entries.{entry_line}

-- The lines of the entries up to the next one.
pub lines-more : (count : ℕ) (entries : List Entry) (at : ℕ) (entry : Entry) → slice_get entries at ≡ Some entry → map (entry_line count) (take (at + 1) entries) ≡ map (entry_line count) (take at entries) ++ entry_line count entry ∷ []
lines-more count entries at entry is =
    let here : get_or entries at entry ≡ entry = get_or_from_slice_get entries at entry entry is in
    ap (λ (n : ℕ). map (entry_line count) (take n entries)) (add-one at) ∙ ap (map (entry_line count)) (take-suc entries at entry (slice_get_within entries at entry is))
    ∙ map-append (entry_line count) (take at entries) (get_or entries at entry ∷ []) ∙ ap (λ (e : Entry). map (entry_line count) (take at entries) ++ entry_line count e ∷ []) here

-- What holds of all entries holds of those in order.
pub all-back : (P : Entry → Type 0) (journal : List Entry) → All P journal → All P (reverse journal)
all-back P [] all = All-nil P
all-back P (entry ∷ journal) all =
    subst (All P) (sym (reverse-append (entry ∷ []) journal)) (All-push P (reverse journal) entry (all-back P journal (All-tail P entry journal all)) (All-head P entry journal all))

pub in-order : (P : Entry → Type 0) (journal : List Entry) (at : ℕ) (entry : Entry) → All P journal → slice_get (reverse journal) at ≡ Some entry → P entry
in-order P journal at entry all is =
    subst P (get_or_from_slice_get (reverse journal) at entry entry is) (All-get_or P (reverse journal) at entry (slice_get_within (reverse journal) at entry is) (all-back P journal all))
