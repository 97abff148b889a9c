-- Entries of each kind, counted one by one.
use Rattle.std.proofs.Common.{◌≡◌, ℕ, ◌+◌, Bool, true, false, List, [], ◌∷◌, length, take, reverse, Some, refl, ap, ◌∙◌, arith, zero-add}
use Rattle.std.specs.Prelude.{cond, slice_get}
use Rattle.std.specs.List.{count_by}
use Rattle.std.proofs.lemmas.List.{reverse-append}
use Rattle.std.proofs.lemmas.List.Sums.{count_by_more_no, count_by_more_yes, sum_by-append, sum_by-cons}
use Rattle.std.proofs.lemmas.Option.{get_or_from_slice_get, slice_get_within}
use Rattle.acas_base.specs.declared.entry.Entry.{Entry}
use Rattle.acas_base.specs.declared.entry.Entry.TheVariants.{Commit, Send, Take}
use Rattle.rec_text.specs.EntryCounts.{entry_counts, is_commit, is_send, is_take, with_entry}

module _ (test : Entry → Bool) (entries : List Entry) (at : ℕ) (entry : Entry) (is : slice_get entries at ≡ Some entry) where
  passes : test entry ≡ true → count_by test (take (at + 1) entries) ≡ count_by test (take at entries) + 1
  passes holds = count_by_more_yes test entries at entry (slice_get_within entries at entry is) (ap test (get_or_from_slice_get entries at entry entry is) ∙ holds)

  fails : test entry ≡ false → count_by test (take (at + 1) entries) ≡ count_by test (take at entries)
  fails doesnt = count_by_more_no test entries at entry (slice_get_within entries at entry is) (ap test (get_or_from_slice_get entries at entry entry is) ∙ doesnt)

-- One entry more.
pub counts-more : (entries : List Entry) (at : ℕ) (entry : Entry) → slice_get entries at ≡ Some entry → entry_counts (take (at + 1) entries) ≡ with_entry (entry_counts (take at entries)) entry
counts-more entries at (Commit own cycle cells) is = λ i. record { commits = passes is_commit entries at (Commit own cycle cells) is refl i; sends = fails is_send entries at (Commit own cycle cells) is refl i; takes = fails is_take entries at (Commit own cycle cells) is refl i }
counts-more entries at (Send own target number word) is = λ i. record { commits = fails is_commit entries at (Send own target number word) is refl i; sends = passes is_send entries at (Send own target number word) is refl i; takes = fails is_take entries at (Send own target number word) is refl i }
counts-more entries at (Take own send copy good) is = λ i. record { commits = fails is_commit entries at (Take own send copy good) is refl i; sends = fails is_send entries at (Take own send copy good) is refl i; takes = passes is_take entries at (Take own send copy good) is refl i }

module _ (test : Entry → Bool) (entry : Entry) (entries : List Entry) where
  one-more : test entry ≡ true → count_by test (entry ∷ entries) ≡ count_by test entries + 1
  one-more holds = sum_by-cons _ entry entries ∙ ap (λ b. cond b 1 0 + count_by test entries) holds ∙ omega arith

  none-more : test entry ≡ false → count_by test (entry ∷ entries) ≡ count_by test entries
  none-more doesnt = sum_by-cons _ entry entries ∙ ap (λ b. cond b 1 0 + count_by test entries) doesnt ∙ zero-add _

-- All entries together.
pub counts-all : (entries : List Entry) → count_by is_commit entries + count_by is_send entries + count_by is_take entries ≡ length entries
counts-all [] = refl
counts-all (Commit own cycle cells ∷ entries) =
    let entry = Commit own cycle cells in
    omega (arith, counts-all entries, one-more is_commit entry entries refl, none-more is_send entry entries refl, none-more is_take entry entries refl)
counts-all (Send own target number word ∷ entries) =
    let entry = Send own target number word in
    omega (arith, counts-all entries, none-more is_commit entry entries refl, one-more is_send entry entries refl, none-more is_take entry entries refl)
counts-all (Take own send copy good ∷ entries) =
    let entry = Take own send copy good in
    omega (arith, counts-all entries, none-more is_commit entry entries refl, none-more is_send entry entries refl, one-more is_take entry entries refl)

-- The order doesn't matter.
count-reverse : (test : Entry → Bool) (entries : List Entry) → count_by test (reverse entries) ≡ count_by test entries
count-reverse test [] = refl
count-reverse test (entry ∷ entries) =
    let apart : count_by test (reverse (entry ∷ entries)) ≡ count_by test (reverse entries) + count_by test (entry ∷ []) = ap (count_by test) (reverse-append (entry ∷ []) entries) ∙ sum_by-append _ (reverse entries) (entry ∷ []) in
    let front : count_by test (entry ∷ entries) ≡ count_by test (entry ∷ []) + count_by test entries = sum_by-append _ (entry ∷ []) entries in
    omega (arith, apart, front, count-reverse test entries)

pub counts-reverse : (entries : List Entry) → entry_counts (reverse entries) ≡ entry_counts entries
counts-reverse entries = λ i. record { commits = count-reverse is_commit entries i; sends = count-reverse is_send entries i; takes = count-reverse is_take entries i }
