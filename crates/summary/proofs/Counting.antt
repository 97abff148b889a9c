-- The entries of each kind, counted.
use Rattle.std.proofs.Common.{◌≡◌, ℕ, ◌+◌, List, [], ◌∷◌, length, refl, ap, arith}
use Rattle.acas_base.specs.declared.entry.Entry.{Entry}
use Rattle.acas_base.specs.declared.entry.Entry.TheVariants.{Commit, Send, Take}
use Rattle.summary.specs.Head.{entries_in, nothing_counted, with_entry}
use Rattle.summary.specs.declared.head.EntryCounts.{EntryCounts}

pub entries-none : entries_in [] ≡ nothing_counted
unfolding entries_in
entries-none = refl

pub entries-more : (entry : Entry) (K : List Entry) → entries_in (entry ∷ K) ≡ with_entry (entries_in K) entry
unfolding entries_in
entries-more entry K = refl

abbrev pub all_of : EntryCounts → ℕ
all_of counts = counts.commits + counts.sends + counts.takes

one-more : (counts : EntryCounts) (entry : Entry) → all_of (with_entry counts entry) ≡ all_of counts + 1
one-more counts (Commit own cycle cells) = omega arith
one-more counts (Send own target number word) = omega arith
one-more counts (Take own send copy good) = omega arith

-- All of them are as many as there are entries.
pub all-counted : (K : List Entry) → all_of (entries_in K) ≡ length K
all-counted [] = ap all_of entries-none
all-counted (entry ∷ K) =
    let ih = all-counted K in
    let more = ap all_of (entries-more entry K) in
    let one = one-more (entries_in K) entry in
    omega arith
