-- The lines of the intervals.
use Rattle.std.proofs.Common.{◌≡◌, ◌≢◌, ℕ, zero, suc, ◌+◌, ◌*◌, ◌<◌, ◌≤◌, ◌^◌, Bool, true, false, cond, List, [], ◌∷◌, ◌++◌, length, length-append, Bor, Option, Some, None, option_map, reverse, refl, sym, ap, ◌∙◌, subst, subst₂, arith, ◌-◌, inl, inr, eq-eqb, eqb-true, ne_eqb}
use Rattle.std.specs.List.{flat_map, range_with_len}
use Rattle.std.specs.Prelude.{MatchOption, option_and_then, option_to_list, slice_get}
use Rattle.std.proofs.lemmas.Bool.{cases_eq, cond-false}
use Rattle.std.proofs.lemmas.List.{append-nil}
use Rattle.acas_base.specs.Encounter.{IsEncounter, Parts}
use Rattle.acas_base.specs.declared.advisory.Cells.{Cells}
use Rattle.acas_base.specs.declared.advisory.Sense.{Sense}
use Rattle.acas_base.specs.declared.entry.Entry.{Entry}
use Rattle.acas_base.specs.declared.entry.Entry.TheVariants.{Commit, Send, Take}
use Rattle.acas_lines.proofs.Ranges.{length-flat}
use Rattle.air_journal.proofs.Bounds.{few-crafts, fits, most-few}
use Rattle.air_journal.proofs.WellFormed.{entries-fit}
use Rattle.air_journal.specs.Airs.{air_of}
use Rattle.air_journal.specs.EntryRefs.{entry_of}
use Rattle.air_journal.specs.Ranges.{IsEntry}
use Rattle.air_journal.specs.declared.entry_ref.EntryRef.{EntryRef}
use Rattle.air_journal.specs.declared.entry_ref.EntryRef.TheVariants as refs
use Rattle.air_rules.proofs.Beginnings.{begins-length, begins-nested, begins-same}
use Rattle.air_rules.specs.Journal.{Begins, is_commit_of, more, whole}
use Rattle.air_rules.specs.Rules.{IsLegal}
use Rattle.journal_reader.proofs.Prefixes.{holds-next, read-begins, read-length, read-more, read-within}
use Rattle.journal_reader.specs.Reading.{Reading, next_entry, read_of}
use Rattle.pair_watch.specs.Watching.{begun_lines, begun_sense, ends_with_commit, equal_sense, interval_lines, is_at, is_pair_commit, is_watched, line_at, line_for, lines_at, lines_of_low, row_began}
use Rattle.pair_watch.proofs.Steps.{at-within, neither-is, row-stays, row-within}

flat-none : {X : Type 0} (f : ℕ → List X) (first n : ℕ) → ((k : ℕ) → first ≤ k → f k ≡ []) → flat_map f (range_with_len first n) ≡ []
flat-none f first zero h = refl
flat-none f first (suc n) h =
    ap (λ xs. xs ++ flat_map f (range_with_len (first + 1) n)) (h first (omega arith)) ∙ flat-none f (first + 1) n (λ k from. h k (omega arith))

-- Of one number alone.
flat-one : {X : Type 0} (f : ℕ → List X) (only first n : ℕ) → ((k : ℕ) → k ≢ only → f k ≡ []) → first ≤ only → only < first + n → flat_map f (range_with_len first n) ≡ f only
flat-one f only first zero h from within = absurd (omega arith)
flat-one f only first (suc n) h from within = elim (cases_eq first only) [
  | inl same ↦
      ap (λ xs. f first ++ xs) (flat-none f (first + 1) n (λ k after. h k (λ e. (omega arith)))) ∙ append-nil (f first) ∙ ap f same
  | inr other ↦
      ap (λ xs. xs ++ flat_map f (range_with_len (first + 1) n)) (h first other) ∙ flat-one f only (first + 1) n h (omega arith) (omega arith)
]

-- A beginning of a journal is the one of its length.
pub prefix-is : (K J : List Entry) → Begins K J → K ≡ read_of J (length K)
prefix-is K J b =
    let few : length K ≤ length J = begins-length K J b in
    let size : length (read_of J (length K)) ≡ length K = read-length J (length K) few in
    begins-same K (read_of J (length K)) (begins-nested K (read_of J (length K)) J b (read-begins J (length K) few) (omega arith)) (sym size)

-- ---- entries that begin no row

line-none : (e : Parts) (J K : List Entry) (x : Entry) (low high : ℕ) → is_pair_commit low high x ≡ false → line_at e J (x ∷ K) (length K) low high ≡ None
line-none e J K x low high other =
    let none : begun_sense (x ∷ K) low high (length K) ≡ None =
    cond-false (is_at (length K) (row_began (x ∷ K) low high)) (equal_sense (x ∷ K) low high) None (ap (is_at (length K)) (row-stays x K low high other) ∙ at-within (row_began K low high) (length K) (row-within K low high)) in
    ap (λ (o : Option Sense). cond (is_watched (air_of e) low high) (option_and_then (λ sense. Some (line_for e J (x ∷ K) low high (length K) sense)) o) None) none
    ∙ (elim (is_watched (air_of e) low high) as (λ t. cond t (option_and_then (λ (sense : Sense). Some (line_for e J (x ∷ K) low high (length K) sense)) None) None ≡ None) [ true ↦ refl | false ↦ refl ])

no-lines : (e : Parts) (J K : List Entry) (x : Entry) → ((low high : ℕ) → is_pair_commit low high x ≡ false) → lines_at e J (x ∷ K) (length K) ≡ []
no-lines e J K x other = flat-none (lines_of_low e J (x ∷ K) (length K)) 0 (length e.crafts) (λ low _.
    flat-none (λ high. option_to_list (line_at e J (x ∷ K) (length K) low high)) 0 (length e.crafts) (λ high _. ap option_to_list (line-none e J K x low high (other low high))))

-- After a commit of an aircraft, of the pairs of another one only that of the two has a line.
commit-alone : (x : Entry) (own other : ℕ) → is_commit_of own x ≡ true → other ≢ own → is_commit_of other x ≡ false
commit-alone (Commit by cycle cells) own other is ne = ne_eqb by other (λ e. ne (sym e ∙ eqb-true by own is))
commit-alone (Send by target number word) own other is ne = refl
commit-alone (Take by send copy good) own other is ne = refl

pub changed-alone : (e : Parts) (J K : List Entry) (own low at : ℕ) → ends_with_commit K own ≡ true → length K ≡ at + 1 → low ≢ own → own < length e.crafts → option_to_list (line_at e J K at low own) ≡ lines_of_low e J K at low
changed-alone e J [] own low at is size ne within = absurd (omega arith)
changed-alone e J (x ∷ K) own low at is size ne within =
    let place : length K ≡ at = omega arith in
    subst (λ n. option_to_list (line_at e J (x ∷ K) n low own) ≡ lines_of_low e J (x ∷ K) n low) place
    (sym (flat-one (λ high. option_to_list (line_at e J (x ∷ K) (length K) low high)) own 0 (length e.crafts)
    (λ high apart. ap option_to_list (line-none e J K x low high (neither-is (is_commit_of low x) (is_commit_of high x) (commit-alone x own low is ne) (commit-alone x own high is apart))))
    (omega arith) (omega arith)))

pub send-no-lines : (e : Parts) (J K : List Entry) (own target number word : ℕ) → lines_at e J (Send own target number word ∷ K) (length K) ≡ []
send-no-lines e J K own target number word = no-lines e J K (Send own target number word) (λ low high. refl)

pub take-no-lines : (e : Parts) (J K : List Entry) (own send copy : ℕ) (good : Bool) → lines_at e J (Take own send copy good ∷ K) (length K) ≡ []
take-no-lines e J K own send copy good = no-lines e J K (Take own send copy good) (λ low high. refl)

pub lines-more : (e : Parts) (J K : List Entry) (x : Entry) → begun_lines e J K ++ lines_at e J (x ∷ K) (length K) ≡ begun_lines e J (x ∷ K)
unfolding begun_lines
lines-more e J K x = refl

pub lines-start : (e : Parts) (J : List Entry) → begun_lines e J [] ≡ []
unfolding begun_lines
lines-start e J = refl

pub other-no-lines : (e : Parts) (J K : List Entry) (entry : EntryRef) → ((own cycle : ℕ) (cells : Bor Cells) → entry ≡ refs.Commit own cycle cells → ⊥) → lines_at e J (entry_of entry ∷ K) (length K) ≡ []
other-no-lines e J K (refs.Commit own cycle cells) not = absurd (not own cycle cells refl)
other-no-lines e J K (refs.Send own target number word) not = send-no-lines e J K own target number word
other-no-lines e J K (refs.Take own send copy good) not = take-no-lines e J K own send copy good

-- ---- an entry that is read

pub nothing-begins : (journal : List Entry) → Begins [] journal
nothing-begins [] = whole
nothing-begins (entry ∷ journal) = more (nothing-begins journal)

next-begins : (K J : List Entry) (x : Entry) → Begins K J → slice_get (reverse J) (length K) ≡ Some x → Begins (x ∷ K) J
next-begins K J x b here =
    let within : length K < length J = read-within J (length K) x here in
    subst (λ (L : List Entry). Begins L J) (read-more J (length K) x here ∙ ap (λ (L : List Entry). x ∷ L) (sym (prefix-is K J b))) (read-begins J (length K + 1) (omega arith))

-- A commit that is read last: which aircraft made it, and that it is one of the encounter.
pub ends-with : (K L : List Entry) (entry : EntryRef) (own cycle : ℕ) (cells : Bor Cells) → entry ≡ refs.Commit own cycle cells → L ≡ entry_of entry ∷ K → ends_with_commit L own ≡ true
ends-with K L entry own cycle cells is read = ap (λ (M : List Entry). ends_with_commit M own) read ∙ ap (λ (x : EntryRef). is_commit_of own (entry_of x)) is ∙ eq-eqb own own refl

pub commits-within : (e : Parts) (J K : List Entry) (entry : EntryRef) (own cycle : ℕ) (cells : Bor Cells) → entry ≡ refs.Commit own cycle cells → IsEncounter e → IsLegal (air_of e) J → Begins (entry_of entry ∷ K) J → own < length e.crafts
commits-within e J K entry own cycle cells is valid legal b =
    (subst (λ (x : EntryRef). IsEntry (length e.crafts) (entry_of x)) is (holds-next (IsEntry (length e.crafts)) (entry_of entry) K J b (entries-fit e J valid legal))).0

pub record ReadsOn (old new : Reading) (x : Entry) : Type 0 where
  pub read : new.read ≡ x ∷ old.read
  pub begins : Begins new.read new.journal
  pub smaller : length new.journal - length new.read < length old.journal - length old.read

pub reads-on : (old new : Reading) (entry : EntryRef) (found : Option EntryRef) → found ≡ Some entry → option_map entry_of found ≡ next_entry old → new.journal ≡ old.journal → Begins old.read old.journal →
    MatchOption found ((old.read ≡ old.journal) × (new.read ≡ old.read)) (λ it. new.read ≡ entry_of it ∷ old.read) → ReadsOn old new (entry_of entry)
reads-on old new entry found is next journal b reads =
    let x = entry_of entry in
    let read : new.read ≡ x ∷ old.read = subst (λ (o : Option EntryRef). MatchOption o ((old.read ≡ old.journal) × (new.read ≡ old.read)) (λ it. new.read ≡ entry_of it ∷ old.read)) is reads in
    let here : slice_get (reverse old.journal) (length old.read) ≡ Some x = sym next ∙ ap (option_map entry_of) is in
    let within : length old.read < length old.journal = read-within old.journal (length old.read) x here in
    let size : length new.read ≡ length old.read + 1 = ap length read ∙ (omega arith) in
    let same : length new.journal ≡ length old.journal = ap length journal in
    record {
      read = read;
      begins = subst₂ (λ (K J : List Entry). Begins K J) (sym read) (sym journal) (next-begins old.read old.journal x b here);
      smaller = omega arith;
    }

-- ---- how many lines there are

one-at-most : {X : Type 0} (o : Option X) → length (option_to_list o) ≤ 1
one-at-most None = omega arith
one-at-most (Some x) = omega arith

few-at : (e : Parts) (J K : List Entry) (at : ℕ) → length e.crafts ≤ 16 → length (lines_at e J K at) ≤ 256
few-at e J K at few =
    let n = length e.crafts in
    let one : (low : ℕ) → length (lines_of_low e J K at low) ≤ 16 = λ low. (let h = length-flat (λ high. option_to_list (line_at e J K at low high)) 1 0 n (λ high. one-at-most (line_at e J K at low high)) in omega arith) in
    let all : length (lines_at e J K at) ≤ n * 16 = length-flat (lines_of_low e J K at) 16 0 n one in
    omega arith

few-begun : (e : Parts) (J K : List Entry) → length e.crafts ≤ 16 → length (begun_lines e J K) ≤ length K * 256
unfolding begun_lines
few-begun e J [] few = omega arith
few-begun e J (x ∷ K) few =
    let ih = few-begun e J K few in
    let here = few-at e J (x ∷ K) (length K) few in
    omega (arith, length-append (begun_lines e J K) (lines_at e J (x ∷ K) (length K)))

pub few-lines : (e : Parts) (J : List Entry) → IsEncounter e → IsLegal (air_of e) J → length (interval_lines e J) < 2 ^ 32
few-lines e J is legal =
    let crafts : length e.crafts ≤ 16 = few-crafts e is in
    let lines : length (begun_lines e J J) ≤ length J * 256 = few-begun e J J crafts in
    let entries : length J ≤ 585600 = (let a = fits e J is legal in let b = most-few e is in omega arith) in
    omega arith
