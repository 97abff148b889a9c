-- The takes that change the complement in force.
use Rattle.std.proofs.Common.{◌≡◌, ℕ, ◌+◌, ◌-◌, ◌<◌, ◌≤◌, eqb, cond, List, [], ◌∷◌, ◌++◌, Option, Some, None, length, option_map, reverse, slice_get, refl, sym, ap, ◌∙◌, subst, arith, inl, inr, eqb-true}
use Rattle.std.specs.Prelude.{IfSome, MatchOption, option_to_list}
use Rattle.std.specs.List.{AllByRecursion, flat_map}
use Rattle.std.proofs.lemmas.Bool.{cases_Bool, cases_lt, cond-false, cond-true}
use Rattle.std.proofs.lemmas.Grind.{flat_map-append}
use Rattle.acas_base.specs.Encounter.{IsEncounter, Parts}
use Rattle.acas_base.specs.declared.advisory.Cells.{Cells}
use Rattle.acas_base.specs.declared.entry.Entry.{Entry}
use Rattle.acas_base.specs.declared.entry.Entry.TheVariants.{Commit, Send, Take}
use Rattle.air_journal.specs.Airs.{air_of}
use Rattle.air_journal.specs.EntryRefs.{entry_of}
use Rattle.air_journal.specs.Ranges.{IsEntry}
use Rattle.air_journal.specs.declared.entry_ref.EntryRef.{EntryRef}
use Rattle.air_rules.proofs.Beginnings.{begins-length}
use Rattle.air_rules.proofs.Legal.{allowed, earlier, legal-begins}
use Rattle.air_rules.proofs.Pace.{count-no, count-yes}
use Rattle.air_rules.proofs.Waiting.{commits-within}
use Rattle.air_rules.specs.Air.{Air}
use Rattle.air_rules.specs.Journal.{Begins, as_sent, commits, is_commit_of, more, sent_at, whole}
use Rattle.air_rules.specs.Rules.{IsLegal, MayCommit}
use Rattle.air_rules.specs.Takes.{complement_from}
use Rattle.journal_reader.proofs.Prefixes.{follows, read-all, read-begins, read-past}
use Rattle.journal_reader.specs.Reading.{Reading, next_entry, read_of}
use Rattle.page_marks.proofs.Bounded.{all-append}
use Rattle.picture.specs.Messages.{arrow_for, arrow_of, arrows_in, committed_by, is_same_complement, origin_of, taking_by}
use Rattle.picture.specs.MessagesDrawn.{arrow_marks}
use Rattle.picture.specs.declared.messages_read.Arrow.{Arrow}
use Rattle.picture.specs.declared.messages_read.Origin.{Origin}

-- ---- messages

pub origin-fits : (count : ℕ) (x : Entry) → IsEntry count x → IfSome (option_map origin_of (as_sent x)) (λ (origin : Origin). origin.sender < count)
origin-fits count (Commit own cycle cells) fit = tt
origin-fits count (Send own target number word) fit = fit.0
origin-fits count (Take own send copy good) fit = tt

-- ---- commits before a position

commit-found : (air : Air) (K : List Entry) (own craft cycle n : ℕ) (cells : Cells) → MayCommit air K craft cycle cells → cond (eqb craft own) (Some cycle) None ≡ Some n → commits (Commit craft cycle cells ∷ K) own ≡ n
commit-found air K own craft cycle n cells may is = elim (cases_Bool (eqb craft own)) [
  | inl met ↦
      let same : craft ≡ own = eqb-true craft own met in
      let there : cycle ≡ n = (let z : Some cycle ≡ Some n = sym (cond-true (eqb craft own) (Some cycle) None met) ∙ is in cc) in
      count-yes (is_commit_of own) (Commit craft cycle cells) K met ∙ sym (ap (λ (i : ℕ). commits K i + 1) same) ∙ sym may.cycle_is ∙ there
  | inr unmet ↦ absurd (let z : None ≡ Some n = sym (cond-false (eqb craft own) (Some cycle) None unmet) ∙ is in cc)
]

commit-none : (K : List Entry) (own craft cycle : ℕ) (cells : Cells) → cond (eqb craft own) (Some cycle) None ≡ None → commits (Commit craft cycle cells ∷ K) own ≡ commits K own
commit-none K own craft cycle cells is = elim (cases_Bool (eqb craft own)) [
  | inl met ↦ absurd (let z : Some cycle ≡ None = sym (cond-true (eqb craft own) (Some cycle) None met) ∙ is in cc)
  | inr unmet ↦ count-no (is_commit_of own) (Commit craft cycle cells) K unmet
]

last-found : (air : Air) (K : List Entry) (own n : ℕ) (x : Entry) → IsLegal air (x ∷ K) → committed_by own x ≡ Some n → commits (x ∷ K) own ≡ n
last-found air K own n (Commit craft cycle cells) l is = commit-found air K own craft cycle n cells (allowed l) is
last-found air K own n (Send craft target number word) l is = absurd (cc)
last-found air K own n (Take craft send copy good) l is = absurd (cc)

last-none : (K : List Entry) (own : ℕ) (x : Entry) → committed_by own x ≡ None → commits (x ∷ K) own ≡ commits K own
last-none K own (Commit craft cycle cells) is = commit-none K own craft cycle cells is
last-none K own (Send craft target number word) is = refl
last-none K own (Take craft send copy good) is = refl

-- The entry at a position commits a cycle for an aircraft.
pub commits-found : (e : Parts) (J : List Entry) (own at n : ℕ) (x : Entry) → IsEncounter e → IsLegal (air_of e) J → slice_get (reverse J) at ≡ Some x → committed_by own x ≡ Some n →
    commits (read_of J (at + 1)) own ≡ n
commits-found e J own at n x valid legal here is =
    let f = follows e J at x valid legal here in
    ap (λ (K : List Entry). commits K own) f.grows ∙ last-found (air_of e) (read_of J at) own n x f.legal is

-- It commits none.
pub commits-stay : (e : Parts) (J : List Entry) (own at : ℕ) (x : Entry) → IsEncounter e → IsLegal (air_of e) J → slice_get (reverse J) at ≡ Some x → committed_by own x ≡ None →
    commits (read_of J (at + 1)) own ≡ commits (read_of J at) own
commits-stay e J own at x valid legal here is =
    let f = follows e J at x valid legal here in
    ap (λ (K : List Entry). commits K own) f.grows ∙ last-none (read_of J at) own x is

-- No entry stands there.
pub commits-past : (J : List Entry) (own at : ℕ) → slice_get (reverse J) at ≡ None → commits (read_of J (at + 1)) own ≡ commits (read_of J at) own
commits-past J own at none =
    let past = read-past J at none in
    ap (λ (K : List Entry). commits K own) (read-all J (at + 1) (omega (arith, past)) ∙ sym (read-all J at past))

-- What is said of the entry at a position.
pub committed-at : (e : Parts) (J : List Entry) (own at : ℕ) (x : Entry) → IsEncounter e → IsLegal (air_of e) J → slice_get (reverse J) at ≡ Some x → (found : Option ℕ) → found ≡ committed_by own x →
    MatchOption found (commits (read_of J (at + 1)) own ≡ commits (read_of J at) own) (λ cycle. commits (read_of J (at + 1)) own ≡ cycle)
committed-at e J own at x valid legal here None is = commits-stay e J own at x valid legal here (sym is)
committed-at e J own at x valid legal here (Some n) is = commits-found e J own at n x valid legal here (sym is)

pub commits-none : (J : List Entry) (own at : ℕ) → at ≡ 0 → commits (read_of J at) own ≡ 0
commits-none J own at none = ap (λ (n : ℕ). commits (read_of J n) own) none

pub commits-few : (e : Parts) (J : List Entry) (own at : ℕ) → IsLegal (air_of e) J → commits (read_of J at) own ≤ e.cycles
commits-few e J own at legal = elim (cases_lt at (length J)) [
  | inl less ↦ commits-within (air_of e) (read_of J at) (legal-begins (air_of e) (read-begins J at (omega (arith, less))) legal) own
  | inr past ↦ subst (λ (K : List Entry). commits K own ≤ e.cycles) (sym (read-all J at past)) (commits-within (air_of e) J legal own)
]

-- ---- a journal that is read entry by entry

pub nothing-begins : (journal : List Entry) → Begins [] journal
nothing-begins [] = whole
nothing-begins (entry ∷ journal) = more (nothing-begins journal)

-- The entry that was looked at comes next.
pub begins-next : (old : Reading) (entry : EntryRef) (looked : Option EntryRef) → looked ≡ Some entry →
    MatchOption looked (old.read ≡ old.journal) (λ it. Begins (entry_of it ∷ old.read) old.journal) → Begins (entry_of entry ∷ old.read) old.journal
begins-next old entry looked is end = subst (λ (o : Option EntryRef). MatchOption o (old.read ≡ old.journal) (λ it. Begins (entry_of it ∷ old.read) old.journal)) is end

-- It is the one that is read.
pub next-is : (old new : Reading) (entry : EntryRef) (looked found : Option EntryRef) → looked ≡ Some entry → option_map entry_of looked ≡ next_entry old → option_map entry_of found ≡ next_entry old →
    MatchOption found ((old.read ≡ old.journal) × (new.read ≡ old.read)) (λ it. new.read ≡ entry_of it ∷ old.read) → new.read ≡ entry_of entry ∷ old.read
next-is old new entry looked None is seen read reads = absurd (let z : Some (entry_of entry) ≡ None = sym (ap (option_map entry_of) is) ∙ seen ∙ sym read in cc)
next-is old new entry looked (Some it) is seen read reads =
    let z : Some (entry_of it) ≡ Some (entry_of entry) = read ∙ sym seen ∙ ap (option_map entry_of) is in
    reads ∙ ap (λ (x : Entry). x ∷ old.read) (let same : entry_of it ≡ entry_of entry = cc in same)

-- One entry more was read, so fewer are left.
pub reads-smaller : (J old new : List Entry) (x : Entry) → Begins (x ∷ old) J → new ≡ x ∷ old → length J - length new < length J - length old
reads-smaller J old new x begins is =
    let within = begins-length (x ∷ old) J begins in
    let size : length new ≡ length old + 1 = ap length is ∙ (omega arith) in
    omega (arith, within, size)

-- ---- arrows

pub arrows-none : (e : Parts) (J : List Entry) → arrows_in e J [] ≡ []
unfolding arrows_in
arrows-none e J = refl

pub arrows-more : (e : Parts) (J K : List Entry) (x : Entry) → arrows_in e J (x ∷ K) ≡ arrows_in e J K ++ option_to_list (arrow_of e J K x)
unfolding arrows_in
arrows-more e J K x = refl

-- The marks of those of one entry more.
pub marks-more : (e : Parts) (J K : List Entry) (x : Entry) →
    flat_map (arrow_marks e) (arrows_in e J K) ++ flat_map (arrow_marks e) (option_to_list (arrow_of e J K x)) ≡ flat_map (arrow_marks e) (arrows_in e J (x ∷ K))
marks-more e J K x = sym (ap (flat_map (arrow_marks e)) (arrows-more e J K x) ∙ flat_map-append (arrow_marks e) (arrows_in e J K) (option_to_list (arrow_of e J K x)))

-- ---- their cycles are those of the run

pub record IsTimely (e : Parts) (arrow : Arrow) : Type 0 where
  pub sent : arrow.sent_after ≤ e.cycles
  pub taken : arrow.taking.taken_after ≤ e.cycles

timely : (e : Parts) (J K read : List Entry) (own send : ℕ) → IsLegal (air_of e) J → IsLegal (air_of e) K → (origin : Option Origin) →
    AllByRecursion (IsTimely e) (option_to_list (arrow_for e J read (option_map (taking_by e K own send) origin)))
timely e J K read own send legal l None = tt
timely e J K read own send legal l (Some origin) =
    let taking = taking_by e K own send origin in
    let after = complement_from (air_of e) read own origin.sender in
    let arrow : Arrow = record { taking = taking; sent_after = commits (read_of J send) origin.sender; after = after } in
    let same = is_same_complement taking.before after in
    elim (cases_Bool same) [
      | inl met ↦ subst (λ (o : Option Arrow). AllByRecursion (IsTimely e) (option_to_list o)) (sym (cond-true same None (Some arrow) met)) tt
      | inr unmet ↦
          subst (λ (o : Option Arrow). AllByRecursion (IsTimely e) (option_to_list o)) (sym (cond-false same None (Some arrow) unmet))
          (record { sent = commits-few e J origin.sender send legal; taken = commits-within (air_of e) K l own }, tt)
    ]

last-timely : (e : Parts) (J K : List Entry) (x : Entry) → IsLegal (air_of e) J → IsLegal (air_of e) K → AllByRecursion (IsTimely e) (option_to_list (arrow_of e J K x))
last-timely e J K (Commit own cycle cells) legal l = tt
last-timely e J K (Send own target number word) legal l = tt
last-timely e J K (Take own send copy good) legal l = timely e J K (Take own send copy good ∷ K) own send legal l (option_map origin_of (sent_at J send))

pub arrows-timely : (e : Parts) (J K : List Entry) → IsLegal (air_of e) J → IsLegal (air_of e) K → AllByRecursion (IsTimely e) (arrows_in e J K)
arrows-timely e J [] legal l = subst (AllByRecursion (IsTimely e)) (sym (arrows-none e J)) tt
arrows-timely e J (x ∷ K) legal l =
    subst (AllByRecursion (IsTimely e)) (sym (arrows-more e J K x))
    (all-append (IsTimely e) (arrows_in e J K) (option_to_list (arrow_of e J K x)) (arrows-timely e J K legal (earlier l)) (last-timely e J K x legal (earlier l)))
