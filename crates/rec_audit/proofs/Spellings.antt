-- What is told of the encounter of a recording, and of the spelling of its lines.
use Rattle.std.proofs.Common.{◌≡◌, ◌≢◌, ℕ, ◌+◌, ◌-◌, ◌<◌, ◌≤◌, true, false, Bool, List, [], ◌∷◌, ◌++◌, length, take, drop, Option, Some, None, get_or, slice_get, sym, refl, ap, ap₂, ◌∙◌, subst, append_assoc, length-append, arith, inl, inr}
use Rattle.std.specs.Prelude.{Err, map, option_map}
use Rattle.std.proofs.Math.Seq.{take-append_seam, take-length}
use Rattle.acas_base.specs.Encounter.{Parts}
use Rattle.acas_base.specs.declared.entry.Entry.{Entry}
use Rattle.acas_lines.proofs.Splitting.{joined-split}
use Rattle.acas_lines.specs.Differing.{DifferAt}
use Rattle.acas_lines.specs.Lines.{joined}
use Rattle.acas_lines.specs.Split.{lines_of}
use Rattle.air_journal.specs.Airs.{air_of}
use Rattle.air_journal.specs.Ranges.{IsEntry}
use Rattle.air_rules.specs.Air.{Air}
use Rattle.csv.specs.Reading.{strip_bom}
use Rattle.enc_file.specs.Canonical.{canonical_lines}
use Rattle.enc_file.specs.Reading.{Says, read_from, reading_of}
use Rattle.enc_file.specs.Records.{records_of}
use Rattle.fault_text.proofs.Marked.{mark, without-mark}
use Rattle.fault_text.specs.Lines.{fields_in, file_lines, lines_after, written}
use Rattle.rec_audit.proofs.Beginning.{joined-both}
use Rattle.rec_audit.proofs.Ending.{get-after, stopped-number}
use Rattle.rec_audit.proofs.OneOpening.{IsSaid, canonical-cut, cut-ends, cut-once, opening-right, opens-once, says-once, says-refused}
use Rattle.rec_audit.proofs.Telling.{rest-within, stands-after}
use Rattle.rec_audit.specs.Cursors.{Cursor, StoppedIn, Took}
use Rattle.rec_audit.specs.Explaining.{ComeOther, IsCanonicalSentence, IsHeaded, IsMarked, IsNoCanonical, IsPart, IsUnspelled, IsUnspelledIn, TellsCanonical, IsToldBy, TellsEntryLine, TellsFirstReturn, TellsSpelledEntry, fault_of, first_return, line_at}
use Rattle.rec_audit.specs.Judging.{IsWrong, IsWrongAfter, after_opening, at_opening, incomplete, other_end, too_few, wrong_entry}
use Rattle.rec_audit.specs.Opening.{HasNoEnd, IsCut, IsWrongAfterHead, IsWrongOpening, IsWrongPart, NoCount, Opens, end_line, first_entry, no_count, no_end, no_head, not_canonical, refused, wrong_after_head, wrong_part}
use Rattle.rec_audit.specs.Replays.{IsWrongLine, changed, forbidden, misspelled}
use Rattle.rec_audit.specs.declared.verdict.Reason.{Reason}
use Rattle.rec_audit.specs.declared.verdict.Reason.TheVariants.{Encounter, Spelling, NotAllowed, OtherContent, Incomplete, Report}
use Rattle.rec_audit.specs.declared.verdict.Verdict.{Verdict}
use Rattle.rec_audit.specs.declared.verdict.Verdict.TheVariants as verdict
use Rattle.rec_text.specs.Entries.{entry_line}
use Rattle.rec_text.specs.Recording.{head_line}
use Rattle.verdict_text.specs.Sentences.{sentence}
use Rattle.verdict_text.specs.declared.fault.Why.TheVariants as why
use Rattle.verdict_text.specs.declared.wanted.TheConstants.{WANTED_BYTES}

-- ---- kinds of reasons

abbrev pub is_refusal : Reason → Bool
is_refusal (Encounter code) = true
is_refusal other = false

abbrev pub is_spelling : Reason → Bool
is_spelling Spelling = true
is_spelling other = false

line-refusal : (air : Air) (J : List Entry) (line : List ℕ) (r : Reason) → IsWrongLine air J line r → is_refusal r ≡ false
line-refusal air J line r (misspelled none) = refl
line-refusal air J line r (forbidden x fits is none) = refl
line-refusal air J line r (changed x f fits is about may other) = refl

after-refusal : (e : Parts) (N l : ℕ) (t : List (List ℕ)) (r : Reason) → IsWrongAfter e N t l r → is_refusal r ≡ false
after-refusal e N l t r (wrong_entry stop low) = line-refusal (air_of e) stop.journal stop.line r stop.wrong
after-refusal e N l t r (too_few replays few) = refl
after-refusal e N l t r (incomplete replays all not) = refl
after-refusal e N l t r (other_end replays all complete differ) = refl

-- ---- behind the first line

-- What is wrong behind the first line.
pub record AfterHead (lines : List (List ℕ)) (l : ℕ) (r : Reason) : Type 0 where
  pub rest : List (List ℕ)
  pub is : lines ≡ head_line ∷ rest
  pub wrong : IsWrongAfterHead rest l r

opening-refusal : (lines : List (List ℕ)) (l : ℕ) (r : Reason) → is_refusal r ≡ true → IsWrongOpening lines l r → AfterHead lines l r
opening-refusal lines l r yes-refusal (no_head none) = absurd cc
opening-refusal lines l r yes-refusal (wrong_after_head {rest = t} is w) = record { rest = t; is = is; wrong = w }

pub refusal-after : (lines : List (List ℕ)) (l : ℕ) (r : Reason) → is_refusal r ≡ true → IsWrong lines l r → AfterHead lines l r
refusal-after lines l r yes-refusal (at_opening w) = opening-refusal lines l r yes-refusal w
refusal-after lines l r yes-refusal (after_opening {e = e} {count = N} {rest = t} o w) = absurd (let no-refusal = after-refusal e N l t r w in cc)

pub opening-after : (lines : List (List ℕ)) (l : ℕ) (r : Reason) → 2 ≤ l → IsWrongOpening lines l r → AfterHead lines l r
opening-after lines l r late (no_head none) = absurd (omega (arith, late))
opening-after lines l r late (wrong_after_head {rest = t} is w) = record { rest = t; is = is; wrong = w }

pub headed : (lines : List (List ℕ)) (l : ℕ) (r : Reason) → AfterHead lines l r → IsHeaded lines
headed lines l r h = (h.rest, h.is)

-- The lines behind the first one.
pub behind-is : (lines left : List (List ℕ)) (l : ℕ) (r : Reason) (h : AfterHead lines l r) → left ≡ drop 1 lines → lines ≡ head_line ∷ left
behind-is lines left l r h is = h.is ∙ ap (λ t. head_line ∷ t) (sym (is ∙ ap (drop 1) h.is))

pub behind-wrong : (lines left : List (List ℕ)) (l : ℕ) (r : Reason) (h : AfterHead lines l r) → left ≡ drop 1 lines → IsWrongAfterHead left l r
behind-wrong lines left l r h is = subst (λ t. IsWrongAfterHead t l r) (sym (is ∙ ap (drop 1) h.is)) h.wrong

pub headed-some : (lines : List (List ℕ)) → IsHeaded lines → lines ≡ [] → ⊥
headed-some lines h none = let both : [] ≡ head_line ∷ h.0 = sym none ∙ h.1 in absurd cc

-- ---- the encounter

part-refusal : (p t : List (List ℕ)) (l : ℕ) (r : Reason) → is_refusal r ≡ true → IsWrongPart p t l r → (e : Parts) → Says (joined p) e → ⊥
part-refusal p t l r yes-refusal (refused refusal is) e says = says-refused (joined p) e refusal says is
part-refusal p t l r yes-refusal (not_canonical f says2 other) e says = absurd cc
part-refusal p t l r yes-refusal (no_count f says2 same none) e says = absurd cc

says-moved : (p q : List (List ℕ)) (e : Parts) → p ≡ q → Says (joined q) e → Says (joined p) e
says-moved p q e same says = subst (λ x. Says (joined x) e) (sym same) says

pub refusal-canonical : (lines : List (List ℕ)) (l : ℕ) (r : Reason) → is_refusal r ≡ true → IsWrongAfterHead lines l r → IsNoCanonical lines
refusal-canonical lines l r yes-refusal (no_end none) = absurd cc
refusal-canonical lines l r yes-refusal (wrong_part {part = p} {rest = t} cut w) = λ q u cut2 e says same. part-refusal p t l r yes-refusal w e (says-moved p q e (cut-once lines p q t u cut cut2).part says)

pub refusal-end : (lines : List (List ℕ)) (l : ℕ) (r : Reason) → is_refusal r ≡ true → IsWrongAfterHead lines l r → HasNoEnd lines → ⊥
refusal-end lines l r yes-refusal (no_end none) no-line = absurd cc
refusal-end lines l r yes-refusal (wrong_part {part = p} {rest = t} cut w) no-line = cut-ends lines p t cut no-line

-- A part has a line.
cut-some : (lines p t : List (List ℕ)) → IsCut lines p t → 1 ≤ length p
cut-some lines p t cut = omega (arith, ap length cut.part_is, length-append cut.front (end_line ∷ []))

part-second : (lines p t : List (List ℕ)) (l : ℕ) (r : Reason) → is_spelling r ≡ true → l ≡ 2 → IsCut lines p t → IsWrongPart p t l r → (e : Parts) → Says (joined p) e → p ≢ canonical_lines e
part-second lines p t l r yes-spelling second cut (refused refusal is) e says = absurd cc
part-second lines p t l r yes-spelling second cut (not_canonical f says2 other) e says = λ same. other (same ∙ ap canonical_lines (says-once (joined p) e f says says2))
part-second lines p t l r yes-spelling second cut (no_count f says2 same none) e says = absurd (omega (arith, second, cut-some lines p t cut))

pub second-canonical : (lines : List (List ℕ)) (l : ℕ) (r : Reason) → is_spelling r ≡ true → l ≡ 2 → IsWrongAfterHead lines l r → IsNoCanonical lines
second-canonical lines l r yes-spelling second (no_end none) = λ q u cut2 e says same. cut-ends lines q u cut2 none
second-canonical lines l r yes-spelling second (wrong_part {part = p} {rest = t} cut w) =
    λ q u cut2 e says same. (let one = (cut-once lines p q t u cut cut2).part in part-second lines p t l r yes-spelling second cut w e (says-moved p q e one says) (one ∙ same))

-- The number of entries is missing.
pub record LacksCount (lines : List (List ℕ)) : Type 0 where
  pub part : List (List ℕ)
  pub rest : List (List ℕ)
  pub cut : IsCut lines part rest
  pub none : NoCount rest

part-later : (lines p t : List (List ℕ)) (l : ℕ) (r : Reason) → is_spelling r ≡ true → l ≢ 2 → IsCut lines p t → IsWrongPart p t l r → LacksCount lines
part-later lines p t l r yes-spelling later cut (refused refusal is) = absurd cc
part-later lines p t l r yes-spelling later cut (not_canonical f says2 other) = absurd (later refl)
part-later lines p t l r yes-spelling later cut (no_count f says2 same none) = record { part = p; rest = t; cut = cut; none = none }

pub later-count : (lines : List (List ℕ)) (l : ℕ) (r : Reason) (text : List ℕ) → is_spelling r ≡ true → l ≢ 2 → IsPart lines text → IsWrongAfterHead lines l r → LacksCount lines
later-count lines l r text yes-spelling later there (no_end none) = absurd (cut-ends lines there.part there.rest there.cut none)
later-count lines l r text yes-spelling later there (wrong_part {part = p} {rest = t} cut w) = part-later lines p t l r yes-spelling later cut w

-- The canonical lines of an encounter don't come.
pub come-other : (left : List (List ℕ)) (text : List ℕ) (e : Parts) → IsPart left text → IsNoCanonical left → Says text e → ComeOther left e
come-other left text e there wrong says = λ rest is.
    (let one = cut-once left there.part (canonical_lines e) there.rest rest there.cut (canonical-cut e left rest is) in wrong there.part there.rest there.cut e (subst (λ t. Says t e) there.text_is says) one.part)

-- ---- its bytes

pub part-whole : (bytes text : List ℕ) (left : List (List ℕ)) → lines_of bytes ≡ head_line ∷ left → (p : IsPart left text) → bytes ≡ head_line ++ (text ++ joined p.rest)
part-whole bytes text left is p =
    sym (joined-split bytes) ∙ ap joined (is ∙ ap (λ t. head_line ∷ t) p.cut.all) ∙ ap (λ t. head_line ++ t) (joined-both p.part p.rest ∙ ap (λ t. t ++ joined p.rest) (sym p.text_is))

pub whole-long : (bytes text rest : List ℕ) → bytes ≡ head_line ++ (text ++ rest) → length bytes ≡ 12 + length text + length rest
whole-long bytes text rest is =
    let twelve : length head_line ≡ 12 = refl in
    let long : length bytes ≡ length head_line + length (text ++ rest) = ap length is ∙ length-append head_line (text ++ rest) in
    omega (arith, twelve, long, length-append text rest)

pub behind-bytes : (bytes text rest : List ℕ) → bytes ≡ head_line ++ (text ++ rest) → drop 11 bytes ≡ 10 ∷ (text ++ rest)
behind-bytes bytes text rest is = ap (drop 11) is

pub front-bytes : (behind text rest : List ℕ) → behind ≡ 10 ∷ (text ++ rest) → take (length text + 1) behind ≡ 10 ∷ text
front-bytes behind text rest is = ap (take (length text + 1)) is ∙ ap (λ n. take n (10 ∷ (text ++ rest))) (let more : length text + 1 ≡ length (10 ∷ text) = omega arith in more) ∙ take-append_seam (10 ∷ text) rest

pub cut-bytes : (bytes text rest : List ℕ) → bytes ≡ head_line ++ (text ++ rest) → take (length text + 1) (take (length bytes - 11) (drop 11 bytes)) ≡ 10 ∷ text
cut-bytes bytes text rest is =
    let n : length bytes - 11 ≡ length (10 ∷ (text ++ rest)) = omega (arith, whole-long bytes text rest is, length-append text rest) in
    let whole : take (length bytes - 11) (drop 11 bytes) ≡ 10 ∷ (text ++ rest) =
    ap (take (length bytes - 11)) (behind-bytes bytes text rest is) ∙ ap (λ k. take k (10 ∷ (text ++ rest))) n ∙ take-length (10 ∷ (text ++ rest)) in
    front-bytes (take (length bytes - 11) (drop 11 bytes)) text rest whole

-- An empty line before a text changes no record.
abbrev pub HasRecords : Type 0
HasRecords = (text : List ℕ) → records_of text ≡ map fields_in (written (file_lines text))

unmarked : (text : List ℕ) → (IsMarked text → ⊥) → text ≡ strip_bom text
unmarked text plain = without-mark text (λ more is. plain (more, is))

empty-first : (text : List ℕ) → 10 ∷ text ≡ strip_bom (10 ∷ text)
empty-first text = without-mark (10 ∷ text) (λ more is. (let first : 10 ≡ 239 = ap (λ t. get_or t 0 0) is in omega (arith, first)))

pub same-reading : (text : List ℕ) → HasRecords → (IsMarked text → ⊥) → reading_of (10 ∷ text) ≡ reading_of text
same-reading text law plain =
    let mine : records_of (10 ∷ text) ≡ map fields_in (written (lines_after false text)) = law (10 ∷ text) ∙ ap (λ t. map fields_in (written (lines_after false t))) (sym (empty-first text)) in
    let plainly : map fields_in (written (lines_after false text)) ≡ records_of text = ap (λ t. map fields_in (written (lines_after false t))) (unmarked text plain) ∙ sym (law text) in
    ap (read_from []) (mine ∙ plainly)

-- ---- the canonical line

line-there : (o : Option (List ℕ)) (wanted : List ℕ) → Some wanted ≡ option_map (take WANTED_BYTES) o → (line : List ℕ) × (o ≡ Some line) × (wanted ≡ take WANTED_BYTES line)
line-there None wanted is = absurd cc
line-there (Some line) wanted is = (line, refl, cc)

pub line-told : (left : List (List ℕ)) (e : Parts) (here there : Cursor) (number : ℕ) (o : Option (List ℕ)) (wanted : List ℕ) (told : List ℕ) → here.left ≡ left → here.taken ≡ 1 → StoppedIn here there (canonical_lines e) → number ≡ there.taken + 1
    → o ≡ option_map (take WANTED_BYTES) (slice_get (canonical_lines e) (number - 2)) → o ≡ Some wanted → IsCanonicalSentence number wanted told → TellsCanonical left e told
line-told left e here there number o wanted told from second stop is picked some said =
    let d = stopped-number here there number (canonical_lines e) stop is in
    let n : number - 2 ≡ d.same = omega (arith, d.line_is, second) in
    let number-is : number ≡ d.same + 2 = omega (arith, d.line_is, second) in
    let found = subst (λ k. o ≡ option_map (take WANTED_BYTES) (slice_get (canonical_lines e) k)) n picked in
    let line = line-there (slice_get (canonical_lines e) d.same) wanted (sym some ∙ found) in
    record {
      same = d.same;
      differ = subst (λ t. DifferAt d.same t (canonical_lines e)) from d.differ;
      line = line.0;
      there = line.1;
      sentence_is = subst (λ k. IsCanonicalSentence k (take WANTED_BYTES line.0) told) number-is (subst (λ w. IsCanonicalSentence number w told) line.2 said);
    }

pub stop-some : (here there : Cursor) (lines : List (List ℕ)) (number : ℕ) (o : Option (List ℕ)) → here.taken ≡ 1 → StoppedIn here there lines → number ≡ there.taken + 1 → o ≡ option_map (take WANTED_BYTES) (slice_get lines (number - 2)) → o ≡ None → ⊥
stop-some here there lines number o second stop is picked none =
    let n : number - 2 ≡ length stop.front = omega (arith, is, second, stop.took.taken_is) in
    let found : slice_get lines (number - 2) ≡ Some stop.next = ap₂ (λ (l : List (List ℕ)) (k : ℕ). slice_get l k) stop.lines_are n ∙ get-after stop.front (stop.next ∷ stop.later) in
    absurd (let both : None ≡ Some (take WANTED_BYTES stop.next) = sym none ∙ picked ∙ ap (option_map (take WANTED_BYTES)) found in cc)

pub stop-second : (here there : Cursor) (lines : List (List ℕ)) (number : ℕ) → here.taken ≡ 1 → StoppedIn here there lines → number ≡ there.taken + 1 → 2 ≤ number
stop-second here there lines number second stop is = omega (arith, is, second, stop.took.taken_is)

-- ---- the entries

line-spelling : (e : Parts) (N l : ℕ) (t : List (List ℕ)) (r : Reason) → is_spelling r ≡ true → IsWrongAfter e N t l r → (n : ℕ) × (l ≡ first_entry e + n)
line-spelling e N l t r yes-spelling (wrong_entry {entries = n} stop low) = (n, refl)
line-spelling e N l t r yes-spelling (too_few {journal = J} replays few) = (length J, refl)
line-spelling e N l t r yes-spelling (incomplete replays all not) = absurd cc
line-spelling e N l t r yes-spelling (other_end replays all complete differ) = absurd cc

pub entry-there : (e : Parts) (N l : ℕ) (lines rest : List (List ℕ)) (r : Reason) → IsSaid → is_spelling r ≡ true → Opens e N lines rest → IsWrong lines l r → (n : ℕ) × (l ≡ first_entry e + n)
entry-there e N l lines rest r said yes-spelling o (at_opening w) = absurd (opening-right e N l r lines rest said o w)
entry-there e N l lines rest r said yes-spelling o (after_opening {e = f} {count = M} {rest = t} o2 w) =
    let at = line-spelling f M l t r yes-spelling w in
    let one = opens-once f e M N lines t rest said o2 o in
    (at.0, at.1 ∙ ap (λ (g : Parts). first_entry g + at.0) one.encounter)

pub same-verdict : (l m : ℕ) (r s : Reason) → verdict.Wrong l r ≡ verdict.Wrong m s → (l ≡ m) × (r ≡ s)
same-verdict l m r s e = (cc, cc)

pub opening-moved : (lines : List (List ℕ)) (l m : ℕ) (r s : Reason) → verdict.Wrong l r ≡ verdict.Wrong m s → IsWrongOpening lines m s → IsWrongOpening lines l r
opening-moved lines l m r s e w = let same = same-verdict l m r s e in subst (λ x. IsWrongOpening lines l x) (sym same.1) (subst (λ x. IsWrongOpening lines x s) (sym same.0) w)

-- ---- carriage returns

pub returned : (a : Cursor) (ls : List (List ℕ)) (r : Option ℕ) (tells : List ℕ → Type 0) (told : List ℕ) (line : ℕ) → a.left ≡ ls → a.taken ≡ 1 → r ≡ first_return (a.taken + 1) a.left → r ≡ Some line → told ≡ sentence (fault_of line why.CarriageReturn)
    → TellsFirstReturn (first_return 2 ls) tells told
returned a ls r tells told line left one is some said =
    subst (λ (o : Option ℕ). TellsFirstReturn o tells told) (sym some ∙ is ∙ ap₂ (λ (n : ℕ) (l : List (List ℕ)). first_return (n + 1) l) one left) said

pub unreturned : (a : Cursor) (ls : List (List ℕ)) (r : Option ℕ) (tells : List ℕ → Type 0) (told : List ℕ) → a.left ≡ ls → a.taken ≡ 1 → r ≡ first_return (a.taken + 1) a.left → r ≡ None → tells told → TellsFirstReturn (first_return 2 ls) tells told
unreturned a ls r tells told left one is none said = subst (λ (o : Option ℕ). TellsFirstReturn o tells told) (sym none ∙ is ∙ ap₂ (λ (n : ℕ) (l : List (List ℕ)). first_return (n + 1) l) one left) said

-- ---- the line of an entry

abbrev NoEntryHas : ℕ → List ℕ → Type 0
NoEntryHas count text = (entry : Entry) → IsEntry count entry → entry_line count entry ≢ text

line-unspelled : (air : Air) (J : List Entry) (line : List ℕ) (r : Reason) → is_spelling r ≡ true → IsWrongLine air J line r → NoEntryHas air.count line
line-unspelled air J line r yes-spelling (misspelled none) = none
line-unspelled air J line r yes-spelling (forbidden x fits is none) = absurd cc
line-unspelled air J line r yes-spelling (changed x f fits is about may other) = absurd cc

same-line : (lines later : List (List ℕ)) (line text : List ℕ) → lines ≡ line ∷ later → slice_get lines 0 ≡ Some text → line ≡ text
same-line lines later line text is there = let both : Some line ≡ Some text = ap (λ l. slice_get l 0) (sym is) ∙ there in cc

after-unspelled : (bytes : List ℕ) (e : Parts) (N l : ℕ) (t : List (List ℕ)) (r : Reason) (text : List ℕ) → is_spelling r ≡ true → Opens e N (lines_of bytes) t → IsWrongAfter e N t l r → slice_get (drop (l - 1) (lines_of bytes)) 0 ≡ Some text → NoEntryHas (length e.crafts) text
after-unspelled bytes e N l t r text yes-spelling o (wrong_entry {entries = n} stop low) there =
    let stands = stands-after bytes e N l stop.journal t (stop.line ∷ stop.rest) o stop.replays (omega (arith, low, stop.after)) (omega (arith, stop.after)) in
    subst (λ x. NoEntryHas (length e.crafts) x) (same-line (drop (l - 1) (lines_of bytes)) stop.rest stop.line text stands.left_is there) (line-unspelled (air_of e) stop.journal stop.line r yes-spelling stop.wrong)
after-unspelled bytes e N l t r text yes-spelling o (too_few {journal = J} replays few) there =
    let stands = stands-after bytes e N l J t [] o replays (omega (arith, few)) refl in
    absurd (let both : None ≡ Some text = ap (λ ls. slice_get ls 0) (sym stands.left_is) ∙ there in cc)
after-unspelled bytes e N l t r text yes-spelling o (incomplete replays all not) there = absurd cc
after-unspelled bytes e N l t r text yes-spelling o (other_end replays all complete differ) there = absurd cc

entry-unspelled : (bytes : List ℕ) (e : Parts) (N l : ℕ) (rest : List (List ℕ)) (r : Reason) (text : List ℕ) → IsSaid → is_spelling r ≡ true → Opens e N (lines_of bytes) rest → IsWrong (lines_of bytes) l r → slice_get (drop (l - 1) (lines_of bytes)) 0 ≡ Some text
    → NoEntryHas (length e.crafts) text
entry-unspelled bytes e N l rest r text said yes-spelling o (at_opening w) there = absurd (opening-right e N l r (lines_of bytes) rest said o w)
entry-unspelled bytes e N l rest r text said yes-spelling o (after_opening {e = f} {count = M} {rest = t} o2 w) there =
    let one = opens-once f e M N (lines_of bytes) t rest said o2 o in
    subst (λ (g : Parts). NoEntryHas (length g.crafts) text) one.encounter (after-unspelled bytes f M l t r text yes-spelling o2 w there)

line-in : (front : ℕ) (bytes : List ℕ) (left : List (List ℕ)) (text : List ℕ) → slice_get left 0 ≡ Some text → length bytes ≡ front + length (joined left) → length text ≤ length bytes
line-in front bytes [] text there long = absurd cc
line-in front bytes (line ∷ later) text there long =
    let same : line ≡ text = cc in
    let parts : length (joined (line ∷ later)) ≡ length line + length (joined later) = length-append line (joined later) in
    omega (arith, ap length same, long, parts)

line-short : (bytes : List ℕ) (n : ℕ) (text : List ℕ) → slice_get (drop n (lines_of bytes)) 0 ≡ Some text → length text ≤ length bytes
line-short bytes n text there = line-in (length (joined (take n (lines_of bytes)))) bytes (drop n (lines_of bytes)) text there (rest-within bytes (joined (drop n (lines_of bytes))) n refl)

in-unspelled : (bytes : List ℕ) (e : Parts) (N l : ℕ) (rest : List (List ℕ)) (o : Option (List ℕ)) → length bytes < 4294967295 → IsSaid → Opens e N (lines_of bytes) rest → IsWrong (lines_of bytes) l Spelling → slice_get (drop (l - 1) (lines_of bytes)) 0 ≡ o → IsUnspelledIn (length e.crafts) o
in-unspelled bytes e N l rest None small said opens w is = tt
in-unspelled bytes e N l rest (Some text) small said opens w is = record { few = omega (arith, small, line-short bytes (l - 1) text is); none = entry-unspelled bytes e N l rest Spelling text said refl opens w is }

pub next-unspelled : (bytes : List ℕ) (e : Parts) (N l count : ℕ) (rest left : List (List ℕ)) → length bytes < 4294967295 → IsSaid → Opens e N (lines_of bytes) rest → IsWrong (lines_of bytes) l Spelling → left ≡ drop (l - 1) (lines_of bytes) → count ≡ length e.crafts
    → IsUnspelledIn count (slice_get left 0)
next-unspelled bytes e N l count rest left small said opens w is same =
    subst (λ n. IsUnspelledIn n (slice_get left 0)) (sym same) (subst (λ t. IsUnspelledIn (length e.crafts) (slice_get t 0)) (sym is) (in-unspelled bytes e N l rest (slice_get (drop (l - 1) (lines_of bytes)) 0) small said opens w refl))

pub entry-told : (bytes : List ℕ) (line : ℕ) (e : Parts) (N : ℕ) (rest : List (List ℕ)) (here : Option (List ℕ)) (crafts entries : ℕ) (told : List ℕ) → Opens e N (lines_of bytes) rest → line ≡ first_entry e + entries → here ≡ line_at bytes line → crafts ≡ length e.crafts
    → IsToldBy line (TellsEntryLine crafts N entries here) told → IsToldBy line (TellsSpelledEntry bytes line) told
entry-told bytes line e N rest here crafts entries told opens at there same t = record {
  why = t.why;
  fitting = record {
    encounter = e;
    announced = N;
    rest = rest;
    opens = opens;
    entries = entries;
    line_is = at;
    tells = subst (λ n. TellsEntryLine n N entries (line_at bytes line) t.why) same (subst (λ o. TellsEntryLine crafts N entries o t.why) there t.fitting);
  };
  told_is = t.told_is;
}
