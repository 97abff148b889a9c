-- Where a wrong line stands, and what is told of it.
use Rattle.std.proofs.Common.{◌≡◌, ◌≢◌, ℕ, ◌+◌, ◌-◌, ◌≤◌, true, false, List, [], ◌∷◌, ◌++◌, length, take, drop, Option, Some, None, sym, refl, ap, ◌∙◌, subst, append_assoc, length-append, arith}
use Rattle.std.specs.Borrow.{Bor}
use Rattle.std.specs.Prelude.{MatchOption, reverse}
use Rattle.std.proofs.Math.Seq.{drop-append_seam, take-append_seam}
use Rattle.std.proofs.lemmas.List.{length-map, length-reverse, take-append-drop}
use Rattle.acas_base.specs.Encounter.{Parts}
use Rattle.acas_base.specs.declared.TheConstants.{CRAFTS}
use Rattle.acas_base.specs.declared.entry.Entry.{Entry}
use Rattle.acas_lines.proofs.Splitting.{joined-split}
use Rattle.acas_lines.specs.Lines.{joined}
use Rattle.acas_lines.specs.Split.{lines_of}
use Rattle.air_journal.specs.Airs.{air_of}
use Rattle.air_journal.specs.Ranges.{IsEntry}
use Rattle.air_journal.specs.States.{State}
use Rattle.air_rules.specs.Air.{Air}
use Rattle.enc_file.specs.Canonical.{canonical_lines}
use Rattle.rec_audit.proofs.Beginning.{joined-both}
use Rattle.rec_audit.specs.Allowing.{IsAllowedAbout, IsAllowedLine}
use Rattle.rec_audit.specs.Asking.{NothingAbout}
use Rattle.rec_audit.specs.Cursors.{Cursor, Took}
use Rattle.rec_audit.specs.Explaining.{IsContentSentence, IsToldBy, IsWrongHere, TellsHere, TellsLine, TellsSomething, is_after_entries}
use Rattle.rec_audit.specs.Judging.{IsBeginningOf, IsPartLoaded, IsWrong, IsWrongAfter, after_opening, at_opening, incomplete, other_end, too_few, wrong_entry}
use Rattle.rec_audit.specs.Keys.{key}
use Rattle.rec_audit.specs.Opening.{IsWrongAfterHead, IsWrongOpening, IsWrongPart, Opens, first_entry, no_count, no_end, no_head, not_canonical, refused, wrong_after_head, wrong_part}
use Rattle.rec_audit.specs.Replays.{IsWrongLine, Replays, changed, forbidden, misspelled}
use Rattle.rec_audit.specs.declared.keys.Key.{Key}
use Rattle.rec_audit.specs.declared.verdict.Loaded.{Loaded}
use Rattle.rec_audit.specs.declared.verdict.Loaded.TheVariants as loaded
use Rattle.rec_audit.specs.declared.verdict.Reason.{Reason}
use Rattle.rec_audit.specs.declared.verdict.Reason.TheVariants.{Encounter, Spelling, NotAllowed, OtherContent, Incomplete, Report}
use Rattle.rec_text.proofs.OneEntry.{line-same}
use Rattle.rec_text.specs.Entries.{entry_line, entry_lines}
use Rattle.rec_text.specs.Recording.{head_line, journal_line}
use Rattle.verdict_text.specs.declared.fault.Why.TheVariants as why
use Rattle.verdict_text.specs.declared.wanted.TheConstants.{WANTED_BYTES}

-- ---- where the line stands

part-reason : (part rest : List (List ℕ)) (l : ℕ) (r : Reason) → IsWrongPart part rest l r → is_after_entries r ≡ false
part-reason part rest l r (refused refusal is) = refl
part-reason part rest l r (not_canonical e says other) = refl
part-reason part rest l r (no_count e says same none) = refl

after-head-reason : (lines : List (List ℕ)) (l : ℕ) (r : Reason) → IsWrongAfterHead lines l r → is_after_entries r ≡ false
after-head-reason lines l r (no_end none) = refl
after-head-reason lines l r (wrong_part {part = p} {rest = t} cut w) = part-reason p t l r w

opening-reason : (lines : List (List ℕ)) (l : ℕ) (r : Reason) → IsWrongOpening lines l r → is_after_entries r ≡ false
opening-reason lines l r (no_head none) = refl
opening-reason lines l r (wrong_after_head {rest = t} is w) = after-head-reason t l r w

-- The lines before a line are the beginning of a recording.
pub record StandsAfter (bytes : List ℕ) (line : ℕ) (state : State) (left : List (List ℕ)) : Type 0 where
  pub some : 1 ≤ line
  pub before : IsBeginningOf (joined (take (line - 1) (lines_of bytes))) state
  pub left_is : drop (line - 1) (lines_of bytes) ≡ left

-- A wrong line, with the beginning before it.
pub record IsPlaced (bytes : List ℕ) (line : ℕ) (r : Reason) : Type 0 where
  pub state : State
  pub left : List (List ℕ)
  pub stands : StandsAfter bytes line state left
  pub wrong : IsWrongHere (air_of state.encounter) state.journal left r

abbrev pub first_lines : Parts → ℕ → List Entry → List (List ℕ)
first_lines e N J = head_line ∷ (canonical_lines e ++ journal_line N ∷ entry_lines (length e.crafts) J)

first-long : (e : Parts) (N : ℕ) (J : List Entry) → length (first_lines e N J) ≡ length (canonical_lines e) + 2 + length J
first-long e N J = omega (arith, length-append (canonical_lines e) (journal_line N ∷ entry_lines (length e.crafts) J), length-map (reverse J) (entry_line (length e.crafts)), length-reverse J)

pub first-split : (e : Parts) (N : ℕ) (J : List Entry) (lines rest left : List (List ℕ)) → Opens e N lines rest → Replays (air_of e) rest J left → lines ≡ first_lines e N J ++ left
first-split e N J lines rest left o r =
    o.begins ∙ ap (λ t. head_line ∷ (canonical_lines e ++ journal_line N ∷ t)) r.begins
    ∙ ap (λ t. head_line ∷ t) (sym (append_assoc (canonical_lines e) (journal_line N ∷ entry_lines (length e.crafts) J) left))

pub stands-after : (bytes : List ℕ) (e : Parts) (N line : ℕ) (J : List Entry) (rest left : List (List ℕ)) → Opens e N (lines_of bytes) rest → Replays (air_of e) rest J left → length J ≤ N → line ≡ first_entry e + length J
    → StandsAfter bytes line (record { encounter = e; journal = J }) left
stands-after bytes e N line J rest left o r within here =
    let all = first-split e N J (lines_of bytes) rest left o r in
    let n : line - 1 ≡ length (first_lines e N J) = omega (arith, here, first-long e N J) in
    let front : take (line - 1) (lines_of bytes) ≡ first_lines e N J = ap (λ k. take k (lines_of bytes)) n ∙ ap (take (length (first_lines e N J))) all ∙ take-append_seam (first_lines e N J) left in
    record {
      some = omega (arith, here);
      before = record {
        is_journal = record { valid = o.encounter; inside = o.inside; legal = r.legal };
        count = N;
        told = o.told;
        within = within;
        bytes_are = ap joined front;
      };
      left_is = ap (λ k. drop k (lines_of bytes)) n ∙ ap (drop (length (first_lines e N J))) all ∙ drop-append_seam (first_lines e N J) left;
    }

here-wrong : (air : Air) (J : List Entry) (line : List ℕ) (rest : List (List ℕ)) (r : Reason) → is_after_entries r ≡ true → IsWrongLine air J line r → IsWrongHere air J (line ∷ rest) r
here-wrong air J line rest r after (misspelled none) = absurd cc
here-wrong air J line rest r after (forbidden x fits is none) = (line, rest, refl, forbidden x fits is none)
here-wrong air J line rest r after (changed x f fits is about may other) = (line, rest, refl, changed x f fits is about may other)

after-placed : (bytes : List ℕ) (e : Parts) (N l : ℕ) (rest : List (List ℕ)) (r : Reason) → is_after_entries r ≡ true → Opens e N (lines_of bytes) rest → IsWrongAfter e N rest l r → IsPlaced bytes l r
after-placed bytes e N l rest r after o (wrong_entry {entries = n} stop low) = record {
  state = record { encounter = e; journal = stop.journal };
  left = stop.line ∷ stop.rest;
  stands = stands-after bytes e N l stop.journal rest (stop.line ∷ stop.rest) o stop.replays (omega (arith, low, stop.after)) (omega (arith, stop.after));
  wrong = here-wrong (air_of e) stop.journal stop.line stop.rest r after stop.wrong;
}
after-placed bytes e N l rest r after o (too_few replays few) = absurd cc
after-placed bytes e N l rest r after o (incomplete {journal = J} {rest = t} replays all not) = record {
  state = record { encounter = e; journal = J };
  left = t;
  stands = stands-after bytes e N l J rest t o replays (omega (arith, all)) (omega (arith, all));
  wrong = not;
}
after-placed bytes e N l rest r after o (other_end replays all complete differ) = absurd cc

pub placed : (bytes : List ℕ) (l : ℕ) (r : Reason) → is_after_entries r ≡ true → IsWrong (lines_of bytes) l r → IsPlaced bytes l r
placed bytes l r after (at_opening w) = absurd (let no = opening-reason (lines_of bytes) l r w in cc)
placed bytes l r after (after_opening {e = e} {count = N} {rest = t} o w) = after-placed bytes e N l t r after o w

-- ---- the bytes before a line

pub next-drop : (old new : Cursor) (r : Option (Bor (List ℕ))) → MatchOption r ((old.left ≡ []) × (new ≡ old)) (λ line. Took old new (line.now ∷ [])) → new.left ≡ drop 1 old.left
next-drop old new None h = ap (λ (a : Cursor). a.left) h.1 ∙ h.0 ∙ sym (ap (drop 1) h.0)
next-drop old new (Some line) t = sym (ap (drop 1) t.lines_are)

pub rest-within : (bytes rest : List ℕ) (n : ℕ) → rest ≡ joined (drop n (lines_of bytes)) → length bytes ≡ length (joined (take n (lines_of bytes))) + length rest
rest-within bytes rest n is =
    let whole : bytes ≡ joined (take n (lines_of bytes)) ++ rest =
    sym (joined-split bytes) ∙ ap joined (sym (take-append-drop n (lines_of bytes))) ∙ joined-both (take n (lines_of bytes)) (drop n (lines_of bytes)) ∙ ap (λ t. joined (take n (lines_of bytes)) ++ t) (sym is) in
    ap length whole ∙ length-append (joined (take n (lines_of bytes))) rest

pub before-bytes : (bytes rest : List ℕ) (n : ℕ) → rest ≡ joined (drop n (lines_of bytes)) → take (length bytes - length rest) bytes ≡ joined (take n (lines_of bytes))
before-bytes bytes rest n is =
    let front = joined (take n (lines_of bytes)) in
    let whole : bytes ≡ front ++ rest =
    sym (joined-split bytes) ∙ ap joined (sym (take-append-drop n (lines_of bytes))) ∙ joined-both (take n (lines_of bytes)) (drop n (lines_of bytes)) ∙ ap (λ t. front ++ t) (sym is) in
    let long : length bytes - length rest ≡ length front = omega (arith, rest-within bytes rest n is) in
    ap (λ k. take k bytes) long ∙ ap (take (length front)) whole ∙ take-append_seam front rest

-- ---- what is told

-- What is told after the journal of a beginning is told of the line after it.
pub told-after : (bytes : List ℕ) (line : ℕ) (r : Reason) (state : State) (left : List (List ℕ)) (told : List ℕ) → is_after_entries r ≡ true → StandsAfter bytes line state left
    → IsToldBy line (TellsHere (air_of state.encounter) state.journal left r) told → TellsSomething bytes line r told
told-after bytes line (Encounter code) state left told after s t = absurd cc
told-after bytes line Spelling state left told after s t = absurd cc
told-after bytes line NotAllowed state left told after s t = record {
  why = t.why;
  fitting = record { state = state; before = s.before; tells = subst (λ x. TellsHere (air_of state.encounter) state.journal x NotAllowed t.why) (sym s.left_is) t.fitting };
  told_is = t.told_is;
}
told-after bytes line OtherContent state left told after s t = record {
  why = t.why;
  fitting = record { state = state; before = s.before; tells = subst (λ x. TellsHere (air_of state.encounter) state.journal x OtherContent t.why) (sym s.left_is) t.fitting };
  told_is = t.told_is;
}
told-after bytes line Incomplete state left told after s t = record {
  why = t.why;
  fitting = record { state = state; before = s.before; tells = t.fitting };
  told_is = t.told_is;
}
told-after bytes line Report state left told after s t = absurd cc

-- Nothing about the thing of a wrong line is allowed, where its reason says so.
pub bars-it : (air : Air) (J : List Entry) (line : List ℕ) (entry : Entry) → air.count ≤ CRAFTS → IsEntry air.count entry → line ≡ entry_line air.count entry → IsWrongLine air J line NotAllowed → NothingAbout air J (key entry)
bars-it air J line entry few fits is (forbidden x fits2 spelled none) =
    let same : x ≡ entry = line-same air.count x entry few fits2 fits (sym spelled ∙ is) in λ other about may. none other (about ∙ ap key (sym same)) may

-- Another entry about it is allowed, where its reason says so.
pub allows-other : (air : Air) (J : List Entry) (line : List ℕ) (entry : Entry) → air.count ≤ CRAFTS → IsEntry air.count entry → line ≡ entry_line air.count entry → IsWrongLine air J line OtherContent → IsAllowedAbout air J (key entry)
allows-other air J line entry few fits is (changed x f fits2 spelled about may other) =
    let same : x ≡ entry = line-same air.count x entry few fits2 fits (sym spelled ∙ is) in record { entry = f; about_is = about ∙ ap key same; allowed = may }

-- The line is that of an entry.
pub spelled-barred : (air : Air) (J : List Entry) (line : List ℕ) → IsWrongLine air J line NotAllowed → ((entry : Entry) → IsEntry air.count entry → entry_line air.count entry ≢ line) → ⊥
spelled-barred air J line (forbidden x fits is none) never = never x fits (sym is)

pub spelled-other : (air : Air) (J : List Entry) (line : List ℕ) → IsWrongLine air J line OtherContent → ((entry : Entry) → IsEntry air.count entry → entry_line air.count entry ≢ line) → ⊥
spelled-other air J line (changed x f fits is about may other) never = never x fits (sym is)

-- The line that is allowed is told.
pub content-told : (air : Air) (J : List Entry) (line : ℕ) (left rest : List (List ℕ)) (text : List ℕ) (entry : Entry) (about : Key) (allowed wanted told : List ℕ) → left ≡ text ∷ rest → IsEntry air.count entry → text ≡ entry_line air.count entry
    → about ≡ key entry → IsAllowedLine air J about allowed → wanted ≡ take WANTED_BYTES allowed → IsContentSentence line wanted told → IsToldBy line (TellsLine air J left OtherContent) told
content-told air J line left rest text entry about allowed wanted told is fits spelled same may cut sentence = record {
  why = why.OtherContent sentence.0;
  fitting = record {
    entry = entry;
    later = rest;
    fits = fits;
    spelled = is ∙ ap (λ l. l ∷ rest) spelled;
    tells = (allowed, subst (λ (k : Key). IsAllowedLine air J k allowed) same may, sentence.1 ∙ cut);
  };
  told_is = sentence.2;
}

-- ---- the state before a line

-- One thing at most is loaded from the beginning of a recording.
abbrev pub LoadsOnce : Type 0
LoadsOnce = (bytes : List ℕ) (one two : Loaded) → IsPartLoaded bytes one → IsPartLoaded bytes two → one ≡ two

pub state-before : (bytes part : List ℕ) (line : ℕ) (r : Reason) (found : Loaded) → LoadsOnce → (p : IsPlaced bytes line r) → part ≡ joined (take (line - 1) (lines_of bytes)) → IsPartLoaded part found → loaded.Legal p.state ≡ found
state-before bytes part line r found once p cut h = once part (loaded.Legal p.state) found (subst (λ b. IsBeginningOf b p.state) (sym cut) p.stands.before) h

pub same-state : (s t : State) → loaded.Legal s ≡ loaded.Legal t → s ≡ t
same-state s t e = cc

pub wrong-moved : (s t : State) (left other : List (List ℕ)) (r : Reason) → s ≡ t → left ≡ other → IsWrongHere (air_of s.encounter) s.journal left r → IsWrongHere (air_of t.encounter) t.journal other r
wrong-moved s t left other r a b h = subst (λ x. IsWrongHere (air_of t.encounter) t.journal x r) b (subst (λ (x : State). IsWrongHere (air_of x.encounter) x.journal left r) a h)

pub stands-moved : (bytes : List ℕ) (line : ℕ) (s t : State) (left other : List (List ℕ)) → s ≡ t → left ≡ other → StandsAfter bytes line s left → StandsAfter bytes line t other
stands-moved bytes line s t left other a b h = subst (λ x. StandsAfter bytes line t x) b (subst (λ (x : State). StandsAfter bytes line x left) a h)
