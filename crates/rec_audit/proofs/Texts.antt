-- What is told of a line by its text.
use Rattle.std.proofs.Common.{◌≡◌, ◌≢◌, ℕ, ◌+◌, ◌-◌, ◌≤◌, zero, suc, Bool, true, false, List, [], ◌∷◌, ◌++◌, length, take, Option, Some, None, slice_get, sym, refl, ap, ◌∙◌, subst, arith, inl, inr}
use Rattle.std.specs.Prelude.{MatchBool, option_map}
use Rattle.std.proofs.lemmas.List.{append-nil}
use Rattle.acas_base.specs.Encounter.{Parts}
use Rattle.acas_base.specs.declared.entry.Entry.{Entry}
use Rattle.acas_lines.proofs.Splitting.{joined-split}
use Rattle.acas_lines.specs.Differing.{DifferAt}
use Rattle.acas_lines.specs.Lines.{joined}
use Rattle.acas_lines.specs.Split.{lines_of}
use Rattle.advisory_report.specs.Cells.{flag}
use Rattle.air_journal.specs.Airs.{air_of}
use Rattle.air_journal.specs.States.{State}
use Rattle.air_rules.specs.Air.{Air}
use Rattle.air_rules.specs.Rules.{IsComplete}
use Rattle.rec_audit.proofs.Telling.{LoadsOnce, StandsAfter, first-split, first_lines, stands-after}
use Rattle.rec_audit.specs.Cursors.{Cursor, Took}
use Rattle.rec_audit.specs.Explaining.{IsFound, IsOtherSentence, IsToldBy, IsWhole, TellsClosing, TellsReport, TellsReturn, TellsShown, fault_of, has_return_in, line_at}
use Rattle.rec_audit.specs.Judging.{IsBeginningOf, IsPartLoaded, IsWrong, IsWrongAfter, after_opening, after_opening_of_part, at_opening, incomplete, other_end, too_few, too_many, wrong_entry}
use Rattle.rec_audit.specs.Opening.{IsWrongAfterHead, IsWrongOpening, IsWrongPart, Opens, first_entry, no_count, no_end, no_head, not_canonical, refused, wrong_after_head, wrong_part}
use Rattle.rec_audit.specs.Replays.{IsWrongLine, Replays, changed, forbidden, misspelled}
use Rattle.rec_audit.specs.declared.verdict.Loaded.{Loaded}
use Rattle.rec_audit.specs.declared.verdict.Loaded.TheVariants as loaded
use Rattle.rec_audit.specs.declared.verdict.Reason.{Reason}
use Rattle.rec_audit.specs.declared.verdict.Reason.TheVariants.{Report}
use Rattle.rec_text.specs.Recording.{closing_lines, head_line}
use Rattle.verdict_text.specs.Sentences.{sentence}
use Rattle.verdict_text.specs.declared.fault.Found.{Found}
use Rattle.verdict_text.specs.declared.fault.Why.{Why}
use Rattle.verdict_text.specs.declared.fault.Why.TheVariants as why
use Rattle.verdict_text.specs.declared.wanted.TheConstants.{WANTED_BYTES}

-- ---- the next line

pub first-line : (here old new : Cursor) (line : List ℕ) → old ≡ here → Took old new (line ∷ []) → slice_get here.left 0 ≡ Some line
first-line here old new line same t = ap (λ (a : Cursor). slice_get a.left 0) (sym same) ∙ ap (λ l. slice_get l 0) t.lines_are

pub first-none : (here old : Cursor) → old ≡ here → old.left ≡ [] → slice_get here.left 0 ≡ None
first-none here old same none = ap (λ (a : Cursor). slice_get a.left 0) (sym same) ∙ ap (λ l. slice_get l 0) none

-- ---- spelling

pub whole-text : (text front : List ℕ) (b : Bool) → text ≡ front ++ flag b (10 ∷ []) → b ≡ true → IsWhole text
whole-text text front b is yes-flag = (front, is ∙ ap (λ x. front ++ flag x (10 ∷ [])) yes-flag)

pub other-told : (line : ℕ) (here : Option (List ℕ)) (wanted : List ℕ) (f : Found) (told : List ℕ) → IsFound here f → IsOtherSentence line wanted f told → IsToldBy line (TellsShown here wanted) told
other-told line here wanted f told found s = record { why = why.OtherLine s.0 f; fitting = (s.1, found); told_is = s.2 }

-- ---- carriage returns

pub return-told : (line : ℕ) (here : Option (List ℕ)) (tells : Why → Type 0) (told : List ℕ) → has_return_in here ≡ true → told ≡ sentence (fault_of line why.CarriageReturn) → IsToldBy line (TellsReturn here tells) told
return-told line here tells told is said = record {
  why = why.CarriageReturn;
  fitting = subst (λ b. MatchBool b (why.CarriageReturn ≡ why.CarriageReturn) (tells why.CarriageReturn)) (sym is) refl;
  told_is = said;
}

pub without-return : (line : ℕ) (here : Option (List ℕ)) (tells : Why → Type 0) (told : List ℕ) → has_return_in here ≡ false → IsToldBy line tells told → IsToldBy line (TellsReturn here tells) told
without-return line here tells told is h = record {
  why = h.why;
  fitting = subst (λ b. MatchBool b (h.why ≡ why.CarriageReturn) (tells h.why)) (sym is) h.fitting;
  told_is = h.told_is;
}

-- ---- lines have numbers from 1

part-some : (part rest : List (List ℕ)) (l : ℕ) (r : Reason) → IsWrongPart part rest l r → 1 ≤ l
part-some part rest l r (refused refusal is) = omega arith
part-some part rest l r (not_canonical e says other) = omega arith
part-some part rest l r (no_count e says same none) = omega arith

head-some : (lines : List (List ℕ)) (l : ℕ) (r : Reason) → IsWrongAfterHead lines l r → 1 ≤ l
head-some lines l r (no_end none) = omega arith
head-some lines l r (wrong_part {part = p} {rest = t} cut w) = part-some p t l r w

opening-some : (lines : List (List ℕ)) (l : ℕ) (r : Reason) → IsWrongOpening lines l r → 1 ≤ l
opening-some lines l r (no_head none) = omega arith
opening-some lines l r (wrong_after_head {rest = t} is w) = head-some t l r w

after-some : (e : Parts) (N l : ℕ) (t : List (List ℕ)) (r : Reason) → IsWrongAfter e N t l r → 1 ≤ l
after-some e N l t r (wrong_entry stop low) = omega arith
after-some e N l t r (too_few replays few) = omega arith
after-some e N l t r (incomplete replays all not) = omega arith
after-some e N l t r (other_end replays all complete differ) = omega arith

pub some-line : (lines : List (List ℕ)) (l : ℕ) (r : Reason) → IsWrong lines l r → 1 ≤ l
some-line lines l r (at_opening w) = opening-some lines l r w
some-line lines l r (after_opening {e = e} {count = N} {rest = t} o w) = after-some e N l t r w

-- ---- the report and the close

pub none-more : (line : ℕ) (here o : Option (List ℕ)) (told : List ℕ) → None ≡ option_map (take WANTED_BYTES) o → told ≡ sentence (fault_of line why.TooMany) → IsToldBy line (TellsClosing here o) told
none-more line here None told is said = record { why = why.TooMany; fitting = refl; told_is = said }
none-more line here (Some l) told is said = absurd cc

pub one-more : (line : ℕ) (here o : Option (List ℕ)) (wanted told : List ℕ) → Some wanted ≡ option_map (take WANTED_BYTES) o → IsToldBy line (TellsShown here wanted) told → IsToldBy line (TellsClosing here o) told
one-more line here None wanted told is h = absurd cc
one-more line here (Some l) wanted told is h = (let same : wanted ≡ take WANTED_BYTES l = cc in subst (λ x. IsToldBy line (TellsShown here x) told) same h)

-- ---- where the entries end

abbrev is_report : Reason → Bool
is_report Report = true
is_report other = false

part-report : (part rest : List (List ℕ)) (l : ℕ) (r : Reason) → IsWrongPart part rest l r → is_report r ≡ false
part-report part rest l r (refused refusal is) = refl
part-report part rest l r (not_canonical e says other) = refl
part-report part rest l r (no_count e says same none) = refl

head-report : (lines : List (List ℕ)) (l : ℕ) (r : Reason) → IsWrongAfterHead lines l r → is_report r ≡ false
head-report lines l r (no_end none) = refl
head-report lines l r (wrong_part {part = p} {rest = t} cut w) = part-report p t l r w

opening-report : (lines : List (List ℕ)) (l : ℕ) (r : Reason) → IsWrongOpening lines l r → is_report r ≡ false
opening-report lines l r (no_head none) = refl
opening-report lines l r (wrong_after_head {rest = t} is w) = head-report t l r w

line-report : (air : Air) (K : List Entry) (line : List ℕ) (r : Reason) → IsWrongLine air K line r → is_report r ≡ false
line-report air K line r (misspelled none) = refl
line-report air K line r (forbidden x fits is none) = refl
line-report air K line r (changed x f fits is about may other) = refl

-- What is loaded of the bytes as a beginning.
abbrev pub part_of : State → ℕ → List (List ℕ) → Loaded
part_of state end [] = loaded.Legal state
part_of state end (line ∷ rest) = loaded.Wrong end Report

-- Where the report begins, and the first line of it that differs.
pub record IsReport (bytes : List ℕ) (line : ℕ) : Type 0 where
  pub state : State
  pub left : List (List ℕ)
  pub end : ℕ
  pub same : ℕ
  pub stands : StandsAfter bytes end state left
  pub complete : IsComplete (air_of state.encounter) state.journal
  pub differ : DifferAt same left (closing_lines state.encounter state.journal)
  pub line_is : line ≡ end + same
  pub loads : IsPartLoaded bytes (part_of state end left)

part-loads : (bytes : List ℕ) (e : Parts) (N : ℕ) (K : List Entry) (t left : List (List ℕ)) → Opens e N (lines_of bytes) t → Replays (air_of e) t K left → length K ≡ N → IsPartLoaded bytes (part_of (record { encounter = e; journal = K }) (first_entry e + N) left)
part-loads bytes e N K t [] o r all = record {
  is_journal = record { valid = o.encounter; inside = o.inside; legal = r.legal };
  count = N;
  told = o.told;
  within = omega (arith, all);
  bytes_are = sym (joined-split bytes) ∙ ap joined (first-split e N K (lines_of bytes) t [] o r ∙ append-nil (first_lines e N K));
}
part-loads bytes e N K t (x ∷ xs) o r all = after_opening_of_part o (too_many r all)

after-report : (bytes : List ℕ) (e : Parts) (N l : ℕ) (t : List (List ℕ)) (r : Reason) → is_report r ≡ true → Opens e N (lines_of bytes) t → IsWrongAfter e N t l r → IsReport bytes l
after-report bytes e N l t r late o (wrong_entry {entries = n} stop low) = absurd (let no-report = line-report (air_of e) stop.journal stop.line r stop.wrong in cc)
after-report bytes e N l t r late o (too_few replays few) = absurd cc
after-report bytes e N l t r late o (incomplete replays all not) = absurd cc
after-report bytes e N l t r late o (other_end {journal = K} {rest = left} {same = same} replays all complete differ) = record {
  state = record { encounter = e; journal = K };
  left = left;
  end = first_entry e + N;
  same = same;
  stands = stands-after bytes e N (first_entry e + N) K t left o replays (omega (arith, all)) (omega (arith, all));
  complete = complete;
  differ = differ;
  line_is = omega arith;
  loads = part-loads bytes e N K t left o replays all;
}

report-of : (bytes : List ℕ) (l : ℕ) (r : Reason) → is_report r ≡ true → IsWrong (lines_of bytes) l r → IsReport bytes l
report-of bytes l r late (at_opening w) = absurd (let no-report = opening-report (lines_of bytes) l r w in cc)
report-of bytes l r late (after_opening {e = e} {count = N} {rest = t} o w) = after-report bytes e N l t r late o w

pub report-placed : (bytes : List ℕ) (l : ℕ) → IsWrong (lines_of bytes) l Report → IsReport bytes l
report-placed bytes l w = report-of bytes l Report refl w

-- The bytes end with the entries.
pub record EndsThere (s state : State) (same : ℕ) : Type 0 where
  pub state_is : state ≡ s
  pub same_is : same ≡ 0

none-same : (same : ℕ) (line : List ℕ) (rest : List (List ℕ)) → take same [] ≡ take same (line ∷ rest) → same ≡ 0
none-same zero line rest is = refl
none-same (suc n) line rest is = absurd cc

ends-there : (s state : State) (end same : ℕ) (left : List (List ℕ)) → loaded.Legal s ≡ part_of state end left → DifferAt same left (closing_lines state.encounter state.journal) → EndsThere s state same
ends-there s state end same [] is differ = record { state_is = (let e : s ≡ state = cc in sym e); same_is = none-same same _ _ differ.front }
ends-there s state end same (x ∷ xs) is differ = absurd cc

pub legal-end : (bytes : List ℕ) (line : ℕ) (s : State) (found : Loaded) → LoadsOnce → (p : IsReport bytes line) → IsPartLoaded bytes found → found ≡ loaded.Legal s → EndsThere s p.state p.same
legal-end bytes line s found once p h is = ends-there s p.state p.end p.same p.left (sym is ∙ once bytes found (part_of p.state p.end p.left) h p.loads) p.differ

wrong-there : (end other : ℕ) (r : Reason) (state : State) (left : List (List ℕ)) → loaded.Wrong other r ≡ part_of state end left → other ≡ end
wrong-there end other r state [] is = absurd cc
wrong-there end other r state (x ∷ xs) is = cc

pub wrong-end : (bytes : List ℕ) (line other : ℕ) (r : Reason) (found : Loaded) → LoadsOnce → (p : IsReport bytes line) → IsPartLoaded bytes found → found ≡ loaded.Wrong other r → other ≡ p.end
wrong-end bytes line other r found once p h is = wrong-there p.end other r p.state p.left (sym is ∙ once bytes found (part_of p.state p.end p.left) h p.loads)

pub state-there : (bytes part : List ℕ) (line : ℕ) (found : Loaded) → LoadsOnce → (p : IsReport bytes line) → part ≡ joined (take (p.end - 1) (lines_of bytes)) → IsPartLoaded part found → loaded.Legal p.state ≡ found
state-there bytes part line found once p cut h = once part (loaded.Legal p.state) found (subst (λ b. IsBeginningOf b p.state) (sym cut) p.stands.before) h

pub report-told : (bytes : List ℕ) (line : ℕ) (told : List ℕ) (p : IsReport bytes line) (s : State) (here : Option (List ℕ)) (same : ℕ) → p.state ≡ s → here ≡ line_at bytes line → same ≡ p.same
    → IsToldBy line (TellsClosing here (slice_get (closing_lines s.encounter s.journal) same)) told → IsToldBy line (TellsReport bytes line) told
report-told bytes line told p s here same one two three h =
    let moved : IsToldBy line (TellsClosing (line_at bytes line) (slice_get (closing_lines p.state.encounter p.state.journal) p.same)) told =
    subst (λ n. IsToldBy line (TellsClosing (line_at bytes line) (slice_get (closing_lines p.state.encounter p.state.journal) n)) told) three
    (subst (λ o. IsToldBy line (TellsClosing o (slice_get (closing_lines p.state.encounter p.state.journal) same)) told) two
    (subst (λ (x : State). IsToldBy line (TellsClosing here (slice_get (closing_lines x.encounter x.journal) same)) told) (sym one) h)) in
    record {
      why = moved.why;
      fitting = record {
        state = p.state;
        end = p.end;
        before = p.stands.before;
        complete = p.complete;
        same = p.same;
        line_is = p.line_is;
        differ = subst (λ l. DifferAt p.same l (closing_lines p.state.encounter p.state.journal)) (sym p.stands.left_is) p.differ;
        tells = moved.fitting;
      };
      told_is = moved.told_is;
    }
