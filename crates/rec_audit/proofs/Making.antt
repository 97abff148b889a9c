-- One line, and the entry that is made for it.
use Rattle.std.proofs.Common.{◌≡◌, ◌≢◌, ℕ, ◌+◌, ◌<◌, Bool, true, false, not, eqb, List, [], ◌∷◌, ◌++◌, map, length, Some, refl, sym, ap, ◌∙◌, subst, append_assoc, arith}
use Rattle.std.specs.Prelude.{reverse, slice_get}
use Rattle.std.specs.Cmp.Lexicographic.{pointwise}
use Rattle.std.proofs.lemmas.Bool.Decides.{Decides-eqb}
use Rattle.std.proofs.lemmas.List.{length-reverse, map-append, reverse-append}
use Rattle.std.proofs.lemmas.List.Elements.{All-head}
use Rattle.std.proofs.lemmas.Slice.Eq.{slice_eq-Decides}
use Rattle.acas_base.specs.Encounter.{IsEncounter, Parts}
use Rattle.acas_base.specs.declared.entry.Entry.{Entry}
use Rattle.acas_lines.specs.Lines.{joined}
use Rattle.air_journal.proofs.WellFormed.{entries-fit}
use Rattle.air_journal.specs.Airs.{air_of}
use Rattle.air_journal.specs.Ranges.{IsEntry}
use Rattle.air_rules.specs.Air.{Air}
use Rattle.air_rules.specs.Rules.{IsAllowed, IsLegal, empty, extended}
use Rattle.rec_audit.proofs.Ending.{get-after}
use Rattle.rec_audit.specs.Asking.{Added, NothingAbout}
use Rattle.rec_audit.specs.Cursors.{Cursor}
use Rattle.rec_audit.specs.Engine.{AddedNext, IsWrongNext, StoppedAt}
use Rattle.rec_audit.specs.Keys.{key}
use Rattle.rec_audit.specs.Replays.{IsWrongLine, Replays, StopsAt, changed, forbidden}
use Rattle.rec_audit.specs.declared.keys.Key.{Key}
use Rattle.rec_audit.specs.declared.fault.Fault.{Fault}
use Rattle.rec_audit.specs.declared.verdict.Reason.{Reason}
use Rattle.rec_audit.specs.declared.verdict.Reason.TheVariants.{NotAllowed, OtherContent}
use Rattle.rec_text.specs.Entries.{entry_line, entry_lines}

flipped : (b : Bool) → not b ≡ false → b ≡ true
flipped true h = refl
flipped false h = absurd cc

-- What `!=` says of two texts.
pub unequal : (xs ys : List ℕ) (r : Bool) → r ≡ not (pointwise eqb xs ys) → r ≡ true → xs ≢ ys
unequal xs ys r h t = λ e. let same = (slice_eq-Decides Decides-eqb xs ys (pointwise eqb xs ys) refl).1 e in absurd cc

pub equal : (xs ys : List ℕ) (r : Bool) → r ≡ not (pointwise eqb xs ys) → r ≡ false → xs ≡ ys
equal xs ys r h t = (slice_eq-Decides Decides-eqb xs ys (pointwise eqb xs ys) refl).0 (flipped (pointwise eqb xs ys) (sym h ∙ t))

-- What `==` says of them.
pub same-slice : (xs ys : List ℕ) (r : Bool) → r ≡ pointwise eqb xs ys → r ≡ true → xs ≡ ys
same-slice xs ys r h t = (slice_eq-Decides Decides-eqb xs ys r h).0 t

pub other-slice : (xs ys : List ℕ) (r : Bool) → r ≡ pointwise eqb xs ys → r ≡ false → xs ≢ ys
other-slice xs ys r h f = λ e. let t = (slice_eq-Decides Decides-eqb xs ys r h).1 e in absurd cc

-- An entry that is allowed after a legal journal has its parts in their ranges.
pub allowed-fits : (e : Parts) (K : List Entry) (entry : Entry) → IsEncounter e → IsLegal (air_of e) K → IsAllowed (air_of e) K entry → IsEntry (length e.crafts) entry
allowed-fits e K entry is legal may = All-head (IsEntry (length e.crafts)) entry K (entries-fit e (entry ∷ K) is (extended legal may))

-- What is allowed about the same thing has another line.
pub other-entry : (air : Air) (K J : List Entry) (about : Key) (entry : Entry) (line : List ℕ) → IsEntry air.count entry → line ≡ entry_line air.count entry → key entry ≡ about → (a : Added air K J about) →
    line ≢ entry_line air.count a.entry → IsWrongLine air K line OtherContent
other-entry air K J about entry line fits spelled told a other = changed entry a.entry fits spelled (a.about_is ∙ sym told) a.allowed (λ same. other (spelled ∙ ap (entry_line air.count) (sym same)))

-- Nothing about the same thing is allowed.
pub no-entry : (air : Air) (K : List Entry) (about : Key) (entry : Entry) (line : List ℕ) → IsEntry air.count entry → line ≡ entry_line air.count entry → key entry ≡ about → NothingAbout air K about → IsWrongLine air K line NotAllowed
no-entry air K about entry line fits spelled told none = forbidden entry fits spelled (λ other same may. none other (same ∙ told) may)

-- The newest entry stands at the end.
pub newest-at : (K J : List Entry) (entry : Entry) (at : ℕ) → J ≡ entry ∷ K → at ≡ length K → slice_get (reverse J) at ≡ Some entry
newest-at K J entry at is here =
    ap (λ (l : List Entry). slice_get (reverse l) at) is ∙ ap (λ (l : List Entry). slice_get l at) (reverse-append (entry ∷ []) K) ∙ ap (slice_get (reverse K ++ entry ∷ [])) (here ∙ sym (length-reverse K)) ∙ get-after (reverse K) (entry ∷ [])

-- The next line is this one, and so the text begins with it.
pub next-line : (text line wanted : List ℕ) (lines rest : List (List ℕ)) → text ≡ joined lines → lines ≡ line ∷ rest → wanted ≡ line → text ≡ wanted ++ joined rest
next-line text line wanted lines rest all is same = all ∙ ap joined is ∙ ap (λ l. l ++ joined rest) (sym same)

-- ---- from line to line

pub lines-more : (count : ℕ) (entry : Entry) (K : List Entry) → entry_lines count (entry ∷ K) ≡ entry_lines count K ++ entry_line count entry ∷ []
lines-more count entry K = ap (map (entry_line count)) (reverse-append (entry ∷ []) K) ∙ map-append (entry_line count) (reverse K) (entry ∷ [])

-- One entry more.
pub replays-more : (air : Air) (lines : List (List ℕ)) (K J : List Entry) (now new : Cursor) → Replays air lines K now.left → AddedNext air K J now new → Replays air lines J new.left
replays-more air lines K J now new r a =
    subst (λ (L : List Entry). Replays air lines L new.left) (sym a.new_is) (record {
      legal = extended r.legal a.allowed;
      begins = r.begins ∙ ap (λ l. entry_lines air.count K ++ l) a.took.lines_are ∙ sym (append_assoc (entry_lines air.count K) (entry_line air.count a.entry ∷ []) new.left)
          ∙ ap (λ t. t ++ new.left) (sym (lines-more air.count a.entry K));
    })

-- Where the entries so far leave the lines.
pub record Reaches (air : Air) (before now : Cursor) (entries : ℕ) (journal : List Entry) : Type 0 where
  pub replays : Replays air before.left journal now.left
  pub count_is : length journal ≡ entries
  pub taken_is : now.taken ≡ before.taken + entries

pub reaches-none : (air : Air) (before : Cursor) (K : List Entry) → K ≡ [] → Reaches air before before 0 K
reaches-none air before K none =
    subst (λ J. Reaches air before before 0 J) (sym none) (record { replays = record { legal = empty; begins = refl }; count_is = refl; taken_is = omega arith })

pub reaches-more : (air : Air) (before now new : Cursor) (entries : ℕ) (K J : List Entry) → Reaches air before now entries K → AddedNext air K J now new → Reaches air before new (entries + 1) J
reaches-more air before now new entries K J r a = record {
  replays = replays-more air before.left K J now new r.replays a;
  count_is = ap length a.new_is ∙ omega (arith, r.count_is);
  taken_is = omega (arith, a.took.taken_is, r.taken_is);
}

-- Where a line is left, the next one is wrong.
stops-at : (air : Air) (before now : Cursor) (entries : ℕ) (K : List Entry) (left : List (List ℕ)) (reason : Reason) → Reaches air before now entries K → now.left ≡ left → left ≢ [] → IsWrongNext air K now.left reason → StopsAt air before.left entries reason
stops-at air before now entries K [] reason r is some wrong = absurd (some refl)
stops-at air before now entries K (line ∷ rest) reason r is some wrong = record {
  journal = K;
  line = line;
  rest = rest;
  replays = subst (λ l. Replays air before.left K l) is r.replays;
  after = r.count_is;
  wrong = wrong line rest is;
}

pub stopped-at : (air : Air) (before now : Cursor) (entries most : ℕ) (K : List Entry) (fault : Fault) → Reaches air before now entries K → now.left ≢ [] → entries < most → fault.line ≡ now.taken + 1 → IsWrongNext air K now.left fault.reason → StoppedAt air before most fault
stopped-at air before now entries most K fault r some low line wrong = record {
  entries = entries;
  stops = stops-at air before now entries K now.left fault.reason r refl some wrong;
  within = low;
  line_is = omega (arith, line, r.taken_is);
}
