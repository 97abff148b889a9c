-- One verdict is given.
use Rattle.std.proofs.Common.{◌≡◌, ℕ, ◌≤◌, List, ◌∷◌, ◌++◌, length, refl, sym, ap, ap₂, ◌∙◌, subst, arith}
use Rattle.std.specs.List.{AllByRecursion}
use Rattle.std.proofs.lemmas.List.{append-nil}
use Rattle.acas_base.specs.Encounter.{IsEncounter, Parts}
use Rattle.acas_base.specs.declared.entry.Entry.{Entry}
use Rattle.acas_lines.proofs.Splitting.{split-joined}
use Rattle.acas_lines.specs.Split.{IsLine, lines_of}
use Rattle.air_journal.proofs.Bounds.{few-crafts, fits, most-few}
use Rattle.air_journal.specs.Airs.{air_of}
use Rattle.air_journal.specs.States.{State}
use Rattle.air_rules.specs.Rules.{IsLegal}
use Rattle.enc_file.specs.Canonical.{canonical_lines}
use Rattle.rec_audit.proofs.Cutting.{journal-whole}
use Rattle.rec_audit.proofs.Making.{allowed-fits}
use Rattle.rec_audit.proofs.Once.{HasLines}
use Rattle.rec_audit.proofs.OneOpening.{IsSaid, opening-once, opening-right, opens-once}
use Rattle.rec_audit.proofs.OneWay.{after-once, after-right, beginning-once, beginning-right, end-once}
use Rattle.rec_audit.specs.Engine.{ReplayedAll, ReplayedFirst}
use Rattle.rec_audit.specs.Judging.{IsBeginningOf, IsLoaded, IsPartLoaded, IsRecordingOf, IsWrong, IsWrongAfter, IsWrongBeginning, IsWrongInPart, Judged, after_opening, after_opening_of_part, at_opening, at_opening_of_part}
use Rattle.rec_audit.specs.Opening.{Opens}
use Rattle.rec_audit.specs.declared.verdict.Loaded.{Loaded}
use Rattle.rec_audit.specs.declared.verdict.Loaded.TheVariants as loaded
use Rattle.rec_audit.specs.declared.verdict.Reason.{Reason}
use Rattle.rec_audit.specs.declared.verdict.Verdict.{Verdict}
use Rattle.rec_audit.specs.declared.verdict.Verdict.TheVariants as verdict
use Rattle.rec_audit.specs.declared.opening.TheConstants.{MOST_TOLD}
use Rattle.rec_text.proofs.Same.{IsTold, encounter-same, journal-same}
use Rattle.rec_text.proofs.Whole.{canonical-whole, each-append, entries-whole, recording-whole}
use Rattle.rec_text.specs.Entries.{entry_lines}
use Rattle.rec_text.specs.Recording.{closing_lines, head_line, journal_line, recording_lines}

has-lines : (e : Parts) → IsEncounter e → HasLines (air_of e)
has-lines e is = record { few = few-crafts e is; fits = λ K entry legal may. allowed-fits e K entry is legal may }

-- ---- recordings

-- What the lines of a recording are.
record Lined (bytes : List ℕ) (state : State) : Type 0 where
  pub opens : Opens state.encounter (length state.journal) (lines_of bytes) (entry_lines (length state.encounter.crafts) state.journal ++ closing_lines state.encounter state.journal)
  pub all : ReplayedAll state.encounter (entry_lines (length state.encounter.crafts) state.journal ++ closing_lines state.encounter state.journal) (length state.journal) state.journal

lined : (bytes : List ℕ) (state : State) → IsRecordingOf bytes state → Lined bytes state
lined bytes state r =
    let e = state.encounter in
    let J = state.journal in
    let few : length J ≤ MOST_TOLD = (let f = fits e J r.is_journal.valid r.is_journal.legal in let g = most-few e r.is_journal.valid in omega arith) in
    record {
      opens = record { encounter = r.is_journal.valid; inside = r.is_journal.inside; told = few; begins = ap lines_of r.bytes_are ∙ split-joined (recording_lines e J) (recording-whole e J r.is_journal.valid r.is_journal.legal) };
      all = record { replays = record { legal = r.is_journal.legal; begins = refl }; count_is = refl; complete = r.complete };
    }

recording-right : (bytes : List ℕ) (state : State) (l : ℕ) (r : Reason) → IsSaid → IsRecordingOf bytes state → IsWrong (lines_of bytes) l r → ⊥
recording-right bytes state l r said is (at_opening w) = opening-right state.encounter (length state.journal) l r (lines_of bytes) _ said (lined bytes state is).opens w
recording-right bytes state l r said is (after_opening {e = f} {count = N} {rest = t} o w) =
    let it = lined bytes state is in
    let one = opens-once f state.encounter N (length state.journal) (lines_of bytes) t _ said o it.opens in
    after-right state.encounter (length state.journal) l r _ state.journal (has-lines state.encounter is.is_journal.valid) it.all
    (subst (λ x. IsWrongAfter state.encounter (length state.journal) x l r) one.rest (subst (λ n. IsWrongAfter state.encounter n t l r) one.count (subst (λ (g : Parts). IsWrongAfter g N t l r) one.encounter w)))

wrong-once : (lines : List (List ℕ)) (l m : ℕ) (r s : Reason) → IsSaid → IsWrong lines l r → IsWrong lines m s → (l ≡ m) × (r ≡ s)
wrong-once lines l m r s said (at_opening w) (at_opening v) = opening-once lines l m r s w v
wrong-once lines l m r s said (at_opening w) (after_opening {e = f} {count = N} {rest = t} o v) = absurd (opening-right f N l r lines t said o w)
wrong-once lines l m r s said (after_opening {e = f} {count = N} {rest = t} o w) (at_opening v) = absurd (opening-right f N m s lines t said o v)
wrong-once lines l m r s said (after_opening {e = e} {count = M} {rest = t} o w) (after_opening {e = f} {count = N} {rest = u} o2 v) =
    let one = opens-once e f M N lines t u said o o2 in
    after-once f N l m r s u (has-lines f o2.encounter)
    (subst (λ x. IsWrongAfter f N x l r) one.rest (subst (λ n. IsWrongAfter f n t l r) one.count (subst (λ (g : Parts). IsWrongAfter g M t l r) one.encounter w))) v

told : (bytes : List ℕ) (state : State) → IsSaid → IsRecordingOf bytes state → IsTold state.encounter state.journal
told bytes state said r = record { valid = r.is_journal.valid; says = said state.encounter r.is_journal.valid r.is_journal.inside; legal = r.is_journal.legal }

state-same : (s t : State) → s.encounter ≡ t.encounter → s.journal ≡ t.journal → s ≡ t
state-same s t a b = ap₂ (λ (e : Parts) (J : List Entry). let x : State = record { encounter = e; journal = J } in x) a b

recording-once : (bytes : List ℕ) (s t : State) → IsSaid → IsRecordingOf bytes s → IsRecordingOf bytes t → s ≡ t
recording-once bytes s t said a b =
    let same = sym a.bytes_are ∙ b.bytes_are in
    state-same s t (encounter-same s.encounter t.encounter s.journal t.journal (told bytes s said a) (told bytes t said b) same)
    (journal-same s.encounter t.encounter s.journal t.journal (told bytes s said a) (told bytes t said b) same)

wrong-same : (l m : ℕ) (r s : Reason) → (l ≡ m) × (r ≡ s) → verdict.Wrong l r ≡ verdict.Wrong m s
wrong-same l m r s h = ap₂ (λ n (x : Reason). verdict.Wrong n x) h.0 h.1

pub judged-once : (bytes : List ℕ) (v w : Verdict) → IsSaid → Judged bytes v → Judged bytes w → v ≡ w
judged-once bytes (verdict.Legal m) (verdict.Legal n) said a b =
    let same = recording-once bytes a.state b.state said a.recording b.recording in
    ap verdict.Legal (sym a.count ∙ ap (λ (s : State). length s.journal) same ∙ b.count)
judged-once bytes (verdict.Legal m) (verdict.Wrong l r) said a b = absurd (recording-right bytes a.state l r said a.recording b)
judged-once bytes (verdict.Wrong l r) (verdict.Legal n) said a b = absurd (recording-right bytes b.state l r said b.recording a)
judged-once bytes (verdict.Wrong l r) (verdict.Wrong m s) said a b = wrong-same l m r s (wrong-once (lines_of bytes) l m r s said a b)

loaded-same : (l m : ℕ) (r s : Reason) → (l ≡ m) × (r ≡ s) → loaded.Wrong l r ≡ loaded.Wrong m s
loaded-same l m r s h = ap₂ (λ n (x : Reason). loaded.Wrong n x) h.0 h.1

pub loaded-once : (bytes : List ℕ) (v w : Loaded) → IsSaid → IsLoaded bytes v → IsLoaded bytes w → v ≡ w
loaded-once bytes (loaded.Legal s) (loaded.Legal t) said a b = ap loaded.Legal (recording-once bytes s t said a b)
loaded-once bytes (loaded.Legal s) (loaded.Wrong l r) said a b = absurd (recording-right bytes s l r said a b)
loaded-once bytes (loaded.Wrong l r) (loaded.Legal t) said a b = absurd (recording-right bytes t l r said b a)
loaded-once bytes (loaded.Wrong l r) (loaded.Wrong m s) said a b = loaded-same l m r s (wrong-once (lines_of bytes) l m r s said a b)

-- ---- beginnings

-- The lines of a beginning.
abbrev first_lines : Parts → ℕ → List Entry → List (List ℕ)
first_lines e N J = head_line ∷ (canonical_lines e ++ journal_line N ∷ entry_lines (length e.crafts) J)

first-whole : (e : Parts) (N : ℕ) (J : List Entry) → IsEncounter e → N ≤ MOST_TOLD → IsLegal (air_of e) J → AllByRecursion IsLine (first_lines e N J)
first-whole e N J is few legal =
    ((recording-whole e J is legal).0, each-append IsLine (canonical_lines e) (journal_line N ∷ entry_lines (length e.crafts) J) (canonical-whole e is) (journal-whole N few, entries-whole e J is legal))

begun : (bytes : List ℕ) (state : State) → (b : IsBeginningOf bytes state) → Opens state.encounter b.count (lines_of bytes) (entry_lines (length state.encounter.crafts) state.journal)
begun bytes state b = record {
  encounter = b.is_journal.valid;
  inside = b.is_journal.inside;
  told = b.told;
  begins = ap lines_of b.bytes_are ∙ split-joined (first_lines state.encounter b.count state.journal) (first-whole state.encounter b.count state.journal b.is_journal.valid b.told b.is_journal.legal);
}

first-all : (bytes : List ℕ) (state : State) → (b : IsBeginningOf bytes state) → ReplayedFirst state.encounter (entry_lines (length state.encounter.crafts) state.journal) b.count state.journal
first-all bytes state b = record { replays = record { legal = b.is_journal.legal; begins = sym (append-nil (entry_lines (length state.encounter.crafts) state.journal)) }; within = b.within }

part-right : (bytes : List ℕ) (state : State) (l : ℕ) (r : Reason) → IsSaid → IsBeginningOf bytes state → IsWrongInPart (lines_of bytes) l r → ⊥
part-right bytes state l r said b (at_opening_of_part w) = opening-right state.encounter b.count l r (lines_of bytes) _ said (begun bytes state b) w
part-right bytes state l r said b (after_opening_of_part {e = f} {count = N} {rest = t} o w) =
    let one = opens-once f state.encounter N b.count (lines_of bytes) t _ said o (begun bytes state b) in
    beginning-right state.encounter b.count l r _ state.journal (has-lines state.encounter b.is_journal.valid) (first-all bytes state b)
    (subst (λ x. IsWrongBeginning state.encounter b.count x l r) one.rest (subst (λ n. IsWrongBeginning state.encounter n t l r) one.count (subst (λ (g : Parts). IsWrongBeginning g N t l r) one.encounter w)))

part-wrong-once : (lines : List (List ℕ)) (l m : ℕ) (r s : Reason) → IsSaid → IsWrongInPart lines l r → IsWrongInPart lines m s → (l ≡ m) × (r ≡ s)
part-wrong-once lines l m r s said (at_opening_of_part w) (at_opening_of_part v) = opening-once lines l m r s w v
part-wrong-once lines l m r s said (at_opening_of_part w) (after_opening_of_part {e = f} {count = N} {rest = t} o v) = absurd (opening-right f N l r lines t said o w)
part-wrong-once lines l m r s said (after_opening_of_part {e = f} {count = N} {rest = t} o w) (at_opening_of_part v) = absurd (opening-right f N m s lines t said o v)
part-wrong-once lines l m r s said (after_opening_of_part {e = e} {count = M} {rest = t} o w) (after_opening_of_part {e = f} {count = N} {rest = u} o2 v) =
    let one = opens-once e f M N lines t u said o o2 in
    beginning-once f N l m r s u (has-lines f o2.encounter)
    (subst (λ x. IsWrongBeginning f N x l r) one.rest (subst (λ n. IsWrongBeginning f n t l r) one.count (subst (λ (g : Parts). IsWrongBeginning g M t l r) one.encounter w))) v

journals-once : (e f : Parts) (J K : List Entry) (r s : List (List ℕ)) (M N : ℕ) → e ≡ f → r ≡ s → IsEncounter f → ReplayedFirst e r M J → ReplayedFirst f s N K → J ≡ K
journals-once e f J K r s M N same rest is a b =
    let mine : ReplayedFirst f s M J = subst (λ x. ReplayedFirst f x M J) rest (subst (λ (g : Parts). ReplayedFirst g r M J) same a) in
    end-once (air_of f) s J K (has-lines f is) mine.replays b.replays

beginning-same : (bytes : List ℕ) (s t : State) → IsSaid → IsBeginningOf bytes s → IsBeginningOf bytes t → s ≡ t
beginning-same bytes s t said a b =
    let one = opens-once s.encounter t.encounter a.count b.count (lines_of bytes) _ _ said (begun bytes s a) (begun bytes t b) in
    state-same s t one.encounter (journals-once s.encounter t.encounter s.journal t.journal _ _ a.count b.count one.encounter one.rest b.is_journal.valid (first-all bytes s a) (first-all bytes t b))

pub part-once : (bytes : List ℕ) (v w : Loaded) → IsSaid → IsPartLoaded bytes v → IsPartLoaded bytes w → v ≡ w
part-once bytes (loaded.Legal s) (loaded.Legal t) said a b = ap loaded.Legal (beginning-same bytes s t said a b)
part-once bytes (loaded.Legal s) (loaded.Wrong l r) said a b = absurd (part-right bytes s l r said a b)
part-once bytes (loaded.Wrong l r) (loaded.Legal t) said a b = absurd (part-right bytes t l r said b a)
part-once bytes (loaded.Wrong l r) (loaded.Wrong m s) said a b = loaded-same l m r s (part-wrong-once (lines_of bytes) l m r s said a b)
