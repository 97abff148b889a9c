-- What follows the number of entries is judged in one way.
use Rattle.std.proofs.Common.{◌≡◌, ℕ, zero, suc, ◌+◌, ◌<◌, List, [], ◌∷◌, ◌++◌, length, get_or, drop, slice_get, Some, take, refl, sym, ap, ◌∙◌, subst, inl, inr, arith, length-append}
use Rattle.std.specs.Prelude.{reverse}
use Rattle.std.proofs.lemmas.Bool.{cases_lt}
use Rattle.std.proofs.lemmas.List.{append_cancel_left, length-map, length-reverse}
use Rattle.acas_base.specs.Encounter.{Parts}
use Rattle.acas_base.specs.declared.entry.Entry.{Entry}
use Rattle.air_journal.specs.Airs.{air_of}
use Rattle.air_rules.specs.Air.{Air}
use Rattle.air_rules.specs.Rules.{IsComplete}
use Rattle.rec_audit.proofs.Once.{HasLines, one-journal, stops-there, wrong-once}
use Rattle.acas_lines.specs.Differing.{DifferAt}
use Rattle.rec_audit.specs.Engine.{ReplayedAll, ReplayedFirst}
use Rattle.rec_audit.specs.Judging.{IsWrongAfter, IsWrongBeginning, incomplete, other_end, too_few, too_many, wrong_entry, wrong_line}
use Rattle.rec_audit.specs.Opening.{first_entry}
use Rattle.rec_audit.specs.Replays.{IsWrongLine, Replays, StopsAt}
use Rattle.rec_audit.specs.declared.verdict.Reason.{Reason}
use Rattle.rec_text.specs.Entries.{entry_line, entry_lines}
use Rattle.rec_text.specs.Recording.{closing_lines}

-- How many lines there are.
lines-count : (air : Air) (lines rest : List (List ℕ)) (J : List Entry) → Replays air lines J rest → length lines ≡ length J + length rest
lines-count air lines rest J r =
    ap length r.begins ∙ length-append (entry_lines air.count J) rest ∙ ap (λ k. k + length rest) (length-map (reverse J) (entry_line air.count) ∙ length-reverse J)

-- The same journal leaves the same lines.
rest-same : (air : Air) (lines r s : List (List ℕ)) (J K : List Entry) → J ≡ K → Replays air lines J r → Replays air lines K s → r ≡ s
rest-same air lines r s J K same a b =
    append_cancel_left (entry_lines air.count J) r s (sym a.begins ∙ b.begins ∙ ap (λ L. entry_lines air.count L ++ s) (sym same))

pub stops-once : (air : Air) (lines : List (List ℕ)) (m n : ℕ) (r s : Reason) → HasLines air → StopsAt air lines m r → StopsAt air lines n s → (m ≡ n) × (r ≡ s)
stops-once air lines m n r s has a b = elim (cases_lt m n) [
  | inl h ↦ absurd (stops-there air lines (b.line ∷ b.rest) m r b.journal has a b.replays (omega (arith, b.after)))
  | inr h ↦ elim (cases_lt n m) [
    | inl k ↦ absurd (stops-there air lines (a.line ∷ a.rest) n s a.journal has b a.replays (omega (arith, a.after)))
    | inr k ↦
        let one = one-journal air lines (a.line ∷ a.rest) (b.line ∷ b.rest) a.journal b.journal has a.replays b.replays (omega (arith, a.after, b.after)) in
        let left = rest-same air lines (a.line ∷ a.rest) (b.line ∷ b.rest) a.journal b.journal one a.replays b.replays in
        let line : a.line ≡ b.line = ap (λ t. get_or t 0 []) left in
        let wrong = subst (λ l. IsWrongLine air b.journal l r) line (subst (λ L. IsWrongLine air L a.line r) one a.wrong) in
        (omega arith, wrong-once air b.journal b.line r s has.few wrong b.wrong)
  ]
]

-- Through all entries.
pub stop-or-all : (air : Air) (lines rest : List (List ℕ)) (N n : ℕ) (r : Reason) (J : List Entry) → HasLines air → StopsAt air lines n r → n < N → Replays air lines J rest → length J ≡ N → ⊥
stop-or-all air lines rest N n r J has a below b whole = stops-there air lines rest n r J has a b (omega arith)

-- Through all lines.
pub stop-or-end : (air : Air) (lines : List (List ℕ)) (n : ℕ) (r : Reason) (J : List Entry) → HasLines air → StopsAt air lines n r → Replays air lines J [] → ⊥
stop-or-end air lines n r J has a b = stops-there air lines [] n r J has a b (omega (arith, lines-count air lines [] J b, lines-count air lines (a.line ∷ a.rest) a.journal a.replays, a.after))

pub end-or-all : (air : Air) (lines rest : List (List ℕ)) (N : ℕ) (J K : List Entry) → Replays air lines J [] → length J < N → Replays air lines K rest → length K ≡ N → ⊥
end-or-all air lines rest N J K a short b whole = omega (arith, lines-count air lines [] J a, lines-count air lines rest K b)

-- One journal of all entries, and one rest.
pub record SameEnd (J K : List Entry) (r s : List (List ℕ)) : Type 0 where
  pub journal : J ≡ K
  pub rest : r ≡ s

pub all-once : (air : Air) (lines r s : List (List ℕ)) (N : ℕ) (J K : List Entry) → HasLines air → Replays air lines J r → length J ≡ N → Replays air lines K s → length K ≡ N → SameEnd J K r s
all-once air lines r s N J K has a h b k =
    let one = one-journal air lines r s J K has a b (omega arith) in
    record { journal = one; rest = rest-same air lines r s J K one a b }

-- ---- where two lists differ

take-less : {X : Type 0} (m n : ℕ) (xs ys : List X) → m < n → take n xs ≡ take n ys → slice_get xs m ≡ slice_get ys m
take-less m zero xs ys h e = absurd (omega arith)
take-less m (suc n) [] [] h e = refl
take-less m (suc n) [] (y ∷ ys) h e = absurd cc
take-less m (suc n) (x ∷ xs) [] h e = absurd cc
take-less zero (suc n) (x ∷ xs) (y ∷ ys) h e = let one : x ≡ y = ap (λ t. get_or t 0 x) e in ap Some one
take-less (suc m) (suc n) (x ∷ xs) (y ∷ ys) h e = take-less m n xs ys (omega arith) (ap (drop 1) e)

differ-once : (m n : ℕ) (xs ys : List (List ℕ)) → DifferAt m xs ys → DifferAt n xs ys → m ≡ n
differ-once m n xs ys a b = elim (cases_lt m n) [
  | inl h ↦ absurd (a.here (take-less m n xs ys h b.front))
  | inr h ↦ elim (cases_lt n m) [ inl k ↦ absurd (b.here (take-less n m xs ys k a.front)) | inr k ↦ omega arith ]
]

-- ---- whole recordings

pub after-once : (e : Parts) (N l m : ℕ) (r s : Reason) (lines : List (List ℕ)) → HasLines (air_of e) → IsWrongAfter e N lines l r → IsWrongAfter e N lines m s → (l ≡ m) × (r ≡ s)
after-once e N l m r s lines has (wrong_entry {entries = i} {reason = p} a h) (wrong_entry {entries = j} {reason = q} b k) =
    let one = stops-once (air_of e) lines i j p q has a b in (ap (λ n. first_entry e + n) one.0, one.1)
after-once e N l m r s lines has (wrong_entry {entries = i} {reason = p} a h) (too_few {journal = K} b k) = absurd (stop-or-end (air_of e) lines i p K has a b)
after-once e N l m r s lines has (wrong_entry {entries = i} {reason = p} a h) (incomplete {journal = K} {rest = t} b k open_end) = absurd (stop-or-all (air_of e) lines t N i p K has a h b k)
after-once e N l m r s lines has (wrong_entry {entries = i} {reason = p} a h) (other_end {journal = K} {rest = t} b k whole d) = absurd (stop-or-all (air_of e) lines t N i p K has a h b k)
after-once e N l m r s lines has (too_few {journal = J} a h) (wrong_entry {entries = j} {reason = q} b k) = absurd (stop-or-end (air_of e) lines j q J has b a)
after-once e N l m r s lines has (too_few {journal = J} a h) (too_few {journal = K} b k) =
    (omega (arith, lines-count (air_of e) lines [] J a, lines-count (air_of e) lines [] K b), refl)
after-once e N l m r s lines has (too_few {journal = J} a h) (incomplete {journal = K} {rest = t} b k open_end) = absurd (end-or-all (air_of e) lines t N J K a h b k)
after-once e N l m r s lines has (too_few {journal = J} a h) (other_end {journal = K} {rest = t} b k whole d) = absurd (end-or-all (air_of e) lines t N J K a h b k)
after-once e N l m r s lines has (incomplete {journal = J} {rest = t} a h open_end) (wrong_entry {entries = j} {reason = q} b k) = absurd (stop-or-all (air_of e) lines t N j q J has b k a h)
after-once e N l m r s lines has (incomplete {journal = J} {rest = t} a h open_end) (too_few {journal = K} b k) = absurd (end-or-all (air_of e) lines t N K J b k a h)
after-once e N l m r s lines has (incomplete {journal = J} {rest = t} a h open_end) (incomplete {journal = K} {rest = u} b k open_too) = (refl, refl)
after-once e N l m r s lines has (incomplete {journal = J} {rest = t} a h open_end) (other_end {journal = K} {rest = u} b k whole d) =
    let one = all-once (air_of e) lines t u N J K has a h b k in absurd (open_end (subst (IsComplete (air_of e)) (sym one.journal) whole))
after-once e N l m r s lines has (other_end {journal = J} {rest = t} a h whole d) (wrong_entry {entries = j} {reason = q} b k) = absurd (stop-or-all (air_of e) lines t N j q J has b k a h)
after-once e N l m r s lines has (other_end {journal = J} {rest = t} a h whole d) (too_few {journal = K} b k) = absurd (end-or-all (air_of e) lines t N K J b k a h)
after-once e N l m r s lines has (other_end {journal = J} {rest = t} a h whole d) (incomplete {journal = K} {rest = u} b k open_end) =
    let one = all-once (air_of e) lines t u N J K has a h b k in absurd (open_end (subst (IsComplete (air_of e)) one.journal whole))
after-once e N l m r s lines has (other_end {journal = J} {rest = t} {same = i} a h whole d) (other_end {journal = K} {rest = u} {same = j} b k whole2 d2) =
    let one = all-once (air_of e) lines t u N J K has a h b k in
    let mine = subst (λ L. DifferAt i u (closing_lines e L)) one.journal (subst (λ x. DifferAt i x (closing_lines e J)) one.rest d) in
    (ap (λ n. first_entry e + (N + n)) (differ-once i j u (closing_lines e K) mine d2), refl)

-- Nothing is wrong with the lines of a recording.
same-differs : (n : ℕ) (xs : List (List ℕ)) → DifferAt n xs xs → ⊥
same-differs n xs d = d.here refl

pub after-right : (e : Parts) (N l : ℕ) (r : Reason) (lines : List (List ℕ)) (K : List Entry) → HasLines (air_of e) → ReplayedAll e lines N K → IsWrongAfter e N lines l r → ⊥
after-right e N l r lines K has b (wrong_entry {entries = i} {reason = p} a h) = stop-or-all (air_of e) lines (closing_lines e K) N i p K has a h b.replays b.count_is
after-right e N l r lines K has b (too_few {journal = J} a h) = end-or-all (air_of e) lines (closing_lines e K) N J K a h b.replays b.count_is
after-right e N l r lines K has b (incomplete {journal = J} {rest = t} a h open_end) =
    let one = all-once (air_of e) lines t (closing_lines e K) N J K has a h b.replays b.count_is in open_end (subst (IsComplete (air_of e)) (sym one.journal) b.complete)
after-right e N l r lines K has b (other_end {journal = J} {rest = t} {same = i} a h whole d) =
    let one = all-once (air_of e) lines t (closing_lines e K) N J K has a h b.replays b.count_is in
    same-differs i (closing_lines e K) (subst (λ L. DifferAt i (closing_lines e K) (closing_lines e L)) one.journal (subst (λ x. DifferAt i x (closing_lines e J)) one.rest d))

-- ---- beginnings

pub beginning-once : (e : Parts) (N l m : ℕ) (r s : Reason) (lines : List (List ℕ)) → HasLines (air_of e) → IsWrongBeginning e N lines l r → IsWrongBeginning e N lines m s → (l ≡ m) × (r ≡ s)
beginning-once e N l m r s lines has (wrong_line {entries = i} {reason = p} a h) (wrong_line {entries = j} {reason = q} b k) =
    let one = stops-once (air_of e) lines i j p q has a b in (ap (λ n. first_entry e + n) one.0, one.1)
beginning-once e N l m r s lines has (wrong_line {entries = i} {reason = p} a h) (too_many {journal = K} {line = x} {rest = t} b k) = absurd (stop-or-all (air_of e) lines (x ∷ t) N i p K has a h b k)
beginning-once e N l m r s lines has (too_many {journal = J} {line = x} {rest = t} a h) (wrong_line {entries = j} {reason = q} b k) = absurd (stop-or-all (air_of e) lines (x ∷ t) N j q J has b k a h)
beginning-once e N l m r s lines has (too_many {journal = J} {line = x} {rest = t} a h) (too_many {journal = K} {line = y} {rest = u} b k) = (refl, refl)

pub beginning-right : (e : Parts) (N l : ℕ) (r : Reason) (lines : List (List ℕ)) (K : List Entry) → HasLines (air_of e) → ReplayedFirst e lines N K → IsWrongBeginning e N lines l r → ⊥
beginning-right e N l r lines K has b (wrong_line {entries = i} {reason = p} a h) = stop-or-end (air_of e) lines i p K has a b.replays
beginning-right e N l r lines K has b (too_many {journal = J} {line = x} {rest = t} a h) =
    omega (arith, b.within, lines-count (air_of e) lines [] K b.replays, lines-count (air_of e) lines (x ∷ t) J a)

-- Lines are those of one journal and nothing else.
pub end-once : (air : Air) (lines : List (List ℕ)) (J K : List Entry) → HasLines air → Replays air lines J [] → Replays air lines K [] → J ≡ K
end-once air lines J K has a b = one-journal air lines [] [] J K has a b (omega (arith, lines-count air lines [] J a, lines-count air lines [] K b))
