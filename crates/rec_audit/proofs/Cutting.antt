-- The lines of the encounter, and the line of the number of entries.
use Rattle.std.proofs.Common.{◌≡◌, ◌≢◌, ℕ, ◌≤◌, List, [], ◌∷◌, ◌++◌, drop, get_or, Option, Some, None, sym, ap, ◌∙◌, subst, arith}
use Rattle.std.specs.Prelude.{MatchOption, codes}
use Rattle.std.specs.Fmt.{decimal}
use Rattle.std.specs.List.{AllByRecursion, join_with_byte}
use Rattle.std.proofs.lemmas.List.{append-nil, append_cancel_right}
use Rattle.std.proofs.lemmas.List.Splits.{join_with_byte-slice_split}
use Rattle.rec_audit.specs.Cursors.{Cursor, Took}
use Rattle.rec_audit.specs.Compared.{took-nothing, took-then}
use Rattle.rec_audit.specs.Engine.{SkippedPart}
use Rattle.rec_audit.specs.Fields.{fields_of}
use Rattle.rec_audit.specs.Opening.{HasNoEnd, end_line}
use Rattle.rec_audit.specs.declared.opening.TheConstants.{MOST_TOLD}
use Rattle.rec_text.proofs.HighBytes.{High, each-lacks, high-decimal, line-whole}
use Rattle.acas_lines.specs.Split.{IsLine}
use Rattle.rec_text.proofs.Splits.{split-joined}
use Rattle.rec_text.proofs.Whole.{each-append}
use Rattle.rec_text.specs.Recording.{journal_line}

-- ---- up to the first end

-- Lines other than an end were taken.
pub record Skips (before now : Cursor) : Type 0 where
  pub front : List (List ℕ)
  pub none : HasNoEnd front
  pub took : Took before now front

pub skips-none : (before : Cursor) → Skips before before
skips-none before = record { front = []; none = tt; took = took-nothing before }

pub skips-more : (before now new : Cursor) (line : List ℕ) → Skips before now → Took now new (line ∷ []) → line ≢ end_line → Skips before new
skips-more before now new line s t ne = record {
  front = s.front ++ line ∷ [];
  none = each-append (λ l. l ≢ end_line) s.front (line ∷ []) s.none (ne, tt);
  took = took-then before now new s.front (line ∷ []) s.took t;
}

pub skips-end : (before now new : Cursor) (line : List ℕ) → Skips before now → Took now new (line ∷ []) → line ≡ end_line → SkippedPart before new
skips-end before now new line s t is =
    let took = took-then before now new s.front (line ∷ []) s.took t in
    record {
      part = s.front ++ line ∷ [];
      cut = record { front = s.front; none = s.none; part_is = ap (λ l. s.front ++ l ∷ []) is; all = took.lines_are };
      took = took;
    }

pub skips-all : (before now : Cursor) → Skips before now → now.left ≡ [] → HasNoEnd before.left × Took before now before.left
skips-all before now s none =
    let all : before.left ≡ s.front = s.took.lines_are ∙ ap (λ t. s.front ++ t) none ∙ append-nil s.front in
    (subst HasNoEnd (sym all) s.none, subst (λ t. Took before now t) (sym all) s.took)

-- ---- the number of entries

journal-high : (n : ℕ) → n ≤ MOST_TOLD → AllByRecursion High (codes "journal" ∷ decimal n ∷ [])
journal-high n few = ((omega arith, (omega arith, (omega arith, (omega arith, (omega arith, (omega arith, (omega arith, tt))))))), (high-decimal n (omega arith), tt))

pub journal-whole : (n : ℕ) → n ≤ MOST_TOLD → IsLine (journal_line n)
journal-whole n few = line-whole (codes "journal" ∷ decimal n ∷ []) (each-lacks 10 (codes "journal" ∷ decimal n ∷ []) (omega arith) (journal-high n few))

-- The fields of the line.
pub journal-fields : (n : ℕ) → n ≤ MOST_TOLD → fields_of (join_with_byte 44 (codes "journal" ∷ decimal n ∷ [])) ≡ codes "journal" ∷ decimal n ∷ []
journal-fields n few = split-joined (codes "journal") (decimal n ∷ []) (each-lacks 44 (codes "journal" ∷ decimal n ∷ []) (omega arith) (journal-high n few))

-- A line of such a number has its fields.
pub journal-body : (n : ℕ) (body line : List ℕ) → n ≤ MOST_TOLD → line ≡ body ++ 10 ∷ [] → journal_line n ≡ line → fields_of body ≡ codes "journal" ∷ decimal n ∷ []
journal-body n body line few is same =
    let inside = append_cancel_right (join_with_byte 44 (codes "journal" ∷ decimal n ∷ [])) body (10 ∷ []) (same ∙ is) in
    sym (ap fields_of inside) ∙ journal-fields n few

-- What the fields of a line tell, the line tells.
pub tells-line : (body line : List ℕ) (r : Option ℕ) → line ≡ body ++ 10 ∷ [] →
    MatchOption r ((n : ℕ) → n ≤ MOST_TOLD → fields_of body ≢ codes "journal" ∷ decimal n ∷ []) (λ n. (n ≤ MOST_TOLD) × (fields_of body ≡ codes "journal" ∷ decimal n ∷ [])) →
    MatchOption r ((n : ℕ) → n ≤ MOST_TOLD → journal_line n ≢ line) (λ n. (n ≤ MOST_TOLD) × (line ≡ journal_line n))
tells-line body line None is h = λ n few same. h n few (journal-body n body line few is same)
tells-line body line (Some n) is h = (h.0, is ∙ ap (λ t. t ++ 10 ∷ []) (sym (join_with_byte-slice_split 44 body) ∙ ap (λ fields. join_with_byte 44 fields) h.1))

-- What the fields after the first one tell.
pub tells-fields : (old rest : List (List ℕ)) (field word : List ℕ) (r : Option ℕ) → old ≡ field ∷ rest → field ≡ word →
    MatchOption r ((n : ℕ) → n ≤ MOST_TOLD → rest ≢ decimal n ∷ []) (λ n. (n ≤ MOST_TOLD) × (rest ≡ decimal n ∷ [])) →
    MatchOption r ((n : ℕ) → n ≤ MOST_TOLD → old ≢ word ∷ decimal n ∷ []) (λ n. (n ≤ MOST_TOLD) × (old ≡ word ∷ decimal n ∷ []))
tells-fields old rest field word None all is h = λ n few e. h n few (ap (drop 1) (sym all ∙ e))
tells-fields old rest field word (Some n) all is h = (h.0, all ∙ ap (λ f. f ∷ rest) is ∙ ap (λ t. word ∷ t) h.1)

pub tells-other : (old rest : List (List ℕ)) (field word : List ℕ) → old ≡ field ∷ rest → field ≢ word → (n : ℕ) → n ≤ MOST_TOLD → old ≢ word ∷ decimal n ∷ []
tells-other old rest field word all ne n few = λ e. ne (ap (λ t. get_or t 0 []) (sym all ∙ e))
