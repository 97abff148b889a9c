-- A text is cut into one list of pieces at most.
use Rattle.std.proofs.Common.{◌≡◌, ◌∙◌, ℕ, ◌+◌, ◌<◌, Bool, true, false, List, [], ◌∷◌, ◌++◌, length, take, drop, refl, sym, ap, ap₂, arith, subst, append_assoc, length-append, inl, inr, ◌⊎◌}
use Rattle.std.specs.Prelude.{◌||◌}
use Rattle.std.specs.List.{list_any}
use Rattle.std.proofs.lemmas.Bool.{cases_lt, false≢true}
use Rattle.std.proofs.lemmas.List.{append-nil, append_cancel_left, take-append-drop, take-append-le, take_at}
use Rattle.fault_text.specs.Lines.{EndsLine, file_lines, is_written, lines_after}
use Rattle.pieces.specs.Pieces.{AreCut, EndsOnce, HasNoEnd, IsFirst, IsUnended, has_record, is_end}
use Rattle.pieces.proofs.Joints.{file-joint, some-line}

abbrev head : List ℕ → List (List ℕ) → List ℕ
head other [] = other
head other (line ∷ lines) = line

abbrev tail : List (List ℕ) → List (List ℕ)
tail [] = []
tail (line ∷ lines) = lines

-- Lines with an end have no other lines.
none-without : (front more : List (List ℕ)) (last : List ℕ) → is_end last ≡ true → HasNoEnd (front ++ last ∷ more) → ⊥
none-without [] more last ends none = false≢true (sym none.0 ∙ ends)
none-without (l ∷ ls) more last ends none = none-without ls more last ends none.1

-- An end behind which another line stands isn't the last line.
inner-end : (front more others : List (List ℕ)) (last line other : List ℕ) → is_end last ≡ true → HasNoEnd others → front ++ last ∷ line ∷ more ≡ others ++ other ∷ [] → ⊥
inner-end [] more [] last line other ends none is = absurd (omega (arith, ap length is))
inner-end [] more (g ∷ gs) last line other ends none is = false≢true (sym none.0 ∙ ap is_end (sym (ap (head []) is)) ∙ ends)
inner-end (f ∷ fs) more [] last line other ends none is =
    let n = ap length is in
    let m = length-append fs (last ∷ line ∷ more) in
    absurd (omega (arith, n, m))
inner-end (f ∷ fs) more (g ∷ gs) last line other ends none is = inner-end fs more gs last line other ends none.1 (ap tail is)

-- A text with lines behind its one end is no piece.
record IsLonger (lines : List (List ℕ)) : Type 0 where
  front : List (List ℕ)
  last : List ℕ
  line : List ℕ
  more : List (List ℕ)
  ends : is_end last ≡ true
  lines_are : lines ≡ front ++ last ∷ line ∷ more

not-longer : (piece behind : List ℕ) → IsLonger (file_lines piece) → EndsOnce (file_lines piece) ⊎ IsUnended piece behind → ⊥
not-longer piece behind l (inl e) = inner-end l.front l.more e.front l.last l.line e.last l.ends e.none (sym l.lines_are ∙ e.lines_are)
not-longer piece behind l (inr u) = none-without l.front (l.line ∷ l.more) l.last l.ends (subst HasNoEnd l.lines_are u.none)

longer-by : (lines front more : List (List ℕ)) (last : List ℕ) → 0 < length more → is_end last ≡ true → lines ≡ (front ++ last ∷ []) ++ more → IsLonger lines
longer-by lines front [] last some ends is = absurd (omega (arith, some))
longer-by lines front (line ∷ more) last some ends is = record { front = front; last = last; line = line; more = more; ends = ends; lines_are = is ∙ append_assoc front (last ∷ []) (line ∷ more) }

longer-piece : (piece : List ℕ) (n : ℕ) (ns : List ℕ) → EndsLine (n ∷ ns) piece → EndsOnce (file_lines piece) → IsLonger (file_lines (piece ++ n ∷ ns))
longer-piece piece n ns cut e = longer-by (file_lines (piece ++ n ∷ ns)) e.front (lines_after false (n ∷ ns)) e.last (some-line n ns) e.ends (file-joint n ns piece cut ∙ ap (λ t. t ++ lines_after false (n ∷ ns)) e.lines_are)

-- Of two first pieces none is shorter.
shorter-by : (piece behind more other rest : List ℕ) → 0 < length more → EndsLine behind piece → EndsOnce (file_lines piece) ⊎ IsUnended piece behind → behind ≡ more ++ rest → other ≡ piece ++ more → EndsOnce (file_lines other) ⊎ IsUnended other rest → ⊥
shorter-by piece behind [] other rest some cut ended is longer also = absurd (omega (arith, some))
shorter-by piece behind (n ∷ ns) other rest some cut (inr u) is longer also = let e = ap length (sym is ∙ u.last) in absurd (omega (arith, e))
shorter-by piece behind (n ∷ ns) other rest some cut (inl e) is longer also =
    let here : EndsLine (n ∷ ns ++ rest) piece = subst (λ t. EndsLine t piece) is cut in
    not-longer other rest (subst (λ t. IsLonger (file_lines t)) (sym longer) (longer-piece piece n ns here e)) also

not-shorter : (bytes piece behind other rest : List ℕ) → IsFirst bytes piece behind → IsFirst bytes other rest → length piece < length other → ⊥
not-shorter bytes piece behind other rest one two less =
    let front : take (length piece) other ≡ piece =
    sym (take-append-le (length piece) other rest (omega (arith, less))) ∙ ap (take (length piece)) (sym two.whole ∙ one.whole) ∙ take_at piece behind (length piece) refl in
    let more = drop (length piece) other in
    let longer : other ≡ piece ++ more = sym (take-append-drop (length piece) other) ∙ ap (λ t. t ++ more) front in
    let size : length other ≡ length piece + length more = ap length longer ∙ length-append piece more in
    let is : behind ≡ more ++ rest = append_cancel_left piece behind (more ++ rest) (sym one.whole ∙ two.whole ∙ ap (λ t. t ++ rest) longer ∙ append_assoc piece more rest) in
    shorter-by piece behind more other rest (omega (arith, less, size)) one.cut one.ended is longer two.ended

same-size : (a b : ℕ) → (a < b → ⊥) → (b < a → ⊥) → a ≡ b
same-size a b up down = elim (cases_lt a b) [
  | inl less ↦ absurd (up less)
  | inr most ↦ elim (cases_lt b a) [
    | inl less ↦ absurd (down less)
    | inr least ↦ omega (arith, most, least)
  ]
]

one-piece : (bytes piece behind other rest : List ℕ) → IsFirst bytes piece behind → IsFirst bytes other rest → piece ≡ other
one-piece bytes piece behind other rest one two =
    let size : length piece ≡ length other = same-size (length piece) (length other) (not-shorter bytes piece behind other rest one two) (not-shorter bytes other rest piece behind two one) in
    sym (take_at piece behind (length piece) refl) ∙ ap (take (length piece)) (sym one.whole ∙ two.whole) ∙ take_at other rest (length piece) (sym size)

one-rest : (bytes piece behind other rest : List ℕ) → IsFirst bytes piece behind → IsFirst bytes other rest → behind ≡ rest
one-rest bytes piece behind other rest one two =
    append_cancel_left piece behind rest (sym one.whole ∙ two.whole ∙ ap (λ t. t ++ rest) (sym (one-piece bytes piece behind other rest one two)))

-- A text with a piece has a record.
end-written : (line : List ℕ) → is_end line ≡ true → is_written line ≡ true
end-written [] ends = absurd (false≢true ends)
end-written (c ∷ cs) ends = refl

or-true : (b : Bool) → (b || true) ≡ true
or-true true = refl
or-true false = refl

end-record : (front more : List (List ℕ)) (last : List ℕ) → is_end last ≡ true → list_any is_written (front ++ last ∷ more) ≡ true
end-record [] more last ends = rw (end-written last ends) refl
end-record (l ∷ ls) more last ends = rw (end-record ls more last ends) (or-true (is_written l))

ends-record : (piece behind : List ℕ) → EndsLine behind piece → EndsOnce (file_lines piece) → has_record (piece ++ behind) ≡ true
ends-record piece [] cut e = ap has_record (append-nil piece) ∙ ap (list_any is_written) e.lines_are ∙ end-record e.front [] e.last e.ends
ends-record piece (n ∷ ns) cut e = let l = longer-piece piece n ns cut e in ap (list_any is_written) l.lines_are ∙ end-record l.front (l.line ∷ l.more) l.last l.ends

first-record : (bytes piece behind : List ℕ) → IsFirst bytes piece behind → has_record bytes ≡ true
first-record bytes piece behind f = elim f.ended [
  | inl e ↦ ap has_record f.whole ∙ ends-record piece behind f.cut e
  | inr u ↦ ap has_record (f.whole ∙ ap (λ t. piece ++ t) u.last ∙ append-nil piece) ∙ u.some
]

pub one-list : (one other : List (List ℕ)) (bytes : List ℕ) → AreCut one bytes → AreCut other bytes → one ≡ other
one-list [] [] bytes a b = refl
one-list [] (piece ∷ list) bytes a b = absurd (false≢true (sym a ∙ first-record bytes piece b.0 b.1))
one-list (piece ∷ list) [] bytes a b = absurd (false≢true (sym b ∙ first-record bytes piece a.0 a.1))
one-list (piece ∷ list) (other ∷ others) bytes a b =
    let same = one-rest bytes piece a.0 other b.0 a.1 b.1 in
    ap₂ (λ p l. p ∷ l) (one-piece bytes piece a.0 other b.0 a.1 b.1) (one-list list others a.0 a.2 (subst (λ t. AreCut others t) (sym same) b.2))
