-- Texts that are compared one after the other.
use Rattle.std.proofs.Common.{◌≡◌, ℕ, ◌+◌, Bool, true, false, List, [], ◌∷◌, ◌++◌, length, refl, sym, ap, ◌∙◌, append_assoc, length-append, subst}
use Rattle.std.proofs.lemmas.Bool.{both_ways}
use Rattle.rec_audit.specs.Cursors.{Compares, Cursor, StoppedIn, Took}
use Rattle.std.proofs.Math.Nat.{add-zero, add_assoc}

-- No line was taken.
pub took-nothing : (a : Cursor) → Took a a []
took-nothing a = record { lines_are = refl; taken_is = sym (add-zero a.taken) }

pub compares-nothing : (a : Cursor) (differed : Bool) → Compares a a differed differed []
compares-nothing a true = (refl, refl)
compares-nothing a false = took-nothing a

-- Some lines were taken and then others.
pub took-then : (a b c : Cursor) (xs ys : List (List ℕ)) → Took a b xs → Took b c ys → Took a c (xs ++ ys)
took-then a b c xs ys g h = record {
  lines_are = g.lines_are ∙ ap (λ t. xs ++ t) h.lines_are ∙ sym (append_assoc xs ys c.left);
  taken_is = h.taken_is ∙ ap (λ n. n + length ys) g.taken_is ∙ add_assoc a.taken (length xs) (length ys) ∙ ap (λ n. a.taken + n) (sym (length-append xs ys));
}

stopped-later : (a b c : Cursor) (xs ys : List (List ℕ)) → Took a b xs → StoppedIn b c ys → StoppedIn a c (xs ++ ys)
stopped-later a b c xs ys g h = record {
  front = xs ++ h.front;
  took = took-then a b c xs h.front g h.took;
  next = h.next;
  later = h.later;
  lines_are = ap (λ t. xs ++ t) h.lines_are ∙ sym (append_assoc xs h.front (h.next ∷ h.later));
  differs = h.differs;
}

stopped-longer : (a b : Cursor) (xs ys : List (List ℕ)) → StoppedIn a b xs → StoppedIn a b (xs ++ ys)
stopped-longer a b xs ys h = record {
  front = h.front;
  took = h.took;
  next = h.next;
  later = h.later ++ ys;
  lines_are = ap (λ t. t ++ ys) h.lines_are ∙ append_assoc h.front (h.next ∷ h.later) ys;
  differs = h.differs;
}

kept : (a b c : Cursor) (xs ys : List (List ℕ)) → c ≡ b → StoppedIn a b xs → StoppedIn a c (xs ++ ys)
kept a b c xs ys e h = subst (λ (x : Cursor). StoppedIn a x (xs ++ ys)) (sym e) (stopped-longer a b xs ys h)

pub compares-then : (a b c : Cursor) (p q r : Bool) (xs ys : List (List ℕ)) → Compares a b p q xs → Compares b c q r ys → Compares a c p r (xs ++ ys)
compares-then a b c true true r xs ys g h = (h.0 ∙ g.0, h.1)
compares-then a b c true false r xs ys g h = absurd (both_ways false refl g.1)
compares-then a b c false true true xs ys g h = kept a b c xs ys h.0 g
compares-then a b c false true false xs ys g h = absurd (both_ways false refl h.1)
compares-then a b c false false true xs ys g h = stopped-later a b c xs ys g h
compares-then a b c false false false xs ys g h = took-then a b c xs ys g h
