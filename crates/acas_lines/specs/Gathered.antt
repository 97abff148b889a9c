-- Texts that are gathered one after the other.
use Rattle.std.proofs.Common.{◌≡◌, ℕ, List, [], ◌++◌, Option, refl, sym, ap, ◌∙◌, subst, append_assoc, false}
use Rattle.std.specs.Prelude.{Result, Ok, Err}
use Rattle.std.proofs.lemmas.Bool.{both_ways}
use Rattle.std.proofs.lemmas.List.{append-nil}
use Rattle.std.proofs.lemmas.List.Concat.{flat_map-append}
use Rattle.acas_io.specs.Faults.{Rose}
use Rattle.acas_io.specs.Stream.{GrewByPrefix}
use Rattle.acas_io.proofs.Pieces.{Grew-nil, Grew-trans, Prefix-after, Prefix-longer}
use Rattle.acas_lines.specs.Gathering.{Gathers}
use Rattle.acas_lines.specs.Lines.{joined}

-- Nothing is gathered.
pub gathers-nothing : {T E : Type 0} (old : Option (List ℕ)) (count : ℕ) (waits : List ℕ) (so_far : Result T E) → Gathers old old count count waits waits so_far so_far []
gathers-nothing old count waits (Ok t) = (([], Grew-nil old, sym (append-nil waits)), refl)
gathers-nothing old count waits (Err e) = (refl, refl, refl)

-- What waits in the end, after two texts.
both : (sent1 sent2 waits1 waits2 waits3 xs ys : List ℕ) → sent1 ++ waits2 ≡ waits1 ++ xs → sent2 ++ waits3 ≡ waits2 ++ ys → (sent1 ++ sent2) ++ waits3 ≡ waits1 ++ (xs ++ ys)
both sent1 sent2 waits1 waits2 waits3 xs ys e f =
    append_assoc sent1 sent2 waits3 ∙ ap (λ t. sent1 ++ t) f ∙ sym (append_assoc sent1 waits2 ys) ∙ ap (λ t. t ++ ys) e ∙ append_assoc waits1 xs ys

-- One text and then another.
gathers-then : {T E : Type 0} (a b c : Option (List ℕ)) (k m n : ℕ) (waits1 waits2 waits3 : List ℕ) (r s t : Result T E) (xs ys : List ℕ)
    → Gathers a b k m waits1 waits2 r s xs → Gathers b c m n waits2 waits3 s t ys → Gathers a c k n waits1 waits3 r t (xs ++ ys)
gathers-then a b c k m n waits1 waits2 waits3 (Ok r) (Ok s) (Ok t) xs ys g h =
    ((g.0.0 ++ h.0.0, Grew-trans a b c g.0.0 h.0.0 g.0.1 h.0.1, both g.0.0 h.0.0 waits1 waits2 waits3 xs ys g.0.2 h.0.2), h.1 ∙ g.1)
gathers-then a b c k m n waits1 waits2 waits3 (Ok r) (Ok s) (Err t) xs ys g h =
    let whole = sym (append_assoc g.0.0 waits2 ys) ∙ ap (λ z. z ++ ys) g.0.2 ∙ append_assoc waits1 xs ys in
    (subst (λ z. GrewByPrefix a c z) whole (Prefix-after a b c g.0.0 (waits2 ++ ys) g.0.1 h.0), subst (λ z. Rose z n) g.1 h.1)
gathers-then a b c k m n waits1 waits2 waits3 (Ok r) (Err s) (Ok t) xs ys g h = absurd (both_ways false refl h.0)
gathers-then a b c k m n waits1 waits2 waits3 (Ok r) (Err s) (Err t) xs ys g h =
    let longer = subst (λ z. GrewByPrefix a b z) (append_assoc waits1 xs ys) (Prefix-longer a b (waits1 ++ xs) ys g.0) in
    (subst (λ z. GrewByPrefix a z (waits1 ++ (xs ++ ys))) (sym h.1) longer, subst (λ z. Rose k z) (sym h.2) g.1)
gathers-then a b c k m n waits1 waits2 waits3 (Err r) (Ok s) t xs ys g h = absurd (both_ways false refl g.0)
gathers-then a b c k m n waits1 waits2 waits3 (Err r) (Err s) t xs ys g h = (h.0, h.1 ∙ g.1, h.2 ∙ g.2)

-- Some lines and then others.
pub gathers-lines : {T E : Type 0} (a b c : Option (List ℕ)) (k m n : ℕ) (waits1 waits2 waits3 : List ℕ) (r s t : Result T E) (xs ys : List (List ℕ))
    → Gathers a b k m waits1 waits2 r s (joined xs) → Gathers b c m n waits2 waits3 s t (joined ys) → Gathers a c k n waits1 waits3 r t (joined (xs ++ ys))
gathers-lines a b c k m n waits1 waits2 waits3 r s t xs ys g h =
    subst (λ z. Gathers a c k n waits1 waits3 r t z) (sym (flat_map-append (λ line. line) xs ys))
    (gathers-then a b c k m n waits1 waits2 waits3 r s t (joined xs) (joined ys) g h)
