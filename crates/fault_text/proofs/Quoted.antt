-- Bytes between quotes.
use Rattle.std.proofs.Common.{◌≡◌, ◌∙◌, ◌≤◌, ℕ, List, [], ◌∷◌, ◌++◌, length, take, ap, refl, append_assoc}
use Rattle.std.specs.Prelude.{nat_lt, false}
use Rattle.std.specs.List.{flat_map}
use Rattle.std.proofs.lemmas.Bool.{le-ltb}
use Rattle.std.proofs.lemmas.List.{take_all}
use Rattle.fault_text.specs.Shown.{glyphs, shown}

not-more : (bytes : List ℕ) → length bytes ≤ 40 → nat_lt 40 (length bytes) ≡ false
not-more bytes h = le-ltb 40 (length bytes) h

shown-whole : (bytes : List ℕ) → length bytes ≤ 40 → 34 ∷ flat_map glyphs bytes ++ 34 ∷ [] ≡ shown bytes
shown-whole bytes h = rw (not-more bytes h, take_all 40 bytes h) refl

-- All bytes were shown.
pub all-shown : (line bytes : List ℕ) (most n : ℕ) → length bytes ≤ 40 → length bytes ≤ most → length (take most bytes) ≤ n
    → ((line ++ 34 ∷ []) ++ flat_map glyphs (take n (take most bytes))) ++ 34 ∷ [] ≡ line ++ shown bytes
all-shown line bytes most n few all done =
    let whole : take most bytes ≡ bytes = take_all most bytes all in
    rw (take_all n (take most bytes) done, whole) (append_assoc (line ++ 34 ∷ []) (flat_map glyphs bytes) (34 ∷ []) ∙ append_assoc line (34 ∷ []) (flat_map glyphs bytes ++ 34 ∷ []) ∙ ap (λ t. line ++ t) (shown-whole bytes few))
