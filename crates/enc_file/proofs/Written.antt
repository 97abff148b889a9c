-- How the fields of a record stand on a line.
use Rattle.std.proofs.Common.{◌≡◌, ℕ, List, [], ◌∷◌, ◌++◌, sym, ap, ◌∙◌, append_assoc}
use Rattle.std.specs.List.{flat_map, join_with_byte}
use Rattle.std.proofs.lemmas.List.{append-nil}
use Rattle.enc_file.specs.Spelling.{line_of}

-- Fields with commas between them are the first one, and each other after a comma.
pub joined-flat : (f : List ℕ) (fs : List (List ℕ)) → join_with_byte 44 (f ∷ fs) ≡ f ++ flat_map (λ g. 44 ∷ g) fs
joined-flat f [] = sym (append-nil f)
joined-flat f (g ∷ gs) = ap (λ t. f ++ 44 ∷ t) (joined-flat g gs)

regroup : (a b c rest end : List ℕ) → (((a ++ 44 ∷ b) ++ 44 ∷ c) ++ rest) ++ end ≡ (a ++ 44 ∷ (b ++ 44 ∷ (c ++ rest))) ++ end
regroup a b c rest end = simp append_assoc

-- Three fields, or four, and then others.
pub line-after-three : (a b c : List ℕ) (fs : List (List ℕ)) → (((a ++ 44 ∷ b) ++ 44 ∷ c) ++ flat_map (λ g. 44 ∷ g) fs) ++ 10 ∷ [] ≡ line_of (a ∷ b ∷ c ∷ fs)
line-after-three a b c fs = regroup a b c (flat_map (λ g. 44 ∷ g) fs) (10 ∷ []) ∙ ap (λ t. (a ++ 44 ∷ (b ++ 44 ∷ t)) ++ 10 ∷ []) (sym (joined-flat c fs))

pub line-after-four : (a b c d : List ℕ) (fs : List (List ℕ)) → ((((a ++ 44 ∷ b) ++ 44 ∷ c) ++ 44 ∷ d) ++ flat_map (λ g. 44 ∷ g) fs) ++ 10 ∷ [] ≡ line_of (a ∷ b ∷ c ∷ d ∷ fs)
line-after-four a b c d fs =
    let rest = flat_map (λ g. 44 ∷ g) fs in
    regroup (a ++ 44 ∷ b) c d rest (10 ∷ []) ∙ ap (λ t. t ++ 10 ∷ []) (append_assoc a (44 ∷ b) (44 ∷ (c ++ 44 ∷ (d ++ rest))))
    ∙ ap (λ t. (a ++ 44 ∷ (b ++ 44 ∷ (c ++ 44 ∷ t))) ++ 10 ∷ []) (sym (joined-flat d fs))
