-- Parts that are added to a line one after the other.
use Rattle.std.proofs.Common.{◌≡◌, ℕ, List, ◌++◌, append_assoc, ap, sym, ◌∙◌}

pub three-parts : (line a b c l m n : List ℕ) → l ≡ line ++ a → m ≡ l ++ b → n ≡ m ++ c → n ≡ line ++ (a ++ b ++ c)
three-parts line a b c l m n e f g =
    g ∙ ap (λ t. t ++ c) (f ∙ ap (λ t. t ++ b) e) ∙ append_assoc (line ++ a) b c ∙ append_assoc line a (b ++ c) ∙ ap (λ t. line ++ t) (sym (append_assoc a b c))
