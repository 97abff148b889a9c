-- A line to which pieces are added.
use Rattle.std.proofs.Common.{◌≡◌, ◌∙◌, ℕ, List, ◌++◌, ap, append_assoc}

pub two : (s t u a b : List ℕ) → t ≡ s ++ a → u ≡ t ++ b → u ≡ s ++ (a ++ b)
two s t u a b e f = f ∙ ap (λ x. x ++ b) e ∙ append_assoc s a b

pub three : (s t u v a b c : List ℕ) → t ≡ s ++ a → u ≡ t ++ b → v ≡ u ++ c → v ≡ s ++ ((a ++ b) ++ c)
three s t u v a b c e f g = two s u v (a ++ b) c (two s t u a b e f) g

pub four : (s t u v w a b c d : List ℕ) → t ≡ s ++ a → u ≡ t ++ b → v ≡ u ++ c → w ≡ v ++ d → w ≡ s ++ (((a ++ b) ++ c) ++ d)
four s t u v w a b c d e f g h = two s v w ((a ++ b) ++ c) d (three s t u v a b c e f g) h

pub five : (s t u v w x a b c d k : List ℕ) → t ≡ s ++ a → u ≡ t ++ b → v ≡ u ++ c → w ≡ v ++ d → x ≡ w ++ k → x ≡ s ++ ((((a ++ b) ++ c) ++ d) ++ k)
five s t u v w x a b c d k e f g h i = two s w x (((a ++ b) ++ c) ++ d) k (four s t u v w a b c d e f g h) i

pub six : (s t u v w x y a b c d k l : List ℕ) → t ≡ s ++ a → u ≡ t ++ b → v ≡ u ++ c → w ≡ v ++ d → x ≡ w ++ k → y ≡ x ++ l → y ≡ s ++ (((((a ++ b) ++ c) ++ d) ++ k) ++ l)
six s t u v w x y a b c d k l e f g h i j = two s x y ((((a ++ b) ++ c) ++ d) ++ k) l (five s t u v w x a b c d k e f g h i) j
