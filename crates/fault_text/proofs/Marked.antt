-- The byte order mark at the start of a text.
use Rattle.std.proofs.Common.{◌≡◌, ◌≢◌, ℕ, Bool, true, false, cond, eqb-true, List, [], ◌∷◌, ◌++◌, refl}
use Rattle.std.specs.Prelude.{◌==◌, ◌&&◌}
use Rattle.csv.specs.Reading.{strip_bom}

abbrev pub mark : List ℕ
mark = 239 ∷ 187 ∷ 191 ∷ []

pub with-mark : (text rest : List ℕ) → text ≡ mark ++ rest → rest ≡ strip_bom text
unfolding strip_bom
with-mark text rest is = rw is refl

unmarked-by : (x y z : Bool) (a b c : ℕ) (rest : List ℕ) → (a == 239) ≡ x → (b == 187) ≡ y → (c == 191) ≡ z → ((more : List ℕ) → a ∷ b ∷ c ∷ rest ≢ mark ++ more)
    → a ∷ b ∷ c ∷ rest ≡ cond ((x && y) && z) rest (a ∷ b ∷ c ∷ rest)
unmarked-by true true true a b c rest e f g none =
    let same : a ∷ b ∷ c ∷ rest ≡ mark ++ rest = rw (eqb-true a 239 e, eqb-true b 187 f, eqb-true c 191 g) refl in
    absurd (none rest same)
unmarked-by true true false a b c rest e f g none = refl
unmarked-by true false z a b c rest e f g none = refl
unmarked-by false y z a b c rest e f g none = refl

pub without-mark : (text : List ℕ) → ((more : List ℕ) → text ≢ mark ++ more) → text ≡ strip_bom text
unfolding strip_bom
without-mark [] none = refl
without-mark (a ∷ []) none = refl
without-mark (a ∷ b ∷ []) none = refl
without-mark (a ∷ b ∷ c ∷ rest) none = unmarked-by (a == 239) (b == 187) (c == 191) a b c rest refl refl refl none
