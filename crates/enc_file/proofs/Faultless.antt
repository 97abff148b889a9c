-- Records that stand well after those before them.
use Rattle.std.proofs.Common.{◌≡◌, ℕ, Bool, true, false, List, [], ◌∷◌, Some, None, refl, sym, cond}
use Rattle.std.proofs.lemmas.Option.{none-some}
use Rattle.enc_file.specs.Faults.{has_bad_mask, leaves_box, miscounts, names_unknown, repeats}
use Rattle.enc_file.specs.WellRead.{AreRead, IsNext}
use Rattle.enc_file.specs.declared.record.Record.{Record}
use Rattle.enc_file.specs.declared.record.Record.TheVariants as said
use Rattle.enc_file.specs.declared.refusal.Code.{Code}

-- Of a chain of tests that ends in nothing none passes.
pub chain-none : (a b c d e : Bool) (u v w x y : Code) → cond a (Some u) (cond b (Some v) (cond c (Some w) (cond d (Some x) (cond e (Some y) None)))) ≡ None
    → (a ≡ false) × (b ≡ false) × (c ≡ false) × (d ≡ false) × (e ≡ false)
chain-none true b c d e u v w x y is = absurd (none-some u (sym is))
chain-none false true c d e u v w x y is = absurd (none-some v (sym is))
chain-none false false true d e u v w x y is = absurd (none-some w (sym is))
chain-none false false false true e u v w x y is = absurd (none-some x (sym is))
chain-none false false false false true u v w x y is = absurd (none-some y (sym is))
chain-none false false false false false u v w x y is = (refl, refl, refl, refl, refl)

-- Nothing is wrong with it.
pub record IsFaultless (earlier : List Record) (now : Record) : Type 0 where
  pub new : repeats earlier now ≡ false
  pub known : names_unknown earlier now ≡ false
  pub counted : miscounts earlier now ≡ false
  pub boxed : leaves_box earlier now ≡ false
  pub masks : has_bad_mask now ≡ false

pub faultless : (earlier : List Record) (now : Record) → IsNext earlier now → IsFaultless earlier now
faultless earlier now next =
    let parts = chain-none (repeats earlier now) (names_unknown earlier now) (miscounts earlier now) (leaves_box earlier now) (has_bad_mask now) _ _ _ _ _ next.sound in
    record { new = parts.0; known = parts.1; counted = parts.2; boxed = parts.3; masks = parts.4 }

-- What holds of a header, and is kept by each later record, holds of all that was read.
pub by-read : (P : List Record → Type 0) → P [] → ((version : ℕ) → P (said.Header version ∷ [])) → ((earlier : List Record) (now : Record) → P earlier → IsNext earlier now → P (now ∷ earlier))
    → (earlier : List Record) → AreRead earlier → P earlier
by-read P none first step [] read = none
by-read P none first step (said.Header version ∷ []) read = first version
by-read P none first step (now ∷ []) read = absurd read
by-read P none first step (now ∷ last ∷ earlier) read = step (last ∷ earlier) now (by-read P none first step (last ∷ earlier) read.0) read.1
