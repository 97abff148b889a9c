-- When a message is called for, and how many are asked for by what is seen.
use Rattle.std.proofs.Common.{◌≡◌, ℕ, zero, suc, ◌+◌, Bool, true, false, ◌&&◌, ◌||◌, Some, None, sym, refl, ap, ap₂, ◌∙◌}
use Rattle.std.proofs.lemmas.Bool.{cond-false, cond-true, and_from, and_left, and_right, or_right}
use Rattle.acas_base.specs.Complements.{complement_of}
use Rattle.acas_base.specs.Messages.{cancel_of, has_advisory, message_for}
use Rattle.acas_base.specs.declared.advisory.Cell.{Cell}
use Rattle.acas_base.specs.declared.advisory.Cell.TheVariants.{Clear, Ra, Traffic}
use Rattle.acas_base.specs.declared.advisory.ResMsg.{ResMsg}
use Rattle.acas_base.specs.declared.advisory.Sense.{Sense}
use Rattle.acas_base.specs.declared.advisory.Sense.TheVariants.{Down, Up}
use Rattle.acas_base.specs.declared.advisory.Vrc.{Vrc}
use Rattle.acas_base.specs.declared.advisory.Vrc.TheVariants.{Nil, NotAbove, NotBelow}
use Rattle.air_rules.proofs.Running.{message-vrc}
use Rattle.air_rules.specs.Air.{Air}
use Rattle.air_rules.specs.Shape.{coordinate, messages_to, untold_cell}

-- ---- when something is owed

abbrev pub is_set : Vrc → Bool
is_set Nil = false
is_set NotBelow = true
is_set NotAbove = true

complement-set : (s : Sense) → is_set (complement_of s) ≡ true
complement-set Up = refl
complement-set Down = refl

-- A message is owed with an advisory, and where a complement was said that has to be cancelled. The message sets a
-- complement where there is an advisory.
pub record IsCalledFor (c : Cell) (v : Vrc) (m : ResMsg) : Type 0 where
  pub why : has_advisory c || is_set v ≡ true
  pub sets : is_set m.vrc ≡ has_advisory c

cancels : (c : Cell) (v : Vrc) (b : Bool) (own : ℕ) (m : ResMsg) → has_advisory c ≡ false → cancel_of v b own ≡ Some m → IsCalledFor c v m
cancels c Nil b own m n e = absurd (cc)
cancels c NotBelow b own m n e =
    let r : ResMsg = record { many = b; cancel = NotBelow; vrc = Nil; sender = own } in
    let f : r ≡ m = cc in
    record { why = or_right (has_advisory c) true refl; sets = sym (ap (λ (x : ResMsg). is_set x.vrc) f) ∙ sym n }
cancels c NotAbove b own m n e =
    let r : ResMsg = record { many = b; cancel = NotAbove; vrc = Nil; sender = own } in
    let f : r ≡ m = cc in
    record { why = or_right (has_advisory c) true refl; sets = sym (ap (λ (x : ResMsg). is_set x.vrc) f) ∙ sym n }

pub called-for : (c : Cell) (v : Vrc) (b : Bool) (own : ℕ) (m : ResMsg) → message_for c v b own ≡ Some m → IsCalledFor c v m
called-for Clear v b own m e = cancels Clear v b own m refl e
called-for Traffic v b own m e = cancels Traffic v b own m refl e
called-for (Ra it) v b own m e =
    record { why = refl; sets = ap is_set (message-vrc (Ra it) v b own it.sense m refl e) ∙ complement-set it.sense }

-- Nothing is owed only where there is no advisory, and nothing to cancel.
pub not-called-for : (c : Cell) (v : Vrc) (b : Bool) (own : ℕ) → message_for c v b own ≡ None → (has_advisory c ≡ false) × (is_set v ≡ false)
not-called-for Clear Nil b own e = (refl, refl)
not-called-for Clear NotBelow b own e = absurd (cc)
not-called-for Clear NotAbove b own e = absurd (cc)
not-called-for Traffic Nil b own e = (refl, refl)
not-called-for Traffic NotBelow b own e = absurd (cc)
not-called-for Traffic NotAbove b own e = absurd (cc)
not-called-for (Ra it) v b own e = absurd (cc)

-- ---- by the views

-- The aircraft has an advisory in a cycle, by what it sees.
abbrev pub seen : Air → ℕ → ℕ → ℕ → Bool
seen air i j n = has_advisory (untold_cell air i j n)

pub none-asked : (air : Air) (i j n : ℕ) → coordinate air i j ≡ false → messages_to air i j n ≡ 0
none-asked air i j zero c = refl
none-asked air i j (suc n) c = cond-false (coordinate air i j && (seen air i j (suc n) || seen air i j n)) _ _ (and_left (coordinate air i j) _ c) ∙ none-asked air i j n c

pub not-asked : (air : Air) (i j n : ℕ) → seen air i j (suc n) ≡ false → seen air i j n ≡ false → messages_to air i j (suc n) ≡ messages_to air i j n
not-asked air i j n now was =
    cond-false (coordinate air i j && (seen air i j (suc n) || seen air i j n)) _ _ (ap₂ (λ (x y : Bool). coordinate air i j && (x || y)) now was ∙ and_right (coordinate air i j) false refl)

-- A message that is called for is counted.
pub asked : (air : Air) (i j n : ℕ) (c : Cell) (v : Vrc) → coordinate air i j ≡ true → (has_advisory c || is_set v) ≡ true →
    has_advisory c ≡ seen air i j (suc n) → is_set v ≡ seen air i j n → messages_to air i j (suc n) ≡ messages_to air i j n + 1
asked air i j n c v both reason now was =
    let called : (seen air i j (suc n) || seen air i j n) ≡ true = ap₂ (λ (a b : Bool). a || b) (sym now) (sym was) ∙ reason in
    cond-true (coordinate air i j && (seen air i j (suc n) || seen air i j n)) _ _ (and_from _ _ both called)
