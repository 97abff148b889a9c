-- From one journal at most one is filled.
use Rattle.std.proofs.Common.{◌≡◌, ℕ, ◌<◌, ◌≤◌, Bool, List, ◌∷◌, length, sym, refl, subst, arith, inl, inr, le_refl}
use Rattle.std.proofs.lemmas.Bool.{cases_eq}
use Rattle.acas_base.specs.declared.entry.Entry.{Entry}
use Rattle.acas_base.specs.declared.entry.Entry.TheVariants.{Send, Take}
use Rattle.air_rules.proofs.OnlySerial.{comes-once, first-send-once, first-take-once, neither, owes-then}
use Rattle.air_rules.specs.Air.{Air}
use Rattle.air_rules.specs.Rules.{IsAllowed}
use Rattle.air_rules.specs.Serial.{ComesNext}
use Rattle.resume.specs.Filling.{Fills, FillsNext, IsFilled, IsFirstSend, IsFirstTake, IsHeldUp, by_send, by_take, filled_by, in_order, unfilled}

-- ---- at most one entry comes next

-- Where what comes next in the serial order is allowed, it isn't held up.
not-held : (air : Air) (K : List Entry) (x : Entry) → ComesNext air K x → IsAllowed air K x → IsHeldUp air K → ⊥
not-held air K x next may held = held.not_yet (subst (IsAllowed air K) (comes-once air K x held.entry next held.next) may)

send-or-take : (air : Air) (K : List Entry) (i j n w k p c : ℕ) (good : Bool) → IsFirstSend air K i j n w → IsFirstTake air K k p c good → ⊥
send-or-take air K i j n w k p c good one two = owes-then air K i j n w one.allowed (two.nobody_owes i j)

same-take : (air : Air) (K : List Entry) (i p c k q d : ℕ) (good fine : Bool) → IsFirstTake air K i p c good → IsFirstTake air K k q d fine → Take i p c good ≡ Take k q d fine
same-take air K i p c k q d good fine one two =
    first-take-once air K i p c k q d good fine
    one.allowed one.first one.first_due two.allowed two.first two.first_due

next-once : (air : Air) (K : List Entry) (x y : Entry) → FillsNext air K x → FillsNext air K y → x ≡ y
next-once air K x y (in_order next may) (in_order then can) = comes-once air K x y next then
next-once air K x (Send k l m v) (in_order next may) (by_send held two) = absurd (not-held air K x next may held)
next-once air K x (Take k q d fine) (in_order next may) (by_take held two) = absurd (not-held air K x next may held)
next-once air K (Send i j n w) y (by_send held one) (in_order then can) = absurd (not-held air K y then can held)
next-once air K (Send i j n w) (Send k l m v) (by_send held one) (by_send also two) = first-send-once air K i j n w k l m v one.allowed one.first two.allowed two.first
next-once air K (Send i j n w) (Take k q d fine) (by_send held one) (by_take also two) = absurd (send-or-take air K i j n w k q d fine one two)
next-once air K (Take i p c good) y (by_take held one) (in_order then can) = absurd (not-held air K y then can held)
next-once air K (Take i p c good) (Send k l m v) (by_take held one) (by_send also two) = absurd (send-or-take air K k l m v i p c good two one)
next-once air K (Take i p c good) (Take k q d fine) (by_take held one) (by_take also two) = same-take air K i p c k q d good fine one two

-- ---- so two that go on from one journal differ by their length alone

-- The entry that comes next in the serial order, where one is added.
record Wanted (air : Air) (K : List Entry) : Type 0 where
  entry : Entry
  next : ComesNext air K entry

wanted : (air : Air) (K : List Entry) (x : Entry) → FillsNext air K x → Wanted air K
wanted air K x (in_order next may) = record { entry = x; next = next }
wanted air K (Send i j n w) (by_send held one) = record { entry = held.entry; next = held.next }
wanted air K (Take i p c good) (by_take held one) = record { entry = held.entry; next = held.next }

no-shorter : {air : Air} {first J : List Entry} → Fills air first J → length first ≤ length J
no-shorter unfilled = le_refl _
no-shorter (filled_by f n) = let h = no-shorter f in omega arith

same-length : {air : Air} {first J L : List Entry} → Fills air first J → Fills air first L → length J ≡ length L → J ≡ L
same-length unfilled unfilled e = refl
same-length unfilled (filled_by g m) e = absurd (let h = no-shorter g in omega arith)
same-length (filled_by f n) unfilled e = absurd (let h = no-shorter f in omega arith)
same-length {air} (filled_by {entry = x} {earlier = J} f n) (filled_by {entry = y} {earlier = L} g m) e =
    let rest : J ≡ L = same-length f g (omega arith) in
    let first : x ≡ y = next-once air J x y n (subst (λ (K : List Entry). FillsNext air K y) (sym rest) m) in
    λ t. first t ∷ rest t

not-longer : {air : Air} {first J L : List Entry} → IsFilled air first J → Fills air first L → length J < length L → ⊥
not-longer f unfilled h = let low = no-shorter f.steps in omega arith
not-longer {air} {first} {J} f (filled_by {entry = y} {earlier = L} g m) h = elim (cases_eq (length J) (length L)) [
  | inl e ↦
      let same : J ≡ L = same-length f.steps g e in
      let w = wanted air L y m in
      f.ended w.entry (subst (λ (K : List Entry). ComesNext air K w.entry) (sym same) w.next)
  | inr ne ↦ not-longer f g (omega arith)
]

pub only-filled : (air : Air) (begun one other : List Entry) → IsFilled air begun one → IsFilled air begun other → one ≡ other
only-filled air begun one other f g =
    same-length f.steps g.steps (neither (length one) (length other) (λ h. not-longer f g.steps h) (λ h. not-longer g f.steps h))
