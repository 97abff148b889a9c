-- Reading and filling pages.
use Rattle.std.proofs.Common.{◌≡◌, ℕ, zero, suc, ◌+◌, ◌-◌, ◌*◌, ◌/◌, ◌%◌, ◌<◌, List, [], ◌∷◌, ◌++◌, length, min, replicate, set, get_or, slice_get, sym, refl, ap, ◌∙◌, subst, arith, inl, inr, length-append}
use Rattle.std.proofs.lemmas.Bool.{cases_lt}
use Rattle.std.proofs.lemmas.List.{append-nil, append_assoc, nil_from_length}
use Rattle.air_journal.specs.declared.log.Note.{Note}
use Rattle.air_journal.specs.Pages.{joined, Fill, Noted}

pub joined-new : (n : ℕ) → joined (replicate n []) ≡ []
joined-new zero = refl
joined-new (suc n) = joined-new n

pub paged-new : (n : ℕ) → Fill (replicate n []) 0
paged-new zero = refl
paged-new (suc n) = (refl, paged-new n)

pub joined-none : (ps : List (List Note)) → Fill ps 0 → joined ps ≡ []
joined-none [] h = refl
joined-none (p ∷ ps) h = let e : p ≡ [] = nil_from_length p h.0 in ap (λ L. L ++ joined ps) e ∙ joined-none ps h.1

pub paged-length : (ps : List (List Note)) (n : ℕ) → Fill ps n → length (joined ps) ≡ n
paged-length [] n h = sym h
paged-length (p ∷ ps) n h = let a : length (joined ps) ≡ n - 1024 = paged-length ps (n - 1024) h.1 in let b : length p ≡ min 1024 n = h.0 in let c : length (p ++ joined ps) ≡ length p + length (joined ps) = length-append p (joined ps) in omega arith

get-front : (p q : List Note) (k : ℕ) → k < length p → slice_get (p ++ q) k ≡ slice_get p k
get-front [] q k h = absurd (omega arith)
get-front (x ∷ p) q zero h = refl
get-front (x ∷ p) q (suc k) h = get-front p q k (omega arith)

get-back : (p q : List Note) (k : ℕ) → slice_get (p ++ q) (length p + k) ≡ slice_get q k
get-back [] q k = ap (slice_get q) (let e : 0 + k ≡ k = omega arith in e)
get-back (x ∷ p) q k = ap (slice_get (x ∷ (p ++ q))) (let e : suc (length p) + k ≡ suc (length p + k) = omega arith in e) ∙ get-back p q k

pub read : (ps : List (List Note)) (n k : ℕ) → Fill ps n → k < n → slice_get (joined ps) k ≡ slice_get (get_or ps (k / 1024) []) (k % 1024)
read [] n k h lt = absurd (let e : n ≡ 0 = h in omega arith)
read (p ∷ ps) n k h lt = elim (cases_lt k 1024) [
  | inl s ↦
      (let b : length p ≡ min 1024 n = h.0 in
      let z : k / 1024 ≡ 0 = omega arith in
      let m : k % 1024 ≡ k = omega arith in
      get-front p (joined ps) k (omega arith) ∙ sym (ap (λ i. slice_get (get_or (p ∷ ps) i []) (k % 1024)) z ∙ ap (slice_get p) m))
  | inr g ↦
      (let b : length p ≡ min 1024 n = h.0 in
      let e : k ≡ length p + (k - 1024) = omega arith in
      let z : k / 1024 ≡ suc ((k - 1024) / 1024) = omega arith in
      let m : k % 1024 ≡ (k - 1024) % 1024 = omega arith in
      ap (slice_get (p ++ joined ps)) e ∙ get-back p (joined ps) (k - 1024) ∙ read ps (n - 1024) (k - 1024) h.1 (omega arith)
      ∙ sym (ap (λ i. slice_get (get_or (p ∷ ps) i []) (k % 1024)) z ∙ ap (slice_get (get_or ps ((k - 1024) / 1024) [])) m))
]

pub page-free : (ps : List (List Note)) (n : ℕ) → Fill ps n → n < length ps * 1024 → (n / 1024 < length ps) × (length (get_or ps (n / 1024) []) < 1024)
page-free [] n h lt = absurd (omega arith)
page-free (p ∷ ps) n h lt = elim (cases_lt n 1024) [
  | inl s ↦ (let b : length p ≡ min 1024 n = h.0 in let z : n / 1024 ≡ 0 = omega arith in (omega arith, subst (λ i. length (get_or (p ∷ ps) i []) < 1024) (sym z) (let q : length p < 1024 = omega arith in q)))
  | inr g ↦ (let z : n / 1024 ≡ suc ((n - 1024) / 1024) = omega arith in let r = page-free ps (n - 1024) h.1 (omega arith) in let a : (n - 1024) / 1024 < length ps = r.0 in (omega arith, subst (λ i. length (get_or (p ∷ ps) i []) < 1024) (sym z) r.1))
]

abbrev filled : List (List Note) → ℕ → Note → List (List Note)
filled ps k e = set ps k (get_or ps k [] ++ e ∷ [])

pub write : (ps : List (List Note)) (n : ℕ) (e : Note) → Fill ps n → n < length ps * 1024 → Fill (filled ps (n / 1024) e) (n + 1) × (joined (filled ps (n / 1024) e) ≡ joined ps ++ e ∷ [])
write [] n e h lt = absurd (omega arith)
write (p ∷ ps) n e h lt = elim (cases_lt n 1024) [
  | inl s ↦
      (let b : length p ≡ min 1024 n = h.0 in
      let z : n / 1024 ≡ 0 = omega arith in
      let c : length (p ++ e ∷ []) ≡ length p + 1 = length-append p (e ∷ []) in
      let l : length (p ++ e ∷ []) ≡ min 1024 (n + 1) = omega arith in
      let o : n + 1 - 1024 ≡ n - 1024 = omega arith in
      let w : n - 1024 ≡ 0 = omega arith in
      let none : joined ps ≡ [] = joined-none ps (subst (Fill ps) w h.1) in
      let a : Fill ((p ++ e ∷ []) ∷ ps) (n + 1) = (l, subst (Fill ps) (sym o) h.1) in
      let j : (p ++ e ∷ []) ++ joined ps ≡ (p ++ joined ps) ++ e ∷ [] = ap (λ L. (p ++ e ∷ []) ++ L) none ∙ append-nil (p ++ e ∷ []) ∙ ap (λ L. L ++ e ∷ []) (sym (ap (λ L. p ++ L) none ∙ append-nil p)) in
      subst (λ k. Fill (filled (p ∷ ps) k e) (n + 1) × (joined (filled (p ∷ ps) k e) ≡ joined (p ∷ ps) ++ e ∷ [])) (sym z) (a, j))
  | inr g ↦
      (let b : length p ≡ min 1024 n = h.0 in
      let z : n / 1024 ≡ suc ((n - 1024) / 1024) = omega arith in
      let r = write ps (n - 1024) e h.1 (omega arith) in
      let l : length p ≡ min 1024 (n + 1) = omega arith in
      let o : n + 1 - 1024 ≡ n - 1024 + 1 = omega arith in
      let k = (n - 1024) / 1024 in
      let a : Fill (p ∷ filled ps k e) (n + 1) = (l, subst (Fill (filled ps k e)) (sym o) r.0) in
      let j : p ++ joined (filled ps k e) ≡ (p ++ joined ps) ++ e ∷ [] = ap (λ L. p ++ L) r.1 ∙ sym (append_assoc p (joined ps) (e ∷ [])) in
      subst (λ i. Fill (filled (p ∷ ps) i e) (n + 1) × (joined (filled (p ∷ ps) i e) ≡ joined (p ∷ ps) ++ e ∷ [])) (sym z) (a, j))
]

pub within : (ps : List (List Note)) (n k : ℕ) → Fill ps n → k < n → k / 1024 < length ps
within [] n k h lt = absurd (let e : n ≡ 0 = h in omega arith)
within (p ∷ ps) n k h lt = elim (cases_lt k 1024) [
  | inl s ↦ omega arith
  | inr g ↦ (let r : (k - 1024) / 1024 < length ps = within ps (n - 1024) (k - 1024) h.1 (omega arith) in omega arith)
]

pub room : (ps : List (List Note)) (n : ℕ) (l : Noted) → Fill ps n → (let r : Noted = record { notes = joined ps; room = length ps * 1024 } in r) ≡ l → length l.notes < l.room → n < length ps * 1024
room ps n l h e lt =
    let a : length (joined ps) ≡ length l.notes = ap (λ (x : Noted). length x.notes) e in
    let b : length ps * 1024 ≡ l.room = ap (λ (x : Noted). x.room) e in
    let c : length (joined ps) ≡ n = paged-length ps n h in
    omega arith
