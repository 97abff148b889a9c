-- Where a record has a fault of a code, one of its fields fails.
use Rattle.std.proofs.Common.{◌≡◌, ◌≤◌, ◌<◌, ◌+◌, ℕ, ℤ, zero, suc, Bool, true, false, ◌&&◌, not, List, [], ◌∷◌, length, drop, Option, Some, None, cond, refl, sym, ap, ◌∙◌, arith, eqb-true, add-one, inl, inr}
use Rattle.std.specs.Prelude.{◌==◌, ◌||◌, is_none, pos, nat_lt, option_map, count_ones}
use Rattle.std.specs.List.{list_any}
use Rattle.std.specs.Option.{option_and_then}
use Rattle.std.proofs.lemmas.Bool.{cases_lt, false≢true, le-ltb}
use Rattle.std.proofs.lemmas.List.{drop_all}
use Rattle.acas_base.specs.declared.link.CopyPlan.{CopyPlan}
use Rattle.enc_file.specs.Conditions.{if_said, is_count_wrong, is_number_wrong, is_turned, no_copies, no_copy_at}
use Rattle.enc_file.specs.Values.{count_in, field, mask_in, number_in}
use Rattle.enc_file.specs.declared.refusal.Code.{Code}
use Rattle.enc_file.specs.declared.refusal.Code.TheVariants as code
use Rattle.fault_text.specs.Names.{content_of, copy_names, fails, first_failing, many_bits, names_of, stated_kind}
use Rattle.fault_text.specs.Told.{IsLeftmost, TellsNumber, TellsTurned}
use Rattle.fault_text.specs.declared.fault.Why.{Why}
use Rattle.fault_text.specs.declared.fault.Why.TheVariants as why
use Rattle.fault_text.specs.declared.names.Content.{Content}
use Rattle.fault_text.specs.declared.names.Content.TheVariants as content
use Rattle.fault_text.specs.declared.names.FieldName.{FieldName}
use Rattle.fault_text.specs.declared.names.FieldName.TheVariants as name
use Rattle.fault_text.specs.declared.names.RecordKind.{RecordKind}
use Rattle.fault_text.specs.declared.names.RecordKind.TheVariants as kind
use Rattle.fault_text.proofs.FirstFailing.{no-fields}

-- None of the fields from a place on fails: the next one doesn't, and none of the others.
pub record NoneNext (c : Code) (n : FieldName) (ns : List FieldName) (fields : List (List ℕ)) (k : ℕ) : Type 0 where
  pub here : fails c n (field fields k) ≡ false
  pub later : first_failing c ns (drop (suc k) fields) ≡ None

none-first : (c : Code) (n : FieldName) (ns : List FieldName) (f : List ℕ) (fs : List (List ℕ)) (b : Bool) → fails c n f ≡ b → cond b (Some (n, f)) (first_failing c ns fs) ≡ None → (fails c n f ≡ false) × (first_failing c ns fs ≡ None)
none-first c n ns f fs true is h = absurd (cc h)
none-first c n ns f fs false is h = (is, h)

pub none-next : (c : Code) (n : FieldName) (ns : List FieldName) (fields : List (List ℕ)) (k : ℕ) → k < length fields → first_failing c (n ∷ ns) (drop k fields) ≡ None → NoneNext c n ns fields k
none-next c n ns [] k h none = absurd (omega (arith, h))
none-next c n ns (f ∷ fs) zero h none =
    let parts = none-first c n ns f fs (fails c n f) refl none in
    record { here = parts.0; later = parts.1 }
none-next c n ns (f ∷ fs) (suc k) h none =
    let next = none-next c n ns fs k (omega arith) none in
    record { here = next.here; later = next.later }

-- How many fields there are.
pub one-count : (n k : ℕ) → not (list_any (λ m. n == m) (k ∷ [])) ≡ false → n ≡ k
one-count n k h = at (n == k) refl h where
  at : (b : Bool) → (n == k) ≡ b → not (b || false) ≡ false → n ≡ k
  at true is e = eqb-true n k is
  at false is e = absurd (false≢true (sym e))

some-count : (n a b c d : ℕ) → a ≤ b → a ≤ c → a ≤ d → not (list_any (λ m. n == m) (a ∷ b ∷ c ∷ d ∷ [])) ≡ false → a ≤ n
some-count n a b c d ab ac ad h = at (n == a) (n == b) (n == c) (n == d) refl refl refl refl h where
  at : (p q r s : Bool) → (n == a) ≡ p → (n == b) ≡ q → (n == c) ≡ r → (n == d) ≡ s → not (p || (q || (r || (s || false)))) ≡ false → a ≤ n
  at true q r s e f g i h = omega (arith, eqb-true n a e)
  at false true r s e f g i h = omega (arith, eqb-true n b f, ab)
  at false false true s e f g i h = omega (arith, eqb-true n c g, ac)
  at false false false true e f g i h = omega (arith, eqb-true n d i, ad)
  at false false false false e f g i h = absurd (false≢true (sym h))

-- A count is read as a number is.
map-none : (o : Option ℤ) (f : ℤ → ℕ) → is_none (option_map f o) ≡ is_none o
map-none None f = refl
map-none (Some x) f = refl

count-none : (low high : ℕ) (bytes : List ℕ) → is_none (number_in (pos low) (pos high) bytes) ≡ false → is_none (count_in low high bytes) ≡ false
unfolding count_in
count-none low high bytes h = map-none (number_in (pos low) (pos high) bytes) _ ∙ h

-- A copy is read where its hold and its mask are.
copy-by : (hold mask : Option ℕ) → is_none hold ≡ false → is_none mask ≡ false → is_none {T = CopyPlan} (option_and_then (λ h. option_map (λ m. record { hold = h; mask = m }) mask) hold) ≡ false
copy-by None mask a b = a
copy-by (Some h) None a b = b
copy-by (Some h) (Some m) a b = refl

no-copy : (there : Bool) (b : Bool) → b ≡ false → (there && b) ≡ false
no-copy true b e = e
no-copy false b e = refl

-- None of the fields of copies fails.
record NoneCopy (fields : List (List ℕ)) (ns : List FieldName) (k : ℕ) : Type 0 where
  here : no_copy_at fields k ≡ false
  later : first_failing code.Number ns (drop (suc (suc k)) fields) ≡ None

copy-next : (fields : List (List ℕ)) (ns : List FieldName) (k : ℕ) → first_failing code.Number (name.Hold ∷ name.Mask ∷ ns) (drop k fields) ≡ None → NoneCopy fields ns k
copy-next fields ns k none = elim (cases_lt (k + 1) (length fields)) [
  | inl less ↦
      let hold = none-next code.Number name.Hold (name.Mask ∷ ns) fields k (omega (arith, less)) none in
      let mask = none-next code.Number name.Mask ns fields (suc k) (omega (arith, less)) hold.later in
      let both = copy-by (count_in 0 60 (field fields k)) (mask_in (field fields (suc k))) (count-none 0 60 (field fields k) hold.here) mask.here in
      record { here = no-copy (nat_lt (k + 1) (length fields)) _ (rw (add-one k) both); later = mask.later }
  | inr more ↦ record { here = rw (le-ltb (k + 1) (length fields) more) refl; later = ap (first_failing code.Number ns) (drop_all (suc (suc k)) fields (omega (arith, more))) ∙ no-fields code.Number ns }
]

-- Where no field of a record fails, its second cycle is before its first, and it is a miss.
pub record IsTurned (of : RecordKind) (fields : List (List ℕ)) : Type 0 where
  pub miss : of ≡ kind.Miss
  pub turned : is_turned fields 3 4 ≡ true

pub none-wrong : {X : Type 0} (b : Bool) → b ≡ false → b ≡ true → X
none-wrong b fine is = absurd (false≢true (sym fine ∙ is))

or-two : (a b : Bool) → a ≡ false → b ≡ false → (a || b) ≡ false
or-two a b e f = rw (e, f) refl

or-three : (a b c : Bool) → a ≡ false → b ≡ false → c ≡ false → (a || (b || c)) ≡ false
or-three a b c e f g = rw (e, f, g) refl

pub or-four : (a b c d : Bool) → a ≡ false → b ≡ false → c ≡ false → d ≡ false → (a || (b || (c || d))) ≡ false
or-four a b c d e f g h = rw (e, f, g, h) refl

or-last : (a b c : Bool) → a ≡ false → b ≡ false → (a || (b || c)) ≡ true → c ≡ true
or-last a b c e f is = rw (e, f) at is

abbrev NoneFails : RecordKind → List (List ℕ) → Type 0
NoneFails of fields = first_failing code.Number (names_of of) (drop 1 fields) ≡ None

no-copies : (fields : List (List ℕ)) (k : ℕ) → first_failing code.Number copy_names (drop k fields) ≡ None → no_copies fields k ≡ false
no-copies fields k none =
    let first = copy-next fields (name.Hold ∷ name.Mask ∷ name.Hold ∷ name.Mask ∷ []) k none in
    let second = copy-next fields (name.Hold ∷ name.Mask ∷ []) (suc (suc k)) first.later in
    let third = copy-next fields [] (suc (suc (suc (suc k)))) second.later in
    let two : k + 2 ≡ suc (suc k) = omega arith in
    let four : k + 4 ≡ suc (suc (suc (suc k))) = omega arith in
    rw (two, four) (or-three _ _ _ first.here second.here third.here)

pub number-turned : (of : RecordKind) (fields : List (List ℕ)) → is_count_wrong (stated_kind of) fields ≡ false → is_number_wrong (stated_kind of) fields ≡ true → NoneFails of fields → IsTurned of fields
number-turned kind.Run fields counted wrong none =
    let n = one-count (length fields) 3 counted in
    let a = none-next code.Number name.Cycles (name.Ground ∷ []) fields 1 (omega (arith, n)) none in
    let b = none-next code.Number name.Ground [] fields 2 (omega (arith, n)) a.later in
    none-wrong _ (or-two _ _ (count-none 1 600 (field fields 1) a.here) b.here) wrong
number-turned kind.Gains fields counted wrong none =
    let n = one-count (length fields) 5 counted in
    let a = none-next code.Number name.Alpha (name.Beta ∷ name.Alpha ∷ name.Beta ∷ []) fields 1 (omega (arith, n)) none in
    let b = none-next code.Number name.Beta (name.Alpha ∷ name.Beta ∷ []) fields 2 (omega (arith, n)) a.later in
    let c = none-next code.Number name.Alpha (name.Beta ∷ []) fields 3 (omega (arith, n)) b.later in
    let d = none-next code.Number name.Beta [] fields 4 (omega (arith, n)) c.later in
    none-wrong _ (or-four _ _ _ _ (count-none 0 1024 (field fields 1) a.here) (count-none 0 1024 (field fields 2) b.here) (count-none 0 1024 (field fields 3) c.here) (count-none 0 1024 (field fields 4) d.here)) wrong
number-turned kind.Craft fields counted wrong none =
    let n = one-count (length fields) 6 counted in
    let a = none-next code.Number name.Address (name.Kind ∷ name.X ∷ name.Y ∷ name.Alt ∷ []) fields 1 (omega (arith, n)) none in
    let b = none-next code.Number name.Kind (name.X ∷ name.Y ∷ name.Alt ∷ []) fields 2 (omega (arith, n)) a.later in
    let c = none-next code.Number name.X (name.Y ∷ name.Alt ∷ []) fields 3 (omega (arith, n)) b.later in
    let d = none-next code.Number name.Y (name.Alt ∷ []) fields 4 (omega (arith, n)) c.later in
    let e = none-next code.Number name.Alt [] fields 5 (omega (arith, n)) d.later in
    none-wrong _ (or-four _ _ _ _ b.here c.here d.here e.here) wrong
number-turned kind.Climb fields counted wrong none =
    let n = one-count (length fields) 3 counted in
    let a = none-next code.Number name.Address (name.Limit ∷ []) fields 1 (omega (arith, n)) none in
    let b = none-next code.Number name.Limit [] fields 2 (omega (arith, n)) a.later in
    none-wrong _ b.here wrong
number-turned kind.Leg fields counted wrong none =
    let n = one-count (length fields) 6 counted in
    let a = none-next code.Number name.Address (name.From ∷ name.Vx ∷ name.Vy ∷ name.Vz ∷ []) fields 1 (omega (arith, n)) none in
    let b = none-next code.Number name.From (name.Vx ∷ name.Vy ∷ name.Vz ∷ []) fields 2 (omega (arith, n)) a.later in
    let c = none-next code.Number name.Vx (name.Vy ∷ name.Vz ∷ []) fields 3 (omega (arith, n)) b.later in
    let d = none-next code.Number name.Vy (name.Vz ∷ []) fields 4 (omega (arith, n)) c.later in
    let e = none-next code.Number name.Vz [] fields 5 (omega (arith, n)) d.later in
    none-wrong _ (or-four _ _ _ _ (count-none 1 600 (field fields 2) b.here) c.here d.here e.here) wrong
number-turned kind.Miss fields counted wrong none =
    let n = one-count (length fields) 5 counted in
    let a = none-next code.Number name.Own (name.Target ∷ name.From ∷ name.To ∷ []) fields 1 (omega (arith, n)) none in
    let b = none-next code.Number name.Target (name.From ∷ name.To ∷ []) fields 2 (omega (arith, n)) a.later in
    let c = none-next code.Number name.From (name.To ∷ []) fields 3 (omega (arith, n)) b.later in
    let d = none-next code.Number name.To [] fields 4 (omega (arith, n)) c.later in
    record { miss = refl; turned = or-last _ _ (is_turned fields 3 4) (count-none 1 600 (field fields 3) c.here) (count-none 1 600 (field fields 4) d.here) wrong }
number-turned kind.Plan fields counted wrong none =
    let n = some-count (length fields) 3 5 7 9 (omega arith) (omega arith) (omega arith) counted in
    let a = none-next code.Number name.Sender (name.Receiver ∷ copy_names) fields 1 (omega (arith, n)) none in
    let b = none-next code.Number name.Receiver copy_names fields 2 (omega (arith, n)) a.later in
    none-wrong _ (no-copies fields 3 b.later) wrong
number-turned kind.Fate fields counted wrong none =
    let n = some-count (length fields) 4 6 8 10 (omega arith) (omega arith) (omega arith) counted in
    let a = none-next code.Number name.Sender (name.Receiver ∷ name.Number ∷ copy_names) fields 1 (omega (arith, n)) none in
    let b = none-next code.Number name.Receiver (name.Number ∷ copy_names) fields 2 (omega (arith, n)) a.later in
    let c = none-next code.Number name.Number copy_names fields 3 (omega (arith, n)) b.later in
    none-wrong _ (or-two _ _ (count-none 1 600 (field fields 3) c.here) (no-copies fields 4 c.later)) wrong
number-turned kind.End fields counted wrong none = absurd (false≢true wrong)
number-turned kind.Profile fields counted wrong none =
    let n = one-count (length fields) 2 counted in
    none-wrong _ (none-next code.Number name.Profile [] fields 1 (omega (arith, n)) none).here wrong
number-turned kind.Name fields counted wrong none =
    let n = one-count (length fields) 2 counted in
    none-wrong _ (none-next code.Number name.Label [] fields 1 (omega (arith, n)) none).here wrong
number-turned kind.Clock fields counted wrong none =
    let n = one-count (length fields) 2 counted in
    none-wrong _ (none-next code.Number name.Clock [] fields 1 (omega (arith, n)) none).here wrong
number-turned kind.Call fields counted wrong none =
    let n = one-count (length fields) 3 counted in
    let a = none-next code.Number name.Address (name.Sign ∷ []) fields 1 (omega (arith, n)) none in
    none-wrong _ (none-next code.Number name.Sign [] fields 2 (omega (arith, n)) a.later).here wrong

-- A field with a mask of too many bits is a mask.
mask-by : (o : Option ℕ) → if_said o (λ mask. nat_lt 3 (count_ones mask)) ≡ true → o ≡ None → ⊥
mask-by None h e = false≢true h
mask-by (Some m) h e = absurd (cc e)

masked-content : (content : Content) (found : List ℕ) → many_bits content found ≡ true → mask_in found ≡ None → ⊥
masked-content content.Mask found h e = mask-by (mask_in found) h e
masked-content content.Kind found h e = false≢true h
masked-content content.Profile found h e = false≢true h
masked-content content.Label found h e = false≢true h
masked-content content.Clock found h e = false≢true h
masked-content content.Sign found h e = false≢true h
masked-content content.Address found h e = false≢true h
masked-content (content.Whole low high) found h e = false≢true h

found-fails : (c : Code) (names : List FieldName) (fields : List (List ℕ)) (n : FieldName) (found : List ℕ) → Some (n, found) ≡ first_failing c names fields → fails c n found ≡ true
found-fails c [] fields n found h = absurd (cc h)
found-fails c (m ∷ ms) [] n found h = absurd (cc h)
found-fails c (m ∷ ms) (f ∷ fs) n found h = at (fails c m f) refl h (found-fails c ms fs n found) where
  at : (b : Bool) → fails c m f ≡ b → Some (n, found) ≡ cond b (Some (m, f)) (first_failing c ms fs) → (Some (n, found) ≡ first_failing c ms fs → fails c n found ≡ true) → fails c n found ≡ true
  at true is e more =
      let same : (n, found) ≡ (m, f) = cc e in
      ap (λ (p : FieldName × List ℕ). fails c p.0 p.1) same ∙ is
  at false is e more = more e

pub mask-found : (names : List FieldName) (fields : List (List ℕ)) (n : FieldName) (found : List ℕ) → Some (n, found) ≡ first_failing code.Mask names fields → mask_in found ≡ None → ⊥
mask-found names fields n found h e = masked-content (content_of n) found (found-fails code.Mask names fields n found h) e

-- What is told of the cycles of a miss is told of its numbers.
pub turned-number : (of : RecordKind) (line : List ℕ) (w : Why) → IsLeftmost code.Number (names_of of) line None → of ≡ kind.Miss → TellsTurned line w → TellsNumber of line w
turned-number of line (why.Turned from to) none miss told = (none, miss, told)
turned-number of line why.NoRecord none miss told = absurd told
turned-number of line (why.NoHeader found) none miss told = absurd told
turned-number of line (why.NoKind version found) none miss told = absurd told
turned-number of line (why.FieldCount k count) none miss told = absurd told
turned-number of line (why.NoValue n found) none miss told = absurd told
turned-number of line (why.NoAddress n found) none miss told = absurd told
turned-number of line (why.ManyBits n found bits) none miss told = absurd told
turned-number of line why.NoEnd none miss told = absurd told
turned-number of line (why.Outside _ _ _ _) none miss told = elim told [ ]
turned-number of line (why.Again _ _ _) none miss told = elim told [ ]
turned-number of line (why.NotAbove _ _ _ _) none miss told = elim told [ ]
turned-number of line (why.Called _ _) none miss told = elim told [ ]
turned-number of line (why.Unknown _ _) none miss told = elim told [ ]
turned-number of line (why.Equal _) none miss told = elim told [ ]
turned-number of line (why.ManyCrafts _) none miss told = elim told [ ]
turned-number of line why.NoRun none miss told = elim told [ ]
turned-number of line why.NoProfile none miss told = elim told [ ]
turned-number of line why.NoneActive none miss told = elim told [ ]
turned-number of line (why.After end) none miss told = absurd told
