-- Keys in the fields of lines.
use Rattle.std.proofs.Common.{◌≡◌, ◌≢◌, ℕ, zero, suc, ◌<◌, ◌≤◌, ◌^◌, List, [], ◌∷◌, ◌++◌, Option, Some, None, get_or, length, map, take, drop, refl, sym, ap, ◌∙◌, append_assoc, arith}
use Rattle.std.specs.Prelude.{codes}
use Rattle.std.proofs.lemmas.Fmt.{decimal_injective}
use Rattle.std.specs.Fmt.{decimal}
use Rattle.std.specs.List.{AllByRecursion, join_with_byte}
use Rattle.acas_base.specs.declared.advisory.Cell.{Cell}
use Rattle.acas_base.specs.declared.advisory.Cells.{Cells}
use Rattle.acas_text.specs.Hex.{hex}
use Rattle.advisory_report.specs.Cells.{cell_text}
use Rattle.acas_base.specs.declared.TheConstants.{CRAFTS}
use Rattle.acas_base.specs.declared.entry.Entry.{Entry}
use Rattle.acas_base.specs.declared.entry.Entry.TheVariants.{Commit, Send, Take}
use Rattle.air_journal.specs.Ranges.{IsEntry}
use Rattle.rec_audit.specs.Keys.{IsKey, key, key_fields}
use Rattle.rec_audit.specs.Reading.{ReadsKey, ReadsKeyFields}
use Rattle.rec_audit.specs.declared.keys.Key.{Key}
use Rattle.rec_audit.specs.declared.keys.Key.TheVariants as keys
use Rattle.rec_text.proofs.HighBytes.{High, each-lacks, high-decimal}
use Rattle.rec_text.proofs.Letters.{Lacks}
use Rattle.rec_text.proofs.Splits.{split-field}
use Rattle.rec_text.specs.Entries.{entry_fields, entry_line, outcome}
use Rattle.rec_text.specs.Fields.{fields_of}

-- A number in the fields is told by its text.
same-number : (m n place : ℕ) (xs ys : List (List ℕ)) → m < 2 ^ 64 → n < 2 ^ 64 → xs ≡ ys → get_or xs place [] ≡ decimal m → get_or ys place [] ≡ decimal n → m ≡ n
same-number m n place xs ys h k e a b = decimal_injective m n h k (sym a ∙ ap (λ t. get_or t place []) e ∙ b)

-- The first byte of the first field.
abbrev first : List (List ℕ) → ℕ
first fields = get_or (get_or fields 0 []) 0 0

-- Fields begin with those of one key.
key-once : (count : ℕ) (one two : Key) (xs ys : List (List ℕ)) → count ≤ CRAFTS → IsKey count one → IsKey count two → key_fields one ++ xs ≡ key_fields two ++ ys → one ≡ two
key-once count (keys.Commit i c) (keys.Commit own cycle) xs ys few is fits h =
    let a : i ≡ own = same-number i own 1 _ _ (omega (arith, is.0)) (omega (arith, fits.0)) h refl refl in
    let b : c ≡ cycle = same-number c cycle 2 _ _ (omega (arith, is.1)) (omega (arith, fits.1)) h refl refl in
    rw (a, b) refl
key-once count (keys.Send i t) (keys.Send own target) xs ys few is fits h =
    let a : i ≡ own = same-number i own 1 _ _ (omega (arith, is.0)) (omega (arith, fits.0)) h refl refl in
    let b : t ≡ target = same-number t target 2 _ _ (omega (arith, is.1)) (omega (arith, fits.1)) h refl refl in
    rw (a, b) refl
key-once count (keys.Take i s d) (keys.Take own send copy) xs ys few is fits h =
    let a : i ≡ own = same-number i own 1 _ _ (omega (arith, is.0)) (omega (arith, fits.0)) h refl refl in
    let b : s ≡ send = same-number s send 2 _ _ (omega (arith, is.1)) (omega (arith, fits.1)) h refl refl in
    let e : d ≡ copy = same-number d copy 3 _ _ (omega (arith, is.2)) (omega (arith, fits.2)) h refl refl in
    rw (a, b, e) refl
key-once count (keys.Commit i c) (keys.Send own target) xs ys few is fits h = absurd (omega (arith, ap first h))
key-once count (keys.Commit i c) (keys.Take own send copy) xs ys few is fits h = absurd (omega (arith, ap first h))
key-once count (keys.Send i t) (keys.Commit own cycle) xs ys few is fits h = absurd (omega (arith, ap first h))
key-once count (keys.Send i t) (keys.Take own send copy) xs ys few is fits h = absurd (omega (arith, ap first h))
key-once count (keys.Take i s d) (keys.Commit own cycle) xs ys few is fits h = absurd (omega (arith, ap first h))
key-once count (keys.Take i s d) (keys.Send own target) xs ys few is fits h = absurd (omega (arith, ap first h))

-- Of fields that begin with a letter, the keys of that letter alone are to be excluded.
pub no-commit-key : (count : ℕ) (fields : List (List ℕ)) → ((own cycle : ℕ) (after : List (List ℕ)) → IsKey count (keys.Commit own cycle) → fields ≢ decimal own ∷ decimal cycle ∷ after) →
    (about : Key) (after : List (List ℕ)) → IsKey count about → codes "c" ∷ fields ≢ key_fields about ++ after
no-commit-key count fields none (keys.Commit own cycle) after is = λ e. none own cycle after is (ap (drop 1) e)
no-commit-key count fields none (keys.Send own target) after is = λ e. absurd (omega (arith, ap first e))
no-commit-key count fields none (keys.Take own send copy) after is = λ e. absurd (omega (arith, ap first e))

pub no-send-key : (count : ℕ) (fields : List (List ℕ)) → ((own target : ℕ) (after : List (List ℕ)) → IsKey count (keys.Send own target) → fields ≢ decimal own ∷ decimal target ∷ after) →
    (about : Key) (after : List (List ℕ)) → IsKey count about → codes "s" ∷ fields ≢ key_fields about ++ after
no-send-key count fields none (keys.Send own target) after is = λ e. none own target after is (ap (drop 1) e)
no-send-key count fields none (keys.Commit own cycle) after is = λ e. absurd (omega (arith, ap first e))
no-send-key count fields none (keys.Take own send copy) after is = λ e. absurd (omega (arith, ap first e))

pub no-take-key : (count : ℕ) (fields : List (List ℕ)) → ((own send copy : ℕ) (after : List (List ℕ)) → IsKey count (keys.Take own send copy) → fields ≢ decimal own ∷ decimal send ∷ decimal copy ∷ after) →
    (about : Key) (after : List (List ℕ)) → IsKey count about → codes "t" ∷ fields ≢ key_fields about ++ after
no-take-key count fields none (keys.Take own send copy) after is = λ e. none own send copy after is (ap (drop 1) e)
no-take-key count fields none (keys.Commit own cycle) after is = λ e. absurd (omega (arith, ap first e))
no-take-key count fields none (keys.Send own target) after is = λ e. absurd (omega (arith, ap first e))

-- The fields of an entry are those of its key and at least one more.
pub record KeyAndMore (count : ℕ) (e : Entry) : Type 0 where
  pub is : IsKey count (key e)
  pub next : List ℕ
  pub more : List (List ℕ)
  pub fields : entry_fields count e ≡ key_fields (key e) ++ next ∷ more

cells-more : (count own cycle : ℕ) (cells : Cells) (list : List Cell) → cells.list ≡ list → 0 < count → 0 < length list → IsKey count (keys.Commit own cycle) → KeyAndMore count (Commit own cycle cells)
cells-more count own cycle cells [] e some h is = absurd (omega arith)
cells-more zero own cycle cells (c ∷ cs) e some h is = absurd (omega arith)
cells-more (suc n) own cycle cells (c ∷ cs) e some h is = record {
  is = is;
  next = cell_text c;
  more = map cell_text (take n cs);
  fields = ap (λ (l : List Cell). codes "c" ∷ decimal own ∷ decimal cycle ∷ map cell_text (take (suc n) l)) e;
}

pub key-and-more : (count : ℕ) (e : Entry) → IsEntry count e → KeyAndMore count e
key-and-more count (Commit own cycle cells) fits = cells-more count own cycle cells cells.list refl (omega (arith, fits.0)) (omega (arith, fits.2.size)) (fits.0, fits.1)
key-and-more count (Send own target number word) fits = record { is = (fits.0, fits.1); next = decimal number; more = hex 14 word ∷ []; fields = refl }
key-and-more count (Take own send copy good) fits = record { is = (fits.0, fits.1, fits.2); next = outcome good; more = []; fields = refl }

high-key : (count : ℕ) (about : Key) → count ≤ CRAFTS → IsKey count about → AllByRecursion High (key_fields about)
high-key count (keys.Commit own cycle) few is = ((omega arith, tt), (high-decimal own (omega (arith, is.0)), (high-decimal cycle (omega (arith, is.1)), tt)))
high-key count (keys.Send own target) few is = ((omega arith, tt), (high-decimal own (omega (arith, is.0)), (high-decimal target (omega (arith, is.1)), tt)))
high-key count (keys.Take own send copy) few is = ((omega arith, tt), (high-decimal own (omega (arith, is.0)), (high-decimal send (omega (arith, is.1)), (high-decimal copy (omega (arith, is.2)), tt))))

-- Fields without commas, behind which others stand, are the first ones of a text that they begin.
front-fields : (fs : List (List ℕ)) (next : List ℕ) (more : List (List ℕ)) (tail : List ℕ) → AllByRecursion (Lacks 44) fs →
    fields_of (join_with_byte 44 (fs ++ next ∷ more) ++ tail) ≡ fs ++ fields_of (join_with_byte 44 (next ∷ more) ++ tail)
front-fields [] next more tail h = refl
front-fields (f ∷ []) next more tail h =
    ap fields_of (append_assoc f (44 ∷ join_with_byte 44 (next ∷ more)) tail) ∙ split-field f (join_with_byte 44 (next ∷ more) ++ tail) h.0
front-fields (f ∷ g ∷ fs) next more tail h =
    ap fields_of (append_assoc f (44 ∷ join_with_byte 44 (g ∷ fs ++ next ∷ more)) tail) ∙ split-field f (join_with_byte 44 (g ∷ fs ++ next ∷ more) ++ tail) h.0 ∙ ap (λ t. f ∷ t) (front-fields (g ∷ fs) next more tail h.1)

-- So a text that begins with an entry's line has fields that begin with those of its key.
key-first : (count : ℕ) (e : Entry) (text rest : List ℕ) → count ≤ CRAFTS → (k : KeyAndMore count e) → text ≡ entry_line count e ++ rest →
    fields_of text ≡ key_fields (key e) ++ fields_of (join_with_byte 44 (k.next ∷ k.more) ++ 10 ∷ rest)
key-first count e text rest few k same =
    ap fields_of (same ∙ append_assoc (join_with_byte 44 (entry_fields count e)) (10 ∷ []) rest ∙ ap (λ fields. join_with_byte 44 fields ++ 10 ∷ rest) k.fields)
    ∙ front-fields (key_fields (key e)) k.next k.more (10 ∷ rest) (each-lacks 44 (key_fields (key e)) (omega arith) (high-key count (key e) few k.is))

pub reads-key : (count : ℕ) (text : List ℕ) (left : List (List ℕ)) (r : Option Key) → count ≤ CRAFTS → ReadsKeyFields count (fields_of text) left r → ReadsKey count text r
reads-key count text left None few h = λ e rest fits same.
    let k = key-and-more count e fits in
    h (key e) (fields_of (join_with_byte 44 (k.next ∷ k.more) ++ 10 ∷ rest)) k.is (key-first count e text rest few k same)
reads-key count text left (Some about) few h = (
  h.0,
  λ e rest fits same.
      let k = key-and-more count e fits in
      key-once count (key e) about (fields_of (join_with_byte 44 (k.next ∷ k.more) ++ 10 ∷ rest)) left few k.is h.0 (sym (key-first count e text rest few k same) ∙ h.1),
)
