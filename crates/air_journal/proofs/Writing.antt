-- The journal as it is kept, entry by entry.
use Rattle.std.proofs.Common.{◌≡◌, ◌≢◌, ◌⊎◌, ℕ, zero, suc, ◌+◌, ◌-◌, ◌*◌, ◌/◌, ◌%◌, ◌<◌, ◌≤◌, true, false, ◌&&◌, eqb, List, [], ◌∷◌, ◌++◌, length, map, reverse, set, get_or, slice_get, Option, Some, None, option_map, is_some, sym, refl, ap, ◌∙◌, subst, arith, mul_comm, inl, inr, eqb-true, get_or-set_same, get_or-set_other}
use Rattle.std.specs.Prelude.{All}
use Rattle.std.proofs.lemmas.Bool.{and_cases, and_parts, eqb-false}
use Rattle.std.proofs.lemmas.List.{length-map, length-reverse, reverse-append, reverse-reverse}
use Rattle.std.proofs.lemmas.List.Elements.{All-append, All-cons, All-get_or, All-head, All-nil, All-tail}
use Rattle.std.proofs.lemmas.Nat.{div-mul-add, mod-mul-add, mul-add-lt}
use Rattle.std.proofs.lemmas.Option.{get_or_from_slice_get, slice_get_within}
use Rattle.acas_base.specs.declared.advisory.Cells.{Cells}
use Rattle.acas_base.specs.declared.entry.Entry.TheVariants as entries
use Rattle.air_journal.specs.Cells.{clear_cells, commit_cells}
use Rattle.air_journal.specs.Written.{AreNotes, IsNote, entries_in, place_in, told}
use Rattle.air_journal.specs.declared.log.Note.{Note}
use Rattle.air_journal.specs.declared.log.Note.TheVariants.{Commit, Send, Take}
use Rattle.air_rules.proofs.Positions.{chosen}

-- ---- in order and backwards

all-reverse : {X : Type 0} (P : X → Type 0) (xs : List X) → All P xs → All P (reverse xs)
all-reverse P [] h = h
all-reverse P (x ∷ xs) h = subst (All P) (sym (reverse-append (x ∷ []) xs)) (All-append P (reverse xs) (x ∷ []) (all-reverse P xs (All-tail P x xs h)) (All-cons P x [] (All-head P x xs h) (All-nil P)))

map-back : {X Y : Type 0} (f : X → Y) (xs ys : List X) → map f (xs ++ ys) ≡ map f xs ++ map f ys
map-back f [] ys = refl
map-back f (x ∷ xs) ys = ap (λ l. f x ∷ l) (map-back f xs ys)

map-reverse : {X Y : Type 0} (f : X → Y) (xs : List X) → map f (reverse xs) ≡ reverse (map f xs)
map-reverse f [] = refl
map-reverse f (x ∷ xs) = ap (map f) (reverse-append (x ∷ []) xs) ∙ map-back f (reverse xs) (x ∷ []) ∙ ap (λ l. l ++ f x ∷ []) (map-reverse f xs) ∙ sym (reverse-append (f x ∷ []) (map f xs))

get-map : {X Y : Type 0} (f : X → Y) (xs : List X) (k : ℕ) → slice_get (map f xs) k ≡ option_map f (slice_get xs k)
get-map f [] k = refl
get-map f (x ∷ xs) zero = refl
get-map f (x ∷ xs) (suc k) = get-map f xs k

pub entry-at : (w : ℕ) (table : List Cells) (notes : List Note) (at : ℕ) → slice_get (reverse (entries_in w table notes)) at ≡ option_map (told w table) (slice_get notes at)
entry-at w table notes at =
    ap (λ l. slice_get l at) (sym (map-reverse (told w table) (reverse notes)) ∙ ap (map (told w table)) (reverse-reverse notes)) ∙ get-map (told w table) notes at

pub length-entries : (w : ℕ) (table : List Cells) (notes : List Note) → length (entries_in w table notes) ≡ length notes
length-entries w table notes = length-map (reverse notes) (told w table) ∙ length-reverse notes

-- ---- one note more

pub push-entry : (w : ℕ) (table : List Cells) (notes : List Note) (note : Note) → entries_in w table (notes ++ note ∷ []) ≡ told w table note ∷ entries_in w table notes
push-entry w table notes note = ap (map (told w table)) (reverse-append notes (note ∷ []))

pub push-note : (w places : ℕ) (notes : List Note) (note : Note) → AreNotes w places notes → IsNote w places note → AreNotes w places (notes ++ note ∷ [])
push-note w places notes note h n = All-append (IsNote w places) notes (note ∷ []) h (All-cons (IsNote w places) note [] n (All-nil (IsNote w places)))

pub note-at : (w places : ℕ) (notes : List Note) (at : ℕ) (note : Note) → AreNotes w places notes → slice_get notes at ≡ Some note → IsNote w places note
note-at w places notes at note h e = subst (IsNote w places) (get_or_from_slice_get notes at note note e) (All-get_or (IsNote w places) notes at note (slice_get_within notes at note e) h)

-- ---- the cells of a commit

-- Two places of a table with `w` places in a row are one place only where both the column and the row are the same.
same-own : (w o p a b : ℕ) → o < w → p < w → a * w + o ≡ b * w + p → o ≡ p
same-own w o p a b ho hp same = sym (mod-mul-add a w o ho) ∙ ap (λ n. n % w) same ∙ mod-mul-add b w p hp

same-row : (w o p a b : ℕ) → o < w → p < w → a * w + o ≡ b * w + p → a ≡ b
same-row w o p a b ho hp same = sym (div-mul-add a w o ho) ∙ ap (λ n. n / w) same ∙ div-mul-add b w p hp

-- The place of an aircraft in a cycle is there where the cycle's places are.
pub row-within : (w own cycle places : ℕ) → own < w → 1 ≤ cycle → cycle * w ≤ places → place_in w own cycle < places
row-within w own cycle places ho hc few =
    let a : (cycle - 1) * w + own < w * cycle = mul-add-lt (cycle - 1) w own cycle (omega arith) ho in
    let b : w * cycle ≡ cycle * w = mul_comm w cycle in
    omega arith

-- Other cells than those of an aircraft's new commit stay.
same-told : (w : ℕ) (table : List Cells) (own cycle : ℕ) (cells : Cells) → own < w → 1 ≤ cycle → (ns : List Note) → AreNotes w (length table) ns →
    commit_cells (map (told w table) ns) own cycle ≡ None → map (told w (set table (place_in w own cycle) cells)) ns ≡ map (told w table) ns
same-told w table own cycle cells ho hc [] h e = refl
same-told w table own cycle cells ho hc (Commit o c ∷ ns) h e =
    let here = All-head (IsNote w (length table)) (Commit o c) ns h in
    let rest = All-tail (IsNote w (length table)) (Commit o c) ns h in
    elim (chosen (eqb o own && eqb c cycle) (Some (get_or table (place_in w o c) clear_cells)) (commit_cells (map (told w table) ns) own cycle) None e) [
      | inl a ↦ absurd (let z = a.1 in cc)
      | inr a ↦
          let apart : place_in w o c ≢ place_in w own cycle = differs o c (and_cases (eqb o own) (eqb c cycle) a.0) here.0 here.1 in
          ap (λ (x : Cells). entries.Commit o c x ∷ map (told w (set table (place_in w own cycle) cells)) ns) (get_or-set_other table (place_in w own cycle) (place_in w o c) cells clear_cells apart)
          ∙ ap (λ l. told w table (Commit o c) ∷ l) (same-told w table own cycle cells ho hc ns rest a.1)
    ]
  where
    differs : (o c : ℕ) → (eqb o own ≡ false) ⊎ (eqb c cycle ≡ false) → o < w → 1 ≤ c → place_in w o c ≢ place_in w own cycle
    differs o c (inl f) a b = λ same. eqb-false o own f (same-own w o own (c - 1) (cycle - 1) a ho same)
    differs o c (inr f) a b = λ same. let s : c - 1 ≡ cycle - 1 = same-row w o own (c - 1) (cycle - 1) a ho same in eqb-false c cycle f (omega arith)
same-told w table own cycle cells ho hc (Send o t n x ∷ ns) h e = ap (λ l. entries.Send o t n x ∷ l) (same-told w table own cycle cells ho hc ns (All-tail (IsNote w (length table)) (Send o t n x) ns h) e)
same-told w table own cycle cells ho hc (Take o s c g ∷ ns) h e = ap (λ l. entries.Take o s c g ∷ l) (same-told w table own cycle cells ho hc ns (All-tail (IsNote w (length table)) (Take o s c g) ns h) e)

pub push-commit : (w : ℕ) (table : List Cells) (notes : List Note) (own cycle : ℕ) (cells : Cells) → own < w → 1 ≤ cycle → place_in w own cycle < length table → AreNotes w (length table) notes →
    commit_cells (entries_in w table notes) own cycle ≡ None →
    entries_in w (set table (place_in w own cycle) cells) (notes ++ Commit own cycle ∷ []) ≡ entries.Commit own cycle cells ∷ entries_in w table notes
push-commit w table notes own cycle cells ho hc hp h e =
    push-entry w (set table (place_in w own cycle) cells) notes (Commit own cycle)
    ∙ ap (λ (x : Cells). entries.Commit own cycle x ∷ entries_in w (set table (place_in w own cycle) cells) notes) (get_or-set_same table (place_in w own cycle) cells clear_cells hp)
    ∙ ap (λ l. entries.Commit own cycle cells ∷ l) (same-told w table own cycle cells ho hc (reverse notes) (all-reverse (IsNote w (length table)) notes h) e)

-- The cells of a commit that is there stand in the table.
pub record Stands (w : ℕ) (table : List Cells) (own cycle : ℕ) (cells : Cells) : Type 0 where
  pub own_is : own < w
  pub begun : 1 ≤ cycle
  pub within : place_in w own cycle < length table
  pub here : get_or table (place_in w own cycle) clear_cells ≡ cells

stands : (w : ℕ) (table : List Cells) (own cycle : ℕ) (cells : Cells) (ns : List Note) → AreNotes w (length table) ns → commit_cells (map (told w table) ns) own cycle ≡ Some cells → Stands w table own cycle cells
stands w table own cycle cells [] h e = absurd (cc)
stands w table own cycle cells (Commit o c ∷ ns) h e =
    let here = All-head (IsNote w (length table)) (Commit o c) ns h in
    let rest = All-tail (IsNote w (length table)) (Commit o c) ns h in
    elim (chosen (eqb o own && eqb c cycle) (Some (get_or table (place_in w o c) clear_cells)) (commit_cells (map (told w table) ns) own cycle) (Some cells) e) [
      | inl a ↦
          let p = and_parts (eqb o own) (eqb c cycle) a.0 in
          let z : get_or table (place_in w o c) clear_cells ≡ cells = (let f = a.1 in cc) in
          subst (λ x. Stands w table x cycle cells) (eqb-true o own p.0) (subst (λ x. Stands w table o x cells) (eqb-true c cycle p.1) (record { own_is = here.0; begun = here.1; within = here.2; here = z }))
      | inr a ↦ stands w table own cycle cells ns rest a.1
    ]
stands w table own cycle cells (Send o t n x ∷ ns) h e = stands w table own cycle cells ns (All-tail (IsNote w (length table)) (Send o t n x) ns h) e
stands w table own cycle cells (Take o s c g ∷ ns) h e = stands w table own cycle cells ns (All-tail (IsNote w (length table)) (Take o s c g) ns h) e

pub found-cells : (w : ℕ) (table : List Cells) (notes : List Note) (own cycle : ℕ) (cells : Cells) → AreNotes w (length table) notes → commit_cells (entries_in w table notes) own cycle ≡ Some cells → Stands w table own cycle cells
found-cells w table notes own cycle cells h e = stands w table own cycle cells (reverse notes) (all-reverse (IsNote w (length table)) notes h) e

pub record Found (w : ℕ) (table : List Cells) (notes : List Note) (own cycle : ℕ) : Type 0 where
  pub cells : Cells
  pub is : commit_cells (entries_in w table notes) own cycle ≡ Some cells
  pub stands : Stands w table own cycle cells

pub found-some : (w : ℕ) (table : List Cells) (notes : List Note) (own cycle : ℕ) → AreNotes w (length table) notes → is_some (commit_cells (entries_in w table notes) own cycle) ≡ true → Found w table notes own cycle
found-some w table notes own cycle h some = go (commit_cells (entries_in w table notes) own cycle) refl some
  where
    go : (o : Option Cells) → commit_cells (entries_in w table notes) own cycle ≡ o → is_some o ≡ true → Found w table notes own cycle
    go None e s = absurd (cc)
    go (Some cells) e s = record { cells = cells; is = e; stands = found-cells w table notes own cycle cells h e }
