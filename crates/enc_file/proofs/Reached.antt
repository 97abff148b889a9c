-- What the records that were read so far are among all records of a text.
use Rattle.std.proofs.Common.{◌≡◌, ℕ, suc, ◌+◌, ◌-◌, ◌≤◌, List, [], ◌∷◌, ◌++◌, length, Bool, true, false, cond, Option, Some, None, refl, sym, ap, ◌∙◌, arith, zero-add}
use Rattle.std.specs.Prelude.{◌==◌, ◌&&◌}
use Rattle.std.proofs.lemmas.Bool.{false≢true}
use Rattle.std.proofs.lemmas.List.{append-nil}
use Rattle.std.proofs.lemmas.Option.{none-some}
use Rattle.csv.specs.Machine.{Read, carriage_return, line_feed, is_byte, step, in_field, start_field, start_record, after_end, ends_with, ends_at_end, is_end, fields_after, field_after, next_record}
use Rattle.csv.specs.Reading.{Reached, records, records_from}
use Rattle.csv.specs.declared.parser.Config.{Config}
use Rattle.csv.specs.declared.parser.Action.{Action}
use Rattle.csv.specs.declared.parser.Action.TheVariants as act
use Rattle.csv.specs.declared.parser.State.{State}
use Rattle.csv.specs.declared.parser.State.TheVariants as st
use Rattle.csv.specs.declared.parser.Terminator.{Terminator}
use Rattle.csv.specs.declared.parser.Terminator.TheVariants as term

-- Where an action ends the record, the end of the text ends no other.
record EndsOnce (x : State × Action) : Type 0 where
  once : is_end x.1 ≡ true → ends_at_end x.0 ≡ false

once-choice : (b : Bool) (x y : State × Action) → EndsOnce x → EndsOnce y → EndsOnce (cond b x y)
once-choice true x y h k = h
once-choice false x y h k = k

once-open : (s : State) (a : Action) → is_end a ≡ false → EndsOnce (s, a)
once-open s a e = record { once = λ t. absurd (false≢true (sym e ∙ t)) }

after-end-once : (t : Terminator) (c : ℕ) → ends_at_end (after_end t c) ≡ false
after-end-once term.CRLF c = at (c == carriage_return) where
  at : (b : Bool) → ends_at_end (cond b st.AfterCr st.StartRecord) ≡ false
  at true = refl
  at false = refl
after-end-once (term.Any t) c = refl

in-field-once : (cfg : Config) (c : ℕ) → EndsOnce (in_field cfg c)
in-field-once cfg c =
    once-choice (c == cfg.delimiter) (st.StartField, act.EndField) _ (once-open _ _ refl)
    (once-choice (ends_with cfg.terminator c) (after_end cfg.terminator c, act.EndRecord) (st.InField, act.Copy) (record { once = λ _. after-end-once cfg.terminator c }) (once-open _ _ refl))

start-field-once : (cfg : Config) (c : ℕ) → EndsOnce (start_field cfg c)
start-field-once cfg c = once-choice (cfg.quoting && (c == cfg.quote)) (st.InQuoted, act.Skip) _ (once-open _ _ refl) (in-field-once cfg c)

start-record-once : (cfg : Config) (c : ℕ) → EndsOnce (start_record cfg c)
start-record-once cfg c =
    once-choice (ends_with cfg.terminator c) (st.StartRecord, act.Skip) _ (once-open _ _ refl)
    (once-choice (is_byte cfg.comment c) (st.InComment, act.Skip) _ (once-open _ _ refl) (start-field-once cfg c))

step-once : (cfg : Config) (s : State) (c : ℕ) → EndsOnce (step cfg s c)
step-once cfg st.StartRecord c = start-record-once cfg c
step-once cfg st.StartField c = start-field-once cfg c
step-once cfg st.InField c = in-field-once cfg c
step-once cfg st.InQuoted c =
    once-choice (cfg.quoting && (c == cfg.quote)) (st.AfterQuote, act.Skip) _ (once-open _ _ refl)
    (once-choice (cfg.quoting && is_byte cfg.escape c) (st.InEscape, act.Skip) (st.InQuoted, act.Copy) (once-open _ _ refl) (once-open _ _ refl))
step-once cfg st.InEscape c = once-open _ _ refl
step-once cfg st.AfterQuote c =
    once-choice (cfg.quoting && cfg.double_quote && (c == cfg.quote)) (st.InQuoted, act.Copy) _ (once-open _ _ refl) (in-field-once cfg c)
step-once cfg st.InComment c = once-choice (c == line_feed) (st.StartRecord, act.Skip) (st.InComment, act.Skip) (once-open _ _ refl) (once-open _ _ refl)
step-once cfg st.AfterCr c = once-choice (c == line_feed) (st.StartRecord, act.Skip) _ (once-open _ _ refl) (start-record-once cfg c)

-- How many records more than bytes a text may have from a state: one where its end ends a record.
abbrev pub spare : State → ℕ
spare s = cond (ends_at_end s) 1 0

pub spare-le : (s : State) → spare s ≤ 1
spare-le s = at (ends_at_end s) where
  at : (b : Bool) → cond b 1 0 ≤ 1
  at true = omega arith
  at false = omega arith

-- A record takes a byte, or the end of the text, and the end comes once.
pub record Takes (s : State) (xs : List ℕ) (q : Read) : Type 0 where
  pub once : ends_at_end q.1 ≡ false
  pub shorter : length q.2 + 1 ≤ length xs + spare s

takes-end : (s : State) (v q : Read) (b : Bool) → ends_at_end s ≡ b → ends_at_end v.1 ≡ false → v.2 ≡ [] → cond b (Some v) None ≡ Some q → Takes s [] q
takes-end s v q true e once rest h =
    let same : v ≡ q = cc h in
    rw (← same) (record { once = once; shorter = rw (rest, e) (omega arith) })
takes-end s v q false e once rest h = absurd (none-some q h)

takes-one : (b : Bool) (s t : State) (c : ℕ) (rest : List ℕ) (v q : Read) (o : Option Read) → (b ≡ true → ends_at_end v.1 ≡ false) → v.2 ≡ rest
    → (o ≡ Some q → Takes t rest q) → cond b (Some v) o ≡ Some q → Takes s (c ∷ rest) q
takes-one true s t c rest v q o once at more h =
    let same : v ≡ q = cc h in
    rw (← same) (record { once = once refl; shorter = rw at (omega arith) })
takes-one false s t c rest v q o once at more h =
    let w : Takes t rest q = more h in
    record { once = w.once; shorter = omega (arith, w.shorter, spare-le t) }

pub next-takes : (cfg : Config) (s : State) (f : List (List ℕ)) (p xs : List ℕ) (q : Read) → next_record cfg s f p xs ≡ Some q → Takes s xs q
unfolding next_record
next-takes cfg s f p [] q e = takes-end s (f ++ (p ∷ []), st.StartRecord, []) q (ends_at_end s) refl refl refl e
next-takes cfg s f p (c ∷ rest) q e =
    takes-one (is_end (step cfg s c).1) s (step cfg s c).0 c rest (fields_after (step cfg s c).1 f p, (step cfg s c).0, rest) q _ (step-once cfg s c).once refl
    (next-takes cfg (step cfg s c).0 (fields_after (step cfg s c).1 f p) (field_after (step cfg s c).1 c p) rest q) e

-- There are no more records than bytes.
pub reached-short : (cfg : Config) (s s2 : State) (xs ys : List ℕ) (rows : List (List (List ℕ))) → Reached cfg s xs rows s2 ys → length rows + length ys ≤ length xs + spare s
unfolding Reached
reached-short cfg s s2 xs ys [] h = rw (h.1) (omega arith)
reached-short cfg s s2 xs ys (r ∷ rs) h =
    let first : Takes s xs h.0 = next-takes cfg s [] [] xs h.0 h.1 in
    let no_spare : spare h.0.1 ≡ 0 = ap (λ b. cond b 1 0) first.once in
    omega (arith, reached-short cfg h.0.1 s2 h.0.2 ys rs h.3, first.shorter, no_spare)

-- The records that were read stand in front of the records of what is left.
reached-from : (cfg : Config) (s s2 : State) (xs ys : List ℕ) (rows : List (List (List ℕ))) (k : ℕ) → Reached cfg s xs rows s2 ys
    → records_from cfg (length rows + k) s xs ≡ rows ++ records_from cfg k s2 ys
unfolding Reached records_from
reached-from cfg s s2 xs ys [] k h = rw (zero-add k, h.0, h.1) refl
reached-from cfg s s2 xs ys (r ∷ rs) k h =
    let more : suc (length rs) + k ≡ suc (length rs + k) = omega arith in
    rw (more, h.1, h.2) (ap (λ t. h.0.0 ∷ t) (reached-from cfg h.0.1 s2 h.0.2 ys rs k h.3))

pub reached-all : (cfg : Config) (s2 : State) (xs ys : List ℕ) (rows : List (List (List ℕ))) → Reached cfg st.StartRecord xs rows s2 ys
    → next_record cfg s2 [] [] ys ≡ None → records cfg xs ≡ rows
unfolding records_from
reached-all cfg s2 xs ys rows h end =
    let k = length xs - length rows in
    let short = reached-short cfg st.StartRecord s2 xs ys rows h in
    let all : length xs + 1 ≡ length rows + suc k = omega (arith, short) in
    rw (all, reached-from cfg st.StartRecord s2 xs ys rows (suc k) h, end) (append-nil rows)
