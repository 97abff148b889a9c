-- What is left of the records of a text.
use Rattle.std.proofs.Common.{◌≡◌, ℕ, zero, suc, ◌+◌, ◌≤◌, Bool, true, false, List, [], ◌∷◌, ◌++◌, drop, length, take, Option, Some, None, Result, Ok, Err, Bor, inl, inr, refl, sym, ap, ◌∙◌, cond, arith}
use Rattle.std.specs.Prelude.{◌==◌, ◌&&◌, not, if◌then◌else◌, IfOk, IsErrAnd, MatchResult}
use Rattle.csv.specs.Machine.{Read, ends_at_end, next_record}
use Rattle.csv.specs.Reading.{Reached, ReadRecord, Ready, has_failed, is_bom, reader_config, reader_trim, records_from, records_next, source_of, strip_bom}
use Rattle.csv.specs.declared.parser.Config.{Config}
use Rattle.csv.specs.declared.parser.State.{State}
use Rattle.csv.specs.declared.reader.Reader.{Reader}
use Rattle.csv.specs.declared.reader.Trim.TheVariants as trim
use Rattle.enc_file.specs.Records.{unquoted}
use Rattle.enc_file.specs.Rows.{IsPlain, after_read, rows_from, rows_left}
use Rattle.csv.proofs.ReadFacts.{rows-end, rows-more}
use Rattle.enc_file.proofs.Reached.{next-takes, spare, spare-le}

-- The end comes once.
spent : (s : State) → ends_at_end s ≡ false → spare s ≡ 0
spent s once = ap (λ b. cond b 1 0) once

-- There are no more records than bytes.
pub records-few : (cfg : Config) (n : ℕ) (s : State) (xs : List ℕ) → length (records_from cfg n s xs) ≤ length xs + spare s
unfolding records_from
records-few cfg zero s xs = omega arith
records-few cfg (suc n) s xs = by (next_record cfg s [] [] xs) refl (records-few cfg n) where
  by : (o : Option Read) → next_record cfg s [] [] xs ≡ o → ((t : State) (ys : List ℕ) → length (records_from cfg n t ys) ≤ length ys + spare t)
      → length (records_next (records_from cfg n) o) ≤ length xs + spare s
  by None is few = omega arith
  by (Some q) is few =
      let takes = next-takes cfg s [] [] xs q is in
      omega (arith, few q.1 q.2, takes.shorter, spent q.1 takes.once)

-- The number of records that is allowed makes no difference where it is enough.
pub records-enough : (cfg : Config) (n m : ℕ) (s : State) (xs : List ℕ) → length xs + spare s ≤ n → length xs + spare s ≤ m → records_from cfg n s xs ≡ records_from cfg m s xs
unfolding records_from
records-enough cfg zero zero s xs h k = refl
records-enough cfg zero (suc m) s xs h k = by (next_record cfg s [] [] xs) refl where
  by : (o : Option Read) → next_record cfg s [] [] xs ≡ o → [] ≡ records_next (records_from cfg m) o
  by None is = refl
  by (Some q) is = absurd (omega (arith, h, (next-takes cfg s [] [] xs q is).shorter))
records-enough cfg (suc n) zero s xs h k = by (next_record cfg s [] [] xs) refl where
  by : (o : Option Read) → next_record cfg s [] [] xs ≡ o → records_next (records_from cfg n) o ≡ []
  by None is = refl
  by (Some q) is = absurd (omega (arith, k, (next-takes cfg s [] [] xs q is).shorter))
records-enough cfg (suc n) (suc m) s xs h k = by (next_record cfg s [] [] xs) refl (records-enough cfg n m) where
  by : (o : Option Read) → next_record cfg s [] [] xs ≡ o
      → ((t : State) (ys : List ℕ) → length ys + spare t ≤ n → length ys + spare t ≤ m → records_from cfg n t ys ≡ records_from cfg m t ys)
      → records_next (records_from cfg n) o ≡ records_next (records_from cfg m) o
  by None is same = refl
  by (Some q) is same =
      let takes = next-takes cfg s [] [] xs q is in
      let none = spent q.1 takes.once in
      ap (λ rows. q.0 ∷ rows) (same q.1 q.2 (omega (arith, h, takes.shorter, none)) (omega (arith, k, takes.shorter, none)))

bare-choice : (b : Bool) (x y : List ℕ) (n : ℕ) → length x ≤ n → length y ≤ n → length (if b then x else y) ≤ n
bare-choice true x y n h k = h
bare-choice false x y n h k = k

-- A text is no longer without its byte order mark.
pub bare-short : (xs : List ℕ) → length (strip_bom xs) ≤ length xs
unfolding strip_bom
bare-short [] = omega arith
bare-short (a ∷ []) = omega arith
bare-short (a ∷ b ∷ []) = omega arith
bare-short (a ∷ b ∷ c ∷ rest) = bare-choice (is_bom a b c) rest (a ∷ b ∷ c ∷ rest) (length (a ∷ b ∷ c ∷ rest)) (omega arith) (omega arith)

-- A reader of a text in memory knows what it has left.
known-choice : (b : Bool) (xs ys : List ℕ) → (rest : List ℕ) × ((if b then Some xs else Some ys) ≡ Some rest)
known-choice true xs ys = (xs, refl)
known-choice false xs ys = (ys, refl)

known : (a : Reader (Bor (List ℕ))) → has_failed a ≡ false → (rest : List ℕ) × (source_of (λ s. Some s.now) a ≡ Some rest)
known a going = rw going (known-choice (not a.bom_checked && (a.at == 0) && (a.filled == 0)) (strip_bom a.rdr.now) (drop a.at (take a.filled a.buffer) ++ a.rdr.now))

-- A read that finds a record takes it from those that are left.
left-more : (a b : Reader (Bor (List ℕ))) (fields : List (List ℕ)) (rest : List ℕ) → reader_config a ≡ unquoted → source_of (λ s. Some s.now) a ≡ Some rest → ReadRecord (λ s. Some s.now) a b true fields → rows_left a ≡ fields ∷ rows_left b
unfolding Reached records_from
left-more a b fields rest config source read =
    let m = rows-more (λ (s : Bor (List ℕ)). Some s.now) a b fields unquoted a.state rest rest [] config source (refl, refl) read in
    let p = m.2.0 in
    let takes = next-takes unquoted a.state [] [] rest p m.2.1 in
    let none = spent p.1 takes.once in
    let some = spare-le a.state in
    let enough = records-enough unquoted (length rest) (length p.2 + 1) p.1 p.2 (omega (arith, takes.shorter, none, some)) (omega (arith, none)) in
    let same : rows_from p.1 (Some p.2) ≡ rows_left b = ap (λ s. rows_from s (Some p.2)) m.2.3.0 ∙ ap (λ ys. rows_from b.state (Some ys)) m.2.3.1 ∙ ap (rows_from b.state) (sym m.1) in
    let more : length rest + 1 ≡ suc (length rest) = omega arith in
    ap (rows_from a.state) source ∙ ap (λ n. records_from unquoted n a.state rest) more ∙ ap (records_next (records_from unquoted (length rest))) m.2.1 ∙ ap (λ rows. p.0 ∷ rows) (enough ∙ same) ∙ ap (λ f. f ∷ rows_left b) (sym m.2.2)

left-none : (a b : Reader (Bor (List ℕ))) (fields : List (List ℕ)) (rest : List ℕ) → reader_config a ≡ unquoted → source_of (λ s. Some s.now) a ≡ Some rest → ReadRecord (λ s. Some s.now) a b false fields → rows_left a ≡ []
unfolding records_from
left-none a b fields rest config source read =
    let end = rows-end (λ (s : Bor (List ℕ)). Some s.now) a b fields unquoted rest config source read in
    let more : length rest + 1 ≡ suc (length rest) = omega arith in
    ap (rows_from a.state) source ∙ ap (λ n. records_from unquoted n a.state rest) more ∙ ap (records_next (records_from unquoted (length rest))) end

-- What a read finds is what was left.
found-left : (a b : Reader (Bor (List ℕ))) (found : Bool) (fields : List (List ℕ)) → IsPlain a → (has_failed a ≡ true → found ≡ false)
    → (reader_trim a ≡ trim.None → Ready a → ReadRecord (λ s. Some s.now) a b found fields) → rows_left a ≡ after_read found fields (rows_left b)
found-left a b found fields (inl failed) stops reads = rw (failed, stops failed) refl
found-left a b found fields (inr plain) stops reads = by (has_failed a) refl found (reads plain.trim plain.ready) stops where
  by : (failed : Bool) → has_failed a ≡ failed → (f : Bool) → ReadRecord (λ s. Some s.now) a b f fields → (has_failed a ≡ true → f ≡ false) → rows_left a ≡ after_read f fields (rows_left b)
  by true is f read stops = rw (is, stops is) refl
  by false is true read stops =
      let rest = known a is in
      left-more a b fields rest.0 plain.config rest.1 read
  by false is false read stops =
      let rest = known a is in
      left-none a b fields rest.0 plain.config rest.1 read

pub read-left : {E : Type 0} (a b : Reader (Bor (List ℕ))) (r : Result Bool E) (fields : List (List ℕ)) → IsPlain a → (has_failed a ≡ true → r ≡ Ok false)
    → IfOk r (λ found. reader_trim a ≡ trim.None → Ready a → ReadRecord (λ s. Some s.now) a b found fields) → IfOk r (λ found. rows_left a ≡ after_read found fields (rows_left b))
read-left a b (Ok found) fields plain stops reads = found-left a b found fields plain (λ failed. cc (stops failed)) reads
read-left a b (Err e) fields plain stops reads = tt

-- An answer stays where only the error changes.
pub passed-on : {E D : Type 0} (r : Result Bool E) (s : Result Bool D) (P : Bool → Type 0) (Q : E → D → Type 0) → MatchResult r (λ found. s ≡ Ok found) (λ e. IsErrAnd s (Q e)) → IfOk r P → IfOk s P
passed-on (Ok found) s P Q h k = rw h k
passed-on (Err e) (Ok found) P Q h k = absurd h
passed-on (Err e) (Err d) P Q h k = tt
