-- Aircraft found by their addresses.
use Rattle.std.proofs.Common.{◌≡◌, ℕ, zero, suc, ◌<◌, ◌==◌, true, false, List, [], ◌∷◌, ◌++◌, length, get_or, Option, Some, None, slice_get, AllPairs, nat_lt, refl, sym, ap, ◌∙◌, arith, length-append, one-add, ne_eqb, eq-eqb, subst}
use Rattle.std.specs.List.{AllByRecursion, position_or_len}
use Rattle.std.specs.Option.{option_map_or}
use Rattle.std.proofs.lemmas.Bool.Decides.{nat_tests}
use Rattle.acas_base.specs.Encounter.{AreApart, IsCraft, IsPair, address_in}
use Rattle.acas_base.specs.Ranges.{IsAddress}
use Rattle.acas_base.specs.declared.craft.CraftSpec.{CraftSpec}
use Rattle.enc_file.specs.Earlier.{for_pair, index_of}
use Rattle.enc_file.specs.declared.record.Addresses.{Addresses}
use Rattle.enc_file.proofs.Pairwise.{Pairs, pairs-before, pairs-from-places, all-here}

-- The aircraft has another address.
abbrev pub IsOther : ℕ → CraftSpec → Type 0
IsOther n craft = (craft.address == n) ≡ false

abbrev pub Differ : CraftSpec → CraftSpec → Type 0
Differ a b = IsOther b.address a

pub apart-differ : (crafts : List CraftSpec) → AllPairs AreApart crafts → Pairs Differ crafts
apart-differ crafts h = pairs-from-places Differ crafts (λ i j d order within. ne_eqb (get_or crafts i d).address (get_or crafts j d).address (h i j d order within))

first-none : (crafts : List CraftSpec) (n : ℕ) → AllByRecursion (IsOther n) crafts → position_or_len (λ (craft : CraftSpec). craft.address == n) crafts ≡ length crafts
first-none [] n h = refl
first-none (x ∷ xs) n h = rw (h.0, first-none xs n h.1) (one-add _)

pub index-none : (crafts : List CraftSpec) (n : ℕ) → AllByRecursion (IsOther n) crafts → index_of crafts n ≡ None
index-none crafts n h =
    let past : nat_lt (length crafts) (length crafts) ≡ false = grind (arith, nat_tests) in
    rw (first-none crafts n h, past) refl

first-here : (done : List CraftSpec) (x : CraftSpec) (rest : List CraftSpec) (n : ℕ) → AllByRecursion (IsOther n) done → x.address ≡ n
    → position_or_len (λ (craft : CraftSpec). craft.address == n) (done ++ x ∷ rest) ≡ length done
first-here [] x rest n h e =
    let same : (x.address == n) ≡ true = eq-eqb x.address n e in
    rw same refl
first-here (y ∷ ys) x rest n h e = rw (h.0, first-here ys x rest n h.1 e) (one-add _)

pub index-here : (done : List CraftSpec) (x : CraftSpec) (rest : List CraftSpec) (n : ℕ) → AllByRecursion (IsOther n) done → x.address ≡ n → index_of (done ++ x ∷ rest) n ≡ Some (length done)
index-here done x rest n h e =
    let long = length-append done (x ∷ rest) in
    let within : nat_lt (length done) (length (done ++ x ∷ rest)) ≡ true = grind (arith, nat_tests, long) in
    rw (first-here done x rest n h e, within) refl

pub get-here : {X : Type 0} (done : List X) (x : X) (rest : List X) → slice_get (done ++ x ∷ rest) (length done) ≡ Some x
get-here [] x rest = refl
get-here (y ∷ ys) x rest = get-here ys x rest

-- A place in a list, with what stands before and after it.
record Place {X : Type 0} (xs : List X) (i : ℕ) : Type 0 where
  done : List X
  here : X
  rest : List X
  whole : done ++ here ∷ rest ≡ xs
  many : length done ≡ i

place-of : {X : Type 0} (xs : List X) (i : ℕ) → i < length xs → Place xs i
place-of [] i h = absurd (omega arith)
place-of (x ∷ xs) zero h = record { done = []; here = x; rest = xs; whole = refl; many = refl }
place-of (x ∷ xs) (suc i) h =
    let p = place-of xs i (omega arith) in
    record { done = x ∷ p.done; here = p.here; rest = p.rest; whole = ap (λ ys. x ∷ ys) p.whole; many = ap suc p.many }

address-there : (crafts : List CraftSpec) (i : ℕ) (p : Place crafts i) → address_in crafts i ≡ p.here.address
address-there crafts i p =
    ap (λ cs. address_in cs i) (sym p.whole) ∙ ap (address_in (p.done ++ p.here ∷ p.rest)) (sym p.many)
    ∙ ap (λ (o : Option CraftSpec). option_map_or (λ (craft : CraftSpec). craft.address) o 0) (get-here p.done p.here p.rest)

pub index-found : (crafts : List CraftSpec) (i : ℕ) → Pairs Differ crafts → i < length crafts → index_of crafts (address_in crafts i) ≡ Some i
index-found crafts i apart h =
    let p = place-of crafts i h in
    let found = index-here p.done p.here p.rest p.here.address (pairs-before Differ crafts p.done p.here p.rest p.whole apart) refl in
    ap (index_of crafts) (address-there crafts i p) ∙ ap (λ cs. index_of cs p.here.address) (sym p.whole) ∙ found ∙ ap Some p.many

pub address-within : (crafts : List CraftSpec) (i : ℕ) → AllByRecursion IsCraft crafts → i < length crafts → IsAddress (address_in crafts i)
address-within crafts i all h =
    let p = place-of crafts i h in
    subst IsAddress (sym (address-there crafts i p)) (all-here IsCraft crafts p.done p.here p.rest p.whole all).address

-- Two different aircraft, named by their addresses.
pub record ArePair (crafts : List CraftSpec) (pair : Addresses) (a b : ℕ) : Type 0 where
  pub apart : (pair.first == pair.second) ≡ false
  pub first : index_of crafts pair.first ≡ Some a
  pub second : index_of crafts pair.second ≡ Some b

pub pair-found : (crafts : List CraftSpec) (a b : ℕ) → Pairs Differ crafts → IsPair (length crafts) a b → ArePair crafts (record { first = address_in crafts a; second = address_in crafts b }) a b
pair-found crafts a b apart h =
    let one = index-found crafts a apart h.first in
    let two = index-found crafts b apart h.second in
    let same = λ (e : address_in crafts a ≡ address_in crafts b). ap (index_of crafts) e in
    record { apart = ne_eqb (address_in crafts a) (address_in crafts b) (λ e. h.apart (cc (one, two, same e))); first = one; second = two }

pub pair-gives : {X : Type 0} (crafts : List CraftSpec) (pair : Addresses) (a b : ℕ) (f : ℕ → ℕ → X) → ArePair crafts pair a b → for_pair crafts pair f ≡ Some (f a b)
pair-gives crafts pair a b f h = rw (h.apart, h.first, h.second) refl
