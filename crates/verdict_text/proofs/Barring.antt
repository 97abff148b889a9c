-- What bars an entry, and what was found of it.
use Rattle.std.proofs.Common.{◌≡◌, ◌≢◌, ℕ, zero, suc, ◌+◌, ◌<◌, true, false, eqb, List, [], ◌∷◌, ◌++◌, length, take, Some, Option, get_or, refl, sym, ap, ◌∙◌, subst, arith, inl, inr, eqb-true}
use Rattle.std.specs.Prelude.{◌&&◌, reverse, slice_get, option_and_then}
use Rattle.std.proofs.lemmas.Bool.{and_parts, cases_lt}
use Rattle.std.proofs.lemmas.List.{reverse-append, length-reverse, take_more}
use Rattle.acas_base.specs.declared.entry.Entry.{Entry}
use Rattle.acas_base.specs.declared.entry.Entry.TheVariants.{Commit, Send, Take}
use Rattle.air_journal.proofs.Places.{sent-at-index}
use Rattle.air_journal.proofs.Queued.{in-append}
use Rattle.air_journal.specs.Queues.{IsIn}
use Rattle.air_journal.specs.declared.kept.Waiting.{Waiting}
use Rattle.air_rules.specs.Journal.{Sent, as_sent, is_take_of, was_taken}
use Rattle.verdict_text.specs.Searches.{IsTakeAt, NoneWaits, Receives, ReceivesNone}

-- ---- messages

pub received : (J : List Entry) (p own s t n w : ℕ) → slice_get (reverse J) p ≡ Some (Send s t n w) → t ≡ own → Receives J own p s n
received J p own s t n w is to = record {
  sent = record { sender = s; receiver = t; number = n; word = w };
  here = sent-at-index J p ∙ ap (option_and_then as_sent) is;
  receiver = to;
  sender_is = refl;
  number_is = refl;
}

pub not-received : (J : List Entry) (p own : ℕ) (x : Option Entry) → slice_get (reverse J) p ≡ x → ((sent : Sent) → option_and_then as_sent x ≡ Some sent → sent.receiver ≢ own) → ReceivesNone J own p
not-received J p own x is never sent here = never sent (sym (sent-at-index J p ∙ ap (option_and_then as_sent) is) ∙ here)

pub to-other : (s t n w own : ℕ) → t ≢ own → (sent : Sent) → Some (record { sender = s; receiver = t; number = n; word = w }) ≡ Some sent → sent.receiver ≢ own
to-other s t n w own other sent e to = other (let same : t ≡ sent.receiver = cc in same ∙ to)

-- ---- takes

pub taken-here : (J : List Entry) (p own s c : ℕ) (x : Entry) → slice_get (reverse J) p ≡ Some x → is_take_of own s c x ≡ true → IsTakeAt J own s c p
taken-here J p own s c (Commit i cycle cells) is h = absurd cc
taken-here J p own s c (Send i t n w) is h = absurd cc
taken-here J p own s c (Take i q d good) is h =
    let one = and_parts (eqb i own) (eqb q s && eqb d c) h in
    let two = and_parts (eqb q s) (eqb d c) one.1 in
    (good, is ∙ rw (eqb-true i own one.0, eqb-true q s two.0, eqb-true d c two.1) refl)

length-back : (x : Entry) (xs : List Entry) → length (xs ++ x ∷ []) ≡ length xs + 1
length-back x [] = refl
length-back x (y ∷ xs) = let e : length (xs ++ x ∷ []) ≡ length xs + 1 = length-back x xs in omega arith

get-back : (xs : List Entry) (x : Entry) (p : ℕ) → p < length xs → slice_get (xs ++ x ∷ []) p ≡ slice_get xs p
get-back [] x p h = absurd (omega arith)
get-back (y ∷ xs) x zero h = refl
get-back (y ∷ xs) x (suc p) h = get-back xs x p (omega arith)

get-end : (xs : List Entry) (x : Entry) → slice_get (xs ++ x ∷ []) (length xs) ≡ Some x
get-end [] x = refl
get-end (y ∷ xs) x = get-end xs x

abbrev pub NoTake : List Entry → ℕ → ℕ → ℕ → ℕ → Type 0
NoTake J own s c count = (place : ℕ) (x : Entry) → place < count → slice_get (reverse J) place ≡ Some x → is_take_of own s c x ≡ false

pub none-taken : (J : List Entry) (own s c : ℕ) → NoTake J own s c (length J) → was_taken J own s c ≡ false
none-taken [] own s c none = refl
none-taken (x ∷ K) own s c none =
    let back : reverse (x ∷ K) ≡ reverse K ++ x ∷ [] = reverse-append (x ∷ []) K in
    let long : length (reverse K) ≡ length K = length-reverse K in
    let here : is_take_of own s c x ≡ false = none (length K) x (omega arith) (ap (λ (L : List Entry). slice_get L (length K)) back ∙ ap (slice_get (reverse K ++ x ∷ [])) (sym long) ∙ get-end (reverse K) x) in
    let rest = none-taken K own s c (λ place y low is. none place y (omega arith) (ap (λ (L : List Entry). slice_get L place) back ∙ get-back (reverse K) x place (omega (arith, long)) ∙ is)) in
    rw (here, rest) refl

pub no-take-more : (J : List Entry) (own s c at : ℕ) → NoTake J own s c at → ((x : Entry) → slice_get (reverse J) at ≡ Some x → is_take_of own s c x ≡ false) → NoTake J own s c (at + 1)
no-take-more J own s c at none here place x low is = elim (cases_lt place at) [
  | inl lt ↦ none place x lt is
  | inr ge ↦ (let same : place ≡ at = omega arith in here x (ap (slice_get (reverse J)) (sym same) ∙ is))
]

-- ---- copies that wait

pub none-waits-more : (ws : List Waiting) (p c k : ℕ) (d : Waiting) → k < length ws → ((get_or ws k d).send ≡ p → (get_or ws k d).copy ≢ c) → NoneWaits (take k ws) p c → NoneWaits (take (k + 1) ws) p c
none-waits-more ws p c k d h other none u a e =
    elim (in-append u (take k ws) (get_or ws k d ∷ []) (subst (λ (L : List Waiting). IsIn u L) (take_more ws k d h) a)) [
      | inl b ↦ none u b e
      | inr (inl f) ↦ (λ same. other (ap (λ (w : Waiting). w.send) (sym f) ∙ e) (ap (λ (w : Waiting). w.copy) (sym f) ∙ same))
      | inr (inr b) ↦ absurd b
    ]
