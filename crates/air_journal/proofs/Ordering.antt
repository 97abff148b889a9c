-- What the order of the messages to an aircraft says of the copies that wait.
use Rattle.std.proofs.Common.{◌≡◌, ◌⊎◌, ℕ, suc, zero, ◌+◌, ◌<◌, ◌≤◌, Bool, true, false, ◌&&◌, cond, eqb, List, [], ◌∷◌, ◌++◌, length, length-set, length-append, drop, Option, Some, None, slice_get, get_or, set, get_or-set_same, get_or-set_other, sym, refl, ap, ◌∙◌, subst, arith, inl, inr, eqb-true, ne_eqb}
use Rattle.std.specs.List.{remove}
use Rattle.std.proofs.lemmas.Bool.{cond-false, cond-true, and_parts, and_right, cases_Bool, cases_eq}
use Rattle.std.proofs.lemmas.List.{drop-append-le, get_or_read}
use Rattle.acas_base.specs.declared.TheConstants.{CRAFTS}
use Rattle.acas_base.specs.declared.advisory.Cells.{Cells}
use Rattle.acas_base.specs.declared.advisory.Vrc.{Vrc}
use Rattle.air_journal.proofs.Queued.{in-append}
use Rattle.air_journal.specs.Found.{IsLeast}
use Rattle.air_journal.specs.Kept.{AfterCommit, AfterSend, AfterTake, Kept, queue_at}
use Rattle.air_journal.specs.Orders.{AreOrders, AreRising, Covers, Has, IsFront, IsOrder, Knows, Pushed, order_in, StartsOtherwise, StartsWith, WaitsFirst, rest_of, with_last, without_front}
use Rattle.air_journal.specs.Queues.{AreOrdered, IsIn}
use Rattle.air_journal.specs.declared.due.Found.{Found}
use Rattle.air_journal.specs.declared.kept.Waiting.{Waiting}
use Rattle.air_journal.specs.declared.order.Arrival.{Arrival}

-- ---- lists of messages

has-append : (xs ys : List Arrival) (p s : ℕ) → Has (xs ++ ys) p s → Has xs p s ⊎ Has ys p s
has-append [] ys p s h = inr h
has-append (x ∷ xs) ys p s (inl e) = inl (inl e)
has-append (x ∷ xs) ys p s (inr h) = elim (has-append xs ys p s h) [ inl a ↦ inl (inr a) | inr b ↦ inr b ]

has-left : (xs ys : List Arrival) (p s : ℕ) → Has xs p s → Has (xs ++ ys) p s
has-left [] ys p s h = absurd h
has-left (x ∷ xs) ys p s (inl e) = inl e
has-left (x ∷ xs) ys p s (inr h) = inr (has-left xs ys p s h)

has-last : (xs : List Arrival) (a : Arrival) → Has (xs ++ a ∷ []) a.send a.sender
has-last [] a = inl (refl, refl)
has-last (x ∷ xs) a = inr (has-last xs a)

in-rest : (xs : List Arrival) (p s : ℕ) → Has (rest_of xs) p s → Has xs p s
in-rest [] p s h = absurd h
in-rest (x ∷ xs) p s h = inr h

rest-rising : (xs : List Arrival) → AreRising xs → AreRising (rest_of xs)
rest-rising [] r = tt
rest-rising (x ∷ xs) r = r.1

rising-append : (xs : List Arrival) (a : Arrival) → AreRising xs → ((p s : ℕ) → Has xs p s → p < a.send) → AreRising (xs ++ a ∷ [])
rising-append [] a r h = (λ p s b. absurd b, tt)
rising-append (x ∷ xs) a r h = (
  λ p s b. elim (has-append xs (a ∷ []) p s b) [
    | inl c ↦ r.0 p s c
    | inr (inl e) ↦ (let z : x.send < a.send = h x.send x.sender (inl (refl, refl)) in let q : a.send ≡ p = e.0 in omega arith)
    | inr (inr c) ↦ absurd c
  ],
  rising-append xs a r.1 (λ p s c. h p s (inr c)),
)

pub drop-next : (n : ℕ) (xs : List Arrival) → drop (suc n) xs ≡ rest_of (drop n xs)
drop-next zero [] = refl
drop-next zero (x ∷ xs) = refl
drop-next (suc n) [] = refl
drop-next (suc n) (x ∷ xs) = drop-next n xs

drop-here : (n : ℕ) (xs : List Arrival) (x : Arrival) → n < length xs → x ≡ get_or xs n x → drop n xs ≡ x ∷ drop (suc n) xs
drop-here n [] x h e = absurd (omega arith)
drop-here zero (y ∷ xs) x h e = ap (λ z. z ∷ xs) (sym e)
drop-here (suc n) (y ∷ xs) x h e = drop-here n xs x (omega arith) e

-- The order without its first message.
pub pass-is : (known : Bool) (n : ℕ) (xs : List Arrival) → order_in known (n + 1) xs ≡ without_front (order_in known n xs)
pass-is true n xs = ap Some (ap (λ m. drop m xs) (let e : n + 1 ≡ suc n = omega arith in e) ∙ drop-next n xs)
pass-is false n xs = refl

pub order-passed : (n last : ℕ) (xs : List Arrival) → IsOrder n last xs → n < length xs → IsOrder (n + 1) last xs
order-passed n last xs o h = subst (λ m. IsOrder m last xs) (let e : suc n ≡ n + 1 = omega arith in e) (record {
  within = omega arith;
  rising = subst AreRising (sym (drop-next n xs)) (rest-rising (drop n xs) o.rising);
  until = λ p s a. o.until p s (in-rest (drop n xs) p s (subst (λ ys. Has ys p s) (drop-next n xs) a));
  senders = λ p s a. o.senders p s (in-rest (drop n xs) p s (subst (λ ys. Has ys p s) (drop-next n xs) a));
})

pub order-pushed : (n last : ℕ) (xs : List Arrival) (a : Arrival) → IsOrder n last xs → last < a.send → a.sender < CRAFTS → IsOrder n a.send (xs ++ a ∷ [])
order-pushed n last xs a o h k =
    let e : drop n (xs ++ a ∷ []) ≡ drop n xs ++ a ∷ [] = drop-append-le n xs (a ∷ []) o.within in
    record {
      within = (let m : length (xs ++ a ∷ []) ≡ length xs + 1 = length-append xs (a ∷ []) in let w = o.within in omega arith);
      rising = subst AreRising (sym e) (rising-append (drop n xs) a o.rising (λ p s b. let z : p ≤ last = o.until p s b in omega arith));
      until = λ p s b. elim (has-append (drop n xs) (a ∷ []) p s (subst (λ ys. Has ys p s) e b)) [
        | inl c ↦ (let z : p ≤ last = o.until p s c in omega arith)
        | inr (inl c) ↦ (let z : a.send ≡ p = c.0 in omega arith)
        | inr (inr c) ↦ absurd c
      ];
      senders = λ p s b. elim (has-append (drop n xs) (a ∷ []) p s (subst (λ ys. Has ys p s) e b)) [
        | inl c ↦ o.senders p s c
        | inr (inl c) ↦ (let z : a.sender ≡ s = c.1 in omega arith)
        | inr (inr c) ↦ absurd c
      ];
    }

-- The message at the place is the first.
pub front-is : (n last : ℕ) (xs : List Arrival) (a : Arrival) → IsOrder n last xs → n < length xs → a ≡ get_or xs n a → IsFront (Some (drop n xs)) a
front-is n last xs a o h e =
    let here : drop n xs ≡ a ∷ drop (suc n) xs = drop-here n xs a h e in
    record {
      rest = drop (suc n) xs;
      is = ap Some here;
      sender = o.senders a.send a.sender (subst (λ ys. Has ys a.send a.sender) (sym here) (inl (refl, refl)));
      least = (subst AreRising here o.rising).0;
    }

-- ---- the first message

-- What is known of the order at an index.
pub order-at : (orders : List (Option (List Arrival))) (own i : ℕ) (o : Option (List Arrival)) → own < length orders → i ≡ own → o ≡ get_or orders i o → o ≡ get_or orders own None
order-at orders own i o h p e = get_or_read orders i o (omega arith) e None ∙ ap (λ (k : ℕ). get_or orders k None) p

pub front-waits : (kept : Kept) (own : ℕ) (o : Option (List Arrival)) (a : Arrival) → Knows kept own o → IsFront o a → StartsWith (queue_at kept a.sender own) a.send → WaitsFirst kept own a.sender
front-waits kept own o a k f s = record {
  sender_is = f.sender;
  head = s.head;
  here = s.here;
  least = λ other h w i. elim (subst (Knows kept own) f.is k other h w i) [
    | inl e ↦ (let z : a.send ≡ w.send = e.0 in let y : s.head.send ≡ a.send = s.send_is in omega arith)
    | inr r ↦ (let z : a.send < w.send = f.least w.send other r in let y : s.head.send ≡ a.send = s.send_is in omega arith)
  ];
}

later-than : (xs : List Waiting) (x w : Waiting) → AreOrdered (x ∷ xs) → IsIn w (x ∷ xs) → x.send ≤ w.send
later-than xs x w o (inl e) = (let z : w.send ≡ x.send = ap (λ (v : Waiting). v.send) e in omega arith)
later-than xs x w o (inr h) = elim (o.0 w h) [
  | inl a ↦ omega arith
  | inr b ↦ (let z : x.send ≡ w.send = b.0 in omega arith)
]

-- A queue that starts otherwise has no copy of the first message.
none-waits : (kept : Kept) (own : ℕ) (a : Arrival) (rest : List Arrival) (q : List Waiting) → Covers kept own (a ∷ rest) → ((p s : ℕ) → Has rest p s → a.send < p) → a.sender < CRAFTS →
    queue_at kept a.sender own ≡ q → AreOrdered q → StartsOtherwise q a.send → (w : Waiting) → IsIn w q → a.send < w.send
none-waits kept own a rest [] k least h e o s w i = absurd i
none-waits kept own a rest (x ∷ xs) k least h e o s w i =
    let at : x.send ≤ w.send = later-than xs x w o i in
    elim (k a.sender h x (subst (λ (l : List Waiting). IsIn x l) (sym e) (inl refl))) [
      | inl b ↦ absurd (s x refl (sym b.0))
      | inr b ↦ (let z : a.send < x.send = least x.send a.sender b in omega arith)
    ]

pub front-passed : (kept : Kept) (own : ℕ) (o : Option (List Arrival)) (a : Arrival) → Knows kept own o → IsFront o a → AreOrdered (queue_at kept a.sender own) → StartsOtherwise (queue_at kept a.sender own) a.send → Knows kept own (without_front o)
front-passed kept own o a k f ordered s =
    let all : Covers kept own (a ∷ f.rest) = subst (Knows kept own) f.is k in
    subst (λ (l : Option (List Arrival)). Knows kept own (without_front l)) (sym f.is)
    (λ other h w i. elim (all other h w i) [
      | inl e ↦ absurd (let same : IsIn w (queue_at kept a.sender own) = subst (λ (j : ℕ). IsIn w (queue_at kept j own)) (sym e.1) i in
          let z : a.send < w.send = none-waits kept own a f.rest (queue_at kept a.sender own) all f.least f.sender refl ordered s w same in
          let y : a.send ≡ w.send = e.0 in omega arith)
      | inr r ↦ r
    ])

pub orders-set : (kept : Kept) (orders : List (Option (List Arrival))) (own : ℕ) (o : Option (List Arrival)) → own < CRAFTS → AreOrders kept orders → Knows kept own o → AreOrders kept (set orders own o)
orders-set kept orders own o h os k = record {
  size = length-set orders own o ∙ os.size;
  each = λ i hi. elim (cases_eq own i) [
    | inl e ↦ subst (λ (j : ℕ). Knows kept j (get_or (set orders own o) j None)) e (subst (Knows kept own) (sym (get_or-set_same orders own o None (let n = os.size in omega arith))) k)
    | inr ne ↦ subst (Knows kept i) (sym (get_or-set_other orders own i o None (omega arith))) (os.each i hi)
  ];
}

-- ---- what each entry changes

knows-fewer : (old new : Kept) (own : ℕ) (o : Option (List Arrival)) → ((sender : ℕ) → sender < CRAFTS → (w : Waiting) → IsIn w (queue_at new sender own) → IsIn w (queue_at old sender own)) → Knows old own o → Knows new own o
knows-fewer old new own None h k = tt
knows-fewer old new own (Some xs) h k = λ s hs w i. k s hs w (h s hs w i)

in-removed : (xs : List Waiting) (k : ℕ) (w : Waiting) → IsIn w (remove xs k) → IsIn w xs
in-removed [] zero w i = i
in-removed [] (suc k) w i = i
in-removed (x ∷ xs) zero w i = inr i
in-removed (x ∷ xs) (suc k) w (inl e) = inl e
in-removed (x ∷ xs) (suc k) w (inr i) = inr (in-removed xs k w i)

pub orders-take : (old new : Kept) (orders : List (Option (List Arrival))) (own sender place : ℕ) (reads : Option Vrc) → AfterTake old new own sender place reads → AreOrders old orders → AreOrders new orders
orders-take old new orders own sender place reads t os = record {
  size = os.size;
  each = λ i hi. knows-fewer old new i (get_or orders i None) (λ s hs w a. fewer s i w (subst (λ (l : List Waiting). IsIn w l) (t.queue s i hs hi) a)) (os.each i hi);
}
  where
    fewer : (s i : ℕ) (w : Waiting) → IsIn w (cond (eqb sender s && eqb own i) (remove (queue_at old s i) place) (queue_at old s i)) → IsIn w (queue_at old s i)
    fewer s i w a = elim (cases_Bool (eqb sender s && eqb own i)) [
      | inl y ↦ in-removed (queue_at old s i) place w (subst (λ (l : List Waiting). IsIn w l) (cond-true (eqb sender s && eqb own i) (remove (queue_at old s i) place) (queue_at old s i) y) a)
      | inr n ↦ subst (λ (l : List Waiting). IsIn w l) (cond-false (eqb sender s && eqb own i) (remove (queue_at old s i) place) (queue_at old s i) n) a
    ]

pub orders-commit : (old new : Kept) (orders : List (Option (List Arrival))) (own : ℕ) (cells : Cells) (many : _) → AfterCommit old new own cells many → AreOrders old orders → AreOrders new orders
orders-commit old new orders own cells many t os = record {
  size = os.size;
  each = λ i hi. knows-fewer old new i (get_or orders i None) (λ s hs w a. subst (λ (l : List Waiting). IsIn w l) (t.queue s i hs hi) a) (os.each i hi);
}

pub orders-send : (old new : Kept) (orders : List (Option (List Arrival))) (own target send : ℕ) (vrc : Vrc) (copies : List Waiting) (a : Arrival) (o : Option (List Arrival)) → target < CRAFTS →
    ((w : Waiting) → IsIn w copies → w.send ≡ send) → a.send ≡ send → a.sender ≡ own → AfterSend old new own target vrc copies → Pushed (get_or orders target None) a o → AreOrders old orders → AreOrders new (set orders target o)
orders-send old new orders own target send vrc copies a o ht same es eo t p os = record {
  size = length-set orders target o ∙ os.size;
  each = λ i hi. elim (cases_eq target i) [
    | inl e ↦ subst (λ (j : ℕ). Knows new j (get_or (set orders target o) j None)) e
        (subst (Knows new target) (sym (get_or-set_same orders target o None (let n = os.size in omega arith))) (pushed (get_or orders target None) (os.each target ht) p))
    | inr ne ↦ subst (Knows new i) (sym (get_or-set_other orders target i o None (omega arith)))
        (knows-fewer old new i (get_or orders i None) (λ s hs w b. subst (λ (l : List Waiting). IsIn w l) (t.queue s i hs hi ∙ cond-false (eqb own s && eqb target i) _ _ (and_right _ _ (ne_eqb target i ne))) b) (os.each i hi))
  ];
}
  where
    added : (xs : List Arrival) (s : ℕ) (w : Waiting) → Covers old target xs → s < CRAFTS → IsIn w (queue_at new s target) → Has (xs ++ a ∷ []) w.send s
    added xs s w k hs b =
        let c = subst (λ (l : List Waiting). IsIn w l) (t.queue s target hs ht) b in
        elim (cases_Bool (eqb own s && eqb target target)) [
          | inl y ↦ elim (in-append w (queue_at old s target) copies (subst (λ (l : List Waiting). IsIn w l) (cond-true (eqb own s && eqb target target) (queue_at old s target ++ copies) (queue_at old s target) y) c)) [
            | inl d ↦ has-left xs (a ∷ []) w.send s (k s hs w d)
            | inr d ↦ subst (λ (j : ℕ). Has (xs ++ a ∷ []) w.send j) (eo ∙ eqb-true own s (and_parts _ _ y).0) (subst (λ (j : ℕ). Has (xs ++ a ∷ []) j a.sender) (es ∙ sym (same w d)) (has-last xs a))
          ]
          | inr n ↦ has-left xs (a ∷ []) w.send s (k s hs w (subst (λ (l : List Waiting). IsIn w l) (cond-false (eqb own s && eqb target target) (queue_at old s target ++ copies) (queue_at old s target) n) c))
        ]

    with_it : (q : Option (List Arrival)) → Knows old target q → Knows new target (with_last q a)
    with_it None k = tt
    with_it (Some xs) k = λ s hs w b. added xs s w k hs b

    pushed : (q : Option (List Arrival)) → Knows old target q → Pushed q a o → Knows new target o
    pushed q k (inl e) = subst (Knows new target) (sym e) tt
    pushed q k (inr e) = subst (Knows new target) (sym e) (with_it q k)

head-is : (q : List Waiting) (h d : Waiting) → slice_get q 0 ≡ Some h → get_or q 0 d ≡ h
head-is [] h d e = absurd (cc)
head-is (x ∷ q) h d e = let f : x ≡ h = cc in f

-- A copy that waits first and is due is the first that is due.
pub first-waits : (kept : Kept) (own made sender : ℕ) (d : Waiting) (q : List Waiting) → WaitsFirst kept own sender → q ≡ queue_at kept sender own → (get_or q 0 d).due ≤ made →
    IsLeast kept own made CRAFTS (let f : Found = record { sender = sender; place = 0; waiting = get_or q 0 d } in f)
first-waits kept own made sender d q f eq due =
    let e : get_or q 0 d ≡ f.head = ap (λ (l : List Waiting). get_or l 0 d) eq ∙ head-is (queue_at kept sender own) f.head d f.here in
    record {
      sender = f.sender_is;
      place = record { here = f.here ∙ ap Some (sym e); in_time = due; first = λ u a. absurd a };
      least = λ s hs u a g. subst (λ (w : Waiting). w.send ≤ u.send) (sym e) (f.least s hs u a);
    }
