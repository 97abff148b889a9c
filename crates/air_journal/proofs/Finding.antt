-- What the searches find.
use Rattle.std.proofs.Common.{◌≡◌, ℕ, ◌+◌, ◌<◌, ◌≤◌, leb, List, [], ◌∷◌, length, take, Option, Some, None, MatchOption, get_or, sym, ap, ◌∙◌, subst, arith, inl, inr, leb-true, below_more}
use Rattle.std.proofs.lemmas.Bool.{cond_both, leb-false}
use Rattle.std.proofs.lemmas.List.{take_more}
use Rattle.air_journal.proofs.Dues.{Side, behind, front, same, side}
use Rattle.air_journal.proofs.Queued.{in-append}
use Rattle.acas_base.specs.declared.entry.Entry.{Entry}
use Rattle.air_journal.specs.Found.{AreOfTheirSenders, IsLeast, NoneOf, NotDueIn, NotDueInAny, earlier, found_as, sender_at}
use Rattle.air_journal.specs.Kept.{Kept, queue_at}
use Rattle.air_journal.specs.Queues.{AreOrdered, IsFirstDueAt, IsIn, NoneDue}
use Rattle.air_journal.specs.declared.due.Due.{Due}
use Rattle.air_journal.specs.declared.due.Found.{Found}
use Rattle.air_journal.specs.declared.kept.Waiting.{Waiting}

-- One copy more that isn't due.
pub none-more : (ws : List Waiting) (n k : ℕ) (d : Waiting) → k < length ws → n < (get_or ws k d).due → NoneDue (take k ws) n → NoneDue (take (k + 1) ws) n
none-more ws n k d h lt none u a =
    elim (in-append u (take k ws) (get_or ws k d ∷ []) (subst (λ (L : List Waiting). IsIn u L) (take_more ws k d h) a)) [
      | inl b ↦ none u b
      | inr (inl f) ↦ (let z : u.due ≡ (get_or ws k d).due = ap (λ (x : Waiting). x.due) f in omega arith)
      | inr (inr b) ↦ absurd b
    ]

pub not-due-more : (ws : List Waiting) (n p c k : ℕ) (d : Waiting) → k < length ws → ((get_or ws k d).send ≡ p → (get_or ws k d).copy ≡ c → n < (get_or ws k d).due) → NotDueIn (take k ws) n p c → NotDueIn (take (k + 1) ws) n p c
not-due-more ws n p c k d h lt none u a e f =
    elim (in-append u (take k ws) (get_or ws k d ∷ []) (subst (λ (L : List Waiting). IsIn u L) (take_more ws k d h) a)) [
      | inl b ↦ none u b e f
      | inr (inl g) ↦ (let z : u.due ≡ (get_or ws k d).due = ap (λ (x : Waiting). x.due) g in
          let y : n < (get_or ws k d).due = lt (sym (ap (λ (x : Waiting). x.send) g) ∙ e) (sym (ap (λ (x : Waiting). x.copy) g) ∙ f) in omega arith)
      | inr (inr b) ↦ absurd b
    ]

abbrev pub Best : Kept → ℕ → ℕ → ℕ → Option Found → Type 0
Best kept own made count best = MatchOption best (NoneOf kept own made count) (IsLeast kept own made count)

-- In an ordered queue the first due copy is of the first send.
in-queue : (ws : List Waiting) (n k : ℕ) (w : Waiting) → AreOrdered ws → IsFirstDueAt ws n k w → (u : Waiting) → IsIn u ws → u.due ≤ n → w.send ≤ u.send
in-queue ws n k w o f u a d = go (side ws k w u o f.here a)
  where
    go : Side ws k w u → w.send ≤ u.send
    go (front b) = absurd (let z : n < u.due = f.first u b in omega arith)
    go (same e) = (let z : u.send ≡ w.send = ap (λ (x : Waiting). x.send) e in omega arith)
    go (behind (inl b)) = omega arith
    go (behind (inr b)) = (let z : w.send ≡ u.send = b.0 in omega arith)

-- One queue more.
pub best-more : (kept : Kept) (i n s : ℕ) (best : Option Found) (next : Option Due) → AreOrdered (queue_at kept s i) → Best kept i n s best →
    MatchOption next (NoneDue (queue_at kept s i) n) (λ d. IsFirstDueAt (queue_at kept s i) n d.place d.waiting) → Best kept i n (s + 1) (earlier best s next)
best-more kept i n s None None o b d = below_more (λ k. NoneDue (queue_at kept k i) n) s b d
best-more kept i n s (Some f) None o b d = record {
  sender = let h : f.sender < s = b.sender in omega arith;
  place = b.place;
  least = below_more (λ k. (u : Waiting) → IsIn u (queue_at kept k i) → u.due ≤ n → f.waiting.send ≤ u.send) s b.least (λ u a h. absurd (let z : n < u.due = d u a in omega arith));
}
best-more kept i n s None (Some e) o b d = record {
  sender = omega arith;
  place = d;
  least = below_more (λ k. (u : Waiting) → IsIn u (queue_at kept k i) → u.due ≤ n → e.waiting.send ≤ u.send) s (λ k h u a g. absurd (let z : n < u.due = b k h u a in omega arith))
      (in-queue (queue_at kept s i) n e.place e.waiting o d);
}
best-more kept i n s (Some f) (Some e) o b d =
    cond_both (leb f.waiting.send e.waiting.send) (Some f) (Some (found_as s e)) (Best kept i n (s + 1))
    (λ y. let le : f.waiting.send ≤ e.waiting.send = leb-true _ _ y in record {
      sender = let h : f.sender < s = b.sender in omega arith;
      place = b.place;
      least = below_more (λ k. (u : Waiting) → IsIn u (queue_at kept k i) → u.due ≤ n → f.waiting.send ≤ u.send) s b.least
          (λ u a h. let z : e.waiting.send ≤ u.send = in-queue (queue_at kept s i) n e.place e.waiting o d u a h in omega arith);
    })
    (λ z. let gt : e.waiting.send < f.waiting.send = leb-false _ _ z in record {
      sender = omega arith;
      place = d;
      least = below_more (λ k. (u : Waiting) → IsIn u (queue_at kept k i) → u.due ≤ n → e.waiting.send ≤ u.send) s
          (λ k h u a g. let y : f.waiting.send ≤ u.send = b.least k h u a g in omega arith)
          (in-queue (queue_at kept s i) n e.place e.waiting o d);
    })

-- ---- one queue for all

module _ (J : List Entry) (t : Kept) (own made send copy count : ℕ) (of : AreOfTheirSenders J t own count) where
  sender-is : (sender : ℕ) (w : Waiting) → sender < count → IsIn w (queue_at t sender own) → w.send ≡ send → sender_at J send ≡ Some sender
  sender-is sender w h i e = subst (λ (p : ℕ). sender_at J p ≡ Some sender) e (of sender w h i)

  pub one-queue : (s : ℕ) → sender_at J send ≡ Some s → NotDueIn (queue_at t s own) made send copy → NotDueInAny t own made send copy count
  one-queue s some none = λ sender h w i e d.
      let a = sym some ∙ sender-is sender w h i e in
      let equal : sender ≡ s = cc in
      none w (subst (λ (k : ℕ). IsIn w (queue_at t k own)) equal i) e d
