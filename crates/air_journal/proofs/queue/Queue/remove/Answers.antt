use Rattle.std.proofs.Common.{◌≡◌, ℕ, suc, zero, ◌+◌, List, [], ◌∷◌, drop, sym, refl, ap, ◌∙◌, arith}
use Rattle.std.specs.List.{remove}
use Rattle.air_journal.specs.Kept.{Queued}
use Rattle.air_journal.specs.declared.kept.Waiting.{Waiting}
use Rattle.air_journal.proofs.queue.Queue.remove.Goals as goal

drop-removed : (n k i : ℕ) (xs : List Waiting) → i ≡ n + k → drop n (remove xs i) ≡ remove (drop n xs) k
drop-removed zero k i xs e = ap (remove xs) (let h : i ≡ k = omega arith in h)
drop-removed (suc n) k zero xs e = absurd (omega arith)
drop-removed (suc n) k (suc i) [] e = drop-nothing k
  where
    drop-nothing : (k : ℕ) → [] ≡ remove {X = Waiting} [] k
    drop-nothing zero = refl
    drop-nothing (suc k) = refl
drop-removed (suc n) k (suc i) (x ∷ xs) e = drop-removed n k i xs (omega arith)

drop-next : (n : ℕ) (xs : List Waiting) → drop (suc n) xs ≡ remove (drop n xs) 0
drop-next zero [] = refl
drop-next zero (x ∷ xs) = refl
drop-next (suc n) [] = refl
drop-next (suc n) (x ∷ xs) = drop-next n xs

pub returns-then-place-gt0-clause-copies : goal.returns-then-place-gt0-clause-copies
returns-then-place-gt0-clause-copies c =
    ap (drop c.self.inside.taken) c.remove.ensures.items ∙ drop-removed c.self.inside.taken c.args.place (c.self.inside.taken + c.args.place) c.self.inside.copies.items refl
    ∙ ap (λ (q : Queued). remove q.copies c.args.place) c.self.view_is

pub returns-else-self-len-clause-copies : goal.returns-else-self-len-clause-copies
returns-else-self-len-clause-copies c =
    let e : c.self.inside.taken + 1 ≡ suc c.self.inside.taken = omega arith in
    let z : c.args.place ≡ 0 = omega arith in
    ap (λ n. drop n c.self.inside.copies.items) e ∙ drop-next c.self.inside.taken c.self.inside.copies.items
    ∙ ap (remove (drop c.self.inside.taken c.self.inside.copies.items)) (sym z) ∙ ap (λ (q : Queued). remove q.copies c.args.place) c.self.view_is
