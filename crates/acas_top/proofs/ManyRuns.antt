-- What answers `many`.
use Rattle.std.proofs.Common.{◌≡◌, ◌∙◌, ℕ, ◌+◌, ◌≤◌, cond, List, [], ◌∷◌, ◌++◌, Result, Ok, Err, Vec, ap, arith, length, refl, subst, sym}
use Rattle.std.proofs.lemmas.List.Sums.{sum_by-append}
use Rattle.std.proofs.lemmas.Slice.Zip.{AllZip-long}
use Rattle.std.specs.Global.{Global}
use Rattle.std.specs.List.{AllZip}
use Rattle.std.specs.Prelude.{IfOk, count_by}
use Rattle.acas_top.proofs.ByChange.{by-item}
use Rattle.acas_top.specs.Many.{IsRunAt, IsRunOf, is_faulty, played_in, sums_of}
use Rattle.acas_top.specs.declared.many.PieceRun.{PieceRun}
use Rattle.acas_top.specs.declared.many.PieceRun.TheVariants.{Faulty, Played}
use Rattle.acas_top.specs.declared.many_text.Sums.{Sums}
use Rattle.outcomes.specs.Totals.{totals_of}
use Rattle.outcomes.specs.declared.outcome.Outcome.{Outcome}
use Rattle.outcomes.specs.declared.totals.Totals.{Totals}
use Rattle.sweep.specs.Numbers.{numbers}

-- What the job gives of all places is what each piece comes to.
pub all-run : {E : Type 0} (pieces : List (List ℕ)) (count : ℕ) (result : Result (Vec PieceRun Global) E) → count ≤ 4096 → count ≡ length pieces → IfOk result (λ list. AllZip (IsRunAt pieces) (numbers 0 count) list.items)
    → IfOk result (λ list. AllZip IsRunOf pieces list.items)
all-run pieces count (Ok list) few same h = by-item IsRunOf pieces list.items (omega (arith, few, same)) (subst (λ n. AllZip (IsRunAt pieces) (numbers 0 n) list.items) same h)
all-run pieces count (Err error) few same h = h

pub few-run : {E : Type 0} (pieces : List (List ℕ)) (count : ℕ) (result : Result (Vec PieceRun Global) E) → count ≤ 4096 → count ≡ length pieces → IfOk result (λ list. AllZip IsRunOf pieces list.items) → IfOk result (λ list. length list.items ≤ 4096)
few-run pieces count (Ok list) few same h = let long = AllZip-long IsRunOf pieces list.items h in omega (arith, few, same, long)
few-run pieces count (Err error) few same h = h

-- ---- the sums

played-append : (list more : List PieceRun) → played_in (list ++ more) ≡ played_in list ++ played_in more
played-append [] more = refl
played-append (Played outcome ∷ list) more = ap (λ t. outcome ∷ t) (played-append list more)
played-append (Faulty at code ∷ list) more = played-append list more

faulty-append : (list : List PieceRun) (it : PieceRun) (n : ℕ) → count_by is_faulty (it ∷ []) ≡ n → count_by is_faulty (list ++ it ∷ []) ≡ count_by is_faulty list + n
faulty-append list it n is = sum_by-append (λ (x : PieceRun). cond (is_faulty x) 1 0) list (it ∷ []) ∙ ap (λ k. count_by is_faulty list + k) is

append-none : {X : Type 0} (xs : List X) → xs ++ [] ≡ xs
append-none [] = refl
append-none (x ∷ xs) = ap (λ t. x ∷ t) (append-none xs)

both-are : (refused : ℕ) (totals : Totals) (list : List PieceRun) → refused ≡ count_by is_faulty list → totals ≡ totals_of (played_in list) → record { refused = refused; totals = totals } ≡ sums_of list
both-are refused totals list refused_is totals_are = rw (refused_is, totals_are) refl

-- One more that was played.
pub more-played : (sums : Sums) (totals : Totals) (outcome : Outcome) → ((l : List Outcome) → sums.totals ≡ totals_of l → totals ≡ totals_of (l ++ outcome ∷ [])) → (list : List PieceRun) → sums ≡ sums_of list
    → record { refused = sums.refused; totals = totals } ≡ sums_of (list ++ Played outcome ∷ [])
more-played sums totals outcome more list is =
    let faulty = faulty-append list (Played outcome) 0 refl in
    let refused = ap (λ (s : Sums). s.refused) is in
    both-are sums.refused totals (list ++ Played outcome ∷ []) (omega (arith, faulty, refused))
    (more (played_in list) (ap (λ (s : Sums). s.totals) is) ∙ ap totals_of (sym (played-append list (Played outcome ∷ []))))

-- One more that is refused.
pub more-faulty : (sums : Sums) (at code : ℕ) (list : List PieceRun) → sums ≡ sums_of list → record { refused = sums.refused + 1; totals = sums.totals } ≡ sums_of (list ++ Faulty at code ∷ [])
more-faulty sums at code list is =
    let faulty = faulty-append list (Faulty at code) 1 refl in
    let refused = ap (λ (s : Sums). s.refused) is in
    both-are (sums.refused + 1) sums.totals (list ++ Faulty at code ∷ []) (omega (arith, faulty, refused))
    (ap (λ (s : Sums). s.totals) is ∙ ap totals_of (sym (played-append list (Faulty at code ∷ []) ∙ append-none (played_in list))))
