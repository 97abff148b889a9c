-- What a read from the front of a list of bytes leaves.
use Rattle.std.proofs.Common.{◌≡◌, ℕ, ◌+◌, ◌-◌, ◌<◌, ◌≤◌, min, List, [], ◌++◌, length, take, drop, sym, ap, ◌∙◌, arith, length-drop}
use Rattle.std.proofs.lemmas.List.{take_rest, take-append-drop, drop-drop, drop_all}

-- A copy of the front of `bytes[at..]`, and the rest, are what was left.
pub left-front : (bytes now left buf : List ℕ) (at n : ℕ) → now ≡ bytes → drop at bytes ≡ left
    → take n buf ≡ take n (take (length now - at) (drop at now)) → left ≡ take n buf ++ drop (at + n) bytes
left-front bytes now left buf at n same was copied =
    let rest : take (length now - at) (drop at now) ≡ left = take_rest now at ∙ ap (drop at) same ∙ was in
    let front : take n buf ≡ take n left = copied ∙ ap (take n) rest in
    let back : drop (at + n) bytes ≡ drop n left = sym (drop-drop n at bytes) ∙ ap (drop n) was in
    rw (front, back) (sym (take-append-drop n left))

-- A read that gave none, though there was room for some, was at the end.
pub left-end : (bytes now left : List ℕ) (at n room most : ℕ) → now ≡ bytes → at ≤ length bytes → 0 < most → 0 < room
    → n ≡ min (min (length (take (length now - at) (drop at now))) room) most → n ≡ 0 → drop (at + n) bytes ≡ []
left-end bytes now left at n room most same within some has size none =
    let rest = ap length (take_rest now at) in
    let all = ap length same in
    drop_all (at + n) bytes (omega (arith, length-drop at now))
