use Rattle.std.proofs.Common.{◌≡◌, ℕ, ◌+◌, ◌-◌, List, [], ◌∷◌, ◌++◌, length, length-append, take, Option, sym, ap, ap₂, ◌∙◌, arith, append_assoc, inl, inr}
use Rattle.std.specs.Prelude.{option_to_list}
use Rattle.std.specs.List.{flat_map, range_with_len}
use Rattle.std.proofs.lemmas.Bool.{cases_lt}
use Rattle.std.proofs.lemmas.List.{append-nil}
use Rattle.acas_lines.proofs.Ranges.{flat-more}
use Rattle.deliveries.proofs.Telling.{shown-more}
use Rattle.deliveries.specs.Rows.{row_there}
use Rattle.deliveries.specs.Text.{more_text, rows_joined, rows_text}
use Rattle.deliveries.specs.Told.{next_text}
use Rattle.deliveries.specs.declared.rows.Row.{Row}
use Rattle.deliveries.proofs.row_text.add_rows.Goals as goal
use Rattle.deliveries.proofs.row_text.add_rows.Goals.{in-Some, in_default}

pub add_next-requires-clause-room : goal.add_next-requires-clause-room
add_next-requires-clause-room c =
    let i = c.loop-before.invariant in
    let room = c.requires in
    elim (cases_lt c.loop-before.count 6) [
      | inl less ↦ (let few = i.few_shown (omega arith) in omega arith)
      | inr many ↦ (let most = i.all_shown many in omega arith)
    ]

pub add_more-requires-clause-few : goal.add_more-requires-clause-few
add_more-requires-clause-few c =
    let few = c.loop-before.invariant.few in
    let high = c.loop-before.auto.before-end in
    let most = c.len-before-end.ensures.few in
    omega arith

pub add_more-requires-clause-room : goal.add_more-requires-clause-room
add_more-requires-clause-room c =
    let i = c.loop-before.invariant in
    let room = c.requires in
    elim (cases_lt c.loop-before.count 6) [
      | inl less ↦ (let few = i.few_shown (omega arith) in omega arith)
      | inr many ↦ (let most = i.all_shown many in omega arith)
    ]

pub loop-before-preserved : goal.loop-before-preserved
loop-before-preserved c =
    let flags = c.args.numbers.now in
    let f = row_there flags in
    let k = c.loop-before.before in
    let xs : List Row = flat_map f (range_with_len 1 k) in
    let start = c.args.line.now in
    let i = c.loop-before.invariant in
    let count = c.loop-before.count in
    let next : k + 1 ≡ 1 + k = omega arith in
    let grown = flat-more f 1 k in
    elim c.match-row_at.branch [
      | in-Some w ↦
          (let row = w.in-Some.row in
          let here : f (1 + k) ≡ row ∷ [] = ap f (sym next) ∙ ap (λ (o : Option Row). option_to_list o) (sym c.row_at.ensures.value ∙ w.in-Some.is) in
          let all : flat_map f (range_with_len 1 (k + 1)) ≡ xs ++ row ∷ [] = grown ∙ ap (λ (ys : List Row). xs ++ ys) here in
          let n = w.count-is in
          let size : length c.match-row_at.line ≡ length w.add_next.new.line = ap length w.line-is in
          let short = w.add_next.ensures.short in
          let few = i.few in
          record {
            counted = w.count-is ∙ ap (λ (m : ℕ). m + 1) i.counted ∙ sym (ap length all ∙ length-append xs (row ∷ []));
            few = omega arith;
            added = w.line-is ∙ w.add_next.ensures.added ∙ ap₂ (λ (l : List ℕ) (m : ℕ). l ++ next_text m row) i.added i.counted ∙ append_assoc start (rows_joined (take 6 xs)) (next_text (length xs) row)
                ∙ ap (λ (t : List ℕ). start ++ t) (sym (shown-more xs row)) ∙ ap (λ (ys : List Row). start ++ rows_joined (take 6 ys)) (sym all);
            few_shown = λ h. (let before = i.few_shown (omega arith) in omega arith);
            all_shown = λ h. elim (cases_lt count 6) [
              | inl less ↦ (let before = i.few_shown (omega arith) in omega arith)
              | inr many ↦ (let before = i.all_shown many in let same = ap length (w.add_next.ensures.same many) in omega arith)
            ];
          })
      | in_default w ↦
          (let here : f (1 + k) ≡ [] = ap f (sym next) ∙ ap (λ (o : Option Row). option_to_list o) (sym c.row_at.ensures.value ∙ w.in_default.is) in
          let all : flat_map f (range_with_len 1 (k + 1)) ≡ xs = grown ∙ ap (λ (ys : List Row). xs ++ ys) here ∙ append-nil xs in
          let n = w.count-is in
          let size : length c.match-row_at.line ≡ length c.loop-before.line = ap length w.line-is in
          let few = i.few in
          record {
            counted = w.count-is ∙ i.counted ∙ sym (ap length all);
            few = omega arith;
            added = w.line-is ∙ i.added ∙ ap (λ (ys : List Row). start ++ rows_joined (take 6 ys)) (sym all);
            few_shown = λ h. (let before = i.few_shown (omega arith) in omega arith);
            all_shown = λ h. (let before = i.all_shown (omega arith) in omega arith);
          })
    ]

pub returns-clause-added : goal.returns-clause-added
unfolding rows_text
returns-clause-added c =
    let flags = c.args.numbers.now in
    let i = c.loop-before.invariant in
    let start = c.args.line.now in
    let xs : List Row = flat_map (row_there flags) (range_with_len 1 c.loop-before.before) in
    let end : c.loop-before.before ≡ length flags = (let n = c.len-before-end.ensures.value in let t = c.loop-before-test.false in let high = c.loop-before.auto.before-end in omega arith) in
    c.add_more.ensures.added ∙ ap₂ (λ (l : List ℕ) (m : ℕ). l ++ more_text (m - 6)) i.added i.counted ∙ append_assoc start (rows_joined (take 6 xs)) (more_text (length xs - 6))
    ∙ ap (λ (m : ℕ). start ++ (rows_joined (take 6 (flat_map (row_there flags) (range_with_len 1 m))) ++ more_text (length (flat_map (row_there flags) (range_with_len 1 m)) - 6))) end

pub returns-clause-short : goal.returns-clause-short
returns-clause-short c =
    let i = c.loop-before.invariant in
    let short = c.add_more.ensures.short in
    elim (cases_lt c.loop-before.count 6) [
      | inl less ↦ (let few = i.few_shown (omega arith) in omega arith)
      | inr many ↦ (let most = i.all_shown many in omega arith)
    ]
