-- The entries of a legal journal have their parts in their ranges.
use Rattle.std.proofs.Common.{◌≡◌, ℕ, zero, suc, ◌+◌, ◌-◌, ◌<◌, ◌≤◌, Bool, true, false, not, ◌&&◌, nat_lt, eqb, List, [], ◌∷◌, length, get_or, map, drop, replicate, sym, refl, ap, ap₂, ◌∙◌, subst, arith, eq-eqb, le-ltb, ◌^◌}
use Rattle.std.specs.Prelude.{All}
use Rattle.std.specs.List.{range_with_len}
use Rattle.std.proofs.lemmas.Bool.{cond-false, cond-true, and_left}
use Rattle.std.proofs.lemmas.List.Elements.{All-cons, All-nil}
use Rattle.std.proofs.lemmas.List.FromFn.{length-map-range_with_len}
use Rattle.std.proofs.lemmas.Option.{slice_get_within}
use Rattle.acas_base.specs.Encounter.{IsEncounter, Parts}
use Rattle.acas_base.specs.Ranges.{IsAddress}
use Rattle.acas_base.specs.declared.TheConstants.{CRAFTS}
use Rattle.acas_base.specs.declared.advisory.Cell.{Cell}
use Rattle.acas_base.specs.declared.advisory.Cell.TheVariants.{Clear, Traffic, Ra}
use Rattle.acas_base.specs.declared.advisory.Cells.{Cells}
use Rattle.acas_base.specs.declared.advisory.Intent.{Intent}
use Rattle.acas_base.specs.declared.entry.Entry.{Entry}
use Rattle.acas_base.specs.declared.entry.Entry.TheVariants.{Commit, Send, Take}
use Rattle.air_journal.proofs.Ages.{age-few}
use Rattle.air_journal.proofs.Bounds.{below, few-commits, fits, most-few}
use Rattle.air_journal.proofs.Dues.{due-waits}
use Rattle.air_journal.proofs.Past.{clear-past}
use Rattle.air_journal.proofs.Soundness.{message-address, sound-of}
use Rattle.air_journal.specs.Airs.{air_of}
use Rattle.air_journal.specs.Ranges.{AreCells, IsCell, IsEntry}
use Rattle.air_rules.proofs.Changes.{last-aged}
use Rattle.air_rules.proofs.FewSends.{sends-few}
use Rattle.air_rules.proofs.Legal.{allowed, earlier}
use Rattle.air_rules.proofs.Pace.{count-yes}
use Rattle.air_rules.proofs.Positions.{sent-within}
use Rattle.air_rules.proofs.Running.{owed-own}
use Rattle.air_rules.proofs.Safety.{cell-is}
use Rattle.air_rules.proofs.Waiting.{owed-within}
use Rattle.air_rules.specs.Air.{Air}
use Rattle.air_rules.specs.Journal.{cell_at, commits, is_send_of, last_cell, sends}
use Rattle.air_rules.specs.Rules.{IsLegal, cell_for, cells_for}
use Rattle.res_message.proofs.Fields.{is-word}

-- ---- cells

cell-fits : (n : ℕ) (cell : Cell) → n ≤ 600 → ((it : Intent) → cell ≡ Ra it → it.age ≤ n) → ((it : Intent) → cell ≡ Ra it → 1 ≤ it.age) → IsCell cell
cell-fits n Clear few old new = tt
cell-fits n Traffic few old new = tt
cell-fits n (Ra it) few old new = let a = old it refl in (new it refl, omega arith)

-- An aircraft's last cells are those of its commit.
last-is : (K : List Entry) (own cycle j : ℕ) (cells : Cells) → last_cell (Commit own cycle cells ∷ K) own j ≡ cell_at cells j
last-is K own cycle j cells = cond-true (eqb own own) (cell_at cells j) (last_cell K own j) (eq-eqb own own refl)

each-fits : (e : Parts) → IsEncounter e → (K : List Entry) (own cycle : ℕ) (cells : Cells) → IsLegal (air_of e) (Commit own cycle cells ∷ K) → (j : ℕ) → IsCell (cell_at cells j)
each-fits e is K own cycle cells l j =
    let J = Commit own cycle cells ∷ K in
    subst IsCell (last-is K own cycle j cells)
    (cell-fits (commits J own) (last_cell J own j) (few-commits e J is l own) (age-few (air_of e) J l own j) (last-aged (air_of e) J l own j))

-- What a function gives from a place on, where it gives Clear there.
past-clear : (f : ℕ → Cell) (a n count : ℕ) → ((j : ℕ) → a + count ≤ j → f j ≡ Clear) → drop count (map f (range_with_len a n)) ≡ replicate (n - count) Clear
past-clear f a zero zero h = refl
past-clear f a zero (suc c) h = let none : 0 ≡ 0 - suc c = omega arith in ap (λ k. replicate k Clear) none
past-clear f a (suc n) zero h =
    let some : suc (n - 0) ≡ suc n - 0 = omega arith in
    ap₂ (λ (x : Cell) (xs : List Cell). x ∷ xs) (h a (omega arith)) (past-clear f (a + 1) n zero (λ j g. h j (omega arith))) ∙ ap (λ k. replicate k Clear) some
past-clear f a (suc n) (suc c) h =
    let less : n - c ≡ suc n - suc c = omega arith in
    past-clear f (a + 1) n c (λ j g. h j (omega arith)) ∙ ap (λ k. replicate k Clear) less

clear-own : (air : Air) (K : List Entry) (own : ℕ) → cell_for air K own own ≡ Clear
clear-own air K own = cond-false (nat_lt own air.count && not (eqb own own)) _ Clear (other (nat_lt own air.count) (eqb own own) (eq-eqb own own refl))
  where
    other : (a b : Bool) → b ≡ true → (a && not b) ≡ false
    other true b e = ap not e
    other false b e = refl

cells-fit : (e : Parts) → IsEncounter e → (K : List Entry) (own cycle : ℕ) (cells : Cells) → IsLegal (air_of e) (Commit own cycle cells ∷ K) → AreCells (length e.crafts) own cells
cells-fit e is K own cycle cells l =
    let air = air_of e in
    let are : cells ≡ cells_for air K own = (allowed l).cells_are in
    let f : ℕ → Cell = λ other. cell_for air K own other in
    record {
      size = ap (λ (c : Cells). length c.list) are ∙ length-map-range_with_len f 0 CRAFTS;
      each = λ k d h. (let at : get_or cells.list k d ≡ cell_at cells k = same-default cells.list k d Clear h in subst IsCell (sym at) (each-fits e is K own cycle cells l k));
      own_place = subst (λ (c : Cells). cell_at c own ≡ Clear) (sym are) (cell-is air K own own (λ (c : Cell). c ≡ Clear) refl (clear-own air K own));
      past = ap (λ (c : Cells). drop (length e.crafts) c.list) are ∙ past-clear f 0 CRAFTS (length e.crafts) (λ j h. clear-past air K own j (omega arith));
    }
  where
    same-default : (xs : List Cell) (k : ℕ) (d b : Cell) → k < length xs → get_or xs k d ≡ get_or xs k b
    same-default [] k d b h = absurd (omega arith)
    same-default (x ∷ xs) zero d b h = refl
    same-default (x ∷ xs) (suc k) d b h = same-default xs k d b (omega arith)

-- ---- entries

commit-fits : (e : Parts) → IsEncounter e → (K : List Entry) (own cycle : ℕ) (cells : Cells) → IsLegal (air_of e) (Commit own cycle cells ∷ K) → IsEntry (length e.crafts) (Commit own cycle cells)
commit-fits e is K own cycle cells l =
    let may = allowed l in
    let first : cycle ≡ commits K own + 1 = may.cycle_is in
    let last : cycle ≤ e.cycles = may.in_run in
    let most : e.cycles ≤ 600 = is.run.length.1 in
    (below e is own may.active, (omega arith, omega arith), cells-fit e is K own cycle cells l)

send-fits : (e : Parts) → IsEncounter e → (K : List Entry) (own target number word : ℕ) → IsLegal (air_of e) (Send own target number word ∷ K) → IsEntry (length e.crafts) (Send own target number word)
send-fits e is K own target number word l =
    let air = air_of e in
    let may = allowed l in
    let J = Send own target number word ∷ K in
    let owes = may.first_owed.owes in
    let within = owed-within air (sound-of e is) K own target may.message owes in
    let address : IsAddress may.message.sender = message-address e is own may.message (owed-own air K own target may.message owes) in
    let more : sends J own target ≡ sends K own target + 1 = count-yes (is_send_of own target) (Send own target number word) K (ap₂ (λ (a b : Bool). a && b) (eq-eqb own own refl) (eq-eqb target target refl)) in
    let few : sends J own target ≤ commits J own = sends-few air J l own target in
    let most : commits J own ≤ 600 = few-commits e J is l own in
    let is_number : number ≡ sends K own target + 1 = may.number_is in
    (within.sender, within.receiver, (omega arith, omega arith), subst (λ w. w < 2 ^ 56) (sym may.word_is) (is-word may.message address).whole)

take-fits : (e : Parts) → IsEncounter e → (K : List Entry) (own send copy : ℕ) (good : Bool) → IsLegal (air_of e) (Take own send copy good ∷ K) → IsEntry (length e.crafts) (Take own send copy good)
take-fits e is K own send copy good l =
    let air = air_of e in
    let sound = sound-of e is in
    let may = allowed l in
    let due = due-waits air sound K (earlier l) own send copy may.due in
    let at : send < length K = (let w = sent-within K due.it.send due.waits.sent due.waits.from.here in let same = due.send_is in omega arith) in
    let most : length K ≤ 585600 = (let f = fits e K is (earlier l) in let g = most-few e is in omega arith) in
    let named : due.it.copy < length (air.copies due.waits.sent.sender due.waits.sent.receiver due.waits.sent.number) = slice_get_within _ due.it.copy due.waits.plan due.waits.planned in
    let same : due.it.copy ≡ copy = due.copy_is in
    let few : length (air.copies due.waits.sent.sender due.waits.sent.receiver due.waits.sent.number) ≤ 3 = sound.few _ _ _ in
    (below e is own may.active, omega arith, omega arith)

pub entries-fit : (e : Parts) (J : List Entry) → IsEncounter e → IsLegal (air_of e) J → All (IsEntry (length e.crafts)) J
entries-fit e [] is l = All-nil (IsEntry (length e.crafts))
entries-fit e (Commit own cycle cells ∷ K) is l = All-cons (IsEntry (length e.crafts)) (Commit own cycle cells) K (commit-fits e is K own cycle cells l) (entries-fit e K is (earlier l))
entries-fit e (Send own target number word ∷ K) is l = All-cons (IsEntry (length e.crafts)) (Send own target number word) K (send-fits e is K own target number word l) (entries-fit e K is (earlier l))
entries-fit e (Take own send copy good ∷ K) is l = All-cons (IsEntry (length e.crafts)) (Take own send copy good) K (take-fits e is K own send copy good l) (entries-fit e K is (earlier l))
