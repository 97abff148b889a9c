-- What a reason says follows from what was on board.
use Rattle.std.proofs.Common.{◌≡◌, ◌≢◌, ℕ, ◌+◌, ◌<◌, ◌≤◌, Bool, true, false, List, [], ◌∷◌, length, Option, Some, None, refl, sym, ap, ◌∙◌, arith, eqb-true}
use Rattle.std.specs.Prelude.{◌==◌, ◌&&◌, if◌then◌else◌, nat_lt, not}
use Rattle.std.proofs.lemmas.List.FromFn.{get_or-map-range_with_len}
use Rattle.acas_base.specs.Encounter.{Parts}
use Rattle.acas_base.specs.Next.{following_cell}
use Rattle.acas_base.specs.declared.TheConstants.{CRAFTS}
use Rattle.acas_base.specs.declared.advisory.Cell.{Cell}
use Rattle.acas_base.specs.declared.advisory.Cell.TheVariants as cells
use Rattle.acas_base.specs.declared.advisory.Cells.{Cells}
use Rattle.acas_base.specs.declared.entry.Entry.{Entry}
use Rattle.acas_base.specs.declared.entry.Entry.TheVariants.{Commit, Send, Take}
use Rattle.air_journal.proofs.Alike.{sees-the-same}
use Rattle.air_journal.proofs.Bounds.{few-crafts}
use Rattle.air_journal.specs.Airs.{air_of}
use Rattle.air_rules.proofs.Legal.{allowed, earlier}
use Rattle.air_rules.specs.Air.{Air, rank_of}
use Rattle.air_rules.specs.Journal.{Sent, cell_at, last_cell, sent_at}
use Rattle.air_rules.specs.Rules.{IsLegal, MayCommit, cell_for}
use Rattle.air_rules.specs.Takes.{complement_from}
use Rattle.air_rules.specs.Worlds.{SeesTheSame}
use Rattle.craft_view.specs.Facts.{SeesAlike}
use Rattle.craft_view.specs.Sight.{Sight, sight_of}
use Rattle.reasons.proofs.Explaining.{cell-is}
use Rattle.reasons.proofs.Hearing.{commits-heard, complement-heard, in-force, made, told-heard, told-is}
use Rattle.reasons.specs.Aboard.{GoesByBoth, GoesByHearing, GoesBySight, Heard, committed, heard_in, told, with_message, without_names}
use Rattle.reasons.specs.Reasons.{reason_of}
use Rattle.reasons.specs.Rules.{rule_of}
use Rattle.reasons.specs.Seen.{seen_of}
use Rattle.reasons.specs.Shown.{continued_after, shown_of}
use Rattle.reasons.specs.declared.reason.Reason.{Reason}
use Rattle.reasons.specs.declared.rules.Rule.{Rule}
use Rattle.reasons.specs.declared.seen.Seen.{Seen}
use Rattle.reasons.specs.declared.told.Told.{Told}

-- ---- by sight

seen-alike : (e f : Parts) (own cycle other : ℕ) → SeesAlike e f own cycle → seen_of (sight_of e own cycle) other ≡ seen_of (sight_of f own cycle) other
seen-alike e f own cycle other alike = ap (λ (s : Sight). seen_of s other) alike

pub goes-by-sight : GoesBySight
unfolding reason_of
goes-by-sight e f own cycle alike J L a b other = ap (λ (s : Seen). shown_of s) (seen-alike e f own cycle other alike)

-- ---- by what was heard

pub goes-by-hearing : GoesByHearing
unfolding reason_of
goes-by-hearing e f own J L same c d a b other =
    told-is (air_of e) J own other ∙ ap (λ (heard : List Heard). told-heard heard other) same ∙ sym (told-is (air_of f) L own other)

-- ---- by both

-- The last cell of an aircraft, from what it saw and heard alone.
replayed : Air → ℕ → List Heard → ℕ → Cell
replayed air own [] other = cells.Clear
replayed air own (committed ∷ heard) other =
    if nat_lt other air.count && not (own == other)
    then following_cell (replayed air own heard other) (air.view own other (made heard + 1)) (in-force heard other) (rank_of air own other)
    else cells.Clear
replayed air own (told sender complement ∷ heard) other = replayed air own heard other

next-same : (air : Air) (own other n m : ℕ) (x y : Cell) → x ≡ y → n ≡ m → (K : List Entry) (heard : List Heard) → complement_from air K own other ≡ in-force heard other
    → following_cell x (air.view own other (n + 1)) (complement_from air K own other) (rank_of air own other) ≡ following_cell y (air.view own other (m + 1)) (in-force heard other) (rank_of air own other)
next-same air own other n m x y cell count K heard force = λ i. following_cell (cell i) (air.view own other (count i + 1)) (force i) (rank_of air own other)

made-cell : (air : Air) (K : List Entry) (own : ℕ) (made_cells : Cells) (cycle other : ℕ) → MayCommit air K own cycle made_cells → other < air.places → cell_at made_cells other ≡ cell_for air K own other
made-cell air K own made_cells cycle other may within =
    ap (λ (x : Cells). cell_at x other) may.cells_are ∙ get_or-map-range_with_len (λ k. cell_for air K own k) 0 air.places other other cells.Clear within (omega arith)

replayed-with : (air : Air) (own : ℕ) (b : Bool) (sent : Option Sent) (copy : ℕ) (heard : List Heard) (other : ℕ) → replayed air own (if b then with_message air sent copy heard else heard) other ≡ replayed air own heard other
unfolding replayed
replayed-with air own false sent copy heard other = refl
replayed-with air own true None copy heard other = refl
replayed-with air own true (Some sent) copy heard other = refl

last-replayed : (air : Air) (K : List Entry) → IsLegal air K → (own other : ℕ) → other < air.places → last_cell K own other ≡ replayed air own (heard_in air K own) other
unfolding replayed
last-replayed air [] legal own other within = refl
last-replayed air (Commit who cycle made_cells ∷ K) legal own other within = go (last-replayed air K (earlier legal) own other within) (who == own) refl
  where
    by_own : last_cell K own other ≡ replayed air own (heard_in air K own) other → who ≡ own → cell_at made_cells other ≡ replayed air own (committed ∷ heard_in air K own) other
    by_own before same =
        made-cell air K who made_cells cycle other (allowed legal) within
        ∙ ap (λ (k : ℕ). cell_for air K k other) same
        ∙ ap (λ (c : Cell). if nat_lt other air.count && not (own == other) then c else cells.Clear)
        (next-same air own other _ _ _ _ before (commits-heard air K own) K (heard_in air K own) (complement-heard air K own other))

    go : last_cell K own other ≡ replayed air own (heard_in air K own) other → (b : Bool) → (who == own) ≡ b
        → (if b then cell_at made_cells other else last_cell K own other) ≡ replayed air own (if b then committed ∷ heard_in air K own else heard_in air K own) other
    go before true e = by_own before (eqb-true who own e)
    go before false e = before
last-replayed air (Send who target number word ∷ K) legal own other within = last-replayed air K (earlier legal) own other within
last-replayed air (Take who send copy good ∷ K) legal own other within =
    last-replayed air K (earlier legal) own other within ∙ sym (replayed-with air own (good && who == own) (sent_at K send) copy (heard_in air K own) other)

replayed-alike : (one two : Air) (own last : ℕ) → SeesTheSame one two own last → (heard : List Heard) → made heard ≤ last → (other : ℕ) → replayed one own heard other ≡ replayed two own heard other
unfolding replayed made
replayed-alike one two own last sees [] within other = refl
replayed-alike one two own last sees (committed ∷ heard) within other =
    let before = replayed-alike one two own last sees heard (omega arith) other in
    let views = sees.views other (made heard + 1) within in
    λ i. if nat_lt other (sees.count i) && not (own == other) then following_cell (before i) (views i) (in-force heard other) (sees.ranks other i) else cells.Clear
replayed-alike one two own last sees (told sender complement ∷ heard) within other = replayed-alike one two own last sees heard within other

-- A reason without its names, of what it is made of.
without-names-of : ℕ → Seen → Option Told → Cell → Cell → Rule → Reason
without-names-of cycle seen it before cell rule = record {
  position = 0;
  cycle = cycle;
  own = 0;
  other = 0;
  seen = shown_of seen;
  continued = continued_after seen.view before;
  told = it;
  before = before;
  cell = cell;
  rule = rule;
}

reason-is-of : (e : Parts) (J : List Entry) (own cycle other : ℕ) (a : Cells) → without_names (reason_of e J own cycle a other)
    ≡ without-names-of cycle (seen_of (sight_of e own cycle) other) (told-heard (heard_in (air_of e) J own) other) (last_cell J own other) (cell_at a other)
    (rule_of (last_cell J own other) (seen_of (sight_of e own cycle) other).view (in-force (heard_in (air_of e) J own) other) (seen_of (sight_of e own cycle) other).rank)
unfolding reason_of without-names-of
reason-is-of e J own cycle other a =
    let air = air_of e in
    let seen = seen_of (sight_of e own cycle) other in
    let before = last_cell J own other in
    let told = told-is air J own other in
    let force = complement-heard air J own other in
    λ i. without-names-of cycle seen (told i) before (cell_at a other) (rule_of before seen.view (force i) seen.rank)

pub goes-by-both : GoesByBoth
goes-by-both e f own cycle K M a b valid legal_one legal_two alike same other within apart =
    let one = air_of e in
    let two = air_of f in
    let here = allowed legal_one in
    let there = allowed legal_two in
    let sees = sees-the-same e f own cycle alike in
    let crafts = few-crafts e valid in
    let counted = commits-heard one K own in
    let count = here.cycle_is in
    let few : other < CRAFTS = omega arith in
    let as_many : length e.crafts ≡ length f.crafts = sees.count in
    let seen = seen-alike e f own cycle other alike in
    let before = last-replayed one K (earlier legal_one) own other few
    ∙ replayed-alike one two own cycle sees (heard_in one K own) (omega arith) other
    ∙ ap (λ (heard : List Heard). replayed two own heard other) same
    ∙ sym (last-replayed two M (earlier legal_two) own other few) in
    let told = ap (λ (heard : List Heard). told-heard heard other) same in
    let force = ap (λ (heard : List Heard). in-force heard other) same in
    let complement = complement-heard one K own other ∙ force ∙ sym (complement-heard two M own other) in
    let other_one : own ≢ other = λ e. apart (sym e) in
    let cell = cell-is e K own cycle a other here within few other_one
    ∙ (λ i. following_cell (before i) (seen i).view (complement i) (seen i).rank)
    ∙ sym (cell-is f M own cycle b other there (omega arith) few other_one) in
    reason-is-of e K own cycle other a
    ∙ (λ i. without-names-of cycle (seen i) (told i) (before i) (cell i) (rule_of (before i) (seen i).view (force i) (seen i).rank))
    ∙ sym (reason-is-of f M own cycle other b)
