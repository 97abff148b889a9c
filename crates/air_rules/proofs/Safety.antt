-- No new cell has the sense that the complement forbids.
use Rattle.std.proofs.Common.{◌≡◌, ℕ, ◌+◌, ◌≤◌, true, false, not, ◌&&◌, nat_lt, List, ◌==◌, Some, sym, ◌∙◌, subst, zero-add, inl, inr}
use Rattle.std.proofs.lemmas.Bool.{cond_both, cases_lt}
use Rattle.std.proofs.lemmas.List.{get_or_past}
use Rattle.std.proofs.lemmas.List.FromFn.{get_or-map-range_with_len, length-map-range_with_len}
use Rattle.acas_base.specs.Complements.{forbidden_sense, forbids}
use Rattle.acas_base.specs.Next.{cell_after, continuation_of, continuing_cell, ends, following_cell, new_advisory, reversal_of, starting_cell, traffic_cell}
use Rattle.acas_base.specs.Senses.{other_sense, sense_of}
use Rattle.acas_base.specs.declared.advisory.Cell.{Cell}
use Rattle.acas_base.specs.declared.advisory.Cell.TheVariants.{Clear, Ra, Traffic}
use Rattle.acas_base.specs.declared.advisory.Cells.{Cells}
use Rattle.acas_base.specs.declared.advisory.Intent.{Intent}
use Rattle.acas_base.specs.declared.advisory.Rank.{Rank}
use Rattle.acas_base.specs.declared.advisory.Rank.TheVariants.{Second}
use Rattle.acas_base.specs.declared.advisory.Sense.{Sense}
use Rattle.acas_base.specs.declared.advisory.Sense.TheVariants.{Down, Up}
use Rattle.acas_base.specs.declared.advisory.Vrc.{Vrc}
use Rattle.acas_base.specs.declared.advisory.Vrc.TheVariants.{Nil, NotAbove, NotBelow}
use Rattle.acas_base.specs.declared.entry.Entry.{Entry}
use Rattle.acas_base.specs.declared.view.View.{View}
use Rattle.air_rules.proofs.Legal.{allowed, legal-begins}
use Rattle.air_rules.specs.Air.{Air, IsSecond, rank_of}
use Rattle.air_rules.specs.Journal.{cell_at, commits, last_cell}
use Rattle.air_rules.specs.Rules.{IsLegal, MayCommit, cell_for, cells_for}
use Rattle.air_rules.specs.Safe.{IsSafe}
use Rattle.air_rules.specs.Takes.{complement_from}

-- The cell doesn't have the sense that r forbids.
abbrev pub Clears : Vrc → Cell → Type 0
Clears r c = (s : Sense) → sense_of c ≡ Some s → forbidden_sense r ≡ Some s → ⊥

forbids-other : (r : Vrc) (q : Sense) → forbids r q ≡ true → forbidden_sense r ≡ Some (other_sense q) → ⊥
forbids-other Nil q h e = cc
forbids-other NotBelow Up h e = cc
forbids-other NotBelow Down h e = cc
forbids-other NotAbove Up h e = cc
forbids-other NotAbove Down h e = cc

not-forbids : (r : Vrc) (q : Sense) → forbids r q ≡ false → forbidden_sense r ≡ Some q → ⊥
not-forbids Nil q h e = cc
not-forbids NotBelow Up h e = cc
not-forbids NotBelow Down h e = cc
not-forbids NotAbove Up h e = cc
not-forbids NotAbove Down h e = cc

clear-quiet : (r : Vrc) (v : View) → Clears r (traffic_cell v)
clear-quiet r v = cond_both v.traffic Traffic Clear (Clears r) (λ _ s e f. cc) (λ _ s e f. cc)

pub clear-begins : (r : Vrc) (v : View) → Clears r (starting_cell v r)
clear-begins Nil v = λ s e f. cc
clear-begins NotBelow v = cond_both v.threat (new_advisory v Up) (traffic_cell v) (Clears NotBelow) (λ _ s e f. cc) (λ _. clear-quiet NotBelow v)
clear-begins NotAbove v = cond_both v.threat (new_advisory v Down) (traffic_cell v) (Clears NotAbove) (λ _ s e f. cc) (λ _. clear-quiet NotAbove v)

clear-goes-on : (r : Vrc) (v : View) (p : Intent) → Clears r (continuing_cell p v r Second)
clear-goes-on r v p =
    cond_both (forbids r p.sense) (reversal_of p v p.turned) (continuation_of p v) (Clears r)
    (λ h s e f. forbids-other r p.sense h (f ∙ sym e))
    (λ h s e f. not-forbids r p.sense h (f ∙ sym e))

clear-after : (r : Vrc) (v : View) (prev : Cell) → Clears r (cell_after prev v r Second)
clear-after r v Clear = clear-begins r v
clear-after r v Traffic = clear-begins r v
clear-after r v (Ra p) =
    cond_both (ends p v) (traffic_cell v) (continuing_cell p v r Second) (Clears r)
    (λ _. clear-quiet r v) (λ _. clear-goes-on r v p)

clear-next : (r : Vrc) (v : View) (prev : Cell) → Clears r (following_cell prev v r Second)
clear-next r v prev = cond_both v.tested (cell_after prev v r Second) Clear (Clears r) (λ _. clear-after r v prev) (λ _ s e f. cc)

clear-cell-for : (air : Air) (K : List Entry) (i j : ℕ) → IsSecond air i j → Clears (complement_from air K i j) (cell_for air K i j)
clear-cell-for air K i j h =
    let r = complement_from air K i j in
    let v = air.view i j (commits K i + 1) in
    let prev = last_cell K i j in
    cond_both (nat_lt j air.count && not (i == j)) (following_cell prev v r (rank_of air i j)) Clear (Clears r)
    (λ _. subst (λ (k : Rank). Clears r (following_cell prev v r k)) (sym h.rank) (clear-next r v prev))
    (λ _ s e f. cc)

-- The cell that a commit has for j.
pub cell-is : (air : Air) (K : List Entry) (i j : ℕ) (P : Cell → Type 0) → P Clear → P (cell_for air K i j) → P (cell_at (cells_for air K i) j)
cell-is air K i j P c n =
    elim (cases_lt j air.places) [
      | inl h ↦ subst P (sym (get_or-map-range_with_len (λ k. cell_for air K i k) 0 air.places j j Clear h (zero-add j))) n
      | inr h ↦ subst P (sym (get_or_past (cells_for air K i).list j Clear (subst (λ (n : ℕ). n ≤ j) (sym (length-map-range_with_len (λ k. cell_for air K i k) 0 air.places)) h))) c
    ]

pub commit-clears : (air : Air) (K : List Entry) (i j cycle : ℕ) (cells : Cells) → MayCommit air K i cycle cells → IsSecond air i j → Clears (complement_from air K i j) (cell_at cells j)
commit-clears air K i j cycle cells m h =
    subst (λ (x : Cells). Clears (complement_from air K i j) (cell_at x j)) (sym m.cells_are)
    (cell-is air K i j (Clears (complement_from air K i j)) (λ s e f. cc) (clear-cell-for air K i j h))

pub safe : (air : Air) (J : List Entry) → IsLegal air J → IsSafe air J
safe air J l K i j cycle cells s b h e = commit-clears air K i j cycle cells (allowed (legal-begins air b l)) h s e
