-- What lies past the last aircraft stays Clear, and nothing is sent there.
use Rattle.std.proofs.Common.{◌≡◌, ℕ, ◌<◌, ◌≤◌, Bool, true, false, not, ◌&&◌, eqb, nat_lt, List, [], ◌∷◌, length, sym, refl, ap, ap₂, ◌∙◌, subst, arith, le-ltb, ne_eqb}
use Rattle.std.proofs.lemmas.Bool.{cond-false, cond_both, and_left, and_right}
use Rattle.acas_base.specs.Encounter.{Parts}
use Rattle.acas_base.specs.declared.TheConstants.{CRAFTS}
use Rattle.acas_base.specs.declared.advisory.Cell.{Cell}
use Rattle.acas_base.specs.declared.advisory.Cell.TheVariants.{Clear}
use Rattle.acas_base.specs.declared.advisory.Cells.{Cells}
use Rattle.acas_base.specs.declared.entry.Entry.{Entry}
use Rattle.acas_base.specs.declared.entry.Entry.TheVariants.{Commit, Send, Take}
use Rattle.air_journal.proofs.Soundness.{sound-of}
use Rattle.air_journal.specs.Airs.{air_of}
use Rattle.air_journal.specs.Found.{AreNext, next_in}
use Rattle.air_journal.specs.Kept.{IsSamePast, Kept, committed_link, link_at, link_of}
use Rattle.air_journal.specs.States.{IsWhole}
use Rattle.air_journal.specs.Written.{Written}
use Rattle.air_journal.specs.declared.kept.Link.{Link}
use Rattle.air_rules.proofs.Legal.{allowed, earlier}
use Rattle.air_rules.proofs.Safety.{cell-is}
use Rattle.air_rules.proofs.Waiting.{owed-within}
use Rattle.air_rules.specs.Air.{Air, IsSound}
use Rattle.air_rules.specs.Journal.{cell_at, has_sent, last_cell}
use Rattle.air_rules.specs.Rules.{IsLegal, cell_for, cells_for}

pub clear-past : (air : Air) (K : List Entry) (own j : ℕ) → air.count ≤ j → cell_for air K own j ≡ Clear
clear-past air K own j h = cond-false (nat_lt j air.count && not (eqb own j)) _ Clear (and_left (nat_lt j air.count) (not (eqb own j)) (le-ltb j air.count h))

pub next-past : (air : Air) (kept : Kept) (own j : ℕ) → air.count ≤ j → next_in air kept own j ≡ Clear
next-past air kept own j h = cond-false (nat_lt j air.count && not (eqb own j)) _ Clear (and_left (nat_lt j air.count) (not (eqb own j)) (le-ltb j air.count h))

cell-past : (air : Air) (K : List Entry) → IsLegal air K → (own j : ℕ) → air.count ≤ j → last_cell K own j ≡ Clear
cell-past air [] l own j h = refl
cell-past air (Commit i cycle cells ∷ K) l own j h =
    cond_both (eqb i own) (cell_at cells j) (last_cell K own j) (λ c. c ≡ Clear)
    (λ _. subst (λ (x : Cells). cell_at x j ≡ Clear) (sym (allowed l).cells_are) (cell-is air K i j (λ (c : Cell). c ≡ Clear) refl (clear-past air K i j h)))
    (λ _. cell-past air K (earlier l) own j h)
cell-past air (Send i target number word ∷ K) l own j h = cell-past air K (earlier l) own j h
cell-past air (Take i send copy good ∷ K) l own j h = cell-past air K (earlier l) own j h

unsent-past : (air : Air) → IsSound air → (K : List Entry) → IsLegal air K → (own j : ℕ) → air.count ≤ j → has_sent K own j ≡ false
unsent-past air sound [] l own j h = refl
unsent-past air sound (Commit i cycle cells ∷ K) l own j h = cond_both (eqb i own) false (has_sent K own j) (λ b. b ≡ false) (λ _. refl) (λ _. unsent-past air sound K (earlier l) own j h)
unsent-past air sound (Send i target number word ∷ K) l own j h =
    let may = allowed l in
    let within : target < air.count = (owed-within air sound K i target may.message may.first_owed.owes).receiver in
    cond-false (eqb i own && eqb target j) true (has_sent K own j) (and_right (eqb i own) _ (ne_eqb target j (omega arith))) ∙ unsent-past air sound K (earlier l) own j h
unsent-past air sound (Take i send copy good ∷ K) l own j h = unsent-past air sound K (earlier l) own j h

same-link : (l : Link) (cell : Cell) → cell ≡ Clear → l.cell ≡ Clear → l.sent ≡ false → committed_link l cell ≡ l
same-link l cell e f g = ap₂ (λ (c : Cell) (s : Bool). let r : Link = record { cell = c; said = l.said; sends = l.sends; sent = s; complement = l.complement } in r) (e ∙ sym f) (sym g)

-- A commit of the next cells leaves the links past the last aircraft as they are.
pub same-past : {e : Parts} {w : Written} {t : Kept} → IsWhole e w t → (i : ℕ) (cells : Cells) → i < CRAFTS → AreNext (air_of e) t i cells → IsSamePast t.links i cells (length e.crafts)
same-past {e} {w} {t} h i cells hi next = λ j past few.
    let air = air_of e in
    let K = w.entries in
    let is : link_at t i j ≡ link_of air K i j = h.kept.link i j hi few in
    same-link (link_at t i j) (cell_at cells j) (next.each j few ∙ next-past air t i j past)
    (ap (λ (l : Link). l.cell) is ∙ cell-past air K h.is_journal.legal i j past) (ap (λ (l : Link). l.sent) is ∙ unsent-past air (sound-of e h.is_journal.valid) K h.is_journal.legal i j past)
