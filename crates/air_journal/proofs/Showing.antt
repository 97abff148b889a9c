-- What is shown of a picture gives the same cells as all of it.
use Rattle.std.proofs.Common.{◌≡◌, ℕ, ◌+◌, ◌<◌, Bool, true, false, not, ◌&&◌, eqb, List, [], ◌∷◌, get_or, Option, Some, None, refl, sym, ap, ◌∙◌, subst, arith, inl, inr, eq-eqb, ne_eqb}
use Rattle.std.specs.Prelude.{if◌then◌else◌, nat_lt}
use Rattle.std.proofs.lemmas.Bool.{and_from, and_left, cond-false, cond-true, cases_eq}
use Rattle.std.proofs.lemmas.List.FromFn.{get_or-map-range_with_len}
use Rattle.acas_base.specs.Encounter.{Parts}
use Rattle.acas_base.specs.Messages.{has_advisory}
use Rattle.acas_base.specs.Next.{following_cell, starting_cell}
use Rattle.acas_base.specs.declared.TheConstants.{CRAFTS}
use Rattle.acas_base.specs.declared.advisory.Cell.{Cell}
use Rattle.acas_base.specs.declared.advisory.Cell.TheVariants.{Clear, Traffic, Ra}
use Rattle.acas_base.specs.declared.advisory.Cells.{Cells}
use Rattle.acas_base.specs.declared.advisory.Rank.{Rank}
use Rattle.acas_base.specs.declared.advisory.Vrc.{Vrc}
use Rattle.acas_base.specs.declared.entry.Entry.{Entry}
use Rattle.acas_base.specs.declared.entry.Entry.TheVariants.{Commit, Send, Take}
use Rattle.acas_base.specs.declared.view.Picture.{Picture}
use Rattle.acas_base.specs.declared.view.View.{View}
use Rattle.air_journal.proofs.Seeing.{seen}
use Rattle.air_journal.specs.Airs.{air_of}
use Rattle.air_journal.specs.Cells.{commit_cells}
use Rattle.air_journal.specs.Found.{kept_in_force, next_in}
use Rattle.air_journal.specs.Kept.{Kept, link_at, made_at}
use Rattle.air_journal.specs.Pictures.{IsEnough, Suffices}
use Rattle.air_rules.proofs.Pace.{count-no, count-yes}
use Rattle.air_rules.proofs.Legal.{allowed, earlier}
use Rattle.air_rules.specs.Air.{Air, rank_of}
use Rattle.air_rules.specs.Journal.{cell_at, commits, is_commit_of, last_cell}
use Rattle.air_rules.specs.Rules.{IsLegal}
use Rattle.craft_view.specs.Views.{asks_for, outline_of, picture_after, picture_of, shown, view_of}

-- Without an advisory and a threat no separation counts.
starts-alike : (whole : View) (threat : Bool) (vrc : Vrc) → whole.threat ≡ threat →
    (if (if threat then whole else outline_of whole).tested then starting_cell (if threat then whole else outline_of whole) vrc else Clear) ≡ (if whole.tested then starting_cell whole vrc else Clear)
starts-alike whole true vrc is = refl
starts-alike whole false vrc is = rw is refl

follows-alike : (before : Cell) (asked : Bool) (whole : View) (vrc : Vrc) (rank : Rank) → (has_advisory before ≡ true → asked ≡ true) → following_cell before (shown asked whole) vrc rank ≡ following_cell before whole vrc rank
follows-alike before true whole vrc rank asks = refl
follows-alike Clear false whole vrc rank asks = starts-alike whole whole.threat vrc refl
follows-alike Traffic false whole vrc rank asks = starts-alike whole whole.threat vrc refl
follows-alike (Ra advisory) false whole vrc rank asks = absurd (let f = asks refl in cc)

enough-follows : (before : Cell) (whole view : View) (vrc : Vrc) (rank : Rank) → IsEnough before whole view → following_cell before view vrc rank ≡ following_cell before whole vrc rank
enough-follows before whole view vrc rank enough = ap (λ (v : View). following_cell before v vrc rank) enough.is ∙ follows-alike before enough.asked whole vrc rank enough.asks

-- So the next cell is as by all of the view.
pub next-enough : (air : Air) (kept : Kept) (own other : ℕ) (view : View) → nat_lt other air.count ≡ true → eqb own other ≡ false →
    IsEnough (link_at kept own other).cell (air.view own other ((made_at kept own).commits + 1)) view →
    following_cell (link_at kept own other).cell view (kept_in_force (link_at kept own other).complement (made_at kept own).commits) (rank_of air own other) ≡ next_in air kept own other
next-enough air kept own other view within apart enough =
    enough-follows (link_at kept own other).cell (air.view own other ((made_at kept own).commits + 1)) view
    (kept_in_force (link_at kept own other).complement (made_at kept own).commits) (rank_of air own other) enough
    ∙ rw (within, apart) refl

-- ---- pictures

pub whole-suffices : (e : Parts) (K : List Entry) (own : ℕ) (picture : Picture) → picture ≡ picture_of e own (commits K own + 1) → Suffices e K own picture
whole-suffices e K own picture is other d few = record { asked = true; asks = λ _. refl; is = seen e own (commits K own + 1) picture is other few d }

-- The cells of the last commit are the last cells.
last-cells : (air : Air) (K : List Entry) → IsLegal air K → (own other : ℕ) (cells : Cells) → commit_cells K own (commits K own) ≡ Some cells → last_cell K own other ≡ cell_at cells other
last-cells air [] l own other cells is = absurd (cc)
last-cells air (Commit i cycle xs ∷ K) l own other cells is = elim (cases_eq i own) [
  | inl e ↦
      let n = commits (Commit i cycle xs ∷ K) own in
      let c : n ≡ commits K own + 1 = count-yes (is_commit_of own) (Commit i cycle xs) K (eq-eqb i own e) in
      let f : cycle ≡ commits K own + 1 = (allowed l).cycle_is ∙ ap (λ k. commits K k + 1) e in
      let s = sym (cond-true (eqb i own && eqb cycle n) (Some xs) (commit_cells K own n) (and_from _ _ (eq-eqb i own e) (eq-eqb cycle n (f ∙ sym c)))) ∙ is in
      let z : xs ≡ cells = cc in
      cond-true (eqb i own) (cell_at xs other) (last_cell K own other) (eq-eqb i own e) ∙ ap (λ (x : Cells). cell_at x other) z
  | inr ne ↦
      let n = commits (Commit i cycle xs ∷ K) own in
      let c : n ≡ commits K own = count-no (is_commit_of own) (Commit i cycle xs) K (ne_eqb i own ne) in
      let s = sym (cond-false (eqb i own && eqb cycle n) (Some xs) (commit_cells K own n) (and_left _ _ (ne_eqb i own ne))) ∙ is in
      cond-false (eqb i own) (cell_at xs other) (last_cell K own other) (ne_eqb i own ne)
      ∙ last-cells air K (earlier l) own other cells (subst (λ (k : ℕ). commit_cells K own k ≡ Some cells) c s)
]
last-cells air (Send i target number word ∷ K) l own other cells is = last-cells air K (earlier l) own other cells is
last-cells air (Take i send copy good ∷ K) l own other cells is = last-cells air K (earlier l) own other cells is

asked-after : (before : Option Cells) (last : Cell) (other : ℕ) → ((cells : Cells) → before ≡ Some cells → last ≡ cell_at cells other) → has_advisory last ≡ true → asks_for before other ≡ true
asked-after None last other same stands = refl
asked-after (Some cells) last other same stands = sym (ap has_advisory (same cells refl)) ∙ stands

pub after-suffices : (e : Parts) (K : List Entry) → IsLegal (air_of e) K → (own : ℕ) (picture : Picture) → picture ≡ picture_after (commit_cells K own (commits K own)) e own (commits K own + 1) → Suffices e K own picture
unfolding picture_after
after-suffices e K legal own picture is other d few =
    let before = commit_cells K own (commits K own) in
    record {
      asked = asks_for before other;
      asks = asked-after before (last_cell K own other) other (λ cells h. last-cells (air_of e) K legal own other cells h);
      is = ap (λ (p : Picture). get_or p.views other d) is
          ∙ get_or-map-range_with_len (λ target. shown (asks_for before target) (view_of e own target (commits K own + 1))) 0 CRAFTS other other d few (omega arith);
    }
