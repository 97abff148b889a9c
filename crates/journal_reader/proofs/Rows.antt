-- A row of links that is changed from place to place.
use Rattle.std.proofs.Common.{◌≡◌, ◌≢◌, ℕ, ◌+◌, ◌*◌, ◌<◌, ◌≤◌, List, length, length-set, set, get_or, sym, ap, ap₂, ◌∙◌, subst, arith, inl, inr}
use Rattle.std.proofs.lemmas.Bool.{cases_eq}
use Rattle.std.proofs.lemmas.List.{get_or-set_other, get_or-set_same}
use Rattle.acas_base.specs.declared.TheConstants.{CRAFTS}
use Rattle.acas_base.specs.declared.advisory.Cell.TheVariants.{Clear}
use Rattle.acas_base.specs.declared.advisory.Cells.{Cells}
use Rattle.air_rules.specs.Journal.{cell_at}
use Rattle.journal_reader.specs.Links.{committed_link, link_at, no_link}
use Rattle.journal_reader.specs.declared.links.Link.{Link}

-- The links to the first so many others are those after a commit, and all else is as before.
pub record IsRowUpTo (old new : List Link) (own : ℕ) (cells : Cells) (at count : ℕ) : Type 0 where
  pub size : length new ≡ 256
  pub done : (b : ℕ) → b < count → link_at new own b ≡ committed_link (link_at old own b) (cell_at cells b) at
  pub rest : (b : ℕ) → count ≤ b → b < CRAFTS → link_at new own b ≡ link_at old own b
  pub others : (a b : ℕ) → a < CRAFTS → b < CRAFTS → a ≢ own → link_at new a b ≡ link_at old a b

pub row-more : (old new : List Link) (own other pair place at : ℕ) (cells : Cells) (link : Link) → pair ≡ own * CRAFTS + other → place ≡ other → own < CRAFTS → other < CRAFTS →
    link ≡ committed_link (get_or new pair no_link) (get_or cells.list place Clear) at → IsRowUpTo old new own cells at other → IsRowUpTo old (set new pair link) own cells at (other + 1)
row-more old new own other pair place at cells link p q ho hb is row = record {
  size = length-set new pair link ∙ row.size;
  done = λ b h. elim (cases_eq b other) [
    | inl same ↦
        subst (λ (n : ℕ). link_at (set new pair link) own n ≡ committed_link (link_at old own n) (cell_at cells n) at) (sym same)
        (ap (λ (n : ℕ). get_or (set new pair link) n no_link) (sym p) ∙ get_or-set_same new pair link no_link (let n = row.size in omega arith) ∙ is
        ∙ ap₂ (λ (n m : ℕ). committed_link (get_or new n no_link) (get_or cells.list m Clear) at) p q ∙ ap (λ (l : Link). committed_link l (cell_at cells other) at) (row.rest other (omega arith) hb))
    | inr apart ↦ get_or-set_other new pair (own * CRAFTS + b) link no_link (λ e. apart (omega arith)) ∙ row.done b (omega arith)
  ];
  rest = λ b low high. get_or-set_other new pair (own * CRAFTS + b) link no_link (λ e. omega arith) ∙ row.rest b (omega arith) high;
  others = λ a b ha hb2 apart. get_or-set_other new pair (a * CRAFTS + b) link no_link (λ e. apart (omega arith)) ∙ row.others a b ha hb2 apart;
}
