-- The modelled altitudes, as they are kept.
use Rattle.std.proofs.Common.{◌≡◌, ℕ, ◌+◌, ◌<◌, ◌≤◌, ℤ, pos, List, length-set, set, get_or, replicate, sym, ap, ◌∙◌, subst, arith, inl, inr}
use Rattle.std.proofs.lemmas.Bool.{cases_eq}
use Rattle.std.proofs.lemmas.List.{get_or-set_other, get_or-set_same, length-replicate}
use Rattle.acas_base.specs.Encounter.{Parts}
use Rattle.acas_base.specs.declared.TheConstants.{CRAFTS}
use Rattle.acas_base.specs.declared.entry.Entry.{Entry}
use Rattle.air_journal.specs.Cells.{place_of}
use Rattle.summary.specs.Kept.{AreNoted, IsNoted}
use Rattle.summary.specs.Lines.{above_plan}

pub none-noted : (e : Parts) (journal : List Entry) → AreNoted e journal 0 0 (replicate 9600 (pos 0))
none-noted e journal = record {
  size = length-replicate 9600 (pos 0);
  whole = λ craft cycle h hk hm. absurd (omega arith);
  begun = λ cycle hk hm. absurd (omega arith);
}

-- One cycle more of an aircraft.
pub noted-more : (e : Parts) (journal : List Entry) (craft done place : ℕ) (old : List ℤ) (above : ℤ) → AreNoted e journal craft done old → craft < CRAFTS → done + 1 ≤ 600 →
    e.cycles ≤ 600 → place ≡ place_of craft (done + 1) → above ≡ above_plan e journal craft (done + 1) → AreNoted e journal craft (done + 1) (set old place above)
noted-more e journal craft done place old above are within run short here is = record {
  size = length-set old place above ∙ are.size;
  whole = λ a k ha hk hm. get_or-set_other old place (place_of a k) above (pos 0) (λ q. omega arith) ∙ are.whole a k ha hk hm;
  begun = λ k hk hm. elim (cases_eq k (done + 1)) [
    | inl same ↦
        ap (λ (n : ℕ). get_or (set old place above) n (pos 0)) (let q : place_of craft k ≡ place = omega arith in q) ∙ get_or-set_same old place above (pos 0) (let n = are.size in omega arith) ∙ is
        ∙ ap (above_plan e journal craft) (sym same)
    | inr other ↦
        get_or-set_other old place (place_of craft k) above (pos 0) (λ q. other (omega arith)) ∙ are.begun k hk (omega arith)
  ];
}

-- One aircraft more.
pub noted-whole : (e : Parts) (journal : List Entry) (craft done : ℕ) (list : List ℤ) → AreNoted e journal craft done list → done ≡ e.cycles → AreNoted e journal (craft + 1) 0 list
noted-whole e journal craft done list are all = record {
  size = are.size;
  whole = λ a k ha hk hm. elim (cases_eq a craft) [
    | inl same ↦ subst (λ (n : ℕ). IsNoted e journal list n k) (sym same) (are.begun k hk (omega arith))
    | inr other ↦ are.whole a k (omega arith) hk hm
  ];
  begun = λ k hk hm. absurd (omega arith);
}
