-- The modelled altitudes, as they are kept.
use Rattle.std.proofs.Common.{◌≡◌, ℕ, ◌+◌, ◌-◌, ◌<◌, ◌≤◌, Bool, true, false, ◌||◌, cond, ℤ, List, [], ◌∷◌, length-set, set, get_or, replicate, Option, Some, None, refl, sym, ap, ◌∙◌, subst, arith, inl, inr}
use Rattle.std.specs.List.{list_any, range_with_len}
use Rattle.std.proofs.lemmas.Bool.{cases_eq}
use Rattle.std.proofs.lemmas.List.{get_or-set_other, get_or-set_same, length-replicate}
use Rattle.std.proofs.lemmas.List.Folds.{list_any-append}
use Rattle.acas_base.specs.Encounter.{Parts}
use Rattle.acas_base.specs.declared.TheConstants.{CRAFTS}
use Rattle.acas_base.specs.declared.entry.Entry.{Entry}
use Rattle.air_journal.specs.Cells.{place_of}
use Rattle.journal_tables.specs.Fields.{modelled_tenths}
use Rattle.journal_tables.specs.Noted.{AreNoted, IsNoted}
use Rattle.journal_tables.specs.Places.{advises, modelled_altitude, was_advised}
use Rattle.response.proofs.Numbers.{range-more}
use Rattle.response.specs.Flown.{flown}

-- ---- advice so far

or-none : (b : Bool) → (b || false) ≡ b
or-none true = refl
or-none false = refl

-- One cycle more.
pub advised-more : (journal : List Entry) (craft done : ℕ) →
    list_any (advises journal craft) (range_with_len 1 (done + 1)) ≡ (list_any (advises journal craft) (range_with_len 1 done) || advises journal craft (done + 1))
advised-more journal craft done =
    let p = advises journal craft in
    let next : 1 + done ≡ done + 1 = omega arith in
    ap (list_any p) (range-more 1 done) ∙ list_any-append p (range_with_len 1 done) ((1 + done) ∷ [])
    ∙ ap (λ (b : Bool). list_any p (range_with_len 1 done) || b) (or-none (p (1 + done)) ∙ ap p next)

-- What is told of the next cycle.
pub told-is : (e : Parts) (journal : List Entry) (craft done : ℕ) (advised : Bool) (altitude : ℤ) →
    advised ≡ list_any (advises journal craft) (range_with_len 1 done) → altitude ≡ flown e journal craft (done + 1) →
    cond advised (Some (modelled_tenths altitude)) None ≡ modelled_altitude e journal craft (done + 1)
told-is e journal craft done advised altitude so_far is =
    let last : done ≡ done + 1 - 1 = omega arith in
    ap (λ (b : Bool). cond b (Some (modelled_tenths altitude)) None) (so_far ∙ ap (λ (n : ℕ). list_any (advises journal craft) (range_with_len 1 n)) last)
    ∙ ap (λ (a : ℤ). cond (was_advised journal craft (done + 1)) (Some (modelled_tenths a)) None) is

-- ---- what is kept

abbrev nothing : Option ℤ
nothing = None

pub none-noted : (e : Parts) (journal : List Entry) → AreNoted e journal 0 0 (replicate 9600 nothing)
none-noted e journal = record {
  size = length-replicate 9600 nothing;
  whole = λ craft cycle h hk hm. absurd (omega arith);
  begun = λ cycle hk hm. absurd (omega arith);
}

-- One cycle more of an aircraft.
pub noted-more : (e : Parts) (journal : List Entry) (craft done place : ℕ) (old : List (Option ℤ)) (told : Option ℤ) → AreNoted e journal craft done old → craft < CRAFTS → done + 1 ≤ 600 →
    e.cycles ≤ 600 → place ≡ place_of craft (done + 1) → told ≡ modelled_altitude e journal craft (done + 1) → AreNoted e journal craft (done + 1) (set old place told)
noted-more e journal craft done place old told are within run short here is = record {
  size = length-set old place told ∙ are.size;
  whole = λ a k ha hk hm. get_or-set_other old place (place_of a k) told None (λ q. omega arith) ∙ are.whole a k ha hk hm;
  begun = λ k hk hm. elim (cases_eq k (done + 1)) [
    | inl same ↦
        ap (λ (n : ℕ). get_or (set old place told) n None) (let q : place_of craft k ≡ place = omega arith in q) ∙ get_or-set_same old place told None (let n = are.size in omega arith) ∙ is
        ∙ ap (modelled_altitude e journal craft) (sym same)
    | inr other ↦
        get_or-set_other old place (place_of craft k) told None (λ q. other (omega arith)) ∙ are.begun k hk (omega arith)
  ];
}

-- One aircraft more.
pub noted-whole : (e : Parts) (journal : List Entry) (craft done : ℕ) (list : List (Option ℤ)) → AreNoted e journal craft done list → done ≡ e.cycles → AreNoted e journal (craft + 1) 0 list
noted-whole e journal craft done list are all = record {
  size = are.size;
  whole = λ a k ha hk hm. elim (cases_eq a craft) [
    | inl same ↦ subst (λ (n : ℕ). IsNoted e journal list n k) (sym same) (are.begun k hk (omega arith))
    | inr other ↦ are.whole a k (omega arith) hk hm
  ];
  begun = λ k hk hm. absurd (omega arith);
}
