-- What is drawn for the aircraft.
use Rattle.std.proofs.Common.{◌≡◌, ℕ, zero, suc, ◌<◌, ◌≤◌, List, [], ◌∷◌, length, get_or, arith, refl, sym, ◌∙◌, inl, inr, subst, ◌-◌}
use Rattle.std.specs.Prelude.{All, AllPairs, IsTrue, None}
use Rattle.std.specs.List.{list_any}
use Rattle.std.proofs.lemmas.Bool.{cases_lt}
use Rattle.std.proofs.lemmas.Int.{ints}
use Rattle.std.proofs.lemmas.List.{get_or-append_right, get_or_append_left, length-append}
use Rattle.acas_base.specs.Encounter.{AreApart, AreCrafts, IsCraft, is_active, most_crafts}
use Rattle.acas_base.specs.declared.craft.CraftSpec.{CraftSpec}
use Rattle.acas_base.specs.declared.craft.Kind.TheVariants.{Ra}
use Rattle.acas_base.specs.declared.setting.Profile.{Profile}
use Rattle.enc_gen.proofs.Each.{all-one, each-all, each-pairs, pairs-one}
use Rattle.enc_gen.proofs.Numbers.{altitude-near, climb-near, coordinate-near}
use Rattle.enc_gen.proofs.Passing.{IsBeside, any-draft, aside-few, placed-beside, placed-long}
use Rattle.enc_gen.specs.Crafts.{IsDraft, draft, spec_of}
use Rattle.enc_gen.specs.Draws.{next_state}
use Rattle.enc_gen.specs.Making.{each}
use Rattle.enc_gen.specs.Passing.{most_aside, placed}
use Rattle.enc_gen.specs.declared.crafts.Draft.{Draft}

draft-near : (craft s : ℕ) → All IsDraft (draft craft s).items
unfolding draft
draft-near craft s =
    let x = next_state (next_state s) in
    let y = next_state x in
    let alt = next_state y in
    all-one IsDraft _ (record { x = coordinate-near x; y = coordinate-near y; alt = altitude-near alt; climb = climb-near (next_state alt) })

draft-craft : (craft s : ℕ) → All (λ (d : Draft). d.craft ≡ craft) (draft craft s).items
unfolding draft
draft-craft craft s = all-one (λ (d : Draft). d.craft ≡ craft) _ refl

draft-alone : (R : Draft → Draft → Type 0) (craft s : ℕ) → AllPairs R (draft craft s).items
unfolding draft
draft-alone R craft s = pairs-one R _

draft-long : (craft s : ℕ) → length (draft craft s).items ≡ 1
unfolding draft
draft-long craft s = refl

-- Aircraft 0 is RA.
draft-first : (s : ℕ) → All (λ (d : Draft). d.kind ≡ Ra) (draft 0 s).items
unfolding draft
draft-first s = all-one (λ (d : Draft). d.kind ≡ Ra) _ refl

pub drafts-near : (n s : ℕ) → All IsDraft (each draft n s).items
drafts-near n s = each-all IsDraft draft n s (λ i t h. draft-near i t)

pub drafts-few : (n s : ℕ) → All (λ (d : Draft). d.craft < n) (each draft n s).items
drafts-few n s = each-all (λ (d : Draft). d.craft < n) draft n s (λ i t h k d g. let is = draft-craft i t k d g in omega arith)

pub drafts-rise : (n s : ℕ) → AllPairs (λ (a b : Draft). a.craft < b.craft) (each draft n s).items
drafts-rise n s = each-pairs (λ (a b : Draft). a.craft < b.craft) (λ i (d : Draft). d.craft ≡ i) draft n s (λ i j x y h e f. omega arith) draft-craft (draft-alone (λ (a b : Draft). a.craft < b.craft))

pub drafts-long : (n s : ℕ) → length (each draft n s).items ≡ n
unfolding each
drafts-long zero s = refl
drafts-long (suc n) s =
    let here = draft-long n (each draft n s).state in
    let before = drafts-long n s in
    omega (arith, here, before, length-append (each draft n s).items (draft n (each draft n s).state).items)

-- Each stands at the index of its aircraft.
pub drafts-at : (n s k : ℕ) (d : Draft) → k < n → (get_or (each draft n s).items k d).craft ≡ k
unfolding each
drafts-at zero s k d h = absurd (omega arith)
drafts-at (suc n) s k d h =
    let xs = (each draft n s).items in
    let ys = (draft n (each draft n s).state).items in
    let long : length xs ≡ n = drafts-long n s in
    let P : Draft → Type 0 = λ x. x.craft ≡ k in
    elim (cases_lt k n) [
      | inl g ↦ subst P (sym (get_or_append_left xs ys d k (omega arith))) (drafts-at n s k d g)
      | inr g ↦
          let same : k ≡ n = omega arith in
          let short : k - n < length ys = omega (arith, draft-long n (each draft n s).state) in
          subst P (sym (get_or-append_right xs ys n k d long (omega arith))) (draft-craft n (each draft n s).state (k - n) d short ∙ sym same)
    ]

-- The first one is RA.
drafts-first : (n s : ℕ) (d : Draft) → 0 < n → (get_or (each draft n s).items 0 d).kind ≡ Ra
unfolding each
drafts-first zero s d h = absurd (omega arith)
drafts-first (suc zero) s d h = draft-first s 0 d (omega (arith, draft-long 0 s))
drafts-first (suc (suc n)) s d h =
    let P : Draft → Type 0 = λ x. x.kind ≡ Ra in
    subst P (sym (get_or_append_left (each draft (suc n) s).items (draft (suc n) (each draft (suc n) s).state).items d 0 (omega (arith, drafts-long (suc n) s)))) (drafts-first (suc n) s d (omega arith))

craft-fits : (most : ℕ) (d : Draft) (b : CraftSpec) → most ≤ 24304 → IsBeside most (spec_of d) b → IsDraft d → d.craft < 16 → IsCraft b
craft-fits most d b small is near few = record {
  address = (omega (arith, is.address), omega (arith, is.address));
  x = (omega (arith, ints, small, is.x.0, near.x.0), omega (arith, ints, small, is.x.1, near.x.1));
  y = (omega (arith, ints, small, is.y.0, near.y.0), omega (arith, ints, small, is.y.1, near.y.1));
  alt = rw is.alt (omega (arith, ints, near.alt.0, near.alt.1), omega (arith, ints, near.alt.0, near.alt.1));
  ceiling = rw is.ceiling tt;
}

apart : (most : ℕ) (a b : Draft) (x y : CraftSpec) → IsBeside most (spec_of a) x → IsBeside most (spec_of b) y → a.craft < b.craft → AreApart x y
apart most a b x y is that h = λ e. omega (arith, e, is.address, that.address)

pub crafts-listed : (profile : Profile) (version n s t : ℕ) → 1 ≤ n → n ≤ 16 → n ≤ most_crafts version → AreCrafts version (placed profile (each draft n s).items t)
crafts-listed profile version n s t some most few =
    let ds = (each draft n s).items in
    let list = placed profile ds t in
    let many : length ds ≡ n = drafts-long n s in
    let long : length list ≡ n = placed-long profile ds t ∙ many in
    record {
      some = omega arith;
      few = rw long few;
      ranges = λ k b h.
          let there : k < length ds = omega arith in
          let small = drafts-few n s k any-draft there in
          craft-fits (most_aside profile) (get_or ds k any-draft) (get_or list k b) (aside-few profile) (placed-beside profile ds t k any-draft b there) (drafts-near n s k any-draft there) (omega arith);
      addresses = λ i j b order h.
          let there : j < length ds = omega arith in
          apart (most_aside profile) (get_or ds i any-draft) (get_or ds j any-draft) (get_or list i b) (get_or list j b)
          (placed-beside profile ds t i any-draft b (omega arith)) (placed-beside profile ds t j any-draft b there) (drafts-rise n s i j any-draft order there);
      active = active-first list n long some (λ b.
          let is = placed-beside profile ds t 0 any-draft b (omega arith) in
          is.kind ∙ drafts-first n s any-draft (omega arith));
    }
  where
    active-first : (list : List CraftSpec) (n : ℕ) → length list ≡ n → 1 ≤ n → ((b : CraftSpec) → (get_or list 0 b).kind ≡ Ra) → IsTrue (list_any is_active list)
    active-first [] n long some first = absurd (omega arith)
    active-first (x ∷ list) n long some first = rw (first x) refl

pub crafts-plain : (profile : Profile) (ds : List Draft) (t : ℕ) → All (λ (craft : CraftSpec). craft.ceiling ≡ None) (placed profile ds t)
crafts-plain profile ds t k b h =
    let long = placed-long profile ds t in
    let is = placed-beside profile ds t k any-draft b (omega arith) in
    is.ceiling
