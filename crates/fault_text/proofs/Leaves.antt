-- What is told of an aircraft that leaves the box.
use Rattle.std.specs.Borrow.{Bor}
use Rattle.std.proofs.Common.{◌≡◌, ◌∙◌, ℕ, zero, suc, ◌<◌, Bool, true, false, ℤ, List, [], ◌∷◌, length, Some, refl, sym, ap, subst, slice_index_or, arith}
use Rattle.std.specs.Prelude.{◌==◌, ◌||◌}
use Rattle.std.specs.Cmp.{unsigned_Decides}
use Rattle.std.specs.List.{list_any}
use Rattle.acas_base.specs.Encounter as given
use Rattle.acas_base.specs.Encounter.{Parts}
use Rattle.acas_base.specs.declared.craft.CraftSpec.{CraftSpec}
use Rattle.enc_file.specs.Conditions.{IsRefused}
use Rattle.enc_file.specs.Earlier.{encounter_by}
use Rattle.enc_file.specs.Records.{records_of}
use Rattle.enc_file.specs.Values.{address_in}
use Rattle.enc_file.specs.declared.refusal.Code.{Code}
use Rattle.enc_file.specs.declared.refusal.Code.TheVariants as code
use Rattle.enc_file.specs.declared.refusal.Refusal.{Refusal}
use Rattle.fault_text.specs.Leaving.{LeavesFirst}
use Rattle.fault_text.specs.Outside.{IsGivenBefore, TellsLeaving, TellsOutside}
use Rattle.fault_text.specs.Told.{Tells}
use Rattle.fault_text.specs.declared.fault.Why.{Why}
use Rattle.fault_text.specs.declared.fault.Why.TheVariants as why
use Rattle.fault_text.specs.declared.leaving.Leaving.{Leaving}
use Rattle.fault_text.proofs.EndRefused.{enough-lines}

same-number : (n : ℕ) → (n == n) ≡ true
same-number n = (unsigned_Decides n n).1 refl

or-right : (a b : Bool) → b ≡ true → (a || b) ≡ true
or-right true b h = refl
or-right false b h = h

or-left : (a b : Bool) → a ≡ true → (a || b) ≡ true
or-left a b h = rw h refl

-- An aircraft of a list has an address of that list.
given-at : (crafts : List CraftSpec) (i : ℕ) (d : CraftSpec) → i < length crafts → list_any (λ (craft : CraftSpec). craft.address == (slice_index_or crafts i d).address) crafts ≡ true
given-at [] i d h = absurd (omega (arith, h))
given-at (x ∷ xs) zero d h = or-left (x.address == x.address) _ (same-number x.address)
given-at (x ∷ xs) (suc i) d h = or-right (x.address == (slice_index_or xs i d).address) _ (given-at xs i d (omega (arith, h)))

address-at : (crafts : List CraftSpec) (i : ℕ) (d : CraftSpec) → i < length crafts → (slice_index_or crafts i d).address ≡ given.address_in crafts i
address-at [] i d h = absurd (omega (arith, h))
address-at (x ∷ xs) zero d h = refl
address-at (x ∷ xs) (suc i) d h = address-at xs i d (omega (arith, h))

pub given-before : (text : List ℕ) (refusal : Refusal) (r : IsRefused (records_of text) refusal) (e : Parts) (crafts : List CraftSpec) (i : ℕ) (d : CraftSpec) → refusal.code ≡ code.Box → e ≡ encounter_by r.earlier → crafts ≡ e.crafts → i < length e.crafts
    → IsGivenBefore text refusal (slice_index_or crafts i d).address
given-before text refusal r e crafts i d box same is h =
    let address = (slice_index_or crafts i d).address in
    let within : i < length crafts = omega (arith, h, ap length is) in record {
      refused = r;
      given = subst (λ (cs : List CraftSpec). list_any (λ (craft : CraftSpec). craft.address == address) cs ≡ true) (is ∙ ap (λ (x : Parts). x.crafts) same) (given-at crafts i d within);
      enough = enough-lines text refusal r box;
    }

pub outside-told : (text : List ℕ) (refusal : Refusal) (r : IsRefused (records_of text) refusal) (e : Parts) (crafts : List CraftSpec) (i : ℕ) (d : CraftSpec) (leaving : Leaving) (craft : Bor (List ℕ)) (value : ℤ) → e ≡ encounter_by r.earlier
    → crafts ≡ e.crafts → i ≡ leaving.craft → LeavesFirst e leaving → value ≡ leaving.value → address_in craft.now ≡ Some (slice_index_or crafts i d).address
    → TellsOutside text refusal (why.Outside craft leaving.cycle leaving.axis value)
outside-told text refusal r e crafts i d leaving craft value same is at first value-is spelled =
    let within : i < length crafts = omega (arith, first.known, at, ap length is) in
    let address : (slice_index_or crafts i d).address ≡ given.address_in e.crafts leaving.craft = address-at crafts i d within ∙ ap (λ (cs : List CraftSpec). given.address_in cs i) is ∙ ap (given.address_in e.crafts) at in record {
      refused = r;
      tells = subst (λ (x : Parts). TellsLeaving x craft.now leaving.cycle leaving.axis value) same (record {
        index = leaving.craft;
        spelled = spelled ∙ ap Some address;
        first = record { known = first.known; leaves = first.leaves; value = value-is ∙ first.value; others = first.others };
      });
    }

pub boxed : (text : List ℕ) (refusal : Refusal) (line : List ℕ) (w : Why) → refusal.code ≡ code.Box → TellsOutside text refusal w → Tells refusal.code text refusal.at line w
boxed text refusal line w e t =
    let at : TellsOutside text (record { at = refusal.at; code = code.Box }) w = subst (λ (d : Code). TellsOutside text (record { at = refusal.at; code = d }) w) e t in
    subst (λ (d : Code). Tells d text refusal.at line w) (sym e) at
