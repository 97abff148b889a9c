-- What is seen decides how many messages an aircraft has sent wherever it owes nothing.
use Rattle.std.proofs.Common.{◌≡◌, ◌⊎◌, ℕ, suc, ◌+◌, Bool, true, false, ◌&&◌, eqb, List, [], ◌∷◌, Some, None, sym, refl, ap, ◌∙◌, subst, subst₂, arith, inl, inr, eqb-true}
use Rattle.std.proofs.lemmas.Bool.{cond-false, cond-true, and_from, and_parts, cases_Bool, not_from_false}
use Rattle.acas_base.specs.Messages.{has_advisory}
use Rattle.acas_base.specs.declared.advisory.Cell.{Cell}
use Rattle.acas_base.specs.declared.advisory.Cell.TheVariants.{Clear, Ra, Traffic}
use Rattle.acas_base.specs.declared.advisory.Cells.{Cells}
use Rattle.acas_base.specs.declared.advisory.ResMsg.{ResMsg}
use Rattle.acas_base.specs.declared.advisory.Vrc.TheVariants.{Nil}
use Rattle.acas_base.specs.declared.entry.Entry.{Entry}
use Rattle.acas_base.specs.declared.entry.Entry.TheVariants.{Commit, Send, Take}
use Rattle.air_rules.proofs.Asked.{asked, called-for, is_set, none-asked, not-asked, not-called-for, seen}
use Rattle.air_rules.proofs.FewSends.{fresh-owes-none, sent-owes-none}
use Rattle.air_rules.proofs.Legal.{allowed, earlier}
use Rattle.air_rules.proofs.Pace.{count-no, count-yes}
use Rattle.air_rules.proofs.Running.{owed-message, owed-own}
use Rattle.air_rules.proofs.Shapes.{shaped}
use Rattle.air_rules.specs.Air.{Air, IsSound, is_ra}
use Rattle.air_rules.specs.Journal.{commits, has_sent, is_commit_of, is_send_of, last_cell, sends}
use Rattle.air_rules.specs.Owed.{OwesNothing, has_many_threats, may_owe, owed, said}
use Rattle.air_rules.specs.Rules.{IsLegal, MaySend}
use Rattle.air_rules.specs.Shape.{Shape, clear, coordinate, messages_to, resolution, shape_of, traffic, untold_cell}
use Rattle.air_rules.specs.Takes.{complement_read}

-- ---- how far an aircraft is

abbrev is-resolution : Shape → Bool
is-resolution clear = false
is-resolution traffic = false
is-resolution (resolution age) = true

by-shape : (c : Cell) → has_advisory c ≡ is-resolution (shape_of c)
by-shape Clear = refl
by-shape Traffic = refl
by-shape (Ra it) = refl

advised : (air : Air) (K : List Entry) → IsLegal air K → (i j : ℕ) → has_advisory (last_cell K i j) ≡ seen air i j (commits K i)
advised air K l i j = by-shape (last_cell K i j) ∙ ap is-resolution (shaped air K l i j) ∙ sym (by-shape (untold_cell air i j (commits K i)))

-- How far an aircraft is with its messages to another one.
data Stands (air : Air) (K : List Entry) (i j : ℕ) : Type 0 where
  fresh : commits K i ≡ 0 → sends K i j ≡ 0 → said air K i j ≡ Nil → Stands air K i j
  behind : has_sent K i j ≡ false → (n : ℕ) → commits K i ≡ suc n → sends K i j ≡ messages_to air i j n → is_set (said air K i j) ≡ seen air i j n → Stands air K i j
  done : has_sent K i j ≡ true → sends K i j ≡ messages_to air i j (commits K i) → is_set (said air K i j) ≡ seen air i j (commits K i) → Stands air K i j

-- It has sent all that is asked of it so far.
record IsThrough (air : Air) (K : List Entry) (i j : ℕ) : Type 0 where
  number : sends K i j ≡ messages_to air i j (commits K i)
  told : is_set (said air K i j) ≡ seen air i j (commits K i)

can-owe : (air : Air) (K : List Entry) (i j : ℕ) → coordinate air i j ≡ true → has_sent K i j ≡ false → may_owe air K i j ≡ true
can-owe air K i j c h =
    let a = and_parts (is_ra air i) _ c in
    let b = and_parts (is_ra air j) _ a.1 in
    and_from _ _ a.0 (and_from _ _ b.0 (and_from _ _ b.1 (not_from_false _ h)))

through : (air : Air) (K : List Entry) → IsLegal air K → (i j : ℕ) → coordinate air i j ≡ true → owed air K i j ≡ None → Stands air K i j → IsThrough air K i j
through air K l i j c none (done h s t) = record { number = s; told = t }
through air K l i j c none (fresh n s v) = record {
  number = s ∙ ap (messages_to air i j) (sym n);
  told = ap is_set v ∙ ap (seen air i j) (sym n);
}
through air K l i j c none (behind h n made s t) =
    let parts = not-called-for (last_cell K i j) (said air K i j) (has_many_threats K i) (air.address i) (sym (cond-true _ _ _ (can-owe air K i j c h)) ∙ none) in
    let now : seen air i j (suc n) ≡ false = sym (ap (seen air i j) made) ∙ sym (advised air K l i j) ∙ parts.0 in
    let was : seen air i j n ≡ false = sym t ∙ parts.1 in
    record {
      number = s ∙ sym (not-asked air i j n now was) ∙ ap (messages_to air i j) (sym made);
      told = parts.1 ∙ sym now ∙ ap (seen air i j) (sym made);
    }

stands-commit : (air : Air) (own cycle : ℕ) (cells : Cells) (K : List Entry) → IsLegal air K → OwesNothing air K own → (i j : ℕ) → coordinate air i j ≡ true → Stands air K i j → Stands air (Commit own cycle cells ∷ K) i j
stands-commit air own cycle cells K l owes i j c before = go (cases_Bool (eqb own i)) before
  where
    go : (eqb own i ≡ true) ⊎ (eqb own i ≡ false) → Stands air K i j → Stands air (Commit own cycle cells ∷ K) i j
    go (inl y) s =
        let t = through air K l i j c (subst (λ (k : ℕ). owed air K k j ≡ None) (eqb-true own i y) (owes j)) s in
        let made : commits (Commit own cycle cells ∷ K) i ≡ commits K i + 1 = count-yes (is_commit_of i) (Commit own cycle cells) K y in
        behind (cond-true (eqb own i) false _ y) (commits K i) (omega arith) t.number t.told
    go (inr n) (fresh made s v) = fresh (count-no (is_commit_of i) (Commit own cycle cells) K n ∙ made) s v
    go (inr n) (behind h m made s t) = behind (cond-false (eqb own i) false _ n ∙ h) m (count-no (is_commit_of i) (Commit own cycle cells) K n ∙ made) s t
    go (inr n) (done h s t) =
        let made : commits (Commit own cycle cells ∷ K) i ≡ commits K i = count-no (is_commit_of i) (Commit own cycle cells) K n in
        done (cond-false (eqb own i) false _ n ∙ h) (s ∙ ap (messages_to air i j) (sym made)) (t ∙ ap (seen air i j) (sym made))

stands-send : (air : Air) → IsSound air → (own target number word : ℕ) (K : List Entry) → IsLegal air K → MaySend air K own target number word →
    (i j : ℕ) → coordinate air i j ≡ true → Stands air K i j → Stands air (Send own target number word ∷ K) i j
stands-send air sound own target number word K l may i j c before = go (cases_Bool (eqb own i && eqb target j)) before
  where
    x : Entry
    x = Send own target number word

    owes : eqb own i && eqb target j ≡ true → owed air K i j ≡ Some may.message
    owes y =
        let q = and_parts (eqb own i) (eqb target j) y in
        subst₂ (λ (a b : ℕ). owed air K a b ≡ Some may.message) (eqb-true own i q.0) (eqb-true target j q.1) may.first_owed.owes

    says : (o : owed air K i j ≡ Some may.message) → complement_read (air.read word) ≡ may.message.vrc
    says o = ap complement_read (ap air.read may.word_is ∙ sound.reads i may.message (owed-own air K i j may.message o))

    go : (eqb own i && eqb target j ≡ true) ⊎ (eqb own i && eqb target j ≡ false) → Stands air K i j → Stands air (Send own target number word ∷ K) i j
    go (inl y) (fresh made s v) = absurd (fresh-owes-none air K i j may.message made v (owes y))
    go (inl y) (done h s t) = absurd (let g : true ≡ false = sym h ∙ sent-owes-none air K i j may.message (owes y) in cc)
    go (inl y) (behind h n made s t) =
        let why = called-for (last_cell K i j) (said air K i j) (has_many_threats K i) (air.address i) may.message (owed-message air K i j may.message (owes y)).1 in
        let now : has_advisory (last_cell K i j) ≡ seen air i j (suc n) = advised air K l i j ∙ ap (seen air i j) made in
        let one = asked air i j n (last_cell K i j) (said air K i j) c why.why now t in
        let sent : sends (x ∷ K) i j ≡ sends K i j + 1 = count-yes (is_send_of i j) x K y in
        done (cond-true (eqb own i && eqb target j) true _ y)
        (sent ∙ ap (λ (k : ℕ). k + 1) s ∙ sym one ∙ ap (messages_to air i j) (sym made))
        (ap is_set (cond-true (eqb own i && eqb target j) _ _ y ∙ says (owes y)) ∙ why.sets ∙ advised air K l i j)
    go (inr n) (fresh made s v) = fresh made (count-no (is_send_of i j) x K n ∙ s) (cond-false (eqb own i && eqb target j) _ _ n ∙ v)
    go (inr n) (behind h m made s t) = behind (cond-false (eqb own i && eqb target j) true _ n ∙ h) m made (count-no (is_send_of i j) x K n ∙ s) (ap is_set (cond-false (eqb own i && eqb target j) _ _ n) ∙ t)
    go (inr n) (done h s t) = done (cond-false (eqb own i && eqb target j) true _ n ∙ h) (count-no (is_send_of i j) x K n ∙ s) (ap is_set (cond-false (eqb own i && eqb target j) _ _ n) ∙ t)

stands-take : (air : Air) (own send copy : ℕ) (good : Bool) (K : List Entry) (i j : ℕ) → Stands air K i j → Stands air (Take own send copy good ∷ K) i j
stands-take air own send copy good K i j (fresh a b d) = fresh a b d
stands-take air own send copy good K i j (behind a n b d e) = behind a n b d e
stands-take air own send copy good K i j (done a b d) = done a b d

stands : (air : Air) → IsSound air → (K : List Entry) → IsLegal air K → (i j : ℕ) → coordinate air i j ≡ true → Stands air K i j
stands air sound [] l i j c = fresh refl refl refl
stands air sound (Commit own cycle cells ∷ K) l i j c = stands-commit air own cycle cells K (earlier l) (allowed l).owes_nothing i j c (stands air sound K (earlier l) i j c)
stands air sound (Send own target number word ∷ K) l i j c = stands-send air sound own target number word K (earlier l) (allowed l) i j c (stands air sound K (earlier l) i j c)
stands air sound (Take own send copy good ∷ K) l i j c = stands-take air own send copy good K i j (stands air sound K (earlier l) i j c)

-- ---- who doesn't coordinate sends nothing

coordinates : (air : Air) (K : List Entry) (i j : ℕ) (m : ResMsg) → owed air K i j ≡ Some m → coordinate air i j ≡ true
coordinates air K i j m o =
    let a = and_parts (is_ra air i) _ (owed-message air K i j m o).0 in
    let b = and_parts (is_ra air j) _ a.1 in
    and_from _ _ a.0 (and_from _ _ b.0 (and_parts _ _ b.1).0)

pub none-sent : (air : Air) (K : List Entry) → IsLegal air K → (i j : ℕ) → coordinate air i j ≡ false → sends K i j ≡ 0
none-sent air [] l i j c = refl
none-sent air (Commit own cycle cells ∷ K) l i j c = none-sent air K (earlier l) i j c
none-sent air (Send own target number word ∷ K) l i j c =
    let ih = none-sent air K (earlier l) i j c in
    let may = allowed l in
    elim (cases_Bool (eqb own i && eqb target j)) [
      | inl y ↦
          let q = and_parts (eqb own i) (eqb target j) y in
          let o : owed air K i j ≡ Some may.message = subst₂ (λ (a b : ℕ). owed air K a b ≡ Some may.message) (eqb-true own i q.0) (eqb-true target j q.1) may.first_owed.owes in
          absurd (let f : false ≡ true = sym c ∙ coordinates air K i j may.message o in cc)
      | inr n ↦ count-no (is_send_of i j) (Send own target number word) K n ∙ ih
    ]
none-sent air (Take own p d good ∷ K) l i j c = none-sent air K (earlier l) i j c

pub sends-asked : (air : Air) → IsSound air → (K : List Entry) → IsLegal air K → (i j : ℕ) → OwesNothing air K i → sends K i j ≡ messages_to air i j (commits K i)
sends-asked air sound K l i j owes = elim (cases_Bool (coordinate air i j)) [
  | inl c ↦ (through air K l i j c (owes j) (stands air sound K l i j c)).number
  | inr c ↦ none-sent air K l i j c ∙ sym (none-asked air i j (commits K i) c)
]
