-- What each entry changes in what is kept.
use Rattle.std.proofs.Common.{◌≡◌, ◌⊎◌, ℕ, ◌+◌, ◌<◌, Bool, true, false, ◌&&◌, cond, eqb, List, [], ◌∷◌, ◌++◌, length, Option, Some, None, is_some, sym, refl, ap, ◌∙◌, subst, inl, inr, eqb-true}
use Rattle.std.specs.List.{remove}
use Rattle.std.proofs.lemmas.Bool.{cond-false, cond-true, and_parts, and_from, and_cases, and_left, and_right, cases_Bool}
use Rattle.acas_base.specs.Messages.{has_many}
use Rattle.acas_base.specs.declared.TheConstants.{CRAFTS}
use Rattle.acas_base.specs.declared.advisory.Cells.{Cells}
use Rattle.acas_base.specs.declared.advisory.ResMsg.{ResMsg}
use Rattle.acas_base.specs.declared.advisory.Vrc.{Vrc}
use Rattle.acas_base.specs.declared.entry.Entry.{Entry}
use Rattle.acas_base.specs.declared.entry.Entry.TheVariants.{Commit, Send, Take}
use Rattle.acas_base.specs.declared.link.CopyPlan.{CopyPlan}
use Rattle.air_journal.specs.Kept.{AfterCommit, AfterSend, AfterTake, IsBlank, IsKept, Kept, committed_link, complement_of, copies_from, link_of, made_at, made_of, read_as, sent_link, taken_link, vrc_of, waiting, without}
use Rattle.air_journal.specs.declared.kept.Complement.{Complement}
use Rattle.air_journal.specs.declared.kept.Link.{Link}
use Rattle.air_journal.specs.declared.kept.Made.{Made}
use Rattle.air_rules.specs.Air.{Air}
use Rattle.air_rules.specs.Journal.{Sent, cell_at, commits, sent_at}
use Rattle.air_rules.specs.Takes.{complement_read, is_from, last_take, read_copy}

pub blank-kept : (air : Air) (kept : Kept) → IsBlank kept → IsKept air [] kept
blank-kept air kept b = record { made = b.made; link = b.link; queue = b.queue }

-- ---- one pair

link-send : (air : Air) (K : List Entry) (own target number word a b : ℕ) →
    link_of air (Send own target number word ∷ K) a b ≡ cond (eqb own a && eqb target b) (sent_link (link_of air K a b) (complement_read (air.read word))) (link_of air K a b)
link-send air K own target number word a b =
    elim (eqb own a && eqb target b) as (λ t. (let r : Link = record { cell = (link_of air K a b).cell; said = cond t (complement_read (air.read word)) (link_of air K a b).said; sends = cond t ((link_of air K a b).sends + 1) (link_of air K a b).sends; sent = cond t true (link_of air K a b).sent; complement = (link_of air K a b).complement } in r)
    ≡ cond t (sent_link (link_of air K a b) (complement_read (air.read word))) (link_of air K a b)) [ true ↦ refl | false ↦ refl ]

link-commit : (air : Air) (K : List Entry) (own cycle : ℕ) (cells : Cells) (a b : ℕ) →
    link_of air (Commit own cycle cells ∷ K) a b ≡ cond (eqb own a) (committed_link (link_of air K a b) (cell_at cells b)) (link_of air K a b)
link-commit air K own cycle cells a b =
    elim (eqb own a) as (λ t. (let r : Link = record { cell = cond t (cell_at cells b) (link_of air K a b).cell; said = (link_of air K a b).said; sends = (link_of air K a b).sends; sent = cond t false (link_of air K a b).sent; complement = (link_of air K a b).complement } in r)
    ≡ cond t (committed_link (link_of air K a b) (cell_at cells b)) (link_of air K a b)) [ true ↦ refl | false ↦ refl ]

made-commit : (K : List Entry) (own cycle : ℕ) (cells : Cells) (a : ℕ) →
    made_of (Commit own cycle cells ∷ K) a ≡ cond (eqb own a) (let r : Made = record { commits = commits K a + 1; many = has_many cells } in r) (made_of K a)
made-commit K own cycle cells a =
    elim (eqb own a) as (λ t. (let r : Made = record { commits = cond t (commits K a + 1) (commits K a); many = cond t (has_many cells) (made_of K a).many } in r)
    ≡ cond t (let r : Made = record { commits = commits K a + 1; many = has_many cells } in r) (made_of K a)) [ true ↦ refl | false ↦ refl ]

link-take : (air : Air) (K : List Entry) (own send copy : ℕ) (good : Bool) (a b : ℕ) →
    link_of air (Take own send copy good ∷ K) a b ≡ cond (good && (eqb own a && is_from (sent_at K send) b))
    (let r : Link = record { cell = (link_of air K a b).cell; said = (link_of air K a b).said; sends = (link_of air K a b).sends; sent = (link_of air K a b).sent; complement = Some (let c : Complement = record { vrc = complement_read (read_copy air (sent_at K send) copy); commits = commits K a } in c) } in r) (link_of air K a b)
link-take air K own send copy good a b =
    elim (good && (eqb own a && is_from (sent_at K send) b)) as (λ t. (let r : Link = record {
      cell = (link_of air K a b).cell;
      said = (link_of air K a b).said;
      sends = (link_of air K a b).sends;
      sent = (link_of air K a b).sent;
      complement = complement_of (cond t (Some (record { send = send; vrc = complement_read (read_copy air (sent_at K send) copy); commits = commits K a })) (last_take air K a b));
    } in r)
    ≡ cond t (let r : Link = record { cell = (link_of air K a b).cell; said = (link_of air K a b).said; sends = (link_of air K a b).sends; sent = (link_of air K a b).sent; complement = Some (let c : Complement = record { vrc = complement_read (read_copy air (sent_at K send) copy); commits = commits K a } in c) } in r) (link_of air K a b)) [ true ↦ refl | false ↦ refl ]

-- ---- after a send

pub kept-send : (air : Air) (K : List Entry) (old new : Kept) → IsKept air K old → (own target number word at : ℕ) (vrc : Vrc) (plans : List CopyPlan) →
    own < CRAFTS → target < CRAFTS → vrc ≡ complement_read (air.read word) → at ≡ length K → plans ≡ air.copies own target number →
    AfterSend old new own target vrc (copies_from (read_as air.flip air.read word) at (made_at old target).commits 0 plans) → IsKept air (Send own target number word ∷ K) new
kept-send air K old new k own target number word at vrc plans hi hj e f g s =
    record {
      made = λ a ha. s.made a ha ∙ k.made a ha;
      link = λ a b ha hb. s.link a b ha hb ∙ ap (λ (l : Link). cond (eqb own a && eqb target b) (sent_link l vrc) l) (k.link a b ha hb)
          ∙ ap (λ v. cond (eqb own a && eqb target b) (sent_link (link_of air K a b) v) (link_of air K a b)) e ∙ sym (link-send air K own target number word a b);
      queue = λ a b ha hb. s.queue a b ha hb ∙ ap (λ q. cond (eqb own a && eqb target b) (q ++ copies_from (read_as air.flip air.read word) at (made_at old target).commits 0 plans) q) (k.queue a b ha hb) ∙ at_pair a b (cases_Bool (eqb own a && eqb target b));
    }
  where
    copies : copies_from (read_as air.flip air.read word) at (made_at old target).commits 0 plans ≡ copies_from (read_as air.flip air.read word) (length K) (commits K target) 0 (air.copies own target number)
    copies = ap (λ n. copies_from (read_as air.flip air.read word) n (made_at old target).commits 0 plans) f ∙ ap (λ (m : Made). copies_from (read_as air.flip air.read word) (length K) m.commits 0 plans) (k.made target hj) ∙ ap (copies_from (read_as air.flip air.read word) (length K) (commits K target) 0) g

    moved : (a b : ℕ) → own ≡ a → target ≡ b → copies_from (read_as air.flip air.read word) (length K) (commits K target) 0 (air.copies own target number) ≡ copies_from (read_as air.flip air.read word) (length K) (commits K b) 0 (air.copies a b number)
    moved a b p q = ap (λ x. copies_from (read_as air.flip air.read word) (length K) (commits K target) 0 (air.copies x target number)) p ∙ ap (λ y. copies_from (read_as air.flip air.read word) (length K) (commits K y) 0 (air.copies a y number)) q

    at_pair : (a b : ℕ) → ((eqb own a && eqb target b) ≡ true) ⊎ ((eqb own a && eqb target b) ≡ false) →
        cond (eqb own a && eqb target b) (waiting air K a b ++ copies_from (read_as air.flip air.read word) at (made_at old target).commits 0 plans) (waiting air K a b) ≡ waiting air (Send own target number word ∷ K) a b
    at_pair a b (inl y) =
        let p = and_parts _ _ y in
        cond-true (eqb own a && eqb target b) _ _ y ∙ ap (λ c. waiting air K a b ++ c) (copies ∙ moved a b (eqb-true own a p.0) (eqb-true target b p.1)) ∙ sym (cond-true (eqb own a && eqb target b) _ _ y)
    at_pair a b (inr n) = cond-false (eqb own a && eqb target b) _ _ n ∙ sym (cond-false (eqb own a && eqb target b) _ _ n)

-- ---- after a take

taken-is : (air : Air) (K : List Entry) (own send copy sender a b : ℕ) (message : Option ResMsg) → message ≡ read_copy air (sent_at K send) copy → is_from (sent_at K send) b ≡ eqb sender b →
    cond (eqb own a && eqb sender b) (taken_link (link_of air K a b) (vrc_of message) (commits K a)) (link_of air K a b) ≡ link_of air (Take own send copy (is_some message) ∷ K) a b
taken-is air K own send copy sender a b None e f =
    (elim (eqb own a && eqb sender b) as (λ t. cond t (link_of air K a b) (link_of air K a b) ≡ link_of air K a b) [ true ↦ refl | false ↦ refl ])
    ∙ sym (link-take air K own send copy false a b)
taken-is air K own send copy sender a b (Some m) e f =
    ap (λ z. cond (eqb own a && eqb sender b) (let r : Link = record { cell = (link_of air K a b).cell; said = (link_of air K a b).said; sends = (link_of air K a b).sends; sent = (link_of air K a b).sent; complement = Some (let c : Complement = record { vrc = complement_read z; commits = commits K a } in c) } in r) (link_of air K a b)) e
    ∙ ap (λ q. cond (eqb own a && q) (let r : Link = record { cell = (link_of air K a b).cell; said = (link_of air K a b).said; sends = (link_of air K a b).sends; sent = (link_of air K a b).sent; complement = Some (let c : Complement = record { vrc = complement_read (read_copy air (sent_at K send) copy); commits = commits K a } in c) } in r) (link_of air K a b)) (sym f)
    ∙ sym (link-take air K own send copy true a b)

pub kept-take : (air : Air) (K : List Entry) (old new : Kept) → IsKept air K old → (own send copy sender place : ℕ) (message : Option ResMsg) (sent : Sent) →
    own < CRAFTS → sender < CRAFTS → message ≡ read_copy air (sent_at K send) copy → sent_at K send ≡ Some sent → sent.sender ≡ sender →
    remove (waiting air K sender own) place ≡ without send copy (waiting air K sender own) →
    AfterTake old new own sender place (vrc_of message) → IsKept air (Take own send copy (is_some message) ∷ K) new
kept-take air K old new k own send copy sender place message sent hi hj e here from gone s =
    record {
      made = λ a ha. s.made a ha ∙ k.made a ha;
      link = λ a b ha hb. s.link a b ha hb ∙ ap (λ (l : Link). cond (eqb own a && eqb sender b) (taken_link l (vrc_of message) (made_at old a).commits) l) (k.link a b ha hb)
          ∙ ap (λ (m : Made). cond (eqb own a && eqb sender b) (taken_link (link_of air K a b) (vrc_of message) m.commits) (link_of air K a b)) (k.made a ha)
          ∙ taken-is air K own send copy sender a b message e (is_from_it b);
      queue = λ a b ha hb. s.queue a b ha hb ∙ ap (λ q. cond (eqb sender a && eqb own b) (remove q place) q) (k.queue a b ha hb) ∙ at_pair a b (cases_Bool (eqb own b && is_from (sent_at K send) a));
    }
  where
    is_from_it : (b : ℕ) → is_from (sent_at K send) b ≡ eqb sender b
    is_from_it b = ap (λ o. is_from o b) here ∙ ap (λ x. eqb x b) from

    at_pair : (a b : ℕ) → ((eqb own b && is_from (sent_at K send) a) ≡ true) ⊎ ((eqb own b && is_from (sent_at K send) a) ≡ false) →
        cond (eqb sender a && eqb own b) (remove (waiting air K a b) place) (waiting air K a b) ≡ waiting air (Take own send copy (is_some message) ∷ K) a b
    at_pair a b (inl y) =
        let p = and_parts _ _ y in
        let o : own ≡ b = eqb-true own b p.0 in
        let f : sender ≡ a = eqb-true sender a (sym (is_from_it a) ∙ p.1) in
        cond-true (eqb sender a && eqb own b) _ _ (and_from _ _ (sym (is_from_it a) ∙ p.1) p.0)
        ∙ subst (λ x. remove (waiting air K x b) place ≡ without send copy (waiting air K x b)) f (subst (λ x. remove (waiting air K sender x) place ≡ without send copy (waiting air K sender x)) o gone)
        ∙ sym (cond-true (eqb own b && is_from (sent_at K send) a) _ _ y)
    at_pair a b (inr n) =
        let m : (eqb own b && eqb sender a) ≡ false = ap (λ q. eqb own b && q) (sym (is_from_it a)) ∙ n in
        cond-false (eqb sender a && eqb own b) _ _ (elim (and_cases (eqb own b) (eqb sender a) m) [ inl g ↦ and_right _ _ g | inr g ↦ and_left _ _ g ])
        ∙ sym (cond-false (eqb own b && is_from (sent_at K send) a) _ _ n)

-- ---- after a commit

pub kept-commit : (air : Air) (K : List Entry) (old new : Kept) → IsKept air K old → (own cycle : ℕ) (cells : Cells) (many : Bool) → many ≡ has_many cells →
    AfterCommit old new own cells many → IsKept air (Commit own cycle cells ∷ K) new
kept-commit air K old new k own cycle cells many e s =
    record {
      made = λ a ha. s.made a ha ∙ ap (λ (m : Made). cond (eqb own a) (let r : Made = record { commits = m.commits + 1; many = many } in r) m) (k.made a ha)
          ∙ ap (λ n. cond (eqb own a) (let r : Made = record { commits = commits K a + 1; many = n } in r) (made_of K a)) e ∙ sym (made-commit K own cycle cells a);
      link = λ a b ha hb. s.link a b ha hb ∙ ap (λ (l : Link). cond (eqb own a) (committed_link l (cell_at cells b)) l) (k.link a b ha hb) ∙ sym (link-commit air K own cycle cells a b);
      queue = λ a b ha hb. s.queue a b ha hb ∙ k.queue a b ha hb;
    }
