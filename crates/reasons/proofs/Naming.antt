-- The message that a reason names.
use Rattle.std.proofs.Common.{◌≡◌, ◌≢◌, ℕ, ◌+◌, ◌<◌, ◌≤◌, Bool, true, false, List, [], ◌∷◌, length, Option, Some, None, refl, sym, ap, subst, ◌∙◌, arith, eqb-true, inl, inr}
use Rattle.std.specs.Prelude.{◌==◌, ◌&&◌, if◌then◌else◌, nat_lt}
use Rattle.std.proofs.lemmas.Bool.{and_parts}
use Rattle.std.proofs.lemmas.Bool.Decides.{nat_tests}
use Rattle.acas_base.specs.declared.advisory.Vrc.{Vrc}
use Rattle.acas_base.specs.declared.advisory.Vrc.TheVariants.{Nil, NotBelow, NotAbove}
use Rattle.acas_base.specs.declared.entry.Entry.{Entry}
use Rattle.acas_base.specs.declared.entry.Entry.TheVariants.{Commit, Send, Take}
use Rattle.air_journal.specs.Airs.{air_of}
use Rattle.air_rules.proofs.Pace.{count-rises}
use Rattle.air_rules.proofs.Positions.{chosen}
use Rattle.air_rules.specs.Air.{Air}
use Rattle.air_rules.specs.Journal.{Begins, commits, is_commit_of, more, sent_at, whole}
use Rattle.air_rules.specs.Takes.{Taken, complement_from, complement_read, is_from, lapse, last_take, read_copy, vrc_in_force}
use Rattle.journal_reader.specs.Reading.{taken_at}
use Rattle.reasons.specs.Aboard.{IsNamed, NamesItsMessage}
use Rattle.reasons.specs.Reasons.{reason_of, told_by, told_from, told_of}
use Rattle.reasons.specs.declared.told.Told.{Told}

-- The last good take, and its place.
record IsTaken (air : Air) (K : List Entry) (own other : ℕ) (taken : Taken) (at : ℕ) : Type 0 where
  before : List Entry
  copy : ℕ
  there : Begins (Take own taken.send copy true ∷ before) K
  place : length before ≡ at
  sender : is_from (sent_at before taken.send) other ≡ true
  reads : complement_read (read_copy air (sent_at before taken.send) copy) ≡ taken.vrc
  commits_are : commits before own ≡ taken.commits
  risen : commits before own ≤ commits K own

past : (air : Air) (x : Entry) (K : List Entry) (own other : ℕ) (taken : Taken) (at : ℕ) → IsTaken air K own other taken at → IsTaken air (x ∷ K) own other taken at
past air x K own other taken at is = record {
  before = is.before;
  copy = is.copy;
  there = more is.there;
  place = is.place;
  sender = is.sender;
  reads = is.reads;
  commits_are = is.commits_are;
  risen = let rises = count-rises (is_commit_of own) x K in let risen = is.risen in omega arith;
}

is-taken : (air : Air) (K : List Entry) (own other : ℕ) (taken : Taken) (at : ℕ) → last_take air K own other ≡ Some taken → taken_at K own other ≡ Some at → IsTaken air K own other taken at
is-taken air [] own other taken at e g = absurd cc
is-taken air (Commit who cycle cells ∷ K) own other taken at e g = past air (Commit who cycle cells) K own other taken at (is-taken air K own other taken at e g)
is-taken air (Send who target number word ∷ K) own other taken at e g = past air (Send who target number word) K own other taken at (is-taken air K own other taken at e g)
is-taken air (Take who send copy good ∷ K) own other taken at e g = elim (chosen test _ _ _ e) [
  | inl a ↦
      let p = and_parts good (who == own && is_from (sent_at K send) other) a.0 in
      let q = and_parts (who == own) (is_from (sent_at K send) other) p.1 in
      let t : here ≡ taken = (let f = a.1 in cc) in
      let at_is : length K ≡ at = by_place a.0 in
      subst (λ (x : Taken). IsTaken air (Take who send copy good ∷ K) own other x at) t (record {
        before = K;
        copy = copy;
        there = subst (λ (b : Bool). Begins (Take own send copy b ∷ K) (Take who send copy good ∷ K)) p.0 (subst (λ (w : ℕ). Begins (Take w send copy good ∷ K) (Take who send copy good ∷ K)) (eqb-true who own q.0) whole);
        place = at_is;
        sender = q.1;
        reads = refl;
        commits_are = refl;
        risen = omega arith;
      })
  | inr a ↦ past air (Take who send copy good) K own other taken at (is-taken air K own other taken at a.1 (by_rest a.0))
]
  where
    test : Bool
    test = good && (who == own && is_from (sent_at K send) other)

    here : Taken
    here = record { send = send; vrc = complement_read (read_copy air (sent_at K send) copy); commits = commits K own }

    by_place : test ≡ true → length K ≡ at
    by_place y = elim (chosen test (Some (length K)) (taken_at K own other) (Some at) g) [
      | inl b ↦ let f = b.1 in cc
      | inr b ↦ let f = b.0 in absurd cc
    ]

    by_rest : test ≡ false → taken_at K own other ≡ Some at
    by_rest n = elim (chosen test (Some (length K)) (taken_at K own other) (Some at) g) [
      | inl b ↦ let f = b.0 in absurd cc
      | inr b ↦ b.1
    ]

-- What binds hasn't lapsed.
bound : (taken : Taken) (n : ℕ) → vrc_in_force (Some taken) n ≢ Nil → (vrc_in_force (Some taken) n ≡ taken.vrc) × (n < taken.commits + lapse)
bound taken n binds = go (nat_lt n (taken.commits + lapse)) refl binds
  where
    go : (b : Bool) → nat_lt n (taken.commits + lapse) ≡ b → (if b then taken.vrc else Nil) ≢ Nil → ((if b then taken.vrc else Nil) ≡ taken.vrc) × (n < taken.commits + lapse)
    go true e h = (refl, grind (arith, nat_tests))
    go false e h = absurd (h refl)

-- What was told was told by a take, and binds.
record IsTold (complement : Vrc) (n : ℕ) (last : Option Taken) (at : Option ℕ) (it : Told) : Type 0 where
  taken : Taken
  place : ℕ
  last_is : last ≡ Some taken
  at_is : at ≡ Some place
  binds : complement ≢ Nil
  told_is : told_from complement n taken place ≡ it

is-told : (complement : Vrc) (n : ℕ) (last : Option Taken) (at : Option ℕ) (it : Told) → told_by complement n last at ≡ Some it → IsTold complement n last at it
is-told Nil n last at it e = absurd cc
is-told NotBelow n None at it e = absurd cc
is-told NotBelow n (Some taken) None it e = absurd cc
is-told NotBelow n (Some taken) (Some place) it e = record { taken = taken; place = place; last_is = refl; at_is = refl; binds = λ never. cc; told_is = cc }
is-told NotAbove n None at it e = absurd cc
is-told NotAbove n (Some taken) None it e = absurd cc
is-told NotAbove n (Some taken) (Some place) it e = record { taken = taken; place = place; last_is = refl; at_is = refl; binds = λ never. cc; told_is = cc }

pub names-its-message : NamesItsMessage
unfolding told_of reason_of
names-its-message e K own cycle cells other it told =
    let air = air_of e in
    let made = commits K own in
    let complement = complement_from air K own other in
    let is = is-told complement made (last_take air K own other) (taken_at K own other) it told in
    let take = is-taken air K own other is.taken is.place is.last_is is.at_is in
    let force : complement ≡ vrc_in_force (Some is.taken) made = ap (λ (o : Option Taken). vrc_in_force o made) is.last_is in
    let b = bound is.taken made (λ n. is.binds (force ∙ n)) in
    let few = b.1 in
    let counted = take.commits_are in
    let risen = take.risen in
    subst (λ (x : Told). IsNamed air K own other x) is.told_is (record {
      before = take.before;
      copy = take.copy;
      there = take.there;
      place = take.place;
      sender = take.sender;
      reads = take.reads ∙ sym b.0 ∙ sym force;
      commits_are = omega arith;
      in_force = omega arith;
    })
