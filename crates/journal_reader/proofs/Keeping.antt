-- What each entry changes in what a reader keeps.
use Rattle.std.proofs.Common.{◌≡◌, ◌⊎◌, ℕ, ◌+◌, ◌<◌, Bool, true, false, ◌&&◌, cond, eqb, List, [], ◌∷◌, length, length-set, set, get_or, Option, Some, None, is_some, option_map, unwrap_or, sym, refl, ap, ◌∙◌, subst, arith, inl, inr, eqb-true, eq-eqb, ne_eqb}
use Rattle.std.specs.Prelude.{option_and_then}
use Rattle.std.proofs.lemmas.Bool.{cases_Bool, cases_eq, cond-false, cond-true}
use Rattle.std.proofs.lemmas.List.{get_or-set_other, get_or-set_same}
use Rattle.acas_base.specs.Senses.{has_sense, is_same_sense, sense_of}
use Rattle.acas_base.specs.declared.TheConstants.{CRAFTS}
use Rattle.acas_base.specs.declared.advisory.Cell.{Cell}
use Rattle.acas_base.specs.declared.advisory.Cell.TheVariants.{Clear, Ra, Traffic}
use Rattle.acas_base.specs.declared.advisory.Cells.{Cells}
use Rattle.acas_base.specs.declared.advisory.Sense.{Sense}
use Rattle.acas_base.specs.declared.advisory.Sense.TheVariants.{Down, Up}
use Rattle.acas_base.specs.declared.entry.Entry.{Entry}
use Rattle.acas_base.specs.declared.entry.Entry.TheVariants.{Commit, Send, Take}
use Rattle.air_rules.proofs.Pace.{count-no, count-yes}
use Rattle.air_rules.proofs.Running.{has-from, has-run-by-sense, run-sense, same-refl, sense-has}
use Rattle.air_rules.specs.Air.{Air}
use Rattle.air_rules.specs.Journal.{Sent, before_last_commit, cell_at, commits, is_commit_of, last_cell, sent_at}
use Rattle.air_rules.specs.Runs.{run_began}
use Rattle.air_rules.specs.Takes.{complement_read, is_from, last_take, read_copy}
use Rattle.journal_reader.specs.Links.{IsKept, PairIs, RowIs, committed_link, good_take, link_at, link_of, taken_link}
use Rattle.journal_reader.specs.Reading.{present_run, taken_at, taken_of}
use Rattle.journal_reader.specs.declared.links.GoodTake.{GoodTake}
use Rattle.journal_reader.specs.declared.links.Link.{Link}

-- ---- the run after a commit

-- The run of this sense that began before, or begins at the commit.
run-or-new : (K : List Entry) (own other : ℕ) (sense : Sense) → Some (unwrap_or (run_began K own other sense) (length K)) ≡ cond (has_sense (last_cell K own other) sense) (present_run K own other) (Some (length K))
run-or-new K own other sense = elim (cases_Bool (has_sense (last_cell K own other) sense)) [
  | inl has ↦
      let last : sense_of (last_cell K own other) ≡ Some sense = sense-has (last_cell K own other) sense has in
      let present : present_run K own other ≡ run_began K own other sense = ap (λ (o : Option Sense). option_and_then (λ s. run_began K own other s) o) last in
      there (run_began K own other sense) ((has-run-by-sense.there K own other sense).0 last) ∙ sym present ∙ sym (cond-true (has_sense (last_cell K own other) sense) (present_run K own other) (Some (length K)) has)
  | inr none ↦
      gone (run_began K own other sense) refl none ∙ sym (cond-false (has_sense (last_cell K own other) sense) (present_run K own other) (Some (length K)) none)
]
  where
    there : (o : Option ℕ) → is_some o ≡ true → Some (unwrap_or o (length K)) ≡ o
    there None some = absurd (cc)
    there (Some b) some = refl

    gone : (o : Option ℕ) → run_began K own other sense ≡ o → has_sense (last_cell K own other) sense ≡ false → Some (unwrap_or o (length K)) ≡ Some (length K)
    gone None e none = refl
    gone (Some b) e none = absurd (let has = has-from (last_cell K own other) sense (run-sense K own other sense b e) in let z : true ≡ false = sym has ∙ none in cc)

run-commit : (K : List Entry) (own other : ℕ) (cell : Cell) →
    option_and_then (λ sense. cond (has_sense cell sense) (Some (unwrap_or (run_began K own other sense) (length K))) None) (sense_of cell)
    ≡ option_and_then (λ sense. cond (has_sense (last_cell K own other) sense) (present_run K own other) (Some (length K))) (sense_of cell)
run-commit K own other Clear = refl
run-commit K own other Traffic = refl
run-commit K own other (Ra it) =
    cond-true (is_same_sense it.sense it.sense) (Some (unwrap_or (run_began K own other it.sense) (length K))) None (same-refl it.sense) ∙ run-or-new K own other it.sense

-- ---- one pair

link-commit : (air : Air) (K : List Entry) (own cycle : ℕ) (cells : Cells) (a b : ℕ) →
    link_of air (Commit own cycle cells ∷ K) a b ≡ cond (eqb own a) (committed_link (link_of air K a b) (cell_at cells b) (length K)) (link_of air K a b)
link-commit air K own cycle cells a b =
    elim (eqb own a) as (λ t. (let r : Link = record {
      cell = cond t (cell_at cells b) (last_cell K a b);
      run = option_and_then (λ sense. cond t (cond (has_sense (cell_at cells b) sense) (Some (unwrap_or (run_began K a b sense) (length K))) None) (run_began K a b sense)) (sense_of (cond t (cell_at cells b) (last_cell K a b)));
      taken = good_take air K a b;
      bound = good_take air (cond t K (before_last_commit K a)) a b;
    } in r)
    ≡ cond t (committed_link (link_of air K a b) (cell_at cells b) (length K)) (link_of air K a b)) [
      | true ↦ ap (λ (run : Option ℕ). let r : Link = record { cell = cell_at cells b; run = run; taken = good_take air K a b; bound = good_take air K a b } in r) (run-commit K a b (cell_at cells b))
      | false ↦ refl
    ]

link-take : (air : Air) (K : List Entry) (own send copy : ℕ) (good : Bool) (a b : ℕ) →
    link_of air (Take own send copy good ∷ K) a b ≡ cond (good && (eqb own a && is_from (sent_at K send) b))
    (taken_link (link_of air K a b) (record { at = length K; send = send; vrc = complement_read (read_copy air (sent_at K send) copy); commits = commits K a })) (link_of air K a b)
link-take air K own send copy good a b =
    elim (good && (eqb own a && is_from (sent_at K send) b)) as (λ t. (let r : Link = record {
      cell = last_cell K a b;
      run = present_run K a b;
      taken = cond t (Some (record { at = length K; send = send; vrc = complement_read (read_copy air (sent_at K send) copy); commits = commits K a })) (good_take air K a b);
      bound = good_take air (before_last_commit K a) a b;
    } in r)
    ≡ cond t (taken_link (link_of air K a b) (record { at = length K; send = send; vrc = complement_read (read_copy air (sent_at K send) copy); commits = commits K a })) (link_of air K a b)) [ true ↦ refl | false ↦ refl ]

-- ---- all that is kept

pub kept-commit : (air : Air) (K : List Entry) (counts : List ℕ) (old new : List Link) → IsKept air K counts old → (own cycle at : ℕ) (cells : Cells) → own < CRAFTS → at ≡ length K →
    RowIs old new own cells at → IsKept air (Commit own cycle cells ∷ K) (set counts own (get_or counts own 0 + 1)) new
kept-commit air K counts old new k own cycle at cells within position row = record {
  crafts = length-set counts own (get_or counts own 0 + 1) ∙ k.crafts;
  pairs = row.size;
  count = λ a ha. elim (cases_eq own a) [
    | inl same ↦
        subst (λ (n : ℕ). get_or (set counts own (get_or counts own 0 + 1)) n 0 ≡ commits (Commit own cycle cells ∷ K) n) same
        (get_or-set_same counts own (get_or counts own 0 + 1) 0 (let n = k.crafts in omega arith) ∙ ap (λ (n : ℕ). n + 1) (k.count own within) ∙ sym (count-yes (is_commit_of own) (Commit own cycle cells) K (eq-eqb own own refl)))
    | inr other ↦
        get_or-set_other counts own a (get_or counts own 0 + 1) 0 (λ e. other (sym e)) ∙ k.count a ha ∙ sym (count-no (is_commit_of a) (Commit own cycle cells) K (ne_eqb own a other))
  ];
  link = λ a b ha hb. elim (cases_eq own a) [
    | inl same ↦
        subst (λ (n : ℕ). link_at new n b ≡ link_of air (Commit own cycle cells ∷ K) n b) same
        (row.row b hb ∙ ap (λ (l : Link). committed_link l (cell_at cells b) at) (k.link own b within hb) ∙ ap (committed_link (link_of air K own b) (cell_at cells b)) position
        ∙ sym (link-commit air K own cycle cells own b ∙ cond-true (eqb own own) _ _ (eq-eqb own own refl)))
    | inr other ↦
        row.others a b ha hb (λ e. other (sym e)) ∙ k.link a b ha hb ∙ sym (link-commit air K own cycle cells a b ∙ cond-false (eqb own a) _ _ (ne_eqb own a other))
  ];
}

pub kept-send : (air : Air) (K : List Entry) (counts : List ℕ) (links : List Link) → IsKept air K counts links → (own target number word : ℕ) → IsKept air (Send own target number word ∷ K) counts links
kept-send air K counts links k own target number word = record { crafts = k.crafts; pairs = k.pairs; count = k.count; link = k.link }

pub kept-spoilt : (air : Air) (K : List Entry) (counts : List ℕ) (links : List Link) → IsKept air K counts links → (own send copy : ℕ) → IsKept air (Take own send copy false ∷ K) counts links
kept-spoilt air K counts links k own send copy = record { crafts = k.crafts; pairs = k.pairs; count = k.count; link = k.link }

pub kept-take : (air : Air) (K : List Entry) (counts : List ℕ) (old new : List Link) → IsKept air K counts old → (own send copy sender : ℕ) (sent : Sent) (taken : GoodTake) →
    own < CRAFTS → sender < CRAFTS → sent_at K send ≡ Some sent → sent.sender ≡ sender →
    taken ≡ (record { at = length K; send = send; vrc = complement_read (read_copy air (sent_at K send) copy); commits = commits K own }) →
    PairIs old new own sender taken → IsKept air (Take own send copy true ∷ K) counts new
kept-take air K counts old new k own send copy sender sent taken ho hs here from is pair = record {
  crafts = k.crafts;
  pairs = pair.size;
  count = k.count;
  link = λ a b ha hb.
      pair.pair a b ha hb ∙ ap (λ (l : Link). cond (eqb own a && eqb sender b) (taken_link l taken) l) (k.link a b ha hb) ∙ at_pair a b (cases_Bool (eqb own a))
      ∙ sym (link-take air K own send copy true a b);
}
  where
    is_from_it : (b : ℕ) → is_from (sent_at K send) b ≡ eqb sender b
    is_from_it b = ap (λ (o : Option Sent). is_from o b) here ∙ ap (λ (x : ℕ). eqb x b) from

    after : ℕ → ℕ → GoodTake
    after a b = record { at = length K; send = send; vrc = complement_read (read_copy air (sent_at K send) copy); commits = commits K a }

    at_pair : (a b : ℕ) → (eqb own a ≡ true) ⊎ (eqb own a ≡ false) →
        cond (eqb own a && eqb sender b) (taken_link (link_of air K a b) taken) (link_of air K a b)
        ≡ cond (eqb own a && is_from (sent_at K send) b) (taken_link (link_of air K a b) (after a b)) (link_of air K a b)
    at_pair a b (inl same) =
        ap (λ (q : Bool). cond (eqb own a && q) (taken_link (link_of air K a b) taken) (link_of air K a b)) (sym (is_from_it b))
        ∙ ap (λ (t : GoodTake). cond (eqb own a && is_from (sent_at K send) b) (taken_link (link_of air K a b) t) (link_of air K a b)) (is ∙ ap (λ (n : ℕ). after n b) (eqb-true own a same))
    at_pair a b (inr other) =
        rw other refl

-- ---- good takes

pub take-is : (air : Air) (K : List Entry) (own other : ℕ) → option_map taken_of (good_take air K own other) ≡ last_take air K own other
take-is air [] own other = refl
take-is air (Commit craft cycle cells ∷ K) own other = take-is air K own other
take-is air (Send craft target number word ∷ K) own other = take-is air K own other
take-is air (Take craft send copy good ∷ K) own other =
    let ih = take-is air K own other in
    elim (good && (eqb craft own && is_from (sent_at K send) other)) as (λ t.
    option_map taken_of (cond t (Some (record { at = length K; send = send; vrc = complement_read (read_copy air (sent_at K send) copy); commits = commits K own })) (good_take air K own other))
    ≡ cond t (Some (record { send = send; vrc = complement_read (read_copy air (sent_at K send) copy); commits = commits K own })) (last_take air K own other)) [ true ↦ refl | false ↦ ih ]

pub position-is : (air : Air) (K : List Entry) (own other : ℕ) → option_map (λ (take : GoodTake). take.at) (good_take air K own other) ≡ taken_at K own other
position-is air [] own other = refl
position-is air (Commit craft cycle cells ∷ K) own other = position-is air K own other
position-is air (Send craft target number word ∷ K) own other = position-is air K own other
position-is air (Take craft send copy good ∷ K) own other =
    let ih = position-is air K own other in
    elim (good && (eqb craft own && is_from (sent_at K send) other)) as (λ t.
    option_map (λ (take : GoodTake). take.at) (cond t (Some (record { at = length K; send = send; vrc = complement_read (read_copy air (sent_at K send) copy); commits = commits K own })) (good_take air K own other))
    ≡ cond t (Some (length K)) (taken_at K own other)) [ true ↦ refl | false ↦ ih ]
