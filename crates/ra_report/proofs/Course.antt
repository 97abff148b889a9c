-- What an aircraft's own commits tell, with one commit more.
use Rattle.std.proofs.Common.{◌≡◌, ℕ, zero, suc, ◌+◌, ◌<◌, ◌≤◌, ◌||◌, Bool, true, false, cond, eqb, List, [], ◌∷◌, length, Option, Some, None, option_map, refl, sym, ap, ◌∙◌, arith, inl, inr, lt-ltb, le-ltb, ne_eqb}
use Rattle.std.specs.Prelude.{nat_lt, option_and_then, slice_index_or}
use Rattle.std.specs.List.{list_any}
use Rattle.std.proofs.lemmas.Bool.{cases_lt, cond-false, cond-true}
use Rattle.acas_base.specs.Encounter.{Parts}
use Rattle.acas_base.specs.Senses.{is_same_sense, other_sense}
use Rattle.acas_base.specs.declared.TheConstants.{CRAFTS}
use Rattle.acas_base.specs.declared.advisory.Cell.{Cell}
use Rattle.acas_base.specs.declared.advisory.Cell.TheVariants.{Clear, Ra, Traffic}
use Rattle.acas_base.specs.declared.advisory.Cells.{Cells}
use Rattle.acas_base.specs.declared.advisory.Intent.{Intent}
use Rattle.acas_base.specs.declared.advisory.Sense.{Sense}
use Rattle.acas_base.specs.declared.advisory.Sense.TheVariants.{Down, Up}
use Rattle.air_journal.specs.Airs.{address_of}
use Rattle.air_rules.specs.Journal.{cell_at}
use Rattle.ra_report.specs.Blocks.{advice, block_for, course, course_from, ended, fresh_block, has_had, held_block, is_increase, is_none, is_positive, only_one, threats}
use Rattle.ra_report.specs.Stories.{AreAfter, IsAmong, IsStory, as_threats, fresh, had, held_after, held_of, no_senses, older, senses_after, senses_of, told}
use Rattle.ra_block.specs.declared.block.RaBlock.{RaBlock}
use Rattle.ra_report.specs.declared.story.Held.{Held}
use Rattle.ra_report.specs.declared.story.Senses.{Senses}
use Rattle.ra_report.specs.declared.story.Story.{Story}
use Rattle.ra_report.specs.declared.story.Threats.{Threats}
use Rattle.ra_report.proofs.Ranges.{threats-among}

-- ---- senses

abbrev had_in : List Intent → Sense → Bool
had_in row sense = list_any (λ (it : Intent). is_same_sense it.sense sense) row

senses-from : (cell : Cell) (rest : List Intent) →
    (let s : Senses = record { up = had_in (course_from cell rest) Up; down = had_in (course_from cell rest) Down } in s) ≡ senses_after (record { up = had_in rest Up; down = had_in rest Down }) cell
senses-from Clear rest = refl
senses-from Traffic rest = refl
senses-from (Ra it) rest =
    elim (eqb it.age 1) as (λ t. (let s : Senses = record { up = is_same_sense it.sense Up || had_in (cond t [] rest) Up; down = is_same_sense it.sense Down || had_in (cond t [] rest) Down } in s)
    ≡ (let s : Senses = record { up = is_same_sense it.sense Up || cond t false (had_in rest Up); down = is_same_sense it.sense Down || cond t false (had_in rest Down) } in s)) [ true ↦ refl | false ↦ refl ]

senses-more : (cells : Cells) (before : List Cells) (other : ℕ) → senses_of (cells ∷ before) other ≡ senses_after (senses_of before other) (cell_at cells other)
senses-more cells before other = senses-from (cell_at cells other) (course before other)

had-same : (senses : Senses) (commits : List Cells) (other : ℕ) → senses ≡ senses_of commits other → (sense : Sense) → had senses sense ≡ has_had commits other sense
had-same senses commits other is Up = ap (λ (s : Senses). s.up) is
had-same senses commits other is Down = ap (λ (s : Senses). s.down) is

block-same : (address : ℕ) (f g : Sense → Bool) (cell : Cell) → ((sense : Sense) → f sense ≡ g sense) → block_for address f cell ≡ block_for address g cell
block-same address f g Clear same = refl
block-same address f g Traffic same = refl
block-same address f g (Ra it) same =
    ap (λ (reversal : Bool). Some (let b : RaBlock = record {
      corrective = it.corrective;
      downward = is_same_sense it.sense Down;
      increased = is_increase it.strength;
      reversal = reversal;
      crossing = it.crossing;
      positive = is_positive it.strength;
      below = false;
      above = false;
      ended = false;
      threat = address;
    } in b)) (same (other_sense it.sense))

-- ---- the story of one commit more

pub story-more : (e : Parts) (commits : List Cells) (cells : Cells) (old new : Story) (found : Threats) → length e.crafts ≤ CRAFTS → AreAfter old.senses cells new.senses →
    found ≡ as_threats (threats (length e.crafts) cells) → new.held ≡ held_after e old.held cells new.senses found → IsStory e commits old → IsStory e (cells ∷ commits) new
story-more e commits cells old new found few after threats_are held is = record {
  size = after.size;
  senses = senses;
  held = held ∙ ap (held_after e old.held cells new.senses) threats_are ∙ by_list (threats (length e.crafts) cells) (threats-among cells (length e.crafts));
}
  where
    senses : (other : ℕ) → other < CRAFTS → slice_index_or new.senses other no_senses ≡ senses_of (cells ∷ commits) other
    senses other h = after.each other h ∙ ap (λ (s : Senses). senses_after s (cell_at cells other)) (is.senses other h) ∙ sym (senses-more cells commits other)

    by_list : (xs : List ℕ) → IsAmong (length e.crafts) (as_threats xs) → held_after e old.held cells new.senses (as_threats xs)
        ≡ cond (is_none xs) (option_and_then older (held_of e commits)) (option_map fresh (option_and_then (λ other. block_for (address_of e other) (has_had (cells ∷ commits) other) (cell_at cells other)) (only_one xs)))
    by_list [] among = ap (option_and_then older) is.held
    by_list (one ∷ []) among =
        ap (option_map fresh) (block-same (address_of e one) (had (slice_index_or new.senses one no_senses)) (has_had (cells ∷ commits) one) (cell_at cells one) (had-same (slice_index_or new.senses one no_senses) (cells ∷ commits) one (senses one (omega (arith, few, among)))))
    by_list (one ∷ another ∷ rest) among = refl

-- ---- what is held

abbrev in_time : ℕ → Held → Option RaBlock
in_time n held = cond (nat_lt held.since n) (Some held.block) None

never : (o : Option Held) → None ≡ option_and_then (in_time 0) o
never None = refl
never (Some held) = sym (cond-false (nat_lt held.since 0) (Some held.block) None (le-ltb held.since 0 (omega arith)))

once-older : (n : ℕ) → suc n ≤ 18 → (o : Option Held) → option_and_then (in_time n) o ≡ option_and_then (in_time (suc n)) (option_and_then older o)
once-older n few None = refl
once-older n few (Some held) = elim (cases_lt held.since n) [
  | inl less ↦
      cond-true (nat_lt held.since n) (Some held.block) None (lt-ltb held.since n less)
      ∙ sym (ap (option_and_then (in_time (suc n))) (cond-true (nat_lt held.since 18) (Some aged) None (lt-ltb held.since 18 (omega arith))) ∙ cond-true (nat_lt (held.since + 1) (suc n)) (Some held.block) None (lt-ltb (held.since + 1) (suc n) (omega arith)))
  | inr past ↦
      cond-false (nat_lt held.since n) (Some held.block) None (le-ltb held.since n past) ∙ elim (cases_lt held.since 18) [
        | inl less ↦ sym (ap (option_and_then (in_time (suc n))) (cond-true (nat_lt held.since 18) (Some aged) None (lt-ltb held.since 18 less)) ∙ cond-false (nat_lt (held.since + 1) (suc n)) (Some held.block) None (le-ltb (held.since + 1) (suc n) (omega arith)))
        | inr gone ↦ sym (ap (option_and_then (in_time (suc n))) (cond-false (nat_lt held.since 18) (Some aged) None (le-ltb held.since 18 gone)))
      ]
]
  where
    aged : Held
    aged = record { block = held.block; since = held.since + 1 }

new-held : (n : ℕ) (o : Option RaBlock) → o ≡ option_and_then (in_time (suc n)) (option_map fresh o)
new-held n None = refl
new-held n (Some block) = sym (cond-true (nat_lt 0 (suc n)) (Some block) None (lt-ltb 0 (suc n) (omega arith)))

held-is : (e : Parts) (n : ℕ) (commits : List Cells) → n ≤ 18 → held_block e n commits ≡ option_and_then (in_time n) (held_of e commits)
held-is e zero commits few = never (held_of e commits)
held-is e (suc n) [] few = refl
held-is e (suc n) (cells ∷ before) few =
    let ih = held-is e n before (omega arith) in
    elim (is_none (threats (length e.crafts) cells)) as (λ t. cond t (held_block e n before) (fresh_block e (cells ∷ before))
    ≡ option_and_then (in_time (suc n)) (cond t (option_and_then older (held_of e before)) (option_map fresh (fresh_block e (cells ∷ before))))) [
      | true ↦ ih ∙ once-older n few (held_of e before)
      | false ↦ new-held n (fresh_block e (cells ∷ before))
    ]

told-older : (o : Option Held) → option_map ended (option_and_then (in_time 18) o) ≡ option_map told (option_and_then older o)
told-older None = refl
told-older (Some held) =
    elim (nat_lt held.since 18) as (λ t. option_map ended (cond t (Some held.block) None) ≡ option_map told (cond t (Some (record { block = held.block; since = held.since + 1 })) None)) [
      | true ↦ ap Some (sym (cond-false (eqb (held.since + 1) 0) held.block (ended held.block) (ne_eqb (held.since + 1) 0 (λ e. omega arith))))
      | false ↦ refl
    ]

told-fresh : (o : Option RaBlock) → o ≡ option_map told (option_map fresh o)
told-fresh None = refl
told-fresh (Some block) = refl

-- The block after a commit is what is told of the one held.
pub advice-is : (e : Parts) (cells : Cells) (before : List Cells) → option_map told (held_of e (cells ∷ before)) ≡ advice e (cells ∷ before)
advice-is e cells before =
    elim (is_none (threats (length e.crafts) cells)) as (λ t. option_map told (cond t (option_and_then older (held_of e before)) (option_map fresh (fresh_block e (cells ∷ before))))
    ≡ cond t (option_map ended (held_block e 18 before)) (fresh_block e (cells ∷ before))) [
      | true ↦ sym (ap (option_map ended) (held-is e 18 before (omega arith)) ∙ told-older (held_of e before))
      | false ↦ sym (told-fresh (fresh_block e (cells ∷ before)))
    ]
