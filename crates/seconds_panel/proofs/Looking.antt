-- What is kept while own aircraft looks, cycle by cycle.
use Rattle.std.proofs.Common.{◌≡◌, ℕ, ◌+◌, ◌-◌, ◌<◌, ◌≤◌, List, Option, None, get_or, length, length-set, set, eqb, subst, sym, ap, ap₂, ◌∙◌, arith, inl, inr}
use Rattle.std.proofs.lemmas.Bool.{cases_eq, cond_both}
use Rattle.std.proofs.lemmas.List.{get_or-set_other, get_or-set_same}
use Rattle.acas_base.specs.Encounter.{IsEncounter, Parts, most_crafts}
use Rattle.acas_base.specs.declared.TheConstants.{CRAFTS}
use Rattle.acas_num.specs.declared.track.TrackState.{TrackState}
use Rattle.craft_view.specs.Kept.{Belongs, Kept, kept_of}
use Rattle.craft_view.specs.KnownTracks.{motion_of}
use Rattle.craft_view.specs.declared.tracks.Tracks.{Tracks}
use Rattle.seconds_panel.specs.Own.{tested}
use Rattle.seconds_panel.specs.Seconds.{AreSeconds, motion_in, seconds_in}
use Rattle.seconds_panel.specs.declared.own.TestedPair.{TestedPair}
use Rattle.test_seconds.specs.declared.pair.PairSeconds.{PairSeconds}

-- No encounter has more than 16 aircraft.
pub few : (e : Parts) → IsEncounter e → length e.crafts ≤ CRAFTS
few e is =
    let a = is.crafts.few in
    let b : most_crafts e.version ≤ 16 = cond_both (eqb e.version 1) 8 CRAFTS (λ n. n ≤ 16) (λ _. omega arith) (λ _. omega arith) in
    omega arith

-- With those of one cycle more.
pub more : (e : Parts) (pair : TestedPair) (cycle place : ℕ) (list : List (Option PairSeconds)) (seconds : Option PairSeconds) → AreSeconds e pair (cycle - 1) list → length list ≡ 600 → 1 ≤ cycle → cycle ≤ 600 →
    place ≡ cycle - 1 → seconds ≡ seconds_in e pair cycle → AreSeconds e pair ((cycle + 1) - 1) (set list place seconds)
more e pair cycle place list seconds are size begun few at is = λ k first last. elim (cases_eq k cycle) [
  | inl here ↦
      (let here_it_is : k - 1 ≡ place = omega arith in
      ap (λ (n : ℕ). get_or (set list place seconds) n None) here_it_is ∙ get_or-set_same list place seconds None (omega arith) ∙ is ∙ ap (seconds_in e pair) (sym here))
  | inr apart ↦ get_or-set_other list place (k - 1) seconds None (λ q. apart (omega arith)) ∙ are k first (omega arith)
]

pub same-size : (list : List (Option PairSeconds)) (place : ℕ) (seconds : Option PairSeconds) → length list ≡ 600 → length (set list place seconds) ≡ 600
same-size list place seconds size = length-set list place seconds ∙ size

-- What the kept tracks say is what the sight says.
pub motion-is : (e : Parts) (craft : Kept) (other : ℕ) → Belongs e craft → other < CRAFTS → motion_of craft.altitude (kept_of craft other) ≡ motion_in e (tested craft.own other) craft.cycle
motion-is e craft other belongs few = ap₂ (λ (own : TrackState) (tracks : Tracks). motion_of own tracks) belongs.altitude (belongs.tracks other few)
