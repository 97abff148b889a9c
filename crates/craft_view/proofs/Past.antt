-- Past the last aircraft.
use Rattle.std.proofs.Common.{◌≡◌, ℕ, ◌≤◌, Bool, false, List, map, length, get_or, Option, None, refl, ap, ◌∙◌, eqb, arith}
use Rattle.std.specs.Prelude.{slice_get}
use Rattle.std.specs.List.{range_with_len}
use Rattle.std.proofs.lemmas.List.FromFn.{get_or-map-range_with_len}
use Rattle.std.proofs.lemmas.Option.{slice_get_past}
use Rattle.std.proofs.lemmas.Bool.{cond_both}
use Rattle.acas_base.specs.Encounter.{IsEncounter, Parts, most_crafts}
use Rattle.acas_base.specs.declared.TheConstants.{CRAFTS}
use Rattle.acas_base.specs.declared.advisory.Cells.{Cells}
use Rattle.acas_base.specs.declared.craft.CraftSpec.{CraftSpec}
use Rattle.acas_base.specs.declared.view.Picture.{Picture}
use Rattle.acas_base.specs.declared.view.View.{View}
use Rattle.craft_view.specs.KnownTracks.{tracks_then}
use Rattle.craft_view.specs.Sight.{other_craft}
use Rattle.craft_view.specs.Views.{SayNothingFrom, asks_for, no_view, picture_after, shown, view_of}
use Rattle.craft_view.specs.declared.tracks.Tracks.{Tracks}
use Rattle.craft_view.proofs.Resolving.{see-nothing}
use Rattle.craft_view.proofs.Showing.{shown-plain}

-- No encounter has more than 16 aircraft.
pub few-crafts : (e : Parts) → IsEncounter e → length e.crafts ≤ CRAFTS
few-crafts e is =
    let most : most_crafts e.version ≤ CRAFTS = cond_both (eqb e.version 1) 8 CRAFTS (λ n. n ≤ CRAFTS) (λ _. omega arith) (λ _. omega arith) in
    omega (arith, most, is.crafts.few)

-- There is no other aircraft.
past-none : (e : Parts) (own index : ℕ) → length e.crafts ≤ index → other_craft e own index ≡ None
past-none e own index past = cond_both (eqb index own) None (slice_get e.crafts index) (λ (o : Option CraftSpec). o ≡ None) (λ _. refl) (λ _. slice_get_past e.crafts index past)

-- The tracks stay.
pub past-tracks : (e : Parts) (own cycle index : ℕ) (tracks : Tracks) → length e.crafts ≤ index → tracks ≡ tracks_then e own cycle index tracks
past-tracks e own cycle index tracks past = rw (past-none e own index past) refl

-- The view says nothing.
pub past-view : (e : Parts) (own cycle index : ℕ) → length e.crafts ≤ index → view_of e own index cycle ≡ no_view
past-view e own cycle index past = see-nothing e own index cycle (past-none e own index past)

-- So does what is shown of it.
pub past-shown : (asked : Bool) (e : Parts) (own cycle index : ℕ) → length e.crafts ≤ index → shown asked (view_of e own index cycle) ≡ no_view
past-shown asked e own cycle index past = ap (shown asked) (past-view e own cycle index past) ∙ shown-plain asked false false false

past-views : (before : Option Cells) (e : Parts) (own cycle : ℕ) (views : List View) → views ≡ map (λ target. shown (asks_for before target) (view_of e own target cycle)) (range_with_len 0 CRAFTS) → SayNothingFrom (length e.crafts) views
past-views before e own cycle views is index d past within =
    ap (λ (xs : List View). get_or xs index d) is
    ∙ get_or-map-range_with_len (λ target. shown (asks_for before target) (view_of e own target cycle)) 0 CRAFTS index index d within (omega arith)
    ∙ past-shown (asks_for before index) e own cycle index past

pub past-picture : (before : Option Cells) (e : Parts) (own cycle : ℕ) (picture : Picture) → picture ≡ picture_after before e own cycle → SayNothingFrom (length e.crafts) picture.views
unfolding picture_after
past-picture before e own cycle picture is = past-views before e own cycle picture.views (ap (λ (p : Picture). p.views) is)
