-- The canonical records of an encounter are read as that encounter.
use Rattle.std.proofs.Common.{◌≡◌, ℕ, ◌&&◌, ◌||◌, not, Bool, true, false, if◌then◌else◌, ◌*◌, is_none, List, [], ◌∷◌, ◌++◌, length, map, nat_le, Option, Some, None, Ok, IsTrue, refl, sym, ap, ◌∙◌, arith}
use Rattle.std.specs.Prelude.{unwrap_or}
use Rattle.std.specs.List.{flat_map, list_any}
use Rattle.std.proofs.lemmas.Bool.{leb-false}
use Rattle.std.proofs.lemmas.List.Elements.{All-weaker}
use Rattle.acas_base.specs.Encounter.{IsCall, IsEncounter, Parts, encounter_of, is_active}
use Rattle.acas_base.specs.Labels.{is_label}
use Rattle.acas_base.specs.declared.TheConstants.{CRAFTS}
use Rattle.acas_base.specs.declared.craft.CraftSpec.{CraftSpec}
use Rattle.acas_base.specs.declared.craft.Leg.{Leg}
use Rattle.acas_base.specs.declared.craft.Miss.{Miss}
use Rattle.acas_base.specs.declared.label.Call.{Call}
use Rattle.acas_base.specs.declared.link.Fate.{Fate}
use Rattle.acas_base.specs.declared.link.LinkPlan.{LinkPlan}
use Rattle.acas_base.specs.declared.setting.Profile.{Profile}
use Rattle.acas_base.specs.declared.setting.Profile.TheVariants.{One}
use Rattle.enc_file.specs.Canonical.{IsLabelled, canonical_records, canonical_text}
use Rattle.enc_file.specs.Earlier.{all_gains, by_group, call_group, calls_of, crafts_of, encounter_by, fate_group, gains_of, heading_of, leg_group, legs_of, miss_group, plan_group, run_of, setting_by, version_of, whole_run}
use Rattle.flight.specs.Inside.{stays_inside}
use Rattle.enc_file.specs.Faults.{fault_of, lacks_profile}
use Rattle.enc_file.specs.Reading.{Says, next_record, read_from}
use Rattle.enc_file.specs.Spelling.{call_record, climb_records, clock_records, craft_record, end_record, fate_record, gains_record, header_record, leg_record, miss_record, name_records, plan_record, profile_records, run_record}
use Rattle.enc_file.specs.declared.record.Heading.{Heading}
use Rattle.enc_file.specs.declared.record.Record.{Record}
use Rattle.enc_file.specs.declared.record.Record.TheVariants as said
use Rattle.enc_file.specs.declared.record.Run.{Run}
use Rattle.enc_file.specs.declared.record.TrackGains.{TrackGains}
use Rattle.enc_file.specs.declared.refusal.Code.{Code}
use Rattle.enc_file.specs.declared.refusal.Code.TheVariants as code
use Rattle.enc_file.proofs.Called.{sign-label}
use Rattle.enc_file.proofs.CanonicalLists.{fates-own, goes-fates, goes-legs, goes-misses, goes-plans, legs-own, misses-own, plans-own}
use Rattle.enc_file.proofs.CanonicalRead.{records-of-canonical}
use Rattle.enc_file.proofs.CanonicalSaid.{begun, begun-by, calls-own, goes-calls, goes-climbs, goes-crafts, goes-gains, goes-heading, goes-run, profile_said, whole-heading, with-crafts, with-lists, with-run}
use Rattle.enc_file.proofs.ReadBack.{Gives, Goes, Known, gives-known, goes-join, goes-next, goes-none, step-on}
use Rattle.enc_file.proofs.SaidByLines.{end-said, header-said}

-- The records between the header and the end.
middle : Parts → List (List (List ℕ))
middle e =
    [] ++ profile_records e.version e.profile ++ name_records e.name ++ clock_records e.clock ++ run_record e.cycles e.elevation ∷ gains_record e.range e.altitude ∷ [] ++ map craft_record e.crafts
    ++ map (call_record e.crafts) e.calls ++ flat_map climb_records e.crafts
    ++ map (leg_record e.crafts) e.legs ++ map (miss_record e.crafts) e.misses ++ map (plan_record e.crafts) e.plans ++ map (fate_record e.crafts) e.fates

abbrev whole : Parts → Known
whole e = with-lists e e.legs e.misses e.plans e.fates

goes-middle : (e : Parts) → IsEncounter e → Goes (middle e) (begun e) (whole e)
unfolding middle
goes-middle e h =
    let both = goes-join (run_record e.cycles e.elevation ∷ []) (gains_record e.range e.altitude ∷ []) (begun-by e (whole-heading e)) (with-run e) (with-crafts e []) (goes-run e h) (goes-gains e h) in
    let numbers = goes-join _ (run_record e.cycles e.elevation ∷ gains_record e.range e.altitude ∷ []) (begun e) _ (with-crafts e []) (goes-heading e h) both in
    let crafts = goes-join _ _ (begun e) _ _ numbers (goes-crafts e h) in
    let calls = goes-join _ _ (begun e) _ _ crafts (goes-calls e h) in
    let climbs = goes-join _ _ (begun e) _ _ calls (goes-climbs e h) in
    let legs = goes-join _ _ (begun e) _ _ climbs (goes-legs e h) in
    let misses = goes-join _ _ (begun e) _ _ legs (goes-misses e h) in
    let plans = goes-join _ _ (begun e) _ _ misses (goes-plans e h) in
    goes-join _ _ (begun e) _ (whole e) plans (goes-fates e h)

-- The encounter that the records say.

-- The older formats have profile 1.
profile-kept : (e : Parts) → IsEncounter e → unwrap_or (profile_said e.version e.profile) One ≡ e.profile
profile-kept e h = at (nat_le 3 e.version) refl where
  at : (b : Bool) → nat_le 3 e.version ≡ b → unwrap_or (if b then Some e.profile else None) One ≡ e.profile
  at true is = refl
  at false is = sym (h.older (omega (arith, leb-false 3 e.version is))).profile

parts-are : (e : Parts) (version : ℕ) (heading : Heading) (run : Run) (gains : TrackGains) (calls : List Call) (crafts : List CraftSpec) (legs : List Leg) (misses : List Miss) (plans : List LinkPlan) (fates : List Fate)
    → IsEncounter e → version ≡ e.version → heading ≡ whole-heading e → calls ≡ e.calls → run ≡ record { cycles = e.cycles; elevation = e.elevation } → gains ≡ record { range = e.range; altitude = e.altitude } → crafts ≡ e.crafts
    → legs ≡ e.legs → misses ≡ e.misses → plans ≡ e.plans → fates ≡ e.fates → encounter_of (setting_by version heading run gains) calls crafts legs misses plans fates ≡ e
parts-are e version heading run gains calls crafts legs misses plans fates valid a x y b c d f g h i = rw (a, x, y, b, c, d, f, g, h, i) (ap (λ (profile : Profile). record e { profile = profile }) (profile-kept e valid))

run-is : (earlier : List Record) (run : Run) → run_of earlier ≡ Some run → whole_run earlier ≡ run
run-is earlier run h = rw h refl

gains-are : (earlier : List Record) (gains : TrackGains) → gains_of earlier ≡ Some gains → all_gains earlier ≡ gains
gains-are earlier gains h = rw h refl

encounter-is : (e : Parts) → IsEncounter e → (earlier : List Record) → Gives earlier (whole e) → encounter_by earlier ≡ e
encounter-is e h earlier g =
    parts-are e (version_of earlier) (heading_of earlier) (whole_run earlier) (all_gains earlier) (by_group call_group CRAFTS (calls_of earlier)) (crafts_of earlier) (by_group leg_group CRAFTS (legs_of earlier)) _ _ _
    h g.version g.heading (ap (by_group call_group CRAFTS) g.calls ∙ calls-own e h) (run-is earlier _ g.run) (gains-are earlier _ g.gains) g.crafts
    (ap (by_group leg_group CRAFTS) g.legs ∙ (legs-own e h).own)
    (ap (by_group miss_group (CRAFTS * CRAFTS)) g.misses ∙ (misses-own e h).own)
    (ap (by_group plan_group (CRAFTS * CRAFTS)) g.plans ∙ (plans-own e h).own)
    (ap (by_group fate_group (CRAFTS * CRAFTS)) g.fates ∙ (fates-own e h).own)

-- The end.

-- What is told at the end, by four tests.
abbrev fault_at_end : Bool → Bool → Bool → Bool → Option Code
fault_at_end unrun lacking active inside =
    if unrun || (lacking || not active) then Some code.Count else
    if not inside then Some code.Box else None

end-sound : (earlier : List Record) → is_none (run_of earlier) ≡ false → lacks_profile earlier ≡ false → list_any is_active (crafts_of earlier) ≡ true → stays_inside (encounter_by earlier) ≡ true → fault_of earlier said.End ≡ None
end-sound earlier a p b c =
    ap (λ x. fault_at_end x (lacks_profile earlier) (list_any is_active (crafts_of earlier)) (stays_inside (encounter_by earlier))) a
    ∙ ap (λ x. fault_at_end false x (list_any is_active (crafts_of earlier)) (stays_inside (encounter_by earlier))) p
    ∙ ap (λ x. fault_at_end false false x (stays_inside (encounter_by earlier))) b ∙ ap (fault_at_end false false true) c

-- In format 3 the profile is said.
none-lacking : (b : Bool) (profile : Profile) → (b && is_none {T = Profile} (if b then Some profile else None)) ≡ false
none-lacking true profile = refl
none-lacking false profile = refl

end-read : (earlier : List Record) → read_from (said.End ∷ earlier) [] ≡ Ok (encounter_by earlier)
unfolding read_from
end-read earlier = refl

reads-end : (e : Parts) → IsEncounter e → IsTrue (stays_inside e) → (earlier : List Record) → Gives earlier (whole e) → read_from earlier (end_record ∷ []) ≡ Ok e
reads-end e h inside earlier g =
    let is = encounter-is e h earlier g in
    let sound = end-sound earlier (ap is_none g.run) (rw (g.version, g.heading) (none-lacking (nat_le 3 e.version) e.profile)) (ap (list_any is_active) g.crafts ∙ h.crafts.active) (ap stays_inside is ∙ inside) in
    step-on earlier end_record [] said.End (goes-next earlier end_record said.End e.version (g.begun end_record) g.unended g.version sound (end-said e.version)) ∙ end-read earlier ∙ ap Ok is

-- The whole.

header-gives : (e : Parts) → Gives (said.Header e.version ∷ []) (begun e)
header-gives e = gives-known (said.Header e.version) [] (begun e) refl refl

begins : (version : ℕ) (rest : List (List (List ℕ))) → next_record [] (header_record version) ≡ Ok (said.Header version)
    → read_from [] (header_record version ∷ rest) ≡ read_from (said.Header version ∷ []) rest
begins version rest e = step-on [] (header_record version) rest (said.Header version) e

records-split : (e : Parts) → canonical_records e ≡ header_record e.version ∷ middle e ++ end_record ∷ []
unfolding middle
records-split e = refl

pub canonical-reads : (e : Parts) → IsEncounter e → IsTrue (stays_inside e) → read_from [] (canonical_records e) ≡ Ok e
canonical-reads e h inside =
    let on = (goes-middle e h).goes (said.Header e.version ∷ []) (end_record ∷ []) (header-gives e) in
    ap (read_from []) (records-split e) ∙ begins e.version (middle e ++ end_record ∷ []) (header-said e.version h.run.format) ∙ on.2 ∙ reads-end e h inside on.0 on.1

-- Its labels are labels.
pub labelled : (e : Parts) → IsEncounter e → IsLabelled e
labelled e h = record {
  name = h.labels.name;
  signs = All-weaker (IsCall (length e.crafts)) (λ (call : Call). IsTrue (is_label call.sign)) (λ call is. sign-label call.sign is.sign) e.calls h.labels.calls.0;
}

pub canonical-says : (e : Parts) → IsEncounter e → IsTrue (stays_inside e) → Says (canonical_text e) e
canonical-says e h inside = ap (read_from []) (records-of-canonical e (labelled e h)) ∙ canonical-reads e h inside
