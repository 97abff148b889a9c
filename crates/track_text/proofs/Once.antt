-- A text says an encounter or is refused, never both; and it says one encounter at most.
use Rattle.std.proofs.Common.{◌≡◌, ◌∙◌, ℕ, zero, suc, true, false, List, [], ◌∷◌, length, Some, None, refl, sym, ap, subst, arith}
use Rattle.std.specs.Prelude.{◌<◌, ◌≤◌, ◌&&◌, not, slice_get, take, Result, Ok}
use Rattle.std.proofs.lemmas.Bool.{both_ways}
use Rattle.std.proofs.lemmas.List.{length-map}
use Rattle.acas_base.specs.Encounter.{IsEncounter, Parts}
use Rattle.leg_rows.specs.Flights.{AreAlike, FlyAlike, unplaced}
use Rattle.leg_rows.proofs.OneFlight.{one-flight}
use Rattle.track_file.specs.Along.{FliesAlong}
use Rattle.track_file.specs.declared.track.Point.{Point}
use Rattle.enc_file.specs.Conditions.{is_first}
use Rattle.enc_file.specs.Earlier.{encounter_by, has_ended}
use Rattle.enc_file.specs.declared.record.Record.{Record}
use Rattle.enc_file.specs.declared.refusal.Code.{Code}
use Rattle.enc_file.specs.declared.refusal.Code.TheVariants as code
use Rattle.track_text.specs.Conditions.{ArePassed, HasFault, has_text_fault, said_by}
use Rattle.track_text.specs.Earlier.{shared_of, tracks_of}
use Rattle.track_text.specs.Reading.{IsMade}
use Rattle.track_text.specs.declared.record.TrackRecord.{TrackRecord}
use Rattle.track_text.specs.declared.refusal.Fault.{Fault}
use Rattle.track_text.specs.declared.refusal.Fault.TheVariants.{Text, Track}

-- What was said is said once.
pub said-same : (r : Result TrackRecord Code) (a b : TrackRecord) → r ≡ Ok a → r ≡ Ok b → a ≡ b
said-same r a b first second =
    let same : Ok a ≡ Ok b = sym first ∙ second in
    cc same

begun-first : (shared : List Record) → has_ended shared ≡ true → is_first shared ≡ false
begun-first [] ended = absurd (cc ended)
begun-first (last ∷ earlier) ended = refl

-- Where the records have ended, it is no fault that none follows.
none-missing : (all : List TrackRecord) (why : Fault) → has_ended (shared_of all) ≡ true → HasFault all None why → ⊥
unfolding has_text_fault
none-missing all (Text code.Header) ended has = both_ways _ (ap (λ b. b && true) (begun-first (shared_of all) ended)) has
none-missing all (Text code.Kind) ended has = absurd (cc has)
none-missing all (Text code.Fields) ended has = absurd (cc has)
none-missing all (Text code.Number) ended has = absurd (cc has)
none-missing all (Text code.Address) ended has = absurd (cc has)
none-missing all (Text code.Repeat) ended has = absurd (cc has)
none-missing all (Text code.Unknown) ended has = absurd (cc has)
none-missing all (Text code.Count) ended has = absurd (cc has)
none-missing all (Text code.Box) ended has = absurd (cc has)
none-missing all (Text code.Mask) ended has = absurd (cc has)
none-missing all (Text code.NoEnd) ended has = both_ways _ (ap not ended) has
none-missing all (Text code.After) ended has = absurd (cc has)
none-missing all (Track fault address) ended has = absurd (cc has.0)

-- Records that are passed to their end have no fault on the way or after it.
none-from : (before : List TrackRecord) (rows : List (List (List ℕ))) (all earlier : List TrackRecord) (more : ℕ) (why : Fault) → ArePassed before rows all → has_ended (shared_of all) ≡ true
    → ArePassed before (take more rows) earlier → HasFault earlier (slice_get rows more) why → ⊥
none-from before [] all earlier zero why passed ended front has = none-missing all why ended (subst (λ a. HasFault a None why) (sym front ∙ passed) has)
none-from before [] all earlier (suc more) why passed ended front has = none-missing all why ended (subst (λ a. HasFault a None why) (sym front ∙ passed) has)
none-from before (fields ∷ rest) all earlier zero why passed ended front has = passed.0 why (subst (λ a. HasFault a (Some fields) why) (sym front) has)
none-from before (fields ∷ rest) all earlier (suc more) why passed ended front has =
    let same : front.1.0 ≡ passed.1.0 = said-same (said_by before fields) front.1.0 passed.1.0 front.1.1 passed.1.1 in
    none-from (passed.1.0 ∷ before) rest all earlier more why passed.1.2 ended (subst (λ now. ArePassed (now ∷ before) (take more rest) earlier) same front.1.2) has

pub never-both : (rows : List (List (List ℕ))) (all earlier : List TrackRecord) (more : ℕ) (why : Fault) → ArePassed [] rows all → has_ended (shared_of all) ≡ true
    → ArePassed [] (take more rows) earlier → HasFault earlier (slice_get rows more) why → ⊥
never-both rows all earlier more why = none-from [] rows all earlier more why

-- Records that are passed say one thing each.
passed-same : (before : List TrackRecord) (rows : List (List (List ℕ))) (a b : List TrackRecord) → ArePassed before rows a → ArePassed before rows b → a ≡ b
passed-same before [] a b first second = sym first ∙ second
passed-same before (fields ∷ rest) a b first second =
    let same : second.1.0 ≡ first.1.0 = said-same (said_by before fields) second.1.0 first.1.0 second.1.1 first.1.1 in
    passed-same (first.1.0 ∷ before) rest a b first.1.2 (subst (λ now. ArePassed (now ∷ before) rest b) same second.1.2)

-- One encounter alone is like another one and flies along these tracks.
flown-once : (d e like : Parts) (tracks : List (List Point)) → IsEncounter d → IsEncounter e → FliesAlong d like tracks → FliesAlong e like tracks → d ≡ e
flown-once d e like tracks one two first second = one-flight d e one two alike first.needed second.needed fly where
  alike : AreAlike d e
  alike = record {
    version = first.alike.version ∙ sym second.alike.version;
    profile = first.alike.profile ∙ sym second.alike.profile;
    cycles = first.alike.cycles ∙ sym second.alike.cycles;
    terrain = first.alike.terrain ∙ sym second.alike.terrain;
    range = first.alike.range ∙ sym second.alike.range;
    altitude = first.alike.altitude ∙ sym second.alike.altitude;
    name = first.alike.name ∙ sym second.alike.name;
    clock = first.alike.clock ∙ sym second.alike.clock;
    calls = first.alike.calls ∙ sym second.alike.calls;
    crafts = first.alike.crafts ∙ sym second.alike.crafts;
    misses = first.alike.misses ∙ sym second.alike.misses;
    plans = first.alike.plans ∙ sym second.alike.plans;
    fates = first.alike.fates ∙ sym second.alike.fates;
  }

  many : length e.crafts ≡ length like.crafts
  many = sym (length-map e.crafts unplaced) ∙ ap length second.alike.crafts ∙ length-map like.crafts unplaced

  fly : FlyAlike d e
  fly craft cycle within from to =
      let known : craft < length like.crafts = omega (arith, within, many) in
      let in_run : cycle ≤ like.cycles = omega (arith, to, second.alike.cycles) in
      first.place craft cycle known from in_run ∙ sym (second.place craft cycle known from in_run)

pub made-once : (rows : List (List (List ℕ))) (d e : Parts) → IsEncounter d → IsEncounter e → (a b : List TrackRecord) → ArePassed [] rows a → ArePassed [] rows b → IsMade a d → IsMade b e → d ≡ e
made-once rows d e one two a b first second made other =
    let same : IsMade a e = subst (λ l. IsMade l e) (passed-same [] rows b a second first) other in
    flown-once d e (encounter_by (shared_of a)) (tracks_of a) one two made.flies same.flies
