-- Reading on, row by row.
use Rattle.std.proofs.Common.{◌≡◌, ℕ, false, List, [], ◌∷◌, ◌++◌, length, map, Option, None, Ok, refl, sym, ap, ◌∙◌, append_assoc, append-nil, subst}
use Rattle.std.specs.List.{flat_map}
use Rattle.acas_base.specs.declared.craft.CraftSpec.{CraftSpec}
use Rattle.acas_base.specs.declared.craft.Leg.{Leg}
use Rattle.acas_base.specs.declared.craft.Miss.{Miss}
use Rattle.acas_base.specs.declared.label.Call.{Call}
use Rattle.acas_base.specs.declared.link.Fate.{Fate}
use Rattle.acas_base.specs.declared.link.LinkPlan.{LinkPlan}
use Rattle.enc_file.specs.Earlier.{calls_of, crafts_of, fates_of, gains_of, has_ended, heading_of, legs_of, misses_of, plans_of, run_of, version_of}
use Rattle.enc_file.specs.Faults.{fault_of}
use Rattle.enc_file.specs.Reading.{goes_on, later_record, next_record, read_from}
use Rattle.enc_file.specs.Saying.{record_of}
use Rattle.enc_file.specs.declared.record.Heading.{Heading}
use Rattle.enc_file.specs.declared.record.Record.{Record}
use Rattle.enc_file.specs.declared.record.Run.{Run}
use Rattle.enc_file.specs.declared.record.TrackGains.{TrackGains}

-- What earlier records give.
pub record Known : Type 0 where
  pub version : ℕ
  pub heading : Heading
  pub run : Option Run
  pub gains : Option TrackGains
  pub crafts : List CraftSpec
  pub calls : List Call
  pub legs : List Leg
  pub misses : List Miss
  pub plans : List LinkPlan
  pub fates : List Fate

-- Records from a header on, with no end, give this.
pub record Gives (earlier : List Record) (known : Known) : Type 0 where
  pub begun : (row : List (List ℕ)) → next_record earlier row ≡ later_record earlier row
  pub unended : has_ended earlier ≡ false
  pub version : version_of earlier ≡ known.version
  pub heading : heading_of earlier ≡ known.heading
  pub run : run_of earlier ≡ known.run
  pub gains : gains_of earlier ≡ known.gains
  pub crafts : crafts_of earlier ≡ known.crafts
  pub calls : calls_of earlier ≡ known.calls
  pub legs : legs_of earlier ≡ known.legs
  pub misses : misses_of earlier ≡ known.misses
  pub plans : plans_of earlier ≡ known.plans
  pub fates : fates_of earlier ≡ known.fates

abbrev pub known-by : List Record → Known
known-by earlier = record {
  version = version_of earlier;
  heading = heading_of earlier;
  run = run_of earlier;
  gains = gains_of earlier;
  crafts = crafts_of earlier;
  calls = calls_of earlier;
  legs = legs_of earlier;
  misses = misses_of earlier;
  plans = plans_of earlier;
  fates = fates_of earlier;
}

known-given : (earlier : List Record) (known : Known) → Gives earlier known → known-by earlier ≡ known
known-given earlier known g = rw (g.version, g.heading, g.run, g.gains, g.crafts, g.calls, g.legs, g.misses, g.plans, g.fates) refl

pub gives-known : (last : Record) (earlier : List Record) (known : Known) → has_ended (last ∷ earlier) ≡ false → known-by (last ∷ earlier) ≡ known → Gives (last ∷ earlier) known
gives-known last earlier known unended e = record {
  begun = λ row. refl;
  unended = unended;
  version = ap (λ (k : Known). k.version) e;
  heading = ap (λ (k : Known). k.heading) e;
  run = ap (λ (k : Known). k.run) e;
  gains = ap (λ (k : Known). k.gains) e;
  crafts = ap (λ (k : Known). k.crafts) e;
  calls = ap (λ (k : Known). k.calls) e;
  legs = ap (λ (k : Known). k.legs) e;
  misses = ap (λ (k : Known). k.misses) e;
  plans = ap (λ (k : Known). k.plans) e;
  fates = ap (λ (k : Known). k.fates) e;
}

-- From records that give the one, these rows are read without a fault, and then the records give the other.
pub record Goes (rows : List (List (List ℕ))) (before after : Known) : Type 0 where
  pub goes : (earlier : List Record) (rest : List (List (List ℕ))) → Gives earlier before
      → (later : List Record) × Gives later after × (read_from earlier (rows ++ rest) ≡ read_from later rest)

pub goes-none : (known : Known) → Goes [] known known
goes-none known = record { goes = λ earlier rest g. (earlier, g, refl) }

pub goes-join : (one two : List (List (List ℕ))) (a b c : Known) → Goes one a b → Goes two b c → Goes (one ++ two) a c
goes-join one two a b c first second = record { goes = go } where
  go : (earlier : List Record) (rest : List (List (List ℕ))) → Gives earlier a
      → (later : List Record) × Gives later c × (read_from earlier ((one ++ two) ++ rest) ≡ read_from later rest)
  go earlier rest g =
      let f = first.goes earlier (two ++ rest) g in
      let s = second.goes f.0 rest f.1 in
      (s.0, s.1, ap (read_from earlier) (append_assoc one two rest) ∙ f.2 ∙ s.2)

-- A record that isn't the end, with no fault, and what is known after it.
pub record Follows (now : Record) (before after : Known) : Type 0 where
  pub sound : (earlier : List Record) → Gives earlier before → fault_of earlier now ≡ None
  pub adds : Known → Known
  pub is : (earlier : List Record) → known-by (now ∷ earlier) ≡ adds (known-by earlier)
  pub unended : (earlier : List Record) → has_ended (now ∷ earlier) ≡ has_ended earlier
  pub gives : adds before ≡ after

pub goes-next : (earlier : List Record) (row : List (List ℕ)) (now : Record) (version : ℕ) → next_record earlier row ≡ later_record earlier row → has_ended earlier ≡ false → version_of earlier ≡ version
    → fault_of earlier now ≡ None → record_of version row ≡ Ok now → next_record earlier row ≡ Ok now
goes-next earlier row now version begun unended same sound says = begun ∙ rw (unended, same, says, sound) refl

pub step-on : (earlier : List Record) (row : List (List ℕ)) (rest : List (List (List ℕ))) (now : Record) → next_record earlier row ≡ Ok now → read_from earlier (row ∷ rest) ≡ read_from (now ∷ earlier) rest
unfolding read_from
step-on earlier row rest now e = ap (λ r. goes_on (length earlier) r (λ said. read_from (said ∷ earlier) rest)) e

pub goes-one : (row : List (List ℕ)) (now : Record) (before after : Known) → record_of before.version row ≡ Ok now → Follows now before after → Goes (row ∷ []) before after
goes-one row now before after says follows = record { goes = go } where
  go : (earlier : List Record) (rest : List (List (List ℕ))) → Gives earlier before
      → (later : List Record) × Gives later after × (read_from earlier (row ∷ rest) ≡ read_from later rest)
  go earlier rest g =
      let next = goes-next earlier row now before.version (g.begun row) g.unended g.version (follows.sound earlier g) says in
      let known = follows.is earlier ∙ ap follows.adds (known-given earlier before g) ∙ follows.gives in
      (now ∷ earlier, gives-known now earlier after (follows.unended earlier ∙ g.unended) known, step-on earlier row rest now next)

-- The rows of each element of a list, one element after the other.
pub goes-each : {X : Type 0} (rows : X → List (List (List ℕ))) (all : List X) (known : List X → List X → Known)
    → ((done : List X) (x : X) (rest : List X) → done ++ x ∷ rest ≡ all → Goes (rows x) (known done (x ∷ rest)) (known (done ++ x ∷ []) rest))
    → (done rest : List X) → done ++ rest ≡ all → Goes (flat_map rows rest) (known done rest) (known all [])
goes-each rows all known step done [] e =
    let same : done ≡ all = sym (append-nil done) ∙ e in
    rw same (goes-none (known all []))
goes-each rows all known step done (x ∷ rest) e =
    goes-join (rows x) (flat_map rows rest) (known done (x ∷ rest)) (known (done ++ x ∷ []) rest) (known all []) (step done x rest e)
    (goes-each rows all known step (done ++ x ∷ []) rest (append_assoc done (x ∷ []) rest ∙ e))

one-each : {X : Type 0} (row : X → List (List ℕ)) (xs : List X) → flat_map (λ x. row x ∷ []) xs ≡ map row xs
one-each row [] = refl
one-each row (x ∷ xs) = ap (λ rows. row x ∷ rows) (one-each row xs)

-- One row for each.
pub goes-map : {X : Type 0} (row : X → List (List ℕ)) (all : List X) (known : List X → List X → Known)
    → ((done : List X) (x : X) (rest : List X) → done ++ x ∷ rest ≡ all → Goes (row x ∷ []) (known done (x ∷ rest)) (known (done ++ x ∷ []) rest))
    → Goes (map row all) (known [] all) (known all [])
goes-map row all known step =
    subst (λ rows. Goes rows (known [] all) (known all [])) (one-each row all) (goes-each (λ x. row x ∷ []) all known step [] all refl)
