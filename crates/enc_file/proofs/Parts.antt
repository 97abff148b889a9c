-- The canonical text as the lines of its parts.
use Rattle.std.proofs.Common.{◌≡◌, ℕ, List, [], ◌∷◌, ◌++◌, map, refl, sym, ap, ◌∙◌}
use Rattle.std.specs.List.{flat_map}
use Rattle.std.proofs.lemmas.List.{map-append}
use Rattle.acas_base.specs.Encounter.{Parts}
use Rattle.acas_base.specs.declared.craft.CraftSpec.{CraftSpec}
use Rattle.acas_base.specs.declared.craft.Leg.{Leg}
use Rattle.acas_base.specs.declared.craft.Miss.{Miss}
use Rattle.acas_base.specs.declared.label.Call.{Call}
use Rattle.acas_base.specs.declared.link.Fate.{Fate}
use Rattle.acas_base.specs.declared.link.LinkPlan.{LinkPlan}
use Rattle.enc_file.specs.Canonical.{canonical_lines}
use Rattle.enc_file.specs.Spelling.{header_record, profile_records, name_records, clock_records, run_record, gains_record, craft_record, call_record, climb_records, leg_record, miss_record, plan_record, fate_record, end_record, line_of}

-- A line for each record of a list.
pub lines-of : {X : Type 0} (f : X → List (List ℕ)) (xs : List X) → map line_of (map f xs) ≡ map (λ x. line_of (f x)) xs
lines-of f [] = refl
lines-of f (x ∷ xs) = ap (λ t. line_of (f x) ∷ t) (lines-of f xs)

lines-append : (a b c d e f g h i j k l m : List (List (List ℕ)))
    → map line_of (a ++ b ++ c ++ d ++ e ++ f ++ g ++ h ++ i ++ j ++ k ++ l ++ m)
    ≡ map line_of a ++ map line_of b ++ map line_of c ++ map line_of d ++ map line_of e ++ map line_of f ++ map line_of g ++ map line_of h ++ map line_of i ++ map line_of j ++ map line_of k ++ map line_of l
    ++ map line_of m
lines-append a b c d e f g h i j k l m = simp map-append

-- The lines of an encounter, with those of its lists.
abbrev lines-with : Parts → List (List ℕ) → List (List ℕ) → List (List ℕ) → List (List ℕ) → List (List ℕ) → List (List ℕ) → List (List ℕ)
lines-with e crafts calls legs misses plans fates =
    line_of (header_record e.version) ∷ [] ++ map line_of (profile_records e.version e.profile) ++ map line_of (name_records e.name) ++ map line_of (clock_records e.clock)
    ++ line_of (run_record e.cycles e.elevation) ∷ line_of (gains_record e.range e.altitude) ∷ [] ++ crafts ++ calls ++ map line_of (flat_map climb_records e.crafts) ++ legs ++ misses ++ plans ++ fates
    ++ line_of end_record ∷ []

whole : (e : Parts) → canonical_lines e
    ≡ lines-with e (map line_of (map craft_record e.crafts)) (map line_of (map (call_record e.crafts) e.calls)) (map line_of (map (leg_record e.crafts) e.legs)) (map line_of (map (miss_record e.crafts) e.misses))
    (map line_of (map (plan_record e.crafts) e.plans)) (map line_of (map (fate_record e.crafts) e.fates))
whole e =
    lines-append (header_record e.version ∷ []) (profile_records e.version e.profile) (name_records e.name) (clock_records e.clock) (run_record e.cycles e.elevation ∷ gains_record e.range e.altitude ∷ [])
    (map craft_record e.crafts) (map (call_record e.crafts) e.calls) (flat_map climb_records e.crafts) (map (leg_record e.crafts) e.legs) (map (miss_record e.crafts) e.misses) (map (plan_record e.crafts) e.plans)
    (map (fate_record e.crafts) e.fates) (end_record ∷ [])

lists-same : (e : Parts) (a b c d f g a2 b2 c2 d2 f2 g2 : List (List ℕ)) → a ≡ a2 → b ≡ b2 → c ≡ c2 → d ≡ d2 → f ≡ f2 → g ≡ g2 → lines-with e a b c d f g ≡ lines-with e a2 b2 c2 d2 f2 g2
lists-same e a b c d f g a2 b2 c2 d2 f2 g2 p q r s t u = rw (p, q, r, s, t, u) refl

pub canonical-parts : (e : Parts)
    → line_of (header_record e.version) ∷ [] ++ map line_of (profile_records e.version e.profile) ++ map line_of (name_records e.name) ++ map line_of (clock_records e.clock)
    ++ line_of (run_record e.cycles e.elevation) ∷ line_of (gains_record e.range e.altitude) ∷ [] ++ map (λ (craft : CraftSpec). line_of (craft_record craft)) e.crafts
    ++ map (λ (call : Call). line_of (call_record e.crafts call)) e.calls ++ map line_of (flat_map climb_records e.crafts) ++ map (λ (leg : Leg). line_of (leg_record e.crafts leg)) e.legs
    ++ map (λ (miss : Miss). line_of (miss_record e.crafts miss)) e.misses ++ map (λ (plan : LinkPlan). line_of (plan_record e.crafts plan)) e.plans
    ++ map (λ (fate : Fate). line_of (fate_record e.crafts fate)) e.fates ++ line_of end_record ∷ [] ≡ canonical_lines e
canonical-parts e =
    sym (whole e
    ∙ lists-same e (map line_of (map craft_record e.crafts)) (map line_of (map (call_record e.crafts) e.calls)) (map line_of (map (leg_record e.crafts) e.legs)) (map line_of (map (miss_record e.crafts) e.misses))
    (map line_of (map (plan_record e.crafts) e.plans)) (map line_of (map (fate_record e.crafts) e.fates)) _ _ _ _ _ _ (lines-of craft_record e.crafts) (lines-of (call_record e.crafts) e.calls)
    (lines-of (leg_record e.crafts) e.legs) (lines-of (miss_record e.crafts) e.misses) (lines-of (plan_record e.crafts) e.plans) (lines-of (fate_record e.crafts) e.fates))
