-- What a legal journal begins with is legal.
use Rattle.std.proofs.Common.{ℕ, true, false, cond, eqb, List, [], ◌∷◌}
use Rattle.acas_base.specs.declared.entry.Entry.{Entry}
use Rattle.acas_base.specs.declared.entry.Entry.TheVariants.{Commit, Send, Take}
use Rattle.air_rules.specs.Air.{Air}
use Rattle.air_rules.specs.Journal.{Begins, before_last_commit, more, whole}
use Rattle.air_rules.specs.Rules.{IsAllowed, IsLegal, extended}

pub earlier : {air : Air} {entry : Entry} {K : List Entry} → IsLegal air (entry ∷ K) → IsLegal air K
earlier (extended l a) = l

pub allowed : {air : Air} {entry : Entry} {K : List Entry} → IsLegal air (entry ∷ K) → IsAllowed air K entry
allowed (extended l a) = a

pub legal-begins : (air : Air) {K J : List Entry} → Begins K J → IsLegal air J → IsLegal air K
legal-begins air whole l = l
legal-begins air (more b) l = legal-begins air b (earlier l)

-- So is what is before the last commit of an aircraft.
pub legal-before : (air : Air) (K : List Entry) (i : ℕ) → IsLegal air K → IsLegal air (before_last_commit K i)
legal-before air [] i l = l
legal-before air (Commit own cycle cells ∷ K) i l =
    elim (eqb own i) as (λ b. IsLegal air (cond b K (before_last_commit K i))) [ true ↦ earlier l | false ↦ legal-before air K i (earlier l) ]
legal-before air (Send own target number word ∷ K) i l = legal-before air K i (earlier l)
legal-before air (Take own send copy good ∷ K) i l = legal-before air K i (earlier l)
