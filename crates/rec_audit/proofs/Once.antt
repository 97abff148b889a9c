-- One entry at most is allowed about one thing, and one thing is wrong with a line.
use Rattle.std.proofs.Common.{◌≡◌, ℕ, ◌+◌, ◌<◌, ◌≤◌, List, [], ◌∷◌, ◌++◌, length, get_or, drop, map, refl, sym, ap, ◌∙◌, subst, append_assoc, arith, Some, length-append}
use Rattle.std.specs.Prelude.{is_some, reverse}
use Rattle.std.specs.List.{AllByRecursion}
use Rattle.std.proofs.lemmas.List.{append-nil, length-reverse, reverse-append, reverse-reverse}
use Rattle.acas_base.specs.declared.TheConstants.{CRAFTS}
use Rattle.acas_base.specs.declared.entry.Entry.{Entry}
use Rattle.acas_base.specs.declared.entry.Entry.TheVariants.{Commit, Send, Take}
use Rattle.air_journal.specs.Ranges.{IsEntry}
use Rattle.air_rules.proofs.Legal.{allowed, earlier}
use Rattle.air_rules.specs.Air.{Air}
use Rattle.air_rules.specs.Journal.{sends, sent_at}
use Rattle.air_rules.specs.Owed.{owed}
use Rattle.air_rules.specs.Rules.{IsAllowed, IsLegal, cells_for}
use Rattle.air_rules.specs.Takes.{read_copy}
use Rattle.rec_audit.specs.Keys.{key}
use Rattle.rec_audit.specs.Replays.{IsWrongLine, Replays, StopsAt, changed, forbidden, misspelled}
use Rattle.rec_audit.specs.declared.verdict.Reason.{Reason}
use Rattle.rec_text.proofs.OneEntry.{line-same}
use Rattle.rec_text.proofs.Whole.{each-append}
use Rattle.rec_text.specs.Entries.{entry_line}

pub allowed-once : (air : Air) (K : List Entry) (e f : Entry) → key e ≡ key f → IsAllowed air K e → IsAllowed air K f → e ≡ f
allowed-once air K (Commit i c cells) (Commit j d others) same a b =
    let own : i ≡ j = cc in
    let cycle : c ≡ d = cc in
    let content : cells ≡ others = a.cells_are ∙ ap (cells_for air K) own ∙ sym b.cells_are in
    rw (own, cycle, content) refl
allowed-once air K (Send i t number word) (Send j u number2 word2) same a b =
    let own : i ≡ j = cc in
    let target : t ≡ u = cc in
    let what : Some a.message ≡ Some b.message = sym a.first_owed.owes ∙ ap (λ x. owed air K x t) own ∙ ap (owed air K j) target ∙ b.first_owed.owes in
    let message : a.message ≡ b.message = cc in
    let n : number ≡ number2 = a.number_is ∙ ap (λ x. sends K x t + 1) own ∙ ap (λ x. sends K j x + 1) target ∙ sym b.number_is in
    let w : word ≡ word2 = a.word_is ∙ ap air.word message ∙ sym b.word_is in
    rw (own, target, n, w) refl
allowed-once air K (Take i p c good) (Take j q d good2) same a b =
    let own : i ≡ j = cc in
    let send : p ≡ q = cc in
    let copy : c ≡ d = cc in
    let g : good ≡ good2 = a.good_is ∙ ap (λ x. is_some (read_copy air (sent_at K x) c)) send ∙ ap (λ x. is_some (read_copy air (sent_at K q) x)) copy ∙ sym b.good_is in
    rw (own, send, copy, g) refl
allowed-once air K (Commit i c cells) (Send j u number2 word2) same a b = absurd cc
allowed-once air K (Commit i c cells) (Take j q d good2) same a b = absurd cc
allowed-once air K (Send i t number word) (Commit j d others) same a b = absurd cc
allowed-once air K (Send i t number word) (Take j q d good2) same a b = absurd cc
allowed-once air K (Take i p c good) (Commit j d others) same a b = absurd cc
allowed-once air K (Take i p c good) (Send j u number2 word2) same a b = absurd cc

-- What is allowed has a line, in an air of few aircraft.
pub record HasLines (air : Air) : Type 0 where
  pub few : air.count ≤ CRAFTS
  pub fits : (K : List Entry) (entry : Entry) → IsLegal air K → IsAllowed air K entry → IsEntry air.count entry

-- The line of an allowed entry isn't wrong.
not-wrong : (air : Air) (K : List Entry) (e : Entry) (line : List ℕ) (r : Reason) → air.count ≤ CRAFTS → IsEntry air.count e → IsAllowed air K e → line ≡ entry_line air.count e → IsWrongLine air K line r → ⊥
not-wrong air K e line r few fits may is (misspelled none) = none e fits (sym is)
not-wrong air K e line r few fits may is (forbidden x fits2 spelled none) = let same : e ≡ x = line-same air.count e x few fits fits2 (sym is ∙ spelled) in none e (ap key same) may
not-wrong air K e line r few fits may is (changed x f fits2 spelled about may2 differs) =
    let same : e ≡ x = line-same air.count e x few fits fits2 (sym is ∙ spelled) in
    differs (allowed-once air K f e (about ∙ ap key (sym same)) may2 may ∙ same)

-- One thing is wrong with a line.
pub wrong-once : (air : Air) (K : List Entry) (line : List ℕ) (r s : Reason) → air.count ≤ CRAFTS → IsWrongLine air K line r → IsWrongLine air K line s → r ≡ s
wrong-once air K line r s few (misspelled none) (misspelled none2) = refl
wrong-once air K line r s few (misspelled none) (forbidden e fits is bars) = absurd (none e fits (sym is))
wrong-once air K line r s few (misspelled none) (changed e f fits is about may ne) = absurd (none e fits (sym is))
wrong-once air K line r s few (forbidden e fits is bars) (misspelled none) = absurd (none e fits (sym is))
wrong-once air K line r s few (forbidden e fits is bars) (forbidden e2 fits2 is2 bars2) = refl
wrong-once air K line r s few (forbidden e fits is bars) (changed e2 f fits2 is2 about may ne) =
    let same = line-same air.count e e2 few fits fits2 (sym is ∙ is2) in absurd (bars f (about ∙ ap key (sym same)) may)
wrong-once air K line r s few (changed e f fits is about may ne) (misspelled none) = absurd (none e fits (sym is))
wrong-once air K line r s few (changed e f fits is about may ne) (forbidden e2 fits2 is2 bars) =
    let same = line-same air.count e e2 few fits fits2 (sym is ∙ is2) in absurd (bars f (about ∙ ap key same) may)
wrong-once air K line r s few (changed e f fits is about may ne) (changed e2 f2 fits2 is2 about2 may2 ne2) = refl

-- ---- two journals of the same lines

-- The longer list goes on from the shorter one.
pub record GoesOn (count : ℕ) (A B : List Entry) (r s : List (List ℕ)) : Type 0 where
  pub more : List Entry
  pub longer : B ≡ A ++ more
  pub rest : r ≡ map (entry_line count) more ++ s

goes-on : (count : ℕ) (A B : List Entry) (r s : List (List ℕ)) → count ≤ CRAFTS → AllByRecursion (IsEntry count) A → AllByRecursion (IsEntry count) B → length A ≤ length B
    → map (entry_line count) A ++ r ≡ map (entry_line count) B ++ s → GoesOn count A B r s
goes-on count [] B r s few h k short e = record { more = B; longer = refl; rest = e }
goes-on count (a ∷ A) [] r s few h k short e = absurd (omega arith)
goes-on count (a ∷ A) (b ∷ B) r s few h k short e =
    let one : a ≡ b = line-same count a b few h.0 k.0 (ap (λ t. get_or t 0 []) e) in
    let on = goes-on count A B r s few h.1 k.1 (omega arith) (ap (drop 1) e) in
    record { more = on.more; longer = ap (λ t. b ∷ t) on.longer ∙ ap (λ x. x ∷ (A ++ on.more)) (sym one); rest = on.rest }

-- Each entry of a legal journal has a line.
each-entry : (air : Air) → HasLines air → (J : List Entry) → IsLegal air J → AllByRecursion (IsEntry air.count) (reverse J)
each-entry air has [] legal = tt
each-entry air has (e ∷ K) legal =
    rw (reverse-append (e ∷ []) K) (each-append (IsEntry air.count) (reverse K) (e ∷ []) (each-entry air has K (earlier legal)) (has.fits K e (earlier legal) (allowed legal), tt))

-- A beginning of a legal journal is legal.
legal-front : (air : Air) (xs K : List Entry) → IsLegal air (xs ++ K) → IsLegal air K
legal-front air [] K h = h
legal-front air (x ∷ xs) K h = legal-front air xs K (earlier h)

-- A journal that begins, in order, with another one and an entry.
next-allowed : (air : Air) (J K : List Entry) (e : Entry) (more : List Entry) → IsLegal air K → reverse K ≡ reverse J ++ (e ∷ more) → IsAllowed air J e
next-allowed air J K e more legal is =
    let back : K ≡ (reverse more ++ (e ∷ [])) ++ J = sym (reverse-reverse K) ∙ ap reverse is ∙ reverse-append (reverse J) (e ∷ more) ∙ ap (λ t. t ++ reverse (reverse J)) (reverse-append (e ∷ []) more) ∙ ap (λ t. (reverse more ++ (e ∷ [])) ++ t) (reverse-reverse J) in
    let all : K ≡ reverse more ++ (e ∷ J) = back ∙ append_assoc (reverse more) (e ∷ []) J in
    allowed (legal-front air (reverse more) (e ∷ J) (subst (IsLegal air) all legal))

-- No legal journal goes on where the lines stop.
past : (air : Air) (J K : List Entry) (line : List ℕ) (rest s : List (List ℕ)) (reason : Reason) (more : List Entry) → HasLines air → IsLegal air J → IsLegal air K → IsWrongLine air J line reason
    → reverse K ≡ reverse J ++ more → line ∷ rest ≡ map (entry_line air.count) more ++ s → length J < length K → ⊥
past air J K line rest s reason [] has a b wrong is spelled longer = omega (arith, length-reverse J, length-reverse K, ap length (is ∙ append-nil (reverse J)))
past air J K line rest s reason (e ∷ more) has a b wrong is spelled longer =
    let may = next-allowed air J K e more b is in
    not-wrong air J e line reason has.few (has.fits J e a may) may (ap (λ t. get_or t 0 []) spelled) wrong

pub stops-there : (air : Air) (lines s : List (List ℕ)) (n : ℕ) (reason : Reason) (K : List Entry) → HasLines air → StopsAt air lines n reason → Replays air lines K s → n < length K → ⊥
stops-there air lines s n reason K has stop r longer =
    let J = stop.journal in
    let on = goes-on air.count (reverse J) (reverse K) (stop.line ∷ stop.rest) s has.few (each-entry air has J stop.replays.legal) (each-entry air has K r.legal)
    (omega (arith, length-reverse J, length-reverse K, stop.after)) (sym stop.replays.begins ∙ r.begins) in
    past air J K stop.line stop.rest s reason on.more has stop.replays.legal r.legal stop.wrong on.longer on.rest (omega (arith, stop.after))

nothing-more : (A more : List Entry) → length (A ++ more) ≡ length A → more ≡ []
nothing-more A [] e = refl
nothing-more A (x ∷ more) e = absurd (omega (arith, length-append A (x ∷ more)))

-- Lines are those of one journal of so many entries.
pub one-journal : (air : Air) (lines r s : List (List ℕ)) (J K : List Entry) → HasLines air → Replays air lines J r → Replays air lines K s → length J ≡ length K → J ≡ K
one-journal air lines r s J K has a b same =
    let on = goes-on air.count (reverse J) (reverse K) r s has.few (each-entry air has J a.legal) (each-entry air has K b.legal)
    (omega (arith, length-reverse J, length-reverse K)) (sym a.begins ∙ b.begins) in
    let long : length (reverse J ++ on.more) ≡ length (reverse J) = sym (ap length on.longer) ∙ length-reverse K ∙ sym same ∙ sym (length-reverse J) in
    let none = nothing-more (reverse J) on.more long in
    let whole : reverse K ≡ reverse J = on.longer ∙ ap (λ t. reverse J ++ t) none ∙ append-nil (reverse J) in
    sym (reverse-reverse J) ∙ ap reverse (sym whole) ∙ reverse-reverse K
