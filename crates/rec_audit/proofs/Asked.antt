-- What is allowed about a thing, and what the state of the air answers.
use Rattle.std.proofs.Common.{◌≡◌, ◌≢◌, ℕ, ◌+◌, Bool, true, false, List, ◌∷◌, Option, Some, sym, refl, ap, ◌∙◌, subst, arith, inl, inr}
use Rattle.std.specs.Prelude.{MatchBool, reverse, slice_get}
use Rattle.std.proofs.lemmas.Bool.{cases_lt}
use Rattle.acas_base.specs.Encounter.{Parts}
use Rattle.acas_base.specs.declared.advisory.Cells.{Cells}
use Rattle.acas_base.specs.declared.advisory.ResMsg.{ResMsg}
use Rattle.acas_base.specs.declared.entry.Entry.{Entry}
use Rattle.acas_base.specs.declared.entry.Entry.TheVariants.{Commit, Send, Take}
use Rattle.air_journal.specs.Airs.{air_of}
use Rattle.air_journal.specs.Calls.{Commits, Committed, SentFirst, TookCopy}
use Rattle.air_journal.specs.declared.answers.Commit.{Commit as CommitAnswer}
use Rattle.air_journal.specs.declared.answers.Commit.TheVariants as answer
use Rattle.air_rules.specs.Air.{Air}
use Rattle.air_rules.specs.Due.{is_due}
use Rattle.air_rules.specs.Journal.{commits}
use Rattle.air_rules.specs.Owed.{IsFirstOwed, OwesNothing}
use Rattle.air_rules.specs.Rules.{MayCommit, MaySend, MayTake}
use Rattle.craft_view.proofs.Looking.{ready-same}
use Rattle.craft_view.specs.Kept.{Kept}
use Rattle.craft_view.specs.Looking.{AreReady}
use Rattle.rec_audit.proofs.Making.{newest-at}
use Rattle.rec_audit.specs.Asking.{Added, Asks, NothingAbout}
use Rattle.rec_audit.specs.Keys.{key}
use Rattle.rec_audit.specs.declared.keys.Key.{Key}
use Rattle.rec_audit.specs.declared.keys.Key.TheVariants as keys

-- ---- nothing is allowed

pub no-commit : (air : Air) (K : List Entry) (own cycle : ℕ) → ((cells : Cells) → MayCommit air K own cycle cells → ⊥) → NothingAbout air K (keys.Commit own cycle)
no-commit air K own cycle never (Commit i c cells) e may =
    let a : i ≡ own = cc in
    let b : c ≡ cycle = cc in
    never cells (subst (λ k. MayCommit air K own k cells) b (subst (λ k. MayCommit air K k c cells) a may))
no-commit air K own cycle never (Send i t number word) e may = absurd cc
no-commit air K own cycle never (Take i send copy good) e may = absurd cc

pub no-send : (air : Air) (K : List Entry) (own target : ℕ) → ((number word : ℕ) → MaySend air K own target number word → ⊥) → NothingAbout air K (keys.Send own target)
no-send air K own target never (Commit i c cells) e may = absurd cc
no-send air K own target never (Send i t number word) e may =
    let a : i ≡ own = cc in
    let b : t ≡ target = cc in
    never number word (subst (λ k. MaySend air K own k number word) b (subst (λ k. MaySend air K k t number word) a may))
no-send air K own target never (Take i send copy good) e may = absurd cc

pub no-take : (air : Air) (K : List Entry) (own send copy : ℕ) → ((good : Bool) → MayTake air K own send copy good → ⊥) → NothingAbout air K (keys.Take own send copy)
no-take air K own send copy never (Commit i c cells) e may = absurd cc
no-take air K own send copy never (Send i t number word) e may = absurd cc
no-take air K own send copy never (Take i s d good) e may =
    let a : i ≡ own = cc in
    let b : s ≡ send = cc in
    let f : d ≡ copy = cc in
    never good (subst (λ k. MayTake air K own send k good) f (subst (λ k. MayTake air K own k d good) b (subst (λ k. MayTake air K k s d good) a may)))

-- ---- commits

abbrev pub NotDone : CommitAnswer → Type 0
NotDone r = (position : ℕ) → r ≢ answer.Done position

pub hindered : (air : Air) (K J : List Entry) (own cycle : ℕ) (cells : Cells) (r : CommitAnswer) → NotDone r → Commits air K own J r → MayCommit air K own cycle cells → ⊥
hindered air K J own cycle cells answer.Over not h may = let over = h.0 in omega (arith, may.cycle_is, may.in_run)
hindered air K J own cycle cells (answer.Owed target) not h may = let some = h.0.first_owed.owes in let none = may.owes_nothing target in absurd cc
hindered air K J own cycle cells (answer.Due send copy) not h may = let yes = h.0.first_due.due in let never = may.nothing_due send copy in absurd cc
hindered air K J own cycle cells (answer.Ahead craft count) not h may = let behind = h.0.first_behind in omega (arith, behind.fewer, may.not_ahead craft behind.active)
hindered air K J own cycle cells (answer.Done position) not h may = absurd (not position refl)

pub commit-added : (air : Air) (K J : List Entry) (own cycle position : ℕ) → Committed air K own J position → commits K own + 1 ≡ cycle → Added air K J (keys.Commit own cycle)
commit-added air K J own cycle position c next =
    record { entry = Commit own c.cycle c.cells; about_is = ap (keys.Commit own) (c.allowed.cycle_is ∙ next); allowed = c.allowed; new_is = c.new_is }

-- ---- sends

pub first-once : (air : Air) (K : List Entry) (own t u : ℕ) {one two : ResMsg} → IsFirstOwed air K own t one → IsFirstOwed air K own u two → t ≡ u
first-once air K own t u {one} {two} a b = elim (cases_lt t u) [
  | inl lt ↦ let none = b.first t lt in let some = a.owes in absurd cc
  | inr ge ↦ elim (cases_lt u t) [
    | inl lt ↦ let none = a.first u lt in let some = b.owes in absurd cc
    | inr le ↦ omega arith
  ]
]

pub send-added : (air : Air) (K J : List Entry) (own target position : ℕ) → (s : SentFirst air K own J position) → s.target ≡ target → Added air K J (keys.Send own target)
send-added air K J own target position s same = record { entry = Send own s.target s.number s.word; about_is = ap (keys.Send own) same; allowed = s.allowed; new_is = s.new_is }

-- The first owed message is another one's.
pub send-other : (air : Air) (K J : List Entry) (own target position : ℕ) → (s : SentFirst air K own J position) → s.target ≢ target → NothingAbout air K (keys.Send own target)
send-other air K J own target position s other = no-send air K own target (λ number word may. other (first-once air K own s.target target s.allowed.first_owed may.first_owed))

-- Whether the first owed message is this one's.
pub send-asked : (air : Air) (K J : List Entry) (own target position : ℕ) (o : Option Entry) (r : Bool) → SentFirst air K own J position → o ≡ slice_get (reverse J) position →
    ((sender to number word : ℕ) → o ≡ Some (Send sender to number word) → MatchBool r (to ≡ target) (to ≢ target)) → Asks air K J (keys.Send own target) r
send-asked air K J own target position o true s is told = send-added air K J own target position s (told own s.target s.number s.word (is ∙ newest-at K J (Send own s.target s.number s.word) position s.new_is s.position_is))
send-asked air K J own target position o false s is told = send-other air K J own target position s (told own s.target s.number s.word (is ∙ newest-at K J (Send own s.target s.number s.word) position s.new_is s.position_is))

pub nothing-owed : (air : Air) (K : List Entry) (own target : ℕ) → OwesNothing air K own → NothingAbout air K (keys.Send own target)
nothing-owed air K own target none = no-send air K own target (λ number word may. let never = none target in let some = may.first_owed.owes in absurd cc)

-- ---- takes

pub take-added : (air : Air) (K J : List Entry) (own send copy position : ℕ) (good : Bool) → TookCopy air K own send copy J position good → Added air K J (keys.Take own send copy)
take-added air K J own send copy position good t = record { entry = Take own send copy good; about_is = refl; allowed = t.allowed; new_is = t.new_is }

pub not-due : (air : Air) (K : List Entry) (own send copy : ℕ) → is_due air K own send copy ≡ false → NothingAbout air K (keys.Take own send copy)
not-due air K own send copy never = no-take air K own send copy (λ good may. let yes = may.due in absurd cc)

-- ---- the aircraft's commits

abbrev pub IsNoCommit : Key → Type 0
IsNoCommit about = (own cycle : ℕ) → about ≢ keys.Commit own cycle

same-commits : (entry : Entry) (K : List Entry) (about : Key) → key entry ≡ about → IsNoCommit about → (own : ℕ) → commits (entry ∷ K) own ≡ commits K own
same-commits (Commit i c cells) K about is other own = absurd (other i c (sym is))
same-commits (Send i t number word) K about is other own = refl
same-commits (Take i send copy good) K about is other own = refl

-- Who was ready is so after an entry that is no commit.
pub ready-still : (e : Parts) (K J : List Entry) (about : Key) (crafts : List (Option Kept)) → IsNoCommit about → Added (air_of e) K J about → AreReady e (commits K) crafts → AreReady e (commits J) crafts
ready-still e K J about crafts other a ready = ready-same e (commits K) (commits J) crafts (λ own _. sym (ap (λ (l : List Entry). commits l own) a.new_is ∙ same-commits a.entry K about a.about_is other own)) ready
