-- What answers `instance`, where each address is known and the search came to its end.
use Rattle.std.proofs.Common.{◌≡◌, ◌⊎◌, ℕ, List, Result, Ok, Err, subst, sym}
use Rattle.std.specs.Prelude.{IfOk}
use Rattle.acas_base.specs.Encounter.{Parts}
use Rattle.acas_top.specs.Answers.{AnswersPlain}
use Rattle.acas_top.specs.Given.{answer_status, answer_text}
use Rattle.acas_top.specs.Instances.{IsNever, IsOpen, IsShown, sought_in}
use Rattle.acas_top.specs.declared.answers.Answer.{Answer}
use Rattle.acas_top.specs.declared.status.Status.{Status}
use Rattle.acas_top.specs.declared.status.Status.TheVariants.{Done}
use Rattle.acas_top.specs.declared.words.Plain.TheVariants.{Instance}
use Rattle.enc_file.specs.Reading.{Says}
use Rattle.instances.specs.declared.sought.Sought.{Sought}
use Rattle.pair_ways.specs.declared.scope.Scope.{Scope}
use Rattle.possibilities.specs.Rows.{AreFound, Found}
use Rattle.report_words.specs.declared.wanted.Wanted.{Wanted}

-- The text of an answer shows what is sought, or says that there is no such run, or that this stays open.
abbrev pub Tells : Scope → Parts → Sought → List ℕ → Type 0
Tells scope e what text = IsShown scope e what text ⊎ (IsNever scope e what text ⊎ IsOpen text)

pub sought-answers : {E : Type 0} (scope : Scope) (e : Parts) (what : Sought) (found : Found) (result : Result Answer E) → AreFound scope e found → IfOk result (λ answer. answer_status answer ≡ Done)
    → IfOk result (λ answer. Tells scope e what (answer_text answer))
    → IfOk result (λ answer. (want : Wanted) (bytes : List ℕ) → Says bytes e → sought_in e want ≡ Ok what → AnswersPlain (Instance scope want) bytes (answer_status answer) (answer_text answer))
sought-answers scope e what found (Ok answer) within done shows = λ want bytes says known.
    subst (λ (status : Status). AnswersPlain (Instance scope want) bytes status (answer_text answer)) (sym done)
    (record { encounter = e; says = says; what = what; known = known; found = found; within = within; shows = shows })
sought-answers scope e what found (Err error) within done shows = shows
