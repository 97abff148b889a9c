use Rattle.std.proofs.Common.{length, refl, sym, ◌∙◌}
use Rattle.std.proofs.lemmas.Bool.{false≢true}
use Rattle.outcomes.proofs.Hearing.{heard-same, other≢same, same-heard}
use Rattle.outcomes.proofs.crews.Crews.heard.Goals as goal

pub returns-then-are_all_heard : goal.returns-then-are_all_heard
returns-then-are_all_heard c = λ journal crews.
    (λ _. heard-same journal c.args.state.now.journal (length c.args.state.now.encounter.crafts) c.args.state.now.encounter.cycles c.args.self.now crews (c.are_all_heard.ensures.0 c.if-are_all_heard.true), λ _. refl)

pub returns-else-are_all_heard : goal.returns-else-are_all_heard
returns-else-are_all_heard c = λ journal crews. (
  λ q. absurd (other≢same q),
  λ same. absurd (false≢true (sym c.if-are_all_heard.false ∙ c.are_all_heard.ensures.1 (same-heard journal c.args.state.now.journal (length c.args.state.now.encounter.crafts) c.args.state.now.encounter.cycles c.args.self.now crews same))),
)
